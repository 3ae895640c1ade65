use Rattle.std.proofs.Common.{Bor, ℕ, ◌<◌, List, length, sym, ap, subst, arith}
use Rattle.network.specs.Packed.{graph_of}
use Rattle.network.proofs.Parts.{within}
use Rattle.structures.proofs.Held.{held_place}
use Rattle.division.specs.Lists.{at}
use Rattle.division.specs.Working.{Waiting}
use Rattle.division.specs.Twinned.{LowestTwin}
use Rattle.network.specs.declared.network.Network.{Network}
use Rattle.division.specs.Covering.{owner_at, Overwritten}
use Rattle.division.proofs.Covers.{is_none_none, called_more, called_named}
use Rattle.division.proofs.cover.Covering.call.Goals as goal

pub assign-requires-clause-places : goal.assign-requires-clause-places
assign-requires-clause-places c =
    let n = c.args.grower.now.net.now in
    subst (λ (xs : List ℕ). (q : ℕ) → q < length xs → at xs q < 2048) (sym c.as_slice-members.ensures.value)
    (λ q lt. omega (arith, held_place (graph_of n) (within n) c.requires.place (c.grow-closed.ensures.grown.only q lt), n.sized))

pub meet_border-requires-clause-places : goal.meet_border-requires-clause-places
meet_border-requires-clause-places c =
    let n = c.args.grower.now.net.now in
    subst (λ (xs : List ℕ). (q : ℕ) → q < length xs → at xs q < c.grow-closed.new.self.net.now.places) (sym c.as_slice-members.ensures.value)
    (λ q lt. omega (arith, held_place (graph_of n) (within n) c.requires.place (c.grow-closed.ensures.grown.only q lt), ap (λ r. r.now.places) c.grow-closed.ensures.net))

pub returns-then-is_none-clause-underway : goal.returns-then-is_none-clause-underway
returns-then-is_none-clause-underway c =
    let n = c.args.grower.now.net.now in
    let over = subst (λ (xs : List ℕ). Overwritten (at xs) (length xs) c.args.v (owner_at c.args.self.now.owners) (owner_at c.assign.new.owners)) c.as_slice-members.ensures.value c.assign.ensures in
    record {
      called = called_more (graph_of n) (within n) c.args.v c.requires.place (at c.grow-closed.new.self.members) (length c.grow-closed.new.self.members)
          (owner_at c.args.self.now.owners) (owner_at c.assign.new.owners) c.requires.underway.called c.grow-closed.ensures.grown over (is_none_none _ c.if-is_none.ensures);
      names = called_named (graph_of n) (within n) c.args.v c.requires.place (at c.grow-closed.new.self.members) (length c.grow-closed.new.self.members)
          (owner_at c.args.self.now.owners) (owner_at c.assign.new.owners) c.requires.underway.called c.grow-closed.ensures.grown over
          c.args.self.now.names c.lowest_twin-name.result (omega arith)
          (subst (λ (r : Bor Network). LowestTwin (graph_of r.now) c.args.v c.lowest_twin-name.result) c.grow-closed.ensures.net c.lowest_twin-name.ensures) c.requires.underway.names;
      waiting = subst (λ (p : ℕ). Waiting p c.meet_border.new.work) (ap (λ r. r.now.places) c.grow-closed.ensures.net) c.meet_border.ensures.waiting;
    }
