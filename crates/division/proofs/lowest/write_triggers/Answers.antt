use Rattle.std.proofs.Common.{◌≡◌, ◌<◌, ℕ, ◌+◌, set, unwrap_or, ap, sym, ◌∙◌, subst, arith}
use Rattle.network.specs.Packed.{graph_of}
use Rattle.network.proofs.Parts.{within}
use Rattle.structures.specs.Computed.{trigger}
use Rattle.division.specs.Lists.{at}
use Rattle.division.specs.Covering.{owner_at, named}
use Rattle.division.proofs.Reaches.{triggers_more}
use Rattle.division.proofs.lowest.write_triggers.Goals as goal

pub loop-w-preserved : goal.loop-w-preserved
loop-w-preserved c =
    let n = c.args.net.now in
    let here : c.loop-w.w < n.places = omega (arith, c.loop-w-test.true, c.requires.long) in
    let owner : named (owner_at c.args.owners.now) c.loop-w.w ≡ c.unwrap-owner.result = ap (λ o. unwrap_or o 0) c.unwrap-owner.ensures in
    let written : at c.args.names.now (named (owner_at c.args.owners.now) c.loop-w.w) ≡ c.from.result = ap (at c.args.names.now) owner ∙ sym c.from.ensures in
    subst (λ (x : ℕ). (p : ℕ) → p < c.loop-w.w + 1 → at (set c.loop-w.triggers c.loop-w.w x) p ≡ trigger (graph_of n) p) written
    (triggers_more (graph_of n) (within n) (owner_at c.args.owners.now) c.requires.owned (at c.args.names.now) c.requires.named c.loop-w.triggers c.loop-w.w here (omega arith) c.loop-w.invariant)
