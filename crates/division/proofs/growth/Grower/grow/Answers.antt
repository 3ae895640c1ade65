use Rattle.std.proofs.Common.{◌<◌, ℕ, List, length, sym, subst}
use Rattle.division.specs.Lists.{at}
use Rattle.division.proofs.Grown.{grown_all, grown_places, closed_when, bare_when}
use Rattle.division.proofs.growth.Grower.grow.Goals as goal
use Rattle.division.proofs.growth.Grower.grow.Goals.{then-self-v-gt0, else-self-v-gt0}

pub put_back-requires-clause-places : goal.put_back-requires-clause-places
put_back-requires-clause-places c =
    subst (λ (xs : List ℕ). (q : ℕ) → q < length xs → at xs q < c.args.self.now.net.now.places) (sym c.as_slice.ensures.value)
    (grown_places c.args.self.now.net.now c.args.v (at c.spread.new.members) (at c.spread.new.left) (length c.spread.new.members) c.spread.ensures)

pub returns-clause-grown : goal.returns-clause-grown
returns-clause-grown c = grown_all c.args.self.now.net.now c.args.v (at c.spread.new.members) (at c.spread.new.left) (length c.spread.new.members) c.spread.ensures

pub returns-clause-closed : goal.returns-clause-closed
returns-clause-closed c =
    let s = c.args.self.now in
    elim c.if-self-v-gt0.branch [
      | then-self-v-gt0 w ↦ closed_when s.net.now c.args.v (at c.spread.new.members) (at c.spread.new.left) (length c.spread.new.members) c.spread.ensures
          (at s.approaches) s.counted w.if-self-v-gt0.true c.if-self-v-gt0.closed w.closed-is
      | else-self-v-gt0 w ↦ bare_when s.net.now c.args.v (at c.spread.new.members) (at c.spread.new.left) (length c.spread.new.members) c.spread.ensures
          (at s.approaches) s.counted w.if-self-v-gt0.false c.if-self-v-gt0.closed w.closed-is
    ]
