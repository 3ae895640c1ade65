use Rattle.division.specs.Lists.{at}
use Rattle.division.specs.Twinned.{Spotted}
use Rattle.division.proofs.lowest.spot.Given as goal

abbrev pub invariant-loop-q : goal.invariant-loop-q
invariant-loop-q l = Spotted (at l.members) l.q (at l.spots)
