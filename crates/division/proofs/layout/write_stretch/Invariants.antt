use Rattle.std.proofs.Common.{◌+◌}
use Rattle.division.specs.Lists.{at}
use Rattle.division.specs.Laying.{Stretched}
use Rattle.division.proofs.layout.write_stretch.Given as goal

abbrev pub invariant-loop-q : goal.invariant-loop-q
invariant-loop-q l = Stretched (at l.members) (l.q + 1) l.from (at l.initial.order) (at l.order)
