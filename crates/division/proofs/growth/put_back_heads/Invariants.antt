use Rattle.std.proofs.Common.{◌+◌}
use Rattle.division.specs.Lists.{at}
use Rattle.division.proofs.Grown.{Putting}
use Rattle.division.proofs.growth.put_back_heads.Given as goal

abbrev pub invariant-loop-link : goal.invariant-loop-link
invariant-loop-link l = Putting l.net l.u (at l.full) (at l.initial.left) (at l.left) (at l.net.first l.u + l.link-index)
