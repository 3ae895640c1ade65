use Rattle.std.proofs.Common.{◌+◌, length}
use Rattle.division.specs.Lists.{at}
use Rattle.division.proofs.Links.{Following}
use Rattle.division.proofs.growth.follow.Given as goal

abbrev pub invariant-loop-link : goal.invariant-loop-link
invariant-loop-link l =
    Following l.net l.v l.k l.u (at l.initial.members) (length l.initial.members) (at l.members) (at l.left) (length l.members) (at l.net.first l.u + l.link-index)
