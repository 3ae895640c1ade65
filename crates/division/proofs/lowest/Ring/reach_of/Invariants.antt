use Rattle.std.proofs.Common.{◌+◌, length}
use Rattle.division.specs.Lists.{at}
use Rattle.division.proofs.Reaches.{Reaching}
use Rattle.division.proofs.lowest.Ring.reach_of.Given as goal

abbrev pub invariant-loop-link : goal.invariant-loop-link
invariant-loop-link l = Reaching l.self.net.now l.self.u (length l.self.members.now) (at l.self.spots.now) l.x l.best (at l.self.net.now.first l.x + l.link-index)
