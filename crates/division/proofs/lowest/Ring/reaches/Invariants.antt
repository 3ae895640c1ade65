use Rattle.std.proofs.Common.{length}
use Rattle.network.specs.Packed.{graph_of}
use Rattle.division.specs.Lists.{at}
use Rattle.division.specs.Twinned.{ReachFrom}
use Rattle.division.proofs.lowest.Ring.reaches.Given as goal

abbrev pub invariant-loop-q : goal.invariant-loop-q
invariant-loop-q l = ReachFrom (graph_of l.self.net.now) l.self.u (at l.self.members.now) (length l.self.members.now) (at l.self.spots.now) (at l.far) l.q
