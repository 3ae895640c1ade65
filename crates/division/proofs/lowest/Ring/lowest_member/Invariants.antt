use Rattle.network.specs.Packed.{graph_of}
use Rattle.division.specs.Lists.{at}
use Rattle.division.proofs.Reaches.{Lowering}
use Rattle.division.proofs.lowest.Ring.lowest_member.Given as goal

abbrev pub invariant-loop-k : goal.invariant-loop-k
invariant-loop-k l = Lowering (graph_of l.self.net.now) l.self.u (at l.self.members.now) (at l.far) l.low l.top l.k
