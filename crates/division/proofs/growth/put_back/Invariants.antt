use Rattle.network.specs.Packed.{graph_of}
use Rattle.division.specs.Lists.{at}
use Rattle.division.proofs.Grown.{Emptying}
use Rattle.division.proofs.growth.put_back.Given as goal

abbrev pub invariant-loop-member : goal.invariant-loop-member
invariant-loop-member l = Emptying (graph_of l.net) (at l.members) (at l.full) (at l.initial.left) (at l.left) l.member-index
