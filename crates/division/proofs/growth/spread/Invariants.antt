use Rattle.std.proofs.Common.{◌-◌, ◌≤◌, length}
use Rattle.network.specs.Packed.{graph_of}
use Rattle.division.specs.Lists.{at}
use Rattle.division.specs.Growing.{Before, Growing}
use Rattle.division.proofs.growth.spread.Given as goal

abbrev pub invariant-loop-k : goal.invariant-loop-k
invariant-loop-k l =
    Growing (graph_of l.net) l.v (at l.members) (at l.left) (length l.members) (Before (graph_of l.net) (at l.members) l.k) × (l.k ≤ length l.members)

abbrev pub decreases-loop-k : goal.decreases-loop-k
decreases-loop-k l = l.net.places - l.k
