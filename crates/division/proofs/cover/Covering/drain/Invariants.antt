use Rattle.std.proofs.Common.{◌≡◌, ◌-◌}
use Rattle.network.specs.Packed.{graph_of}
use Rattle.division.specs.Covering.{Underway}
use Rattle.division.proofs.cover.Covering.drain.Given as goal

abbrev pub invariant-loop-v : goal.invariant-loop-v
invariant-loop-v l = Underway (graph_of l.initial.grower.net.now) l.self × (l.grower.net ≡ l.initial.grower.net)

abbrev pub decreases-loop-v : goal.decreases-loop-v
decreases-loop-v l = 2048 - l.self.work.next
