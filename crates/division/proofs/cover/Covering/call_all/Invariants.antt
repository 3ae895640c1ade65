use Rattle.std.proofs.Common.{◌≡◌, ℕ, ◌<◌, ◌≢◌, None}
use Rattle.network.specs.Packed.{graph_of}
use Rattle.division.specs.Covering.{owner_at, Underway}
use Rattle.division.proofs.cover.Covering.call_all.Given as goal

abbrev pub invariant-loop-v : goal.invariant-loop-v
invariant-loop-v l =
    Underway (graph_of l.initial.grower.net.now) l.self × (l.grower.net ≡ l.initial.grower.net) × ((w : ℕ) → w < l.v → owner_at l.self.owners w ≢ None)
