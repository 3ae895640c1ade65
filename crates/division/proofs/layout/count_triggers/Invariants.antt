use Rattle.std.proofs.Common.{◌≡◌, ◌≤◌}
use Rattle.network.specs.Packed.{graph_of}
use Rattle.structures.specs.Computed.{count}
use Rattle.structures.proofs.Triggers.{own_trigger}
use Rattle.division.proofs.layout.count_triggers.Given as goal

abbrev pub invariant-loop-t : goal.invariant-loop-t
invariant-loop-t l = (l.count ≡ count (own_trigger (graph_of l.net)) l.t) × (l.count ≤ l.t)
