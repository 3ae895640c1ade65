-- What a user of the division may rest on beside its contract.
use Rattle.std.proofs.Common.{◌≡◌, ℕ}
use Rattle.network.specs.declared.network.Network.{Network}
use Rattle.network.specs.Packed.{graph_of}
use Rattle.structures.specs.Graphs.{Approach}
use Rattle.structures.specs.Computed.{trigger}
use Rattle.structures.proofs.Triggers.{trigger_approach}
use Rattle.division.specs.Divided.{Inner}
use Rattle.network.proofs.Parts.{within}

-- An open link into a place that is no trigger comes from a place with the same trigger.
pub same_trigger : (n : Network) → (u p : ℕ) → Approach (graph_of n) u p → Inner (graph_of n) p → trigger (graph_of n) u ≡ trigger (graph_of n) p
same_trigger n u p link inner = trigger_approach (graph_of n) (within n) u p link inner.1
