use Rattle.std.proofs.Common.{◌≡◌, ℕ, ◌<◌}
use Rattle.network.specs.Packed.{graph_of}
use Rattle.structures.specs.Computed.{trigger}
use Rattle.division.specs.Lists.{at}
use Rattle.division.proofs.lowest.write_triggers.Given as goal

abbrev pub invariant-loop-w : goal.invariant-loop-w
invariant-loop-w l = (p : ℕ) → p < l.w → at l.triggers p ≡ trigger (graph_of l.net) p
