use Rattle.std.proofs.Common.{◌≡◌, length}
use Rattle.network.specs.Packed.{graph_of}
use Rattle.division.specs.Lists.{at}
use Rattle.division.specs.Divided.{stretch_at}
use Rattle.division.proofs.Laid.{Laid}
use Rattle.division.proofs.layout.lay_out.Given as goal

abbrev pub invariant-loop-t : goal.invariant-loop-t
invariant-loop-t l =
    (l.grower.net ≡ l.initial.grower.net)
    × Laid (graph_of l.initial.grower.net.now) (at l.initial.order) (at l.order) (λ t. (stretch_at l.stretches t).begin) (λ t. (stretch_at l.stretches t).end) l.next l.t
    × (length l.stretches ≡ 2048)
