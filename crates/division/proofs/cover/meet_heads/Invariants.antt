use Rattle.std.proofs.Common.{◌≡◌}
use Rattle.division.specs.Working.{Waiting}
use Rattle.division.proofs.cover.meet_heads.Given as goal

abbrev pub invariant-loop-link : goal.invariant-loop-link
invariant-loop-link l = Waiting l.net.places l.work × (l.work.next ≡ l.initial.work.next)
