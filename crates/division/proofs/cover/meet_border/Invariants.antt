use Rattle.std.proofs.Common.{◌≡◌}
use Rattle.division.specs.Working.{Waiting}
use Rattle.division.proofs.cover.meet_border.Given as goal

abbrev pub invariant-loop-member : goal.invariant-loop-member
invariant-loop-member l = Waiting l.net.places l.work × (l.work.next ≡ l.initial.work.next)
