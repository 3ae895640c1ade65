use Rattle.std.proofs.Common.{◌≤◌}
use Rattle.queue_trials.proofs.plain.Plain.waiting.Given as goal

abbrev pub invariant-loop-waits : goal.invariant-loop-waits
invariant-loop-waits g l = l.waiting ≤ l.waits-index
