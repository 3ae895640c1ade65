use Rattle.kinds.proofs.Alongside.{same_time, never_earlier, without_signals}
use Rattle.kinds.proofs.run.kinds_stand.Goals as goal

pub returns : goal.returns
returns c = record { time = same_time; clock = never_earlier; unsignalled = without_signals }
