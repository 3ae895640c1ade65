use Rattle.std.proofs.Common.{◌<◌}
use Rattle.queues.specs.Cells.{item}
use Rattle.queue_row.proofs.Firsts.{First}
use Rattle.queue_row.proofs.row.least.Given as goal

abbrev pub invariant-loop-place : goal.invariant-loop-place
invariant-loop-place g l = (l.best < l.lent.waiting) × First g.K.Kind.meaning.less (item l.lent.entries.now) l.best l.place
