use Rattle.queues.proofs.Lents.{at_found}
use Rattle.queue_row.proofs.row.RowCostQueue.cost.Goals as goal

pub returns : goal.returns
returns g c = let at = at_found c.args.self.now.lent c.args.number c.scan.result c.requires c.scan.ensures in cc
