use Rattle.queues.proofs.Runs.{costs_never_fall_lem}
use Rattle.queues.proofs.law.costs_never_fall.Goals as goal

pub returns : goal.returns
returns g c = costs_never_fall_lem g.met.K.Kind.laws
