use Rattle.runs.proofs.Computed.{balance_tested}
use Rattle.runs.proofs.tested_stands.Goals as goal

pub returns : goal.returns
returns g c = balance_tested g.K.Kind.meaning g.met.K.Kind.laws
