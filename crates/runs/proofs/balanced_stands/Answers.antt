use Rattle.runs.proofs.Bounds.{balanced_least}
use Rattle.runs.proofs.balanced_stands.Goals as goal

pub returns : goal.returns
returns g c = balanced_least g.K.Kind.meaning g.met.K.Kind.laws
