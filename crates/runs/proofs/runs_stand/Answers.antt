use Rattle.runs.proofs.Drives.{runs_driven}
use Rattle.runs.proofs.runs_stand.Goals as goal

pub returns : goal.returns
returns g c = runs_driven g.K.Kind.meaning
