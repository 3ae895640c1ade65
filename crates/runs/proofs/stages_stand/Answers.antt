use Rattle.runs.proofs.Searches.{search_stages}
use Rattle.runs.proofs.stages_stand.Goals as goal

pub returns : goal.returns
returns g c = search_stages g.K.Kind.meaning g.met.K.Kind.laws
