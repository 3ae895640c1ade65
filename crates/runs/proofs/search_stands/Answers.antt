use Rattle.runs.proofs.Ends.{search_solves}
use Rattle.runs.proofs.search_stands.Goals as goal

pub returns : goal.returns
returns g c = search_solves g.K.Kind.meaning g.met.K.Kind.laws
