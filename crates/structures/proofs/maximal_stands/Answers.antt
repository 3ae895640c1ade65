use Rattle.structures.proofs.Maximal.{maximal_ones}
use Rattle.structures.proofs.maximal_stands.Goals as goal

pub returns : goal.returns
returns c = maximal_ones
