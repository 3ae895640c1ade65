use Rattle.structures.proofs.Complete.{complete_ones}
use Rattle.structures.proofs.complete_stands.Goals as goal

pub returns : goal.returns
returns c = complete_ones
