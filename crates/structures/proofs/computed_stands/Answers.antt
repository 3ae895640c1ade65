use Rattle.structures.proofs.Triggers.{computed_ones}
use Rattle.structures.proofs.computed_stands.Goals as goal

pub returns : goal.returns
returns c = computed_ones
