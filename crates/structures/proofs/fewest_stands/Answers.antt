use Rattle.structures.proofs.Rivals.{fewest_triggers}
use Rattle.structures.proofs.fewest_stands.Goals as goal

pub returns : goal.returns
returns c = fewest_triggers
