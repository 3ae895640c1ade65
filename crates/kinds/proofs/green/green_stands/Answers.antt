use Rattle.kinds.specs.Lights.{green_is_begun}
use Rattle.kinds.proofs.green.green_stands.Goals as goal

pub returns : goal.returns
returns c = green_is_begun
