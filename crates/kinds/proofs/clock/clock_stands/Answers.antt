use Rattle.kinds.specs.Moments.{each_arrives}
use Rattle.kinds.proofs.clock.clock_stands.Goals as goal

pub returns : goal.returns
returns c = each_arrives
