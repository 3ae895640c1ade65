use Rattle.kinds.proofs.Growth.{never_falls, stays_in_order}
use Rattle.kinds.proofs.run.runs_stand.Goals as goal

pub returns : goal.returns
returns g c =
    record {
      falls = never_falls g.K.Kind.meaning g.met.K.Kind.laws;
      order = stays_in_order g.K.Kind.meaning g.met.K.Kind.laws;
    }
