use Rattle.std.proofs.Common.{inl, inr, arith}
use Rattle.division.specs.Lists.{at}
use Rattle.division.proofs.Reaches.{lowering_more}
use Rattle.division.proofs.lowest.Ring.lowest_member.Goals as goal
use Rattle.division.proofs.lowest.Ring.lowest_member.Goals.{then-top-k, else-top-k}

pub loop-k-preserved : goal.loop-k-preserved
loop-k-preserved c =
    lowering_more c.requires.ringed (at c.args.far.now) c.requires.reach c.loop-k.low c.loop-k.top c.loop-k.k c.loop-k-test.true c.loop-k.invariant c.if-top-k.low c.max-top.result
    (elim c.if-top-k.branch [
      | then-top-k w ↦ inl (w.if-top-k.true, omega (arith, w.low-is, w.min-low.ensures))
      | else-top-k w ↦ inr (w.if-top-k.false, w.low-is)
    ])
    (omega (arith, c.max-top.ensures))
