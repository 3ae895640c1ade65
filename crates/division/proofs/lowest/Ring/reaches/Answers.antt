use Rattle.std.proofs.Common.{length, arith}
use Rattle.network.specs.Packed.{graph_of}
use Rattle.division.specs.Lists.{at}
use Rattle.division.proofs.Reaches.{reach_more}
use Rattle.division.proofs.lowest.Ring.reaches.Goals as goal

pub loop-q-preserved : goal.loop-q-preserved
loop-q-preserved c =
    let s = c.args.self.now in
    reach_more (graph_of s.net.now) s.u (at s.members.now) (length s.members.now) (at s.spots.now) c.loop-q.far c.loop-q.q c.reach_of.result
    (omega (arith, c.requires.grown.short, s.net.now.sized)) c.reach_of.ensures c.loop-q.invariant
