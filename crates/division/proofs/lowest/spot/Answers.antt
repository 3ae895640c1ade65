use Rattle.std.proofs.Common.{length, arith}
use Rattle.network.specs.Packed.{graph_of}
use Rattle.network.proofs.Parts.{within}
use Rattle.structures.proofs.Held.{held_place}
use Rattle.division.specs.Lists.{at}
use Rattle.division.proofs.Reaches.{spotted_more}
use Rattle.division.proofs.lowest.spot.Goals as goal

pub bounds-spots-member : goal.bounds-spots-member
bounds-spots-member c =
    let n = c.args.net.now in
    omega (arith, held_place (graph_of n) (within n) c.requires.place (c.requires.grown.only c.loop-q.q c.loop-q-test.true), n.sized)

pub loop-q-preserved : goal.loop-q-preserved
loop-q-preserved c =
    let n = c.args.net.now in
    spotted_more (at c.args.members.now) (length c.args.members.now) c.loop-q.q c.loop-q.spots c.requires.grown.once c.loop-q-test.true
    (omega (arith, held_place (graph_of n) (within n) c.requires.place (c.requires.grown.only c.loop-q.q c.loop-q-test.true), n.sized)) c.loop-q.invariant
