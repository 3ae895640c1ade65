use Rattle.network.specs.Packed.{graph_of}
use Rattle.std.proofs.lemmas.Bool.Decides.{when_false}
use Rattle.division.specs.Growing.{Closed, Alone}
use Rattle.division.proofs.Reaches.{alone_lowest}
use Rattle.division.proofs.lowest.lowest_twin.Goals as goal

pub returns-then-not-closed : goal.returns-then-not-closed
returns-then-not-closed c =
    let g = graph_of c.args.grower.now.net.now in
    alone_lowest g c.args.u (when_false (Closed g c.args.u) (Alone g c.args.u) c.if-not-closed.true c.requires.closed)
