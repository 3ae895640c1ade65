use Rattle.std.proofs.Common.{arith}
use Rattle.network.specs.Packed.{graph_of}
use Rattle.network.proofs.Parts.{within}
use Rattle.division.specs.Covering.{owner_at}
use Rattle.division.proofs.Covers.{called_all}
use Rattle.division.proofs.cover.Covering.call_all.Goals as goal

pub returns-clause-owned : goal.returns-clause-owned
returns-clause-owned c =
    let n = c.args.grower.now.net.now in
    called_all (graph_of n) (within n) (owner_at c.loop-v.self.owners) c.loop-v.invariant.0.called (λ w lt. c.loop-v.invariant.2 w (omega (arith, c.loop-v-test.false, lt)))
