use Rattle.std.proofs.Common.{◌+◌, arith}
use Rattle.network.proofs.Leaving.{leaving_length, leaving_small}
use Rattle.division.specs.Lists.{at}
use Rattle.division.proofs.Grown.{putting_turn, putting_all}
use Rattle.division.proofs.growth.put_back_heads.Goals as goal

pub bounds-full-w : goal.bounds-full-w
bounds-full-w c = leaving_small c.args.net.now c.args.u c.requires c.leaving-link-items.result.now c.leaving-link-items.ensures c.loop-link.link-index c.loop-link-test.true

pub bounds-left-w : goal.bounds-left-w
bounds-left-w c = leaving_small c.args.net.now c.args.u c.requires c.leaving-link-items.result.now c.leaving-link-items.ensures c.loop-link.link-index c.loop-link-test.true

pub loop-link-preserved : goal.loop-link-preserved
loop-link-preserved c =
    putting_turn c.args.net.now c.args.u c.requires c.leaving-link-items.result.now c.leaving-link-items.ensures c.loop-link.link-index c.loop-link-test.true
    c.args.full.now c.loop-link.left (at c.args.left.now) (omega arith) c.loop-link.invariant

pub returns : goal.returns
returns c =
    putting_all c.args.net.now c.args.u (at c.args.full.now) (at c.args.left.now) (at c.loop-link.left) (at c.args.net.now.first c.args.u + c.loop-link.link-index) c.loop-link.invariant
    (omega (arith, leaving_length c.args.net.now c.args.u c.requires c.leaving-link-items.result.now c.leaving-link-items.ensures, c.loop-link-test.false))
