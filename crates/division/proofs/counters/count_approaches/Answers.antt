use Rattle.std.proofs.Common.{refl, ◌∙◌, length-set}
use Rattle.division.proofs.Approached.{counting_none, counting_turn}
use Rattle.division.proofs.counters.count_approaches.Goals as goal

pub loop-link-init : goal.loop-link-init
loop-link-init c = (counting_none c.args.net.now, refl)

pub loop-link-preserved : goal.loop-link-preserved
loop-link-preserved c = (
  counting_turn c.args.net.now c.open_links-link-items.result.now c.open_links-link-items.ensures c.loop-link.link-index c.loop-link-test.true c.loop-link.approaches c.loop-link.invariant.1 c.loop-link.invariant.0,
  length-set c.loop-link.approaches _ _ ∙ c.loop-link.invariant.1,
)
