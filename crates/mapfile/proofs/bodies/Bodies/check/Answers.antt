use Rattle.std.proofs.Common.{sym, ap, ◌∙◌}
use Rattle.mapfile.specs.Bodies.{body_checks}
use Rattle.mapfile.specs.Checks.{answer}
use Rattle.mapfile.proofs.Lists.{passed_on}
use Rattle.mapfile.proofs.Cuts.{all_kept, first_broken, one_more, part_is, part_shown}
use Rattle.mapfile.proofs.bodies.Bodies.check.Goals as goal

pub loop-i-preserved : goal.loop-i-preserved
loop-i-preserved g c =
    let s = part_shown g.R.Record.KIND c.part-part.result in
    let step = c.in-Some.ensures.steps in
    let kept = sym c.check.ensures ∙ c.in_ok-before.was in (
      c.in-Some.ensures.goes.keeps,
      (c.in-Some.ensures.goes.on c.loop-i.invariant.1).1,
      one_more s c.args.self.now.counts _ _ _ _ c.loop-i.invariant.2 _ _ step.0.1.0 step.0.1.1 _ _ _ c.size-size.ensures c.KIND-2.ensures step.1 _ _ _ kept step.2 step.0.0,
    )

pub returns-in_err-before : goal.returns-in_err-before
returns-in_err-before g c =
    let k = g.R.Record.KIND in
    let n = c.args.self.now.counts in
    let p = c.part-part in
    let step = c.in-Some.ensures.steps in
    let broken = first_broken (part_shown k p.result) n _ _ _ _ c.loop-i.invariant.2 _ _ step.0.1.0 step.0.1.1 _ _ _ c.size-size.ensures c.KIND-2.ensures step.1 _ _ (sym c.check.ensures ∙ c.in_err-before.was) in
    let e = part_is c.args.self.now.file.now n k c.KIND.result p.result c.KIND.ensures p.ensures.first p.ensures.bytes in
    passed_on _ _ _ c.from_residual.ensures.1 (sym (ap (λ t. answer (body_checks t n) (tt {0})) e) ∙ broken)

pub returns : goal.returns
returns g c =
    let n = c.args.self.now.counts in
    let p = c.part-part in
    let s = part_shown g.R.Record.KIND p.result in
    let e = part_is c.args.self.now.file.now n g.R.Record.KIND c.KIND.result p.result c.KIND.ensures p.ensures.first p.ensures.bytes in
    all_kept s n _ _ _ _ c.loop-i.invariant.2 c.in-None.ensures.steps.0.1.0 ∙ ap (λ t. answer (body_checks t n) (tt {0})) e
