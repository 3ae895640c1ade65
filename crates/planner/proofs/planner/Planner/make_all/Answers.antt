use Rattle.std.proofs.Common.{ap, ◌∙◌}
use Rattle.std.proofs.lemmas.List.{take_all}
use Rattle.planner.specs.declared.change.Change.TheVariants.{Place}
use Rattle.planner.specs.Book.{after_all}
use Rattle.planner.specs.State.{book}
use Rattle.planner.proofs.Listed.{listed_more}
use Rattle.planner.proofs.planner.Planner.make_all.Goals as goal

pub loop-change-preserved : goal.loop-change-preserved
loop-change-preserved c =
    let p = c.args.self.now in
    let i = c.loop-change.invariant in
    let m = ap (λ n. n.counts) i.1 in (
      listed_more p.map.counts _ (book p) _ _ c.args.changes.now c.loop-change.change-index (Place 0 0) c.loop-change-test.true m i.0 c.make.ensures.book,
      c.make.ensures.map ∙ i.1,
    )

pub returns : goal.returns
returns c =
    let p = c.args.self.now in
    let i = c.loop-change.invariant in
    record {
      book = i.0 ∙ ap (λ cs. after_all p.map.counts (book p) cs) (take_all c.loop-change.change-index c.args.changes.now c.loop-change-test.false);
      map = i.1;
    }
