use Rattle.std.proofs.Common.{◌≡◌, sym, subst, ◌∙◌}
use Rattle.network.proofs.Leaving.{leaving_small, leaving_place}
use Rattle.division.specs.declared.work.Work.{Work}
use Rattle.division.specs.Working.{Waiting}
use Rattle.division.proofs.cover.meet_heads.Goals as goal
use Rattle.division.proofs.cover.meet_heads.Goals.{then-is_none, else-is_none}

pub bounds-owners-link : goal.bounds-owners-link
bounds-owners-link c = leaving_small c.args.net.now c.args.u c.requires.place c.leaving-link-items.result.now c.leaving-link-items.ensures c.loop-link.link-index c.loop-link-test.true

pub meet-requires : goal.meet-requires
meet-requires c = leaving_small c.args.net.now c.args.u c.requires.place c.leaving-link-items.result.now c.leaving-link-items.ensures c.loop-link.link-index c.loop-link-test.true

pub loop-link-preserved : goal.loop-link-preserved
loop-link-preserved c =
    let p = c.args.net.now.places in
    let known = leaving_place c.args.net.now c.args.u c.requires.place c.leaving-link-items.result.now c.leaving-link-items.ensures c.loop-link.link-index c.loop-link-test.true in
    let both : Work → Type 0 = λ x. Waiting p x × (x.next ≡ c.args.work.now.next) in
    elim c.if-is_none.branch [
      | then-is_none w ↦ subst both (sym w.work-is) (w.meet.ensures.waiting p known c.loop-link.invariant.0, w.meet.ensures.next ∙ c.loop-link.invariant.1)
      | else-is_none w ↦ subst both (sym w.work-is) c.loop-link.invariant
    ]
