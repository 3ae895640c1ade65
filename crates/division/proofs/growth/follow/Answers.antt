use Rattle.std.proofs.Common.{ap, ◌∙◌, arith}
use Rattle.network.proofs.Leaving.{leaving_length}
use Rattle.division.specs.Lists.{at}
use Rattle.division.proofs.Links.{following_none, following_all, turn_small, turn_left, turn_room, turn_joins, turn_passes, followed_same}
use Rattle.division.proofs.growth.follow.Goals as goal
use Rattle.division.proofs.growth.follow.Goals.{then-left-w-eq0+then-w-v, else-left-w-eq0, else-left-w-eq0-via-then-left-w-eq0+else-w-v, else-left-w-eq0-via-else-left-w-eq0}

pub bounds-left-w : goal.bounds-left-w
bounds-left-w c = turn_small c.leaving-link-items.ensures c.loop-link-test.true c.loop-link.members c.loop-link.left c.loop-link.invariant (omega arith)

pub overflow_sub-left : goal.overflow_sub-left
overflow_sub-left c = turn_left c.leaving-link-items.ensures c.loop-link-test.true c.loop-link.members c.loop-link.left c.loop-link.invariant (omega arith)

pub bounds-left-w-in-loop-link : goal.bounds-left-w-in-loop-link
bounds-left-w-in-loop-link c = turn_small c.leaving-link-items.ensures c.loop-link-test.true c.loop-link.members c.loop-link.left c.loop-link.invariant (omega arith)

pub bounds-left-w-in-loop-link-2 : goal.bounds-left-w-in-loop-link-2
bounds-left-w-in-loop-link-2 c = turn_small c.leaving-link-items.ensures c.loop-link-test.true c.loop-link.members c.loop-link.left c.loop-link.invariant (omega arith)

pub push-requires : goal.push-requires
push-requires c = turn_room c.leaving-link-items.ensures c.loop-link-test.true c.loop-link.members c.loop-link.left c.loop-link.invariant (omega arith) c.if-left-w-eq0.true c.if-w-v.true

pub loop-link-init : goal.loop-link-init
loop-link-init c = following_none (ap (λ xs. at xs c.args.k) c.as_slice.ensures.value) c.requires.before (omega arith) c.requires.growing

pub loop-link-preserved : goal.loop-link-preserved
loop-link-preserved c = elim c.if-left-w-eq0.branch [
  | then-left-w-eq0+then-w-v w ↦
      followed_same (w.members-is ∙ w.push.ensures)
      (turn_joins c.leaving-link-items.ensures c.loop-link-test.true c.loop-link.members c.loop-link.left c.loop-link.invariant (omega arith) w.if-left-w-eq0.true w.if-w-v.true)
  | else-left-w-eq0 w ↦
      followed_same w.members-is
      (turn_passes c.leaving-link-items.ensures c.loop-link-test.true c.loop-link.members c.loop-link.left c.loop-link.invariant (omega arith)
      (λ none ne. elim w.else-left-w-eq0.branch [
        | else-left-w-eq0-via-then-left-w-eq0+else-w-v x ↦ ne x.if-w-v.false
        | else-left-w-eq0-via-else-left-w-eq0 x ↦ x.if-left-w-eq0.false none
      ]))
]

pub returns-clause-growing : goal.returns-clause-growing
returns-clause-growing c = following_all c.loop-link.invariant (omega (arith, leaving_length c.args.net.now _ c.loop-link.invariant.here c.leaving-link-items.result.now c.leaving-link-items.ensures, c.loop-link-test.false))
