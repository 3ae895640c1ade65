use Rattle.std.proofs.Common.{Bor, ◌≡◌, ◌+◌, ◌<◌, ◌≤◌, ℕ, List, length, sym, ap, ◌∙◌, subst, arith, length-set}
use Rattle.network.specs.declared.network.Network.{Network}
use Rattle.network.specs.Packed.{graph_of}
use Rattle.network.proofs.Parts.{within}
use Rattle.division.specs.Lists.{at}
use Rattle.division.specs.Growing.{Grown}
use Rattle.division.specs.Laying.{Stretched}
use Rattle.division.specs.Divided.{TriggerEntries}
use Rattle.division.specs.declared.answer.Stretch.{Stretch}
use Rattle.division.proofs.Laid.{begins, ends, Laid, laid_skip, laid_room, laid_all, laid_same, turn_lays}
use Rattle.division.proofs.layout.lay_out.Goals as goal
use Rattle.division.proofs.layout.lay_out.Goals.{then-trigger-t, else-trigger-t}

-- what grew, in the network that the call began with
same_net : {a b : Bor Network} {t : ℕ} (members : List ℕ) → a ≡ b → Grown (graph_of a.now) t (at members) (length members) → Grown (graph_of b.now) t (at members) (length members)
same_net {a} {b} {t} members e grown = subst (λ (r : Bor Network). Grown (graph_of r.now) t (at members) (length members)) e grown

-- the members but the first fit between what is laid and the last entry
fits : {a b : Bor Network} (was laid : List ℕ) (triggers : List ℕ) (stretches : List Stretch) {next t : ℕ} {members slice : List ℕ} →
    length triggers ≡ b.now.places → TriggerEntries (graph_of b.now) triggers → t < length triggers → at triggers t ≡ t →
    (a ≡ b) × Laid (graph_of b.now) (at was) (at laid) (begins stretches) (ends stretches) next t × (length stretches ≡ 2048) →
    Grown (graph_of a.now) t (at members) (length members) → slice ≡ members → next + length slice ≤ b.now.places + 1
fits {a} {b} was laid triggers stretches {next} {t} {members} {slice} long named lt own invariant grown same =
    let g = graph_of b.now in
    let here : t < b.now.places = omega (arith, lt, long) in
    let room = laid_room g (within b.now) (at was) (at laid) (begins stretches) (ends stretches) next t here invariant.1 (sym (named t here) ∙ own)
    (at members) (length members) (same_net members invariant.0 grown) in
    omega (arith, room, grown.begun, ap length same)

pub write_stretch-requires-clause-room : goal.write_stretch-requires-clause-room
write_stretch-requires-clause-room c =
    let room = fits c.args.order.now c.loop-t.order c.args.triggers.now c.loop-t.stretches c.requires.long c.requires.named c.loop-t-test.true c.if-trigger-t.true
    c.loop-t.invariant c.grow.ensures.grown c.as_slice-members.ensures.value in
    omega (arith, room, c.requires.room)

pub overflow_add-end : goal.overflow_add-end
overflow_add-end c =
    let room = fits c.args.order.now c.loop-t.order c.args.triggers.now c.loop-t.stretches c.requires.long c.requires.named c.loop-t-test.true c.if-trigger-t.true
    c.loop-t.invariant c.grow.ensures.grown c.as_slice-members.ensures.value in
    omega (arith, room, c.args.grower.now.net.now.sized)

pub overflow_cast-stretches : goal.overflow_cast-stretches
overflow_cast-stretches c =
    let room = fits c.args.order.now c.loop-t.order c.args.triggers.now c.loop-t.stretches c.requires.long c.requires.named c.loop-t-test.true c.if-trigger-t.true
    c.loop-t.invariant c.grow.ensures.grown c.as_slice-members.ensures.value in
    omega (arith, room, c.args.grower.now.net.now.sized)

pub overflow_cast-stretches-then-trigger-t : goal.overflow_cast-stretches-then-trigger-t
overflow_cast-stretches-then-trigger-t c =
    let room = fits c.args.order.now c.loop-t.order c.args.triggers.now c.loop-t.stretches c.requires.long c.requires.named c.loop-t-test.true c.if-trigger-t.true
    c.loop-t.invariant c.grow.ensures.grown c.as_slice-members.ensures.value in
    omega (arith, room, c.args.grower.now.net.now.sized)

pub loop-t-preserved : goal.loop-t-preserved
loop-t-preserved c =
    let n = c.args.grower.now.net.now in
    let g = graph_of n in
    let here : c.loop-t.t < n.places = omega (arith, c.loop-t-test.true, c.requires.long) in
    let named = c.requires.named c.loop-t.t here in
    elim c.if-trigger-t.branch [
      | then-trigger-t w ↦
          let members : List ℕ = w.grow.new.self.members in
          let long : length w.as_slice-members.result.now ≡ length members = ap length w.as_slice-members.ensures.value in
          let grown = same_net _ c.loop-t.invariant.0 w.grow.ensures.grown in
          let stretched = subst (λ (xs : List ℕ). Stretched (at xs) (length xs) c.loop-t.next (at c.loop-t.order) (at w.write_stretch.new.order)) w.as_slice-members.ensures.value w.write_stretch.ensures in (
            ap (λ x. x.net) w.grower-is ∙ w.grow.ensures.net ∙ c.loop-t.invariant.0,
            laid_same g (at c.args.order.now) (c.loop-t.t + 1) _ _ _ _ _ _ w.order-is w.stretches-is w.next-is
                (turn_lays g (within n) (at c.args.order.now) c.loop-t.order c.loop-t.stretches c.loop-t.next c.loop-t.t here c.loop-t.invariant.1 (sym named ∙ w.if-trigger-t.true)
                (at members) (length members) grown w.write_stretch.new.order stretched (omega (arith, c.loop-t.invariant.2, n.sized)) _ (omega (arith, long))),
            ap length w.stretches-is ∙ length-set c.loop-t.stretches _ _ ∙ c.loop-t.invariant.2,
          )
      | else-trigger-t w ↦ (
        ap (λ x. x.net) w.grower-is ∙ c.loop-t.invariant.0,
        laid_same g (at c.args.order.now) (c.loop-t.t + 1) _ _ _ _ _ _ w.order-is w.stretches-is w.next-is
            (laid_skip g (within n) (at c.args.order.now) (at c.loop-t.order) (begins c.loop-t.stretches) (ends c.loop-t.stretches) c.loop-t.next c.loop-t.t
            here c.loop-t.invariant.1 (λ e. w.if-trigger-t.false (named ∙ e))),
        ap length w.stretches-is ∙ c.loop-t.invariant.2,
      )
    ]

pub returns-clause-order : goal.returns-clause-order
returns-clause-order c =
    let n = c.args.grower.now.net.now in
    let done : c.loop-t.t ≡ n.places = omega (arith, c.requires.long) in
    laid_all (graph_of n) (within n) c.args.order.now c.loop-t.order c.loop-t.stretches c.loop-t.next
    (subst (λ (p : ℕ). Laid (graph_of n) (at c.args.order.now) (at c.loop-t.order) (begins c.loop-t.stretches) (ends c.loop-t.stretches) c.loop-t.next p) done c.loop-t.invariant.1)
