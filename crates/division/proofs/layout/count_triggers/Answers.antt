use Rattle.std.proofs.Common.{◌≡◌, ℕ, sym, ap, ◌∙◌, arith}
use Rattle.network.specs.Packed.{graph_of}
use Rattle.structures.specs.Computed.{count}
use Rattle.structures.proofs.Triggers.{own_trigger, triggers_count}
use Rattle.division.proofs.Laid.{own_more, own_same}
use Rattle.division.proofs.layout.count_triggers.Goals as goal
use Rattle.division.proofs.layout.count_triggers.Goals.{then-trigger-t, else-trigger-t}

pub loop-t-preserved : goal.loop-t-preserved
loop-t-preserved c =
    let g = graph_of c.args.net.now in
    let named = c.requires.named c.loop-t.t (omega (arith, c.loop-t-test.true, c.requires.long)) in
    elim c.if-trigger-t.branch [
      | then-trigger-t w ↦ (w.count-is ∙ own_more g c.loop-t.t c.loop-t.count c.loop-t.invariant.0 (sym named ∙ w.if-trigger-t.true), omega (arith, w.count-is, c.loop-t.invariant.1))
      | else-trigger-t w ↦ (w.count-is ∙ own_same g c.loop-t.t c.loop-t.count c.loop-t.invariant.0 (λ e. w.if-trigger-t.false (named ∙ e)), omega (arith, w.count-is, c.loop-t.invariant.1))
    ]

pub returns : goal.returns
returns c =
    let g = graph_of c.args.net.now in
    let done : c.loop-t.t ≡ c.args.net.now.places = omega (arith, c.requires.long) in
    c.loop-t.invariant.0 ∙ ap (λ (x : ℕ). count (own_trigger g) x) done ∙ sym (triggers_count g)
