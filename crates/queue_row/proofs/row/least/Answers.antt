use Rattle.std.proofs.Common.{◌≡◌, ℕ, ◌+◌, ◌<◌, ◌≤◌, List, length, get_or, take, subst, sym, ap, ◌∙◌, arith}
use Rattle.std.proofs.lemmas.List.{get_or_default, get_or-take, length-take-le}
use Rattle.queues.specs.declared.entry.Entry.{Entry}
use Rattle.queues.specs.Order.{before}
use Rattle.queues.specs.Cells.{blank, item}
use Rattle.queue_row.proofs.Firsts.{First, first_stays, first_moves}
use Rattle.queue_row.proofs.row.least.Goals.{then-before, else-before}
use Rattle.queue_row.proofs.row.least.Goals as goal

-- an entry read from the first n
item_read : {C : Type 0} (all : List (Entry C)) (n k : ℕ) (d : Entry C) → n ≤ length all → k < n → (get_or (take n all) k d).item ≡ item all k
item_read all n k d room h =
    ap (λ x. x.item) (get_or_default (take n all) k d blank (omega (arith, length-take-le n all room)) ∙ get_or-take n all k blank h)

pub loop-place-preserved : goal.loop-place-preserved
loop-place-preserved g c =
    let less = g.K.Kind.meaning.less in
    let laws = g.met.K.Kind.laws in
    let all = c.args.lent.now.entries.now in
    let n = c.args.lent.now.waiting in
    let best = c.loop-place.best in
    let place = c.loop-place.place in
    let inv = c.loop-place.invariant in
    let within : place < n = omega (arith, c.loop-place-test.true, length-take-le n all c.requires.1) in
    let read = ap (λ (x : Entry g.row.K-Cost.Denot). x.item) c.index-waiting-place.is ∙ item_read all n place c.index-waiting-place.result c.requires.1 within in
    let read_best = item_read all n best c.index-waiting-best.result c.requires.1 inv.0 in
    let told : c.before-in-loop-place.result ≡ before less (item all place) (item all best) = c.before-in-loop-place.ensures ∙ (λ i. before less (read i) (read_best i)) in
    let after : (c.if-before.best < n) × First less (item all) c.if-before.best (place + 1) =
    elim c.if-before.branch [
      | then-before w ↦ subst (λ x. (x < n) × First less (item all) x (place + 1)) (sym w.best-is) (within, first_moves laws (item all) best place inv.1 (sym told ∙ w.if-before.true))
      | else-before w ↦ subst (λ x. (x < n) × First less (item all) x (place + 1)) (sym w.best-is) (inv.0, first_stays laws (item all) best place inv.1 (sym told ∙ w.if-before.false))
    ]
    in
    after
