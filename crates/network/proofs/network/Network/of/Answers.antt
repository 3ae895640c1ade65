use Rattle.std.proofs.Common.{◌≡◌, ℕ, ◌<◌, true, List, take, slice_index, refl, subst, arith, rules}
use Rattle.network.specs.declared.ends.Ends.{Ends}
use Rattle.network.specs.declared.link.OpenLink.{OpenLink}
use Rattle.network.specs.Drawn.{ends_graph}
use Rattle.network.specs.Within.{drawn_at}
use Rattle.network.proofs.Counted.{Started}
use Rattle.network.proofs.Drawing.{drawn_front}
use Rattle.network.proofs.Filled.{Filled, bounded, next_few, filled_yes, filled_no}
use Rattle.network.proofs.Packing.{Done, sized_at, parts_at, ends_at, tails_at, packed}
use Rattle.network.proofs.network.Network.of.Goals as goal
use Rattle.network.proofs.network.Network.of.Goals.{then-link, else-link}

-- the slot of an open link lies in the table
room : (e : Ends) (k : ℕ) (next : List ℕ) (links : List OpenLink) → Filled (ends_graph e) k next links → k < e.links → (drawn_at (take e.links e.drawn) k).is_open ≡ true → slice_index next (drawn_at (take e.links e.drawn) k).tail < 4096
room e k next links f lt u = let s = drawn_front e k lt in rw s (next_few (ends_graph e) (bounded e) k next links f lt (rw s at u))

pub bounds-links-at : goal.bounds-links-at
bounds-links-at c = room c.args.ends.now _ _ c.loop-number.links c.loop-number.invariant (omega arith) c.if-link.true

pub overflow_add-at : goal.overflow_add-at
overflow_add-at c =
    let r = room c.args.ends.now _ _ c.loop-number.links c.loop-number.invariant (omega arith) c.if-link.true in
    omega (arith, r)

pub loop-number-preserved : goal.loop-number-preserved
loop-number-preserved c =
    let e = c.args.ends.now in
    let l = c.loop-number in
    let lt : l.number < e.links = omega arith in
    let s = drawn_front e l.number lt in
    elim c.if-link.branch [
      | then-link w ↦ rw (w.next-is, w.links-is, s) (filled_yes (ends_graph e) (bounded e) l.number l.next l.links l.invariant lt (rw s at w.if-link.true))
      | else-link w ↦ rw (w.next-is, w.links-is) (filled_no (ends_graph e) (bounded e) l.number l.next l.links l.invariant lt (rw s at w.if-link.false))
    ]

-- every link of the map has been seen
done : (e : Ends) (k : ℕ) (first next : List ℕ) (links : List OpenLink) → Started (ends_graph e) e.places first → Filled (ends_graph e) k next links → k ≡ e.links → Done (ends_graph e) e.places first links
done e k first next links s f q = record { same_places = refl; bounded = bounded e; started = s; next = next; filled = subst (λ x. Filled (ends_graph e) x next links) q f }

pub invariant_of-result : goal.invariant_of-result
invariant_of-result c =
    let e = c.args.ends.now in
    let l = c.loop-number in
    let d : Done (ends_graph e) e.places c.starts-first.result l.links = done e l.number _ l.next l.links (record { long = search rules; each = c.starts-first.ensures }) l.invariant (omega arith) in
    record { sized = sized_at d; parts = parts_at d; ends = ends_at d; leaves = tails_at d }

pub returns : goal.returns
returns c =
    let e = c.args.ends.now in
    let l = c.loop-number in
    packed _ (done e l.number _ l.next l.links (record { long = search rules; each = c.starts-first.ensures }) l.invariant (omega arith))
