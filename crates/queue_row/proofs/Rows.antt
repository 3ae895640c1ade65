-- What the row's writes mean.
use Rattle.std.proofs.Common.{◌≡◌, ℕ, ◌+◌, ◌<◌, min, Bool, false, ◌≢◌, ◌⊎◌, max, List, length, Some, Ok, sym, ap, ◌∙◌, subst, inl, inr, arith}
use Rattle.kinds.specs.Meaning.{Meaning}
use Rattle.kinds.specs.Laws.{Laws}
use Rattle.queues.specs.declared.entry.Item.{Item}
use Rattle.queues.specs.declared.entry.Entry.{Entry}
use Rattle.queues.specs.State.{lowered, added}
use Rattle.queues.specs.Takes.{Took}
use Rattle.queues.specs.Order.{before}
use Rattle.queues.specs.Cells.{entry, item, cells_state, Tidy, Refloored}
use Rattle.queues.proofs.Calls.{Offered, offer_added, offer_lowered}
use Rattle.queues.proofs.Places.{seek_none, seek_at}
use Rattle.queues.specs.declared.lent.Lent.{Lent}
use Rattle.queues.specs.Lent.{lent_state, LentTidy}
use Rattle.queues.proofs.Lents.{Lowers, Adds, Goes}
use Rattle.queues.proofs.States.{items_state, more_fit, more_state, recost_fit, recost_state, less_fit, less_state, least_from}
use Rattle.queue_row.specs.Rows.{Written}

-- an offered item is written where it goes
module _ {C : Type 0} (less : C → C → Bool) (q : Lent C) (n : ℕ) (c : C) (tidy : LentTidy q) (place : ℕ) (goes : Goes less q n c place) (new : List (Entry C)) (w : Written q.entries.now new place record { number = n; cost = Some c }) where
  abbrev old : List (Entry C)
  old = q.entries.now

  abbrev len : ℕ
  len = q.waiting

  -- what the offer leaves, if `more` items then wait
  abbrev Leaves : ℕ → Type 0
  Leaves more = Offered less (lent_state q) n c (Ok tt) (cells_state new more q.takes) × Tidy new more

  cost_at : (item new place).cost ≡ Some c
  cost_at = ap (λ (x : Item C). x.cost) w.here

  number_at : (item new place).number ≡ n
  number_at = ap (λ (x : Item C). x.number) w.here

  pub row_lowered : Lowers less q n c place → Leaves len
  row_lowered l =
      let f = item old in
      let recosted = number_at ∙ sym l.number in (
        offer_lowered less _ n c (f place).cost _ goes.high (seek_at f n len place tidy.fit.once l.within l.number) (tidy.fit.costed place l.within) l.is_less
            ((λ i. items_state (item new) len (w.floor_same i) q.takes (w.length_same i))
            ∙ recost_state (entry old 0).floor f (item new) len q.takes (length old) tidy.fit c place l.within recosted cost_at w.there
            ∙ ap (λ x. lowered (lent_state q) x c) l.number),
        record {
          room = omega (arith, tidy.room, w.length_same);
          fit = recost_fit (entry old 0).floor f (item new) len q.takes (length old) tidy.fit c place l.within recosted cost_at w.there;
        },
      )

  pub row_added : Adds q n place → Leaves (len + 1)
  row_added a =
      let f = item old in
      let w' : Written old new len record { number = n; cost = Some c } = subst (λ x. Written old new x record { number = n; cost = Some c }) a.end w in
      let same : (k : ℕ) → k < len → item new k ≡ item old k = λ k h. w'.there k (λ e. omega arith) in
      let number_at_end : (item new len).number ≡ n = ap (λ (x : Item C). x.number) w'.here in
      let cost_at_end : (item new len).cost ≡ Some c = ap (λ (x : Item C). x.cost) w'.here in (
        offer_added less _ n c _ goes.high (seek_none f n len a.nowhere) a.room
            ((λ i. items_state (item new) (len + 1) (w'.floor_same i) q.takes (w'.length_same i))
            ∙ more_state (entry old 0).floor f (item new) len q.takes (length old) tidy.fit c same cost_at_end
            ∙ ap (λ x. added (lent_state q) x c) number_at_end),
        record {
          room = omega (arith, tidy.room, a.room, w'.length_same);
          fit = more_fit (entry old 0).floor f (item new) len q.takes (length old) tidy.fit c same cost_at_end (λ k h e. a.nowhere k h (e ∙ number_at_end));
        },
      )

  pub row_put : (more : ℕ) → more ≡ max len (place + 1) → Leaves more
  row_put more e = by_way goes.way
    where
      by_way : Lowers less q n c place ⊎ Adds q n place → Leaves more
      by_way (inl l) = let same : more ≡ len = omega (arith, l.within) in subst Leaves (sym same) (row_lowered l)
      by_way (inr a) = let one_more : more ≡ len + 1 = omega (arith, a.end) in subst Leaves (sym one_more) (row_added a)

module _ {C Step : Type 0} {m : Meaning C Step} (laws : Laws m) (old mid new : List (Entry C)) (len takes place : ℕ) (c : C) (tidy : Tidy old (len + 1)) (within : place < len + 1) (first : (k : ℕ) → k < len + 1 → before m.less (item old k) (item old place) ≡ false)
    (cost : (item old place).cost ≡ Some c) (w : Written old mid place (item old len)) (f : Refloored mid new (Some c)) where
  filled : place < len → item new place ≡ item old len
  filled h = f.items place ∙ w.here

  rest : (k : ℕ) → k < len → k ≢ place → item new k ≡ item old k
  rest k h d = f.items k ∙ w.there k d

  floor : (entry new 0).floor ≡ Some c
  floor = f.floor_set (omega (arith, tidy.room, w.length_same))

  length_same : length new ≡ length old
  length_same = f.length_same ∙ w.length_same

  row_taken_tidy : Tidy new len
  row_taken_tidy = record {
    room = omega (arith, tidy.room, length_same);
    fit = less_fit (entry old 0).floor (item old) (item new) len takes (length old) tidy.fit c place within filled rest;
  }

  row_took : Took m.less (cells_state old (len + 1) takes) (Some ((item old place).number, c)) (cells_state new len (min (takes + 1) 4294967295))
  row_took = (
    omega arith,
    least_from laws old (len + 1) takes place c tidy within first cost,
    (λ i. items_state (item new) len (floor i) (min (takes + 1) 4294967295) (length_same i))
        ∙ less_state (entry old 0).floor (item old) (item new) len takes (length old) tidy.fit c place within filled rest,
  )

-- a take of the chosen item, from a row of l items that leaves n
pub row_taken : {C Step : Type 0} {m : Meaning C Step} (laws : Laws m) (old mid new : List (Entry C)) (n l takes t place : ℕ) (chosen last : Item C) (c : C) → l ≡ n + 1 → Tidy old l → place < l
    → ((k : ℕ) → k < l → before m.less (item old k) (item old place) ≡ false) → chosen ≡ item old place → chosen.cost ≡ Some c → last ≡ item old n → Written old mid place last → Refloored mid new (Some c) → t ≡ min (takes + 1) 4294967295
    → Took m.less (cells_state old l takes) (Some (chosen.number, c)) (cells_state new n t) × Tidy new n
row_taken {C} {m = m} laws old mid new n l takes t place chosen last c e tidy within first is cost at_end w f up =
    subst
    (λ x. Tidy old x → place < x → ((k : ℕ) → k < x → before m.less (item old k) (item old place) ≡ false) → Took m.less (cells_state old x takes) (Some (chosen.number, c)) (cells_state new n t) × Tidy new n)
    (sym e)
    (λ tidy' within' first'.
    let at_place : (item old place).cost ≡ Some c = ap (λ (x : Item C). x.cost) (sym is) ∙ cost in
    let w' = subst (λ x. Written old mid place x) at_end w in
    let took = row_took laws old mid new n takes place c tidy' within' first' at_place w' f in (
      subst (λ x. Took m.less (cells_state old (n + 1) takes) (Some (x.number, c)) (cells_state new n t)) (sym is)
          (subst (λ x. Took m.less (cells_state old (n + 1) takes) (Some ((item old place).number, c)) (cells_state new n x)) (sym up) took),
      row_taken_tidy laws old mid new n takes place c tidy' within' first' at_place w' f,
    ))
    tidy within first
