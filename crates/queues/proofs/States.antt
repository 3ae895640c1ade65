-- From places to the state: what a change of the items means.
use Rattle.std.proofs.Common.{◌≡◌, ℕ, ◌+◌, ◌<◌, ◌≤◌, min, true, false, ◌≢◌, ◌⊎◌, List, length, take, is_some, Some, None, Option, sym, refl, ap, ◌∙◌, inl, inr, arith}
use Rattle.std.proofs.lemmas.Bool.{cases_eq, cases_lt, both_ways}
use Rattle.std.proofs.lemmas.List.{get_or-take, get_or_past, length-take-le}
use Rattle.kinds.proofs.Order.{not_less_self}
use Rattle.kinds.specs.Meaning.{Meaning}
use Rattle.kinds.specs.Laws.{Laws}
use Rattle.queues.specs.declared.entry.Item.{Item}
use Rattle.queues.specs.declared.entry.Entry.{Entry}
use Rattle.queues.specs.State.{State, cleared, put, added, lowered, taken}
use Rattle.queues.specs.Takes.{Least}
use Rattle.queues.specs.Sound.{Sound}
use Rattle.queues.specs.Order.{cheaper, before}
use Rattle.queues.specs.Cells.{entry, item, blank, seek, cells_state, Fit, Tidy, Nowhere, Found, Refloored}
use Rattle.queues.proofs.Orders.{before_costs, before_numbers}
use Rattle.queues.proofs.Places.{Here, look, seek_none, seek_at, seek_more, once_more, seek_recost, once_recost, seek_less, once_less}

module _ {Cost : Type 0} where
  pub same_state : (s t : State Cost) → ((n : ℕ) → s.at n ≡ t.at n) → s.waiting ≡ t.waiting → s.floor ≡ t.floor → s.takes ≡ t.takes → s.size ≡ t.size → s ≡ t
  same_state s t a w f k z = λ i. record { at = λ n. a n i; waiting = w i; floor = f i; takes = k i; size = z i }

  some_true : (o : Option Cost) (c : Cost) → o ≡ Some c → is_some o ≡ true
  some_true o c e = ap is_some e

  not_none : (o : Option Cost) → o ≡ None → is_some o ≡ true → ⊥
  not_none o e t = both_ways (is_some o) (ap is_some e) t

  -- who waits stands somewhere
  pub waits_here : (f : ℕ → Item Cost) (n len : ℕ) → is_some (seek f n len) ≡ true → Here f n len
  waits_here f n len t = go (look f n len)
    where
      go : Here f n len ⊎ Nowhere f n len → Here f n len
      go (inl h) = h
      go (inr u) = absurd (not_none (seek f n len) (seek_none f n len u) t)

  pub tidy_sound : (cells : List (Entry Cost)) (len takes : ℕ) → Tidy cells len → Sound (cells_state cells len takes)
  tidy_sound cells len takes t =
      let f = item cells in
      let fit = t.fit in
      record {
        listed = λ k. (f k).number;
        waits = λ k h. ap is_some (seek_at f (f k).number len k fit.once h refl) ∙ fit.costed k h;
        once = fit.once;
        every = λ n w. waits_here f n len w;
        room = t.room;
      }

  -- the item that none comes before is the least
  pub least_from : {Step : Type 0} {m : Meaning Cost Step} (laws : Laws m) (cells : List (Entry Cost)) (len takes i : ℕ) (c : Cost) → Tidy cells len → i < len → ((k : ℕ) → k < len → before m.less (item cells k) (item cells i) ≡ false) → (item cells i).cost ≡ Some c → Least m.less (cells_state cells len takes) (item cells i).number c
  least_from {m = m} laws cells len takes i c t h first e =
      let f = item cells in
      let once = t.fit.once in
      let stood : (n : ℕ) (d : Cost) → seek f n len ≡ Some d → (k : ℕ) × (k < len) × ((f k).number ≡ n) × ((f k).cost ≡ Some d) =
      λ n d q. let w = waits_here f n len (some_true _ d q) in (w.0, w.1, w.2, sym (seek_at f n len w.0 once w.1 w.2) ∙ q)
      in
      record {
        waits = seek_at f (f i).number len i once h refl ∙ e;
        least = λ n d q.
            let w = stood n d q in
            let r = before_costs laws (f w.0) (f i) (first w.0 w.1) in
            sym (ap (λ x. cheaper m.less x (f i).cost) w.3 ∙ ap (λ x. cheaper m.less (Some d) x) e) ∙ r;
        lowest = λ n q.
            let w = stood n c q in
            let level : cheaper m.less (f i).cost (f w.0).cost ≡ false =
            ap (λ x. cheaper m.less x (f w.0).cost) e ∙ ap (λ x. cheaper m.less (Some c) x) w.3 ∙ not_less_self laws c
            in
            let r = before_numbers laws (f w.0) (f i) (first w.0 w.1) level in
            omega (arith, w.2);
      }

-- the state of items, apart from the list that holds them
module _ {Cost : Type 0} where
  abbrev pub items_state : (ℕ → Item Cost) → ℕ → Option Cost → ℕ → ℕ → State Cost
  items_state f len floor takes size = record { at = λ n. seek f n len; waiting = len; floor = floor; takes = takes; size = size }

  module _ (floor : Option Cost) (f g : ℕ → Item Cost) (len : ℕ) (takes size : ℕ) where
    -- an item more
    module _ (fit : Fit f len) (c : Cost) (same : (k : ℕ) → k < len → g k ≡ f k) (cost : (g len).cost ≡ Some c) where
      pub more_fit : Nowhere f (g len).number len → Fit g (len + 1)
      more_fit new = record { costed = λ k h. costs k h (cases_eq k len); once = once_more f g len same fit.once new }
        where
          costs : (k : ℕ) → k < len + 1 → (k ≡ len) ⊎ (k ≡ len → ⊥) → is_some (g k).cost ≡ true
          costs k h (inl e) = ap (λ x. is_some (g x).cost) e ∙ ap is_some cost
          costs k h (inr d) = ap (λ (x : Item Cost). is_some x.cost) (same k (omega arith)) ∙ fit.costed k (omega arith)

      pub more_state : items_state g (len + 1) floor takes size ≡ added (items_state f len floor takes size) (g len).number c
      more_state = same_state _ _ (λ n. seek_more f g len same n ∙ ap (λ x. put (λ y. seek f y len) (g len).number x n) cost) refl refl refl refl

    -- another cost at place i
    module _ (fit : Fit f len) (c : Cost) (i : ℕ) (within : i < len) (number : (g i).number ≡ (f i).number) (cost : (g i).cost ≡ Some c) (same : (k : ℕ) → k ≢ i → g k ≡ f k) where
      pub recost_fit : Fit g len
      recost_fit = record { costed = λ k h. costs k h (cases_eq k i); once = once_recost f g len i within fit.once number same }
        where
          costs : (k : ℕ) → k < len → (k ≡ i) ⊎ (k ≡ i → ⊥) → is_some (g k).cost ≡ true
          costs k h (inl e) = ap (λ x. is_some (g x).cost) e ∙ ap is_some cost
          costs k h (inr d) = ap (λ (x : Item Cost). is_some x.cost) (same k d) ∙ fit.costed k h

      pub recost_state : items_state g len floor takes size ≡ lowered (items_state f len floor takes size) (f i).number c
      recost_state =
          same_state _ _ (λ n. seek_recost f g len i within fit.once number same n ∙ ap (λ x. put (λ y. seek f y len) (f i).number x n) cost) refl refl refl refl

    -- the item at i taken, the last in its place
    module _ (fit : Fit f (len + 1)) (c : Cost) (i : ℕ) (within : i < len + 1) (filled : i < len → g i ≡ f len) (same : (k : ℕ) → k < len → k ≢ i → g k ≡ f k) where
      pub less_fit : Fit g len
      less_fit = record { costed = λ k h. costs k h (cases_eq k i); once = once_less f g len i within fit.once filled same }
        where
          costs : (k : ℕ) → k < len → (k ≡ i) ⊎ (k ≡ i → ⊥) → is_some (g k).cost ≡ true
          costs k h (inl e) = ap (λ x. is_some (g x).cost) e ∙ ap (λ (x : Item Cost). is_some x.cost) (filled (omega arith)) ∙ fit.costed len (omega arith)
          costs k h (inr d) = ap (λ (x : Item Cost). is_some x.cost) (same k h d) ∙ fit.costed k (omega arith)

      pub less_state : items_state g len (Some c) (min (takes + 1) 4294967295) size ≡ taken (items_state f (len + 1) floor takes size) (f i).number c
      less_state = same_state _ _ (λ n. seek_less f g len i within fit.once filled same n) (omega arith) refl refl refl

module _ {Cost : Type 0} where
  pub empty_tidy : (cells : List (Entry Cost)) → Tidy cells 0
  empty_tidy cells = record {
    room = omega arith;
    fit = record { costed = λ k h. absurd (omega arith); once = λ j k h l e. absurd (omega arith) };
  }

  pub cleared_state : (old new : List (Entry Cost)) → Refloored old new None → cells_state new 0 0 ≡ cleared (length old)
  cleared_state old new r = same_state _ _ (λ n. refl) refl (floor (cases_lt 0 (length old))) refl r.length_same
    where
      floor : (0 < length old) ⊎ (length old ≤ 0) → (entry new 0).floor ≡ None
      floor (inl h) = r.floor_set h
      floor (inr h) = ap (λ (x : Entry Cost). x.floor) (get_or_past new 0 blank (omega (arith, r.length_same)))

  -- what a scan of the first entries finds
  pub found_front : (cells : List (Entry Cost)) (n len : ℕ) (r : Option ℕ) → len ≤ length cells → Found (item (take len cells)) n (length (take len cells)) r → Found (item cells) n len r
  found_front cells n len None h f =
      λ k l e. f k (omega (arith, length-take-le len cells h)) (ap (λ (x : Entry Cost). x.item.number) (get_or-take len cells k blank l) ∙ e)
  found_front cells n len (Some k) h f =
      let l : k < len = omega (arith, length-take-le len cells h, f.0) in
      (l, ap (λ (x : Entry Cost). x.item.number) (sym (get_or-take len cells k blank l)) ∙ f.1)
