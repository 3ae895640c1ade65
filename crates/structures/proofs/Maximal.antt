-- Places that hold whatever holds them: theirs are the maximal structures.
use Rattle.std.proofs.Common.{◌≡◌, ℕ, zero, suc, ◌<◌, ◌≤◌, Bool, true, false, ◌&&◌, ◌⊎◌, Decides, sym, refl, subst, inl, inr, arith}
use Rattle.std.proofs.lemmas.Bool.{cases_eq, both_ways}
use Rattle.std.proofs.lemmas.Bool.Decides.{same_from_decides, Decides-and}
use Rattle.structures.specs.Graphs.{Graph, Within}
use Rattle.structures.specs.Structures.{PlaceSet, ◌∈◌, ◌⊆◌, Complete, Maximal, Trigger}
use Rattle.structures.specs.Computed.{held, lowest}
use Rattle.structures.specs.Theorems.{MaximalOnes}
use Rattle.structures.proofs.Held.{Held, held_self, held_trans, held_meet, holder_place, held_place}
use Rattle.structures.proofs.Tests.{lowest_passes}
use Rattle.structures.proofs.Growth.{held_decides}
use Rattle.structures.proofs.Complete.{structure_place, complete_from, held_complete, complete_decides}

-- t holds every place that holds it.
abbrev pub Top : Graph → ℕ → Type 0
Top g t = (x : ℕ) → Held g x t → Held g t x

-- Each of the two holds the other.
abbrev pub Twins : Graph → ℕ → ℕ → Type 0
Twins g t u = Held g t u × Held g u t

-- Two places at the top that hold a common place hold each other.
pub top_meet : (g : Graph) (t u w : ℕ) → Top g t → Top g u → Held g t w → Held g u w → Twins g t u
top_meet g t u w top up h k = go (held_meet g h k)
  where
    go : Held g t u ⊎ Held g u t → Twins g t u
    go (inl a) = (a, up t a)
    go (inr b) = (top u b, b)

-- A place that holds a place at the top is its twin, and at the top as well.
pub top_twin : (g : Graph) (t u : ℕ) → Top g t → Held g u t → Top g u
top_twin g t u top h x k = held_trans g h (top x (held_trans g k h))

module _ (g : Graph) (within : Within g) where
  pub complete_nested : (u v : ℕ) (S R : PlaceSet) → Complete g u S → Complete g v R → u ∈ R → S ⊆ R
  complete_nested u v S R c d inside w e =
      (complete_decides g within v R d w).1 (held_trans g ((complete_decides g within v R d u).0 inside) ((complete_decides g within u S c w).0 e))

  pub complete_meet : (u v : ℕ) (S R : PlaceSet) → Complete g u S → Complete g v R → (w : ℕ) → w ∈ S → w ∈ R → (v ∈ S) ⊎ (u ∈ R)
  complete_meet u v S R c d w a b = go (held_meet g ((complete_decides g within u S c w).0 a) ((complete_decides g within v R d w).0 b))
    where
      go : Held g u v ⊎ Held g v u → (v ∈ S) ⊎ (u ∈ R)
      go (inl h) = inl ((complete_decides g within u S c v).1 h)
      go (inr h) = inr ((complete_decides g within v R d u).1 h)

  -- A complete structure is that of each twin of its place, and of no other place.
  pub twin_complete : (t u : ℕ) (S : PlaceSet) → Complete g t S → Twins g t u → Complete g u S
  twin_complete t u S c twins =
      complete_from g within u S (held_place g within (structure_place g t S c.structure) twins.0)
      (λ w. (λ e. held_trans g twins.1 ((complete_decides g within t S c w).0 e), λ h. (complete_decides g within t S c w).1 (held_trans g twins.0 h)))

  pub complete_twins : (t u : ℕ) (S : PlaceSet) → Complete g t S → Complete g u S → Twins g t u
  complete_twins t u S c d =
      ((complete_decides g within t S c u).0 d.structure.holds_its_place, (complete_decides g within u S d t).0 c.structure.holds_its_place)

  pub maximal_top : (S : PlaceSet) (m : Maximal g S) → Top g m.place
  maximal_top S m x h =
      let c : Complete g m.place S = m.complete in
      let lt : x < g.places = holder_place g within (structure_place g m.place S c.structure) h in
      let d : Complete g x (held g x) = held_complete g within x lt in
      let up : S ⊆ held g x = complete_nested m.place x S (held g x) c d ((held_decides g within x m.place lt).1 h) in
      (complete_decides g within m.place S c x).0 (m.not_below x (held g x) d up x d.structure.holds_its_place)

  pub top_maximal : (t : ℕ) (S : PlaceSet) → Complete g t S → Top g t → Maximal g S
  top_maximal t S c top = record {
    place = t;
    complete = c;
    not_below = λ u R d up w e.
        let h : Held g u t = (complete_decides g within u R d t).0 (up t c.structure.holds_its_place) in
        (complete_decides g within t S c w).1 (held_trans g (top u h) ((complete_decides g within u R d w).0 e));
  }

  -- Two maximal structures that share a place have twins for their places.
  pub maximal_meet : (S R : PlaceSet) (m : Maximal g S) (n : Maximal g R) (w : ℕ) → w ∈ S → w ∈ R → Twins g m.place n.place
  maximal_meet S R m n w a b = top_meet g m.place n.place w (maximal_top S m) (maximal_top R n)
      ((complete_decides g within m.place S m.complete w).0 a) ((complete_decides g within n.place R n.complete w).0 b)

  pub maximal_disjoint : (S R : PlaceSet) → Maximal g S → Maximal g R → (w : ℕ) → w ∈ S → w ∈ R → (x : ℕ) → S x ≡ R x
  maximal_disjoint S R m n w a b x = same_from_decides (S x) (R x)
      (complete_decides g within n.place S (twin_complete m.place n.place S m.complete (maximal_meet S R m n w a b)) x)
      (complete_decides g within n.place R n.complete x)

  -- Going up from w by each place below k in turn.
  climb : (k w : ℕ) → k ≤ g.places → (t : ℕ) × Held g t w × ((x : ℕ) → x < k → Held g x t → Held g t x)
  climb zero w le = (w, held_self g w, λ x lt. absurd (omega arith))
  climb (suc k) w le = go (climb k w (omega arith))
    where
      go : (t : ℕ) × Held g t w × ((x : ℕ) → x < k → Held g x t → Held g t x) → (t : ℕ) × Held g t w × ((x : ℕ) → x < suc k → Held g x t → Held g t x)
      go s = at (held g k s.0) refl
        where
          at : (b : Bool) → held g k s.0 ≡ b → (t : ℕ) × Held g t w × ((x : ℕ) → x < suc k → Held g x t → Held g t x)
          at true e =
              let h : Held g k s.0 = (held_decides g within k s.0 (omega arith)).0 e in
              (k, held_trans g h s.1, λ x lt a. up x lt a h (cases_eq x k))
            where
              up : (x : ℕ) → x < suc k → Held g x k → Held g k s.0 → (x ≡ k) ⊎ (x ≡ k → ⊥) → Held g k x
              up x lt a h (inl f) = subst (Held g k) (sym f) (held_self g k)
              up x lt a h (inr ne) = held_trans g h (s.2 x (omega arith) (held_trans g a h))
          at false e = (s.0, s.1, λ x lt a. up x lt a (cases_eq x k))
            where
              up : (x : ℕ) → x < suc k → Held g x s.0 → (x ≡ k) ⊎ (x ≡ k → ⊥) → Held g s.0 x
              up x lt a (inl f) = absurd (both_ways (held g k s.0) e ((held_decides g within k s.0 (omega arith)).1 (subst (λ y. Held g y s.0) f a)))
              up x lt a (inr ne) = s.2 x (omega arith) a

  -- Every place is held by a place at the top.
  pub top_above : (w : ℕ) → w < g.places → (t : ℕ) × (t < g.places) × Held g t w × Top g t
  top_above w lt =
      let s = climb g.places w (omega arith) in
      let here : s.0 < g.places = holder_place g within lt s.1 in
      (s.0, here, s.1, λ x h. s.2 x (holder_place g within here h) h)

  pub maximal_cover : (w : ℕ) → w < g.places → (S : PlaceSet) × Maximal g S × (w ∈ S)
  maximal_cover w lt =
      let s = top_above w lt in
      (held g s.0, top_maximal s.0 (held g s.0) (held_complete g within s.0 s.1) s.3, (held_decides g within s.0 w s.1).1 s.2)

  -- The lowest twin is the trigger.
  pub complete_trigger : (v : ℕ) (S : PlaceSet) → Complete g v S → (t : ℕ) × Trigger g S t
  complete_trigger v S c = (t, record { complete = twin_complete v t S c ((dec t (below t low.1)).0 low.0); lowest = λ u d. least u d })
    where
      lt : v < g.places
      lt = structure_place g v S c.structure

      P : ℕ → Bool
      P u = held g v u && held g u v

      dec : (u : ℕ) → u < g.places → Decides (P u) (Twins g v u)
      dec u here = Decides-and (held g v u) (held g u v) (held_decides g within v u lt) (held_decides g within u v here)

      t : ℕ
      t = lowest P g.places

      low : (P t ≡ true) × (t ≤ v)
      low = lowest_passes P g.places v lt ((dec v lt).1 (held_self g v, held_self g v))

      below : (u : ℕ) → u ≤ v → u < g.places
      below u le = omega (arith, lt)

      least : (u : ℕ) → Complete g u S → t ≤ u
      least u d =
          let here : u < g.places = structure_place g u S d.structure in
          (lowest_passes P g.places u here ((dec u here).1 (complete_twins v u S c d))).1

  pub trigger_unique : (S : PlaceSet) (t u : ℕ) → Trigger g S t → Trigger g S u → u ≡ t
  trigger_unique S t u a b = omega (arith, a.lowest u b.complete, b.lowest t a.complete)

  pub maximal_ones : MaximalOnes g
  maximal_ones = record {
    nested = complete_nested;
    meeting = complete_meet;
    disjoint = maximal_disjoint;
    cover = maximal_cover;
    one_trigger = λ S m.
        let t = complete_trigger m.place S m.complete in
        (t.0, t.1, λ u d. trigger_unique S t.0 u t.1 d);
  }
