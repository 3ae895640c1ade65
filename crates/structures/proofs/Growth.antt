-- The rounds of the growth reach every structure, and nothing that is not held.
use Rattle.std.proofs.Common.{◌≡◌, ℕ, zero, suc, ◌<◌, ◌≤◌, Bool, true, false, ◌||◌, eqb, ◌≢◌, ◌⊎◌, List, [], length, Decides, sym, refl, ap, ◌∙◌, subst, inl, inr, arith}
use Rattle.std.proofs.lemmas.Bool.{both_ways, cases_eq, cases_lt}
use Rattle.std.proofs.lemmas.Bool.Decides.{Decides-eqb, Decides-at, Decides-or}
use Rattle.std.proofs.lemmas.List.FromFn.{get_or-map-range_with_len}
use Rattle.structures.specs.Graphs.{Graph, Within, Approach}
use Rattle.structures.specs.Structures.{Chain, one, more, Loop}
use Rattle.structures.specs.Rivals.{Among}
use Rattle.structures.specs.Computed.{fed, listed, grown, held}
use Rattle.structures.proofs.Lists.{remove, length_remove, among_remove, below, length_below, among_below}
use Rattle.structures.proofs.Tests.{Fed, fed_decides, listed_table, listed_past}
use Rattle.structures.proofs.Held.{Held, root, held_approach, held_before, held_place, held_loopless}

-- w is reached from v within k rounds.
abbrev pub Round : Graph → ℕ → ℕ → ℕ → Type 0
Round g v zero w = w ≡ v
Round g v (suc k) w = (w ≡ v) ⊎ Fed g (Round g v k) w

pub round_own : (g : Graph) (v k w : ℕ) → w ≡ v → Round g v k w
round_own g v zero w e = e
round_own g v (suc k) w e = inl e

pub round_held : (g : Graph) (v k w : ℕ) → Round g v k w → Held g v w
round_held g v zero w r = root r
round_held g v (suc k) w (inl e) = root e
round_held g v (suc k) w (inr f) = Held.fed f.0.0 f.0.1 (λ u a. round_held g v k u (f.1 u a))

pub grown_decides : (g : Graph) → Within g → (v k w : ℕ) → w < g.places → Decides (listed (grown g v k) w) (Round g v k w)
grown_decides g within v zero w lt = Decides-at (listed (grown g v 0) w) (eqb w v) (listed_table (λ x. eqb x v) g.places w lt) (Decides-eqb w v)
grown_decides g within v (suc k) w lt =
    Decides-at (listed (grown g v (suc k)) w) (eqb w v || fed g (listed (grown g v k)) w) (listed_table (λ x. eqb x v || fed g (listed (grown g v k)) x) g.places w lt)
    (Decides-or (eqb w v) (fed g (listed (grown g v k)) w) (Decides-eqb w v) (fed_decides g within (listed (grown g v k)) (Round g v k) (grown_decides g within v k) w))

pub grown_past : (g : Graph) (v k w : ℕ) → g.places ≤ w → listed (grown g v k) w ≡ false
grown_past g v zero w past = listed_past (λ x. eqb x v) g.places w past
grown_past g v (suc k) w past = listed_past (λ x. eqb x v || fed g (listed (grown g v k)) x) g.places w past

-- A set without loops, each of whose places but v has approaches, all in the set.
module _ (g : Graph) (v : ℕ) (In : ℕ → Type 0) where
  abbrev pub Rest : ℕ → Type 0
  Rest w = In w × (w ≢ v)

  -- The list holds every place of the set from which a chain in it leads to w.
  abbrev pub Ancestors : ℕ → List ℕ → Type 0
  Ancestors w ys = (y : ℕ) → Rest y → Chain g Rest y w → Among y ys

module _ (g : Graph) (v : ℕ) (In : ℕ → Type 0)
    (no_loop : Loop g (Rest g v In) → ⊥)
    (approached : (w : ℕ) → Rest g v In w → (u : ℕ) × Approach g u w)
    (from_inside : (u w : ℕ) → Rest g v In w → Approach g u w → In u) where
  -- Going back to an approach u takes u out of the list.
  reach_step : (k : ℕ) → ((ys : List ℕ) → length ys < k → (u : ℕ) → In u → Ancestors g v In u ys → Round g v k u) →
      (ys : List ℕ) → length ys ≤ k → (w : ℕ) → In w → Ancestors g v In w ys → Round g v (suc k) w
  reach_step k back ys short w inside ancestors = go (cases_eq w v)
    where
      go : (w ≡ v) ⊎ (w ≡ v → ⊥) → (w ≡ v) ⊎ Fed g (Round g v k) w
      go (inl e) = inl e
      go (inr apart) = inr (approached w (inside, apart), λ u a. at u a (from_inside u w (inside, apart) a) (cases_eq u v))
        where
          at : (u : ℕ) → Approach g u w → In u → (u ≡ v) ⊎ (u ≡ v → ⊥) → Round g v k u
          at u a here (inl e) = round_own g v k u e
          at u a here (inr ne) =
              let m : Among u ys = ancestors u (here, ne) (one a) in
              back (remove u ys m) (omega (arith, length_remove u ys m)) u here
              (λ y r c. among_remove u y ys m (ancestors y r (more u c (here, ne) a))
              (λ e. no_loop (record { at = u; inside = (here, ne); back = subst (λ z. Chain g (Rest g v In) z u) e c })))

  pub reach : (k : ℕ) (ys : List ℕ) → length ys ≤ k → (w : ℕ) → In w → Ancestors g v In w ys → Round g v (suc k) w
  reach zero = reach_step zero (λ ys lt. absurd (omega arith))
  reach (suc k) = reach_step (suc k) (λ ys lt. reach k ys (omega arith))

  -- As many rounds as there are places reach every place of the set.
  pub reach_all : v < g.places → ((w : ℕ) → In w → w < g.places) → (w : ℕ) → In w → Round g v g.places w
  reach_all lt places w inside =
      let m : Among v (below g.places) = among_below g.places v lt in
      let ys : List ℕ = remove v (below g.places) m in
      let e : suc (length ys) ≡ g.places = length_remove v (below g.places) m ∙ length_below g.places in
      subst (λ k. Round g v k w) e
      (reach (length ys) ys (omega arith) w inside (λ y r c. among_remove v y (below g.places) m (among_below g.places y (places y r.0)) r.1))

module _ (g : Graph) (within : Within g) where
  pub held_row : (v w : ℕ) → v < g.places → held g v w ≡ listed (grown g v g.places) w
  unfolding held
  held_row v w lt = ap (λ row. listed row w) (get_or-map-range_with_len (λ x. grown g x g.places) 0 g.places v v [] lt (omega arith))

  pub held_reaches : (v w : ℕ) → v < g.places → Held g v w → Round g v g.places w
  held_reaches v w lt h = reach_all g v (Held g v)
      (λ l. held_loopless g (λ x. Held g v x × (x ≢ v)) (λ x r. r.1) l.inside.0 l.inside l.back)
      (λ x r. held_approach g r.0 r.1)
      (λ u x r a. held_before g r.0 r.1 u a)
      lt (λ x k. held_place g within lt k) w h

  -- The computed test decides what is held.
  pub held_decides : (v w : ℕ) → v < g.places → Decides (held g v w) (Held g v w)
  held_decides v w lt = (is, make)
    where
      is : held g v w ≡ true → Held g v w
      is e = go (cases_lt w g.places)
        where
          go : (w < g.places) ⊎ (g.places ≤ w) → Held g v w
          go (inl below) = round_held g v g.places w ((grown_decides g within v g.places w below).0 (sym (held_row v w lt) ∙ e))
          go (inr past) = absurd (both_ways (held g v w) (held_row v w lt ∙ grown_past g v g.places w past) e)

      make : Held g v w → held g v w ≡ true
      make h = held_row v w lt ∙ (grown_decides g within v g.places w (held_place g within lt h)).1 (held_reaches v w lt h)

  pub held_cases : (v w : ℕ) → v < g.places → Held g v w ⊎ (Held g v w → ⊥)
  held_cases v w lt = go (held g v w) refl
    where
      go : (b : Bool) → held g v w ≡ b → Held g v w ⊎ (Held g v w → ⊥)
      go true e = inl ((held_decides v w lt).0 e)
      go false e = inr (λ h. both_ways (held g v w) e ((held_decides v w lt).1 h))
