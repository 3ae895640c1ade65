-- Growing from places not yet covered, in any order, each call overwriting what it holds, until every place is covered:
-- then each place is assigned to a maximal structure. Calls are listed latest first.
use Rattle.std.proofs.Common.{◌≡◌, ℕ, ◌<◌, ◌⊎◌, List, [], ◌∷◌, sym, ◌∙◌, subst, inl, inr}
use Rattle.structures.specs.Graphs.{Graph, Within}
use Rattle.structures.specs.Structures.{◌∈◌, Maximal}
use Rattle.structures.specs.Rivals.{Among}
use Rattle.structures.specs.Computed.{held}
use Rattle.structures.proofs.Held.{Held, held_trans, holder_place}
use Rattle.structures.proofs.Growth.{held_decides, held_cases}
use Rattle.structures.proofs.Complete.{held_complete}
use Rattle.structures.proofs.Maximal.{Top, top_maximal}

-- Some call holds x.
abbrev pub Covered : Graph → List ℕ → ℕ → Type 0
Covered g calls x = (y : ℕ) × Among y calls × Held g y x

-- Each call was made from a place that no call before it holds.
abbrev pub Fresh : Graph → List ℕ → Type 0
Fresh g [] = Unit
Fresh g (c ∷ calls) = (c < g.places) × (Covered g calls c → ⊥) × Fresh g calls

-- u is the latest call that holds w.
pub data Assigned (g : Graph) (w u : ℕ) : List ℕ → Type 0 where
  latest : {c : ℕ} {calls : List ℕ} → c ≡ u → Held g u w → Assigned g w u (c ∷ calls)
  earlier : {c : ℕ} {calls : List ℕ} → (Held g c w → ⊥) → Assigned g w u calls → Assigned g w u (c ∷ calls)

-- Each covered place is assigned to the latest call that holds it.
abbrev pub Owners : Graph → List ℕ → (ℕ → ℕ) → Type 0
Owners g calls owner = (w : ℕ) → w < g.places → Covered g calls w → Assigned g w (owner w) calls

module _ (g : Graph) where
  pub assigned_held : {w u : ℕ} {calls : List ℕ} → Assigned g w u calls → Held g u w
  assigned_held (latest e h) = h
  assigned_held (earlier n a) = assigned_held a

  pub assigned_call : {w u : ℕ} {calls : List ℕ} → Assigned g w u calls → Among u calls
  assigned_call (latest e h) = inl (sym e)
  assigned_call (earlier n a) = inr (assigned_call a)

  -- A call that holds the call to which a place is assigned is that call.
  pub assigned_only : {w u : ℕ} {calls : List ℕ} → Fresh g calls → Assigned g w u calls → (y : ℕ) → Among y calls → Held g y u → y ≡ u
  assigned_only fresh (latest e h) y (inl f) k = f ∙ e
  assigned_only fresh (latest e h) y (inr m) k = absurd (fresh.1 (y, m, subst (Held g y) (sym e) k))
  assigned_only {w} fresh (earlier n a) y (inl f) k = absurd (n (subst (λ x. Held g x w) f (held_trans g k (assigned_held a))))
  assigned_only fresh (earlier n a) y (inr m) k = assigned_only fresh.2 a y m k

  -- Where all places are covered, each is assigned to a place at the top.
  pub assigned_top : Within g → {w u : ℕ} {calls : List ℕ} → Fresh g calls → ((x : ℕ) → x < g.places → Covered g calls x) → w < g.places → Assigned g w u calls → Top g u
  assigned_top within fresh all lt a x h =
      let c = all x (holder_place g within (holder_place g within lt (assigned_held a)) h) in
      subst (λ y. Held g y x) (assigned_only fresh a c.0 c.1 (held_trans g c.2 h)) c.2

  pub owners_none : (owner : ℕ → ℕ) → Owners g [] owner
  owners_none owner w lt c = absurd c.1

  -- One more call, which overwrites what it holds.
  pub owners_call : Within g → (c : ℕ) (calls : List ℕ) (owner after : ℕ → ℕ) → c < g.places → Owners g calls owner →
      ((w : ℕ) → w < g.places → Held g c w → after w ≡ c) → ((w : ℕ) → w < g.places → (Held g c w → ⊥) → after w ≡ owner w) → Owners g (c ∷ calls) after
  owners_call within c calls owner after here owners over kept w lt covered = go (held_cases g within c w here) covered.1
    where
      go : Held g c w ⊎ (Held g c w → ⊥) → Among covered.0 (c ∷ calls) → Assigned g w (after w) (c ∷ calls)
      go (inl h) m = latest (sym (over w lt h)) (subst (λ x. Held g x w) (sym (over w lt h)) h)
      go (inr n) (inl e) = absurd (n (subst (λ x. Held g x w) e covered.2))
      go (inr n) (inr m) = earlier n (subst (λ x. Assigned g w x calls) (sym (kept w lt n)) (owners w lt (covered.0, m, covered.2)))

  -- In the end the owner of each place holds it and is at the top: what it holds is a maximal structure.
  pub owners_top : Within g → (calls : List ℕ) (owner : ℕ → ℕ) → Fresh g calls → ((x : ℕ) → x < g.places → Covered g calls x) → Owners g calls owner →
      (w : ℕ) → w < g.places → Held g (owner w) w × Top g (owner w)
  owners_top within calls owner fresh all owners w lt =
      let a : Assigned g w (owner w) calls = owners w lt (all w lt) in
      (assigned_held a, assigned_top within fresh all lt a)

  pub owners_maximal : Within g → (calls : List ℕ) (owner : ℕ → ℕ) → Fresh g calls → ((x : ℕ) → x < g.places → Covered g calls x) → Owners g calls owner →
      (w : ℕ) → w < g.places → Maximal g (held g (owner w)) × (w ∈ held g (owner w))
  owners_maximal within calls owner fresh all owners w lt =
      let o = owners_top within calls owner fresh all owners w lt in
      let here : owner w < g.places = holder_place g within lt o.0 in
      (top_maximal g within (owner w) (held g (owner w)) (held_complete g within (owner w) here) o.1, (held_decides g within (owner w) w here).1 o.0)
