-- The complete structure from below: v, and each place that has approaches, all of them held.
use Rattle.std.proofs.Common.{◌≡◌, ℕ, ◌<◌, ◌≢◌, ◌⊎◌, sym, refl, subst, inl, inr}
use Rattle.structures.specs.Graphs.{Graph, Within, Approach}
use Rattle.structures.specs.Structures.{Chain, one, more}

pub data Held (g : Graph) (v : ℕ) : ℕ → Type 0 where
  root : {w : ℕ} → w ≡ v → Held g v w
  fed : {w : ℕ} (u : ℕ) → Approach g u w → ((x : ℕ) → Approach g x w → Held g v x) → Held g v w

-- An open link leads from a place to a place.
pub tail_place : (g : Graph) → Within g → (u w : ℕ) → Approach g u w → u < g.places
tail_place g within u w a = subst (λ x. x < g.places) a.from (within a.link a.known a.is_open).0

pub head_place : (g : Graph) → Within g → (u w : ℕ) → Approach g u w → w < g.places
head_place g within u w a = subst (λ x. x < g.places) a.to (within a.link a.known a.is_open).1

module _ (g : Graph) where
  -- Every place holds itself.
  pub held_self : (v : ℕ) → Held g v v
  held_self v = root refl

  -- What a held place holds is held.
  pub held_trans : {v u w : ℕ} → Held g v u → Held g u w → Held g v w
  held_trans {v} h (root e) = subst (Held g v) (sym e) h
  held_trans h (fed x a all) = fed x a (λ y b. held_trans h (all y b))

  -- Of two places that hold a common place, one holds the other.
  pub held_meet : {u v w : ℕ} → Held g u w → Held g v w → Held g u v ⊎ Held g v u
  held_meet {v = v} (root e) k = inr (subst (Held g v) e k)
  held_meet {u} (fed x a all) (root e) = inl (subst (Held g u) e (fed x a all))
  held_meet (fed x a all) (fed y b every) = held_meet (all x a) (every x a)

  -- A held place other than v has approaches, and all of them are held.
  pub held_approach : {v w : ℕ} → Held g v w → w ≢ v → (u : ℕ) × Approach g u w
  held_approach (root e) apart = absurd (apart e)
  held_approach (fed x a all) apart = (x, a)

  pub held_before : {v w : ℕ} → Held g v w → w ≢ v → (u : ℕ) → Approach g u w → Held g v u
  held_before (root e) apart u b = absurd (apart e)
  held_before (fed x a all) apart u b = all u b

  -- A place is held if it has an approach and all its approaches are.
  pub held_joins : {v : ℕ} (w u : ℕ) → Approach g u w → ((x : ℕ) → Approach g x w → Held g v x) → Held g v w
  held_joins w u a all = fed u a all

  -- A set with v that takes in each place with approaches, all of them in the set, holds all that v holds.
  pub held_least : {v w : ℕ} (B : ℕ → Type 0) → B v → ((x u : ℕ) → Approach g u x → ((y : ℕ) → Approach g y x → B y) → B x) → Held g v w → B w
  held_least B own takes (root e) = subst B (sym e) own
  held_least {w = w} B own takes (fed x a all) = takes w x a (λ y b. held_least B own takes (all y b))

  -- A set without v, each of whose places has an approach from the set, meets nothing that v holds.
  pub held_avoids : {v w : ℕ} (B : ℕ → Type 0) → ((x : ℕ) → B x → x ≢ v) → ((x : ℕ) → B x → (u : ℕ) × B u × Approach g u x) → Held g v w → B w → ⊥
  held_avoids {w = w} B apart back (root e) inside = apart w inside e
  held_avoids {w = w} B apart back (fed x a all) inside =
      let u = back w inside in
      held_avoids B apart back (all u.0 u.2) u.1

  module _ (within : Within g) where
    -- A place holds only places.
    pub held_place : {v w : ℕ} → v < g.places → Held g v w → w < g.places
    held_place lt (root e) = subst (λ x. x < g.places) (sym e) lt
    held_place {w = w} lt (fed x a all) = head_place g within x w a

    -- Only a place holds a place.
    pub holder_place : {v w : ℕ} → w < g.places → Held g v w → v < g.places
    holder_place lt (root e) = subst (λ x. x < g.places) e lt
    holder_place {w = w} lt (fed x a all) = holder_place (tail_place g within x w a) (all x a)

  module _ (In : ℕ → Type 0) where
    -- One more link at a chain's start.
    pub chain_from : {u x w : ℕ} → Approach g u x → In x → Chain g In x w → Chain g In u w
    chain_from {x = x} a inside (one b) = more x (one a) inside b
    chain_from a inside (more y c k b) = more y (chain_from a inside c) k b

    -- A loop among held places would go back for ever.
    pub held_loopless : {v w : ℕ} → ((x : ℕ) → In x → x ≢ v) → Held g v w → In w → Chain g In w w → ⊥
    held_loopless {w = w} apart (root e) inside c = apart w inside e
    held_loopless {w = w} apart (fed x a all) inside (one b) = held_loopless apart (all w b) inside (one b)
    held_loopless apart (fed x a all) inside (more y c k b) = held_loopless apart (all y b) k (chain_from b inside c)
