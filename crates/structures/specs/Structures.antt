-- Structures of a place: complete ones, maximal ones and their triggers.
use Rattle.std.specs.Prelude.{◌≡◌, ℕ, ◌<◌, ◌≤◌, Bool, true, ◌≢◌}
use Rattle.structures.specs.Graphs.{Graph, Approach}

-- A set of places, by its test.
abbrev pub PlaceSet : Type 0
PlaceSet = ℕ → Bool

infix 50 ◌∈◌
infix 50 ◌⊆◌
abbrev pub ◌∈◌ : ℕ → PlaceSet → Type 0
w ∈ S = S w ≡ true

abbrev pub ◌⊆◌ : PlaceSet → PlaceSet → Type 0
S ⊆ R = (w : ℕ) → w ∈ S → w ∈ R

-- w lies in S and is not v.
abbrev pub Other : ℕ → PlaceSet → ℕ → Type 0
Other v S w = (w ∈ S) × (w ≢ v)

-- One open link after another from u to w, at least one; each place on the way between them is in In.
pub data Chain (g : Graph) (In : ℕ → Type 0) (u : ℕ) : ℕ → Type 0 where
  one : {w : ℕ} → Approach g u w → Chain g In u w
  more : {w : ℕ} (x : ℕ) → Chain g In u x → In x → Approach g x w → Chain g In u w

-- A chain from a place back to itself, all of whose places are in In.
pub record Loop (g : Graph) (In : ℕ → Type 0) : Type 0 where
  pub at : ℕ
  pub inside : In at
  pub back : Chain g In at at

-- S is a structure of the place v.
pub record Structure (g : Graph) (v : ℕ) (S : PlaceSet) : Type 0 where
  pub holds_its_place : v ∈ S
  pub holds_places : (w : ℕ) → w ∈ S → w < g.places
  pub no_loop : Loop g (Other v S) → ⊥
  pub approached : (w : ℕ) → Other v S w → (u : ℕ) × Approach g u w
  pub from_inside : (u w : ℕ) → Other v S w → Approach g u w → u ∈ S

-- S is the greatest structure of v.
pub record Complete (g : Graph) (v : ℕ) (S : PlaceSet) : Type 0 where
  pub structure : Structure g v S
  pub greatest : (R : PlaceSet) → Structure g v R → R ⊆ S

-- S is a complete structure that no larger one contains.
pub record Maximal (g : Graph) (S : PlaceSet) : Type 0 where
  pub place : ℕ
  pub complete : Complete g place S
  pub not_below : (u : ℕ) (R : PlaceSet) → Complete g u R → S ⊆ R → R ⊆ S

-- t is the lowest place of which S is the complete structure.
pub record Trigger (g : Graph) (S : PlaceSet) (t : ℕ) : Type 0 where
  pub complete : Complete g t S
  pub lowest : (u : ℕ) → Complete g u S → t ≤ u

-- p lies in a maximal structure whose trigger is t.
pub record Governed (g : Graph) (p t : ℕ) : Type 0 where
  pub structure : PlaceSet
  pub maximal : Maximal g structure
  pub holds : p ∈ structure
  pub trigger : Trigger g structure t
