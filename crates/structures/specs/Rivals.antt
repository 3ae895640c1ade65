-- Rival divisions, and lists of triggers.
use Rattle.std.specs.Prelude.{◌≡◌, ℕ, ◌<◌, ◌⊎◌, List, [], ◌∷◌}
use Rattle.structures.specs.Graphs.{Graph}
use Rattle.structures.specs.Structures.{PlaceSet, ◌∈◌, Structure, Maximal, Trigger}

-- x stands in the list.
abbrev pub Among : {X : Type 0} → X → List X → Type 0
Among x [] = ⊥
Among x (y ∷ ys) = (x ≡ y) ⊎ Among x ys

-- No number stands in the list twice.
abbrev pub Once : List ℕ → Type 0
Once [] = Unit
Once (x ∷ xs) = (Among x xs → ⊥) × Once xs

pub record Entry : Type 0 where
  pub place : ℕ
  pub set : PlaceSet

-- Structures, complete or not, that together hold every place. The place of each entry is its trigger.
pub record Rival (g : Graph) (entries : List Entry) : Type 0 where
  pub structures : (e : Entry) → Among e entries → Structure g e.place e.set
  pub all_held : (p : ℕ) → p < g.places → (e : Entry) × Among e entries × (p ∈ e.set)

-- The triggers of the maximal structures, each once.
pub record TriggerList (g : Graph) (ts : List ℕ) : Type 0 where
  pub once : Once ts
  pub triggers : (t : ℕ) → Among t ts → (S : PlaceSet) × Maximal g S × Trigger g S t
  pub all_listed : (t : ℕ) (S : PlaceSet) → Maximal g S → Trigger g S t → Among t ts
