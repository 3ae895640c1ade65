-- What is proved of every map.
use Rattle.std.specs.Prelude.{◌≡◌, ℕ, ◌<◌, ◌≤◌, ◌⊎◌, List, length}
use Rattle.structures.specs.Graphs.{Graph, Within, turned}
use Rattle.structures.specs.Structures.{PlaceSet, ◌∈◌, ◌⊆◌, Complete, Maximal, Trigger, Governed}
use Rattle.structures.specs.Rivals.{Entry, Rival, TriggerList}
use Rattle.structures.specs.Computed.{held, trigger, triggers}

-- Every place has a complete structure, and only one.
pub record CompleteOnes (g : Graph) : Type 0 where
  pub each_place : (v : ℕ) → v < g.places → (S : PlaceSet) × Complete g v S
  pub one_only : (v : ℕ) (S R : PlaceSet) → Complete g v S → Complete g v R → (w : ℕ) → S w ≡ R w

abbrev pub CompleteStructures : Type 0
CompleteStructures = (g : Graph) → Within g → CompleteOnes g

-- A complete structure that holds a place contains that place's; of two that meet, one holds the other's place.
-- The maximal ones are disjoint, cover the map and have one trigger each.
pub record MaximalOnes (g : Graph) : Type 0 where
  pub nested : (u v : ℕ) (S R : PlaceSet) → Complete g u S → Complete g v R → u ∈ R → S ⊆ R
  pub meeting : (u v : ℕ) (S R : PlaceSet) → Complete g u S → Complete g v R → (w : ℕ) → w ∈ S → w ∈ R → (v ∈ S) ⊎ (u ∈ R)
  pub disjoint : (S R : PlaceSet) → Maximal g S → Maximal g R → (w : ℕ) → w ∈ S → w ∈ R → (x : ℕ) → S x ≡ R x
  pub cover : (w : ℕ) → w < g.places → (S : PlaceSet) × Maximal g S × (w ∈ S)
  pub one_trigger : (S : PlaceSet) → Maximal g S → (t : ℕ) × Trigger g S t × ((u : ℕ) → Trigger g S u → u ≡ t)

abbrev pub MaximalStructures : Type 0
MaximalStructures = (g : Graph) → Within g → MaximalOnes g

-- What is computed is what is defined.
pub record ComputedOnes (g : Graph) : Type 0 where
  pub held_complete : (v : ℕ) → v < g.places → Complete g v (held g v)
  pub trigger_governs : (p t : ℕ) → p < g.places → trigger g p ≡ t → Governed g p t
  pub governs_trigger : (p t : ℕ) → Governed g p t → trigger g p ≡ t
  pub counted : (ts : List ℕ) → TriggerList g ts → length ts ≡ triggers g
  pub countable : (ts : List ℕ) × TriggerList g ts

abbrev pub ComputedTriggers : Type 0
ComputedTriggers = (g : Graph) → Within g → ComputedOnes g

-- No rival division has fewer entries than there are triggers.
abbrev pub FewestTriggers : Type 0
FewestTriggers = (g : Graph) → Within g → (entries : List Entry) → Rival g entries → triggers g ≤ length entries

-- A turned map is such a map again, so all this holds of it too.
abbrev pub TurnedWithin : Type 0
TurnedWithin = (g : Graph) → Within g → Within (turned g)
