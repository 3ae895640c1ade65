-- The triggers taken so far, in the order of the takes, and the triggers that wait in the queue.
use Rattle.std.specs.Prelude.{◌≡◌, ℕ, ◌<◌, true, false, Some, Option}
use Rattle.kinds.specs.Meaning.{Meaning}
use Rattle.runs.specs.Labels.{Sheet}
use Rattle.runs.specs.Nets.{Net}
use Rattle.runs.specs.Stages.{Own}

-- t is a reached trigger that is not taken, and none such costs less.
pub record Cheapest {Cost Step : Type 0} (m : Meaning Cost Step) (net : Net Step) (trig : ℕ → ℕ) (Taken : ℕ → Type 0) (L : Sheet Cost) (t : ℕ) : Type 0 where
  pub place : t < net.graph.places
  pub own : Own trig t
  pub waits : Taken t → ⊥
  pub reached : (L t).reached ≡ true
  pub least : (q : ℕ) → q < net.graph.places → Own trig q → (Taken q → ⊥) → (L q).reached ≡ true → m.less (L q).cost (L t).cost ≡ false

-- q stands in the list, at a position below `count`.
pub record Listed (list : ℕ → ℕ) (count q : ℕ) : Type 0 where
  pub position : ℕ
  pub counted : position < count
  pub stands : list position ≡ q

-- Each stands in the list once, and none before one whose label holds less.
pub record TakeList {Cost Step : Type 0} (m : Meaning Cost Step) (L : Sheet Cost) (list : ℕ → ℕ) (count : ℕ) : Type 0 where
  pub once : (i j : ℕ) → i < count → j < count → list i ≡ list j → i ≡ j
  pub rising : (i j : ℕ) → i < j → j < count → m.less (L (list j)).cost (L (list i)).cost ≡ false

-- Of the places below `bound`, exactly the reached triggers that are not taken wait in the queue, each at its label's cost.
pub record Queued {Cost : Type 0} (trig : ℕ → ℕ) (Taken : ℕ → Type 0) (bound : ℕ) (L : Sheet Cost) (at : ℕ → Option Cost) : Type 0 where
  pub waits : (q : ℕ) → q < bound → Own trig q → (Taken q → ⊥) → (L q).reached ≡ true → at q ≡ Some (L q).cost
  pub only : (q : ℕ) (c : Cost) → at q ≡ Some c → (q < bound) × Own trig q × (Taken q → ⊥) × ((L q).reached ≡ true) × ((L q).cost ≡ c)
