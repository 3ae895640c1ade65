-- What a division answers, and what its lists hold afterwards.
use Rattle.std.specs.Prelude.{◌≡◌, ℕ, ◌-◌, ◌<◌, ◌≤◌, ◌≢◌, List, length, slice_index_or, Ok, Err, Result}
use Rattle.structures.specs.Graphs.{Graph, Approach}
use Rattle.structures.specs.Computed.{trigger, triggers}
use Rattle.division.specs.declared.answer.Division.{Division}
use Rattle.division.specs.declared.answer.Stretch.{Stretch}
use Rattle.division.specs.declared.answer.ListLength.{ListLength}
use Rattle.division.specs.Lists.{at}

-- p is a place and no trigger.
abbrev pub Inner : Graph → ℕ → Type 0
Inner g p = (p < g.places) × (p ≢ trigger g p)

-- How many places are no triggers.
abbrev pub inner : Graph → ℕ
inner g = g.places - triggers g

-- The trigger list: for each place its trigger.
abbrev pub TriggerEntries : Graph → List ℕ → Type 0
TriggerEntries g list = (p : ℕ) → p < g.places → at list p ≡ trigger g p

-- The stretch of a trigger.
abbrev pub stretch_at : List Stretch → ℕ → Stretch
stretch_at stretches t = slice_index_or stretches t (record { begin = 0; end = 0 })

-- Position i is in the stretch of t.
abbrev pub InStretch : List Stretch → ℕ → ℕ → Type 0
InStretch stretches t i = ((stretch_at stretches t).begin ≤ i) × (i < (stretch_at stretches t).end)

-- The order list: first the places that are no triggers.
pub record OrderEntries (g : Graph) (was list : List ℕ) (stretches : List Stretch) : Type 0 where
  -- they are no triggers, all of them are there, and each once
  pub inner_only : (i : ℕ) → i < inner g → Inner g (at list i)
  pub complete : (p : ℕ) → Inner g p → (i : ℕ) × (i < inner g) × (at list i ≡ p)
  pub once : (i j : ℕ) → i < inner g → j < inner g → at list i ≡ at list j → i ≡ j
  -- an open link between two of them goes from an earlier to a later one
  pub forward : (i j : ℕ) → i < inner g → j < inner g → Approach g (at list i) (at list j) → i < j
  -- the stretch of a trigger has exactly the positions of its structure
  pub stretch_only : (t i : ℕ) → t < g.places → trigger g t ≡ t → InStretch stretches t i → (i < inner g) × (trigger g (at list i) ≡ t)
  pub stretch_all : (t i : ℕ) → t < g.places → trigger g t ≡ t → i < inner g → trigger g (at list i) ≡ t → InStretch stretches t i
  -- later entries are as they were
  pub kept : (i : ℕ) → inner g ≤ i → at list i ≡ at was i

-- Each list has an entry for each place.
abbrev pub Fitting : Graph → List ℕ → List ℕ → Type 0
Fitting g triggers order = (length triggers ≡ g.places) × (length order ≡ g.places)

-- The division's answer and lists: refused exactly when a list does not fit, and then the lists are as they were.
abbrev pub Divided : Graph → (before after : List ℕ × List ℕ) → Result Division ListLength → Type 0
Divided g before after (Ok d) =
    Fitting g before.0 before.1 × TriggerEntries g after.0 × OrderEntries g before.1 after.1 d.stretches × (d.count ≡ triggers g)
Divided g before after (Err e) = (Fitting g before.0 before.1 → ⊥) × (after.0 ≡ before.0) × (after.1 ≡ before.1)
