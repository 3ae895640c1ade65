-- A small map, worked out: a loop of links that cost nothing, two stations, and a place that no run reaches.
use Rattle.std.specs.Prelude.{ℕ, List, [], ◌∷◌, Some, None, Option, slice_index, slice_index_or}
use Rattle.kinds.specs.Running.{running_time}
use Rattle.runs.specs.Labels.{Sheet, sheet, unreached, started, arrived}
use Rattle.runs.specs.Nets.{Net, Lawful}
use Rattle.runs.specs.Theorems.{Tested}
use Rattle.structures.specs.Worked.{five}

-- Links 0 → 1, 0 → 2, 1 → 2, 2 → 3, 3 → 1, 3 → 4; stations at 2 and 4.
abbrev pub stations : List (Option ℕ)
stations = None ∷ None ∷ Some 60 ∷ None ∷ Some 62 ∷ []

abbrev pub net_of_five : Net ℕ
net_of_five = record {
  graph = five;
  step = λ k. slice_index (10 ∷ 40 ∷ 0 ∷ 0 ∷ 0 ∷ 1 ∷ []) k;
  station = λ p. slice_index_or stations p None;
}

abbrev pub sheet_of_five : Sheet ℕ
sheet_of_five = sheet running_time (unreached running_time ∷ arrived 60 4 ∷ started running_time 60 ∷ arrived 60 3 ∷ arrived 61 5 ∷ [])

pub record WorkedSheet : Type 0 where
  pub lawful : Lawful net_of_five
  pub tested : Tested running_time net_of_five sheet_of_five
