-- The list of triggers that is printed: of each place of the map its trigger, and how many triggers there are.
use Rattle.std.specs.Prelude.{◌≡◌, ℕ, ◌<◌, List, length, slice_index}
use Rattle.structures.specs.Computed.{trigger, triggers}
use Rattle.structures.specs.Graphs.{Graph}

pub record Lists (g : Graph) (list : List ℕ) (count : ℕ) : Type 0 where
  pub long : length list ≡ g.places
  pub each : (p : ℕ) → p < g.places → slice_index list p ≡ trigger g p
  pub counted : count ≡ triggers g
