-- How many places have a station.
use Rattle.std.specs.Prelude.{ℕ, ◌+◌, if◌then◌else◌, List, [], ◌∷◌, is_some, Option}

abbrev pub stationed : List (Option ℕ) → ℕ
stationed [] = 0
stationed (s ∷ ss) = (if is_some s then 1 else 0) + stationed ss
