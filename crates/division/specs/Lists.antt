-- A list of numbers by its positions.
use Rattle.std.specs.Prelude.{ℕ, List, slice_index}

abbrev pub at : List ℕ → ℕ → ℕ
at xs i = slice_index xs i
