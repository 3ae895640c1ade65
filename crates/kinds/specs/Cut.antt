-- The greatest cost number, and the cut to it.
use Rattle.std.specs.Prelude.{ℕ, min}

abbrev pub top : ℕ
top = 4294967295

abbrev pub cut : ℕ → ℕ
cut n = min n top
