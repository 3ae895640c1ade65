-- The refusal of a list that has not one entry for each place: its number among a planner's answers, and its text.
use Rattle.std.specs.Prelude.{ℕ, List, codes}

abbrev pub number : ℕ
number = 11

abbrev pub said : List ℕ
said = codes "list length"
