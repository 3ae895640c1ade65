-- The number of each refusal.
use Rattle.std.specs.Prelude.{ℕ}
use Rattle.planner.specs.declared.change.Refusal.{Refusal}
use Rattle.planner.specs.declared.change.Refusal.TheVariants.{UnknownNumber, TurnoutTooLong, StationsFull, AlreadySo}

abbrev pub number : Refusal → ℕ
number UnknownNumber = 7
number TurnoutTooLong = 8
number StationsFull = 9
number AlreadySo = 10
