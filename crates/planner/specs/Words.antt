-- What is printed of a refusal.
use Rattle.std.specs.Prelude.{ℕ, List, codes}
use Rattle.planner.specs.declared.change.Refusal.{Refusal}
use Rattle.planner.specs.declared.change.Refusal.TheVariants.{UnknownNumber, TurnoutTooLong, StationsFull, AlreadySo}

abbrev pub refusal_words : Refusal → List ℕ
refusal_words UnknownNumber = codes "unknown number"
refusal_words TurnoutTooLong = codes "turnout too long"
refusal_words StationsFull = codes "stations full"
refusal_words AlreadySo = codes "already so"
