-- Operations in a row on a queue's state, and the law that the costs they hand out never fall.
use Rattle.std.specs.Prelude.{◌≡◌, ℕ, Bool, false, List, [], ◌∷◌, Some, None}
use Rattle.queues.specs.State.{State, cleared}
use Rattle.queues.specs.Offers.{offered}
use Rattle.queues.specs.Takes.{Took}

-- offers and takes, in any order and number, lead from s to t and hand out these costs, the latest first
pub data Run {Cost : Type 0} (less : Cost → Cost → Bool) (s : State Cost) : List Cost → State Cost → Type 0 where
  start : Run less s [] s
  offer : {costs : List Cost} {t : State Cost} (n : ℕ) (c : Cost) (u : State Cost) → u ≡ offered less t n c → Run less s costs t → Run less s costs u
  take : {costs : List Cost} {t : State Cost} (n : ℕ) (c : Cost) (u : State Cost) → Took less t (Some (n, c)) u → Run less s costs t → Run less s (c ∷ costs) u
  idle : {costs : List Cost} {t : State Cost} (u : State Cost) → Took less t None u → Run less s costs t → Run less s costs u

module _ {Cost : Type 0} (less : Cost → Cost → Bool) where
  -- none of the costs is above c
  abbrev pub NoneAbove : Cost → List Cost → Type 0
  NoneAbove c [] = Unit {0}
  NoneAbove c (d ∷ costs) = (less c d ≡ false) × NoneAbove c costs

  -- latest first, no cost is below an earlier one
  abbrev pub NeverFalls : List Cost → Type 0
  NeverFalls [] = Unit {0}
  NeverFalls (c ∷ costs) = NoneAbove c costs × NeverFalls costs

  -- from a cleared queue on, until it is cleared again
  abbrev pub CostsNeverFall : Type 0
  CostsNeverFall = (size : ℕ) (costs : List Cost) (t : State Cost) → Run less (cleared size) costs t → NeverFalls costs
