-- What a take hands out, and what it leaves.
use Rattle.std.specs.Prelude.{◌≡◌, ℕ, ◌<◌, ◌≤◌, Bool, false, Some, None, Option}
use Rattle.queues.specs.State.{State, taken}

-- n waits at c, no number waits at less, and none below n at the same
pub record Least {Cost : Type 0} (less : Cost → Cost → Bool) (s : State Cost) (n : ℕ) (c : Cost) : Type 0 where
  pub waits : s.at n ≡ Some c
  pub least : (m : ℕ) (d : Cost) → s.at m ≡ Some d → less d c ≡ false
  pub lowest : (m : ℕ) → s.at m ≡ Some c → n ≤ m

-- a take from s answers, and leaves t
abbrev pub Took : {Cost : Type 0} → (Cost → Cost → Bool) → State Cost → Option (ℕ × Cost) → State Cost → Type 0
Took less s None t = (s.waiting ≡ 0) × (t ≡ s)
Took less s (Some x) t = (0 < s.waiting) × Least less s x.0 x.1 × (t ≡ taken s x.0 x.1)
