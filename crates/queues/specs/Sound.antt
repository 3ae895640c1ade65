-- What holds of the state of every well-kept queue: as many wait as it says, and no more than its size.
use Rattle.std.specs.Prelude.{◌≡◌, ℕ, ◌<◌, ◌≤◌, true, is_some}
use Rattle.queues.specs.State.{State}

pub record Sound {Cost : Type 0} (s : State Cost) : Type 0 where
  -- the numbers waiting, at the places below `waiting`: all of them, each once
  pub listed : ℕ → ℕ
  pub waits : (k : ℕ) → k < s.waiting → is_some (s.at (listed k)) ≡ true
  pub once : (j k : ℕ) → j < s.waiting → k < s.waiting → listed j ≡ listed k → j ≡ k
  pub every : (n : ℕ) → is_some (s.at n) ≡ true → (k : ℕ) × (k < s.waiting) × (listed k ≡ n)
  pub room : s.waiting ≤ s.size
