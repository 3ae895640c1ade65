-- What a queue means, and the changes that its calls make.
use Rattle.std.specs.Prelude.{ℕ, ◌+◌, ◌-◌, min, if◌then◌else◌, Some, None, Option, ◌==◌}

pub record State (Cost : Type 0) : Type 0 where
  -- the cost at which a number waits, if it waits
  pub at : ℕ → Option Cost
  -- how many numbers wait
  pub waiting : ℕ
  -- the cost last taken, if there is one
  pub floor : Option Cost
  -- the takes since clearing
  pub takes : ℕ
  -- the most that may wait
  pub size : ℕ

module _ {Cost : Type 0} where
  -- `at`, but for the number n
  abbrev pub put : (ℕ → Option Cost) → ℕ → Option Cost → ℕ → Option Cost
  put at n o m = if m == n then o else at m

  abbrev pub cleared : ℕ → State Cost
  cleared size = record { at = λ _. None; waiting = 0; floor = None; takes = 0; size = size }

  -- n waits at c; it did not wait before
  abbrev pub added : State Cost → ℕ → Cost → State Cost
  added s n c = record { at = put s.at n (Some c); waiting = s.waiting + 1; floor = s.floor; takes = s.takes; size = s.size }

  -- n waits at c; it waited before
  abbrev pub lowered : State Cost → ℕ → Cost → State Cost
  lowered s n c = record { at = put s.at n (Some c); waiting = s.waiting; floor = s.floor; takes = s.takes; size = s.size }

  -- n, which waited at c, is taken
  abbrev pub taken : State Cost → ℕ → Cost → State Cost
  taken s n c = record {
    at = put s.at n None;
    waiting = s.waiting - 1;
    floor = Some c;
    takes = min (s.takes + 1) 4294967295;
    size = s.size;
  }
