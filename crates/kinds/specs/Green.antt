-- When a signal is green, and the next green moment. Moments are tenths of a second, 0 the first.
use Rattle.std.specs.Prelude.{◌≡◌, ℕ, ◌+◌, ◌-◌, ◌*◌, ◌%◌, ◌<◌, ◌≤◌, if◌then◌else◌, nat_lt}
use Rattle.mapfile.specs.declared.signal.Signal.{Signal}

-- x less the green start, modulo the cycle. A signal starts within its first cycle, so taking the start off is adding what
-- the cycle has more than it: the sum stands at a moment before the start too.
abbrev pub phase_of : Signal → ℕ → ℕ
phase_of s x = (x + (s.cycle - s.start)) % s.cycle

abbrev pub Green : Signal → ℕ → Type 0
Green s x = phase_of s x < s.length

-- The same without a remainder: some green began d before x, and d is below the green length. Greens begin at the start and
-- every whole cycle later, and one began a cycle before the start: both sides are a cycle later for its sake.
abbrev pub Begun : Signal → ℕ → Type 0
Begun s x = (q : ℕ) × (d : ℕ) × (d < s.length) × (x + s.cycle ≡ s.start + q * s.cycle + d)

abbrev pub GreenIsBegun : Type 0
GreenIsBegun = (s : Signal) (x : ℕ) → (Green s x → Begun s x) × (Begun s x → Green s x)

-- y is the least green moment not before x
pub record NextGreen (s : Signal) (x y : ℕ) : Type 0 where
  pub green : Green s y
  pub not_before : x ≤ y
  pub none_between : (z : ℕ) → x ≤ z → z < y → Green s z → ⊥

-- a moment in the red waits for the rest of the cycle
abbrev pub next_green : Signal → ℕ → ℕ
next_green s x = x + (if nat_lt (phase_of s x) s.length then 0 else s.cycle - phase_of s x)
