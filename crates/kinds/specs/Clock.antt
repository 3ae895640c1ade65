-- Clock: the moment at which the place is reached, waits at signals included.
use Rattle.std.specs.Prelude.{◌≡◌, ℕ, ◌+◌, ◌≤◌, nat_lt, Some, None, Option}
use Rattle.kinds.specs.Cut.{top, cut}
use Rattle.kinds.specs.Delays.{elapsed_on}
use Rattle.kinds.specs.Green.{NextGreen, next_green}
use Rattle.kinds.specs.Meaning.{Meaning}
use Rattle.kinds.specs.declared.clock.ClockStep.{ClockStep}
use Rattle.mapfile.specs.declared.signal.Signal.{Signal}

-- y is the moment, not before x, at which the way is free
abbrev pub Free : Option Signal → ℕ → ℕ → Type 0
Free None x y = y ≡ x
Free (Some s) x y = NextGreen s x y

-- a step from the moment c leads to r: the free moment from the sum on, cut to the top
abbrev pub Arrives : ℕ → ClockStep → ℕ → Type 0
Arrives c s r = (y : ℕ) × Free s.signal (c + s.elapsed) y × (r ≡ cut y)

-- that moment, computed: without a signal nothing waits
abbrev pub waited : Option Signal → ℕ → ℕ
waited None x = x
waited (Some s) x = next_green s x

abbrev pub clock : Meaning ℕ ClockStep
clock =
    record {
      is_cost = λ c. c ≤ top;
      start = λ turnout. turnout;
      step = λ facts. record { elapsed = elapsed_on facts.link; signal = facts.signal };
      after = λ c s. cut (waited s.signal (c + s.elapsed));
      less = nat_lt;
    }

-- every step of the clock, over all moments
abbrev pub EachArrives : Type 0
EachArrives = (c : ℕ) (s : ClockStep) → Arrives c s (clock.after c s)
