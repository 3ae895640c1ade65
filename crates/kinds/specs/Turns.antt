-- Time then turns: the sooner is cheaper, and of two equally soon the one with fewer turns.
use Rattle.std.specs.Prelude.{◌+◌, ◌≤◌, Bool, if◌then◌else◌, ◌==◌, nat_le, nat_lt}
use Rattle.kinds.specs.Cut.{top, cut}
use Rattle.kinds.specs.Delays.{elapsed_on}
use Rattle.kinds.specs.Meaning.{Meaning}
use Rattle.kinds.specs.declared.facts.LinkFacts.{LinkFacts}
use Rattle.kinds.specs.declared.turns.TimeAndTurns.{TimeAndTurns}
use Rattle.kinds.specs.declared.turns.TurnStep.{TurnStep}

-- a link of class 2 or more is a turn
abbrev pub turn_step : LinkFacts → TurnStep
turn_step facts = record { elapsed = elapsed_on facts.link; turn = nat_le 2 facts.link.class }

-- a time past the top is the greatest cost of all: the pair is cut as a whole
abbrev pub turns_after : TimeAndTurns → TurnStep → TimeAndTurns
turns_after c s =
    if nat_lt top (c.time + s.elapsed)
    then record { time = top; turns = top }
    else record { time = c.time + s.elapsed; turns = cut (c.turns + (if s.turn then 1 else 0)) }

abbrev pub turns_less : TimeAndTurns → TimeAndTurns → Bool
turns_less a b = if a.time == b.time then nat_lt a.turns b.turns else nat_lt a.time b.time

abbrev pub time_then_turns : Meaning TimeAndTurns TurnStep
time_then_turns =
    record {
      is_cost = λ c. (c.time ≤ top) × (c.turns ≤ top);
      start = λ turnout. record { time = turnout; turns = 0 };
      step = turn_step;
      after = turns_after;
      less = turns_less;
    }
