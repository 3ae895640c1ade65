-- How the kinds stand to one another, over any list of links.
use Rattle.std.specs.Prelude.{◌≡◌, ℕ, ◌≤◌, List, map, None}
use Rattle.kinds.specs.Clock.{clock}
use Rattle.kinds.specs.Running.{running_time}
use Rattle.kinds.specs.Meaning.{Meaning}
use Rattle.kinds.specs.Runs.{run_cost}
use Rattle.kinds.specs.Turns.{time_then_turns}
use Rattle.kinds.specs.declared.facts.LinkFacts.{LinkFacts}
use Rattle.std.specs.List.{AllByRecursion}

-- the cost of a run along links
abbrev pub along : {Cost Step : Type 0} → Meaning Cost Step → ℕ → List LinkFacts → Cost
along m turnout links = run_cost m turnout (map m.step links)

-- the time of time then turns is the running time
abbrev pub SameTime : Type 0
SameTime = (turnout : ℕ) (links : List LinkFacts) → (along time_then_turns turnout links).time ≡ along running_time turnout links

-- no moment of the clock is before the running time
abbrev pub NeverEarlier : Type 0
NeverEarlier = (turnout : ℕ) (links : List LinkFacts) → along running_time turnout links ≤ along clock turnout links

-- and where no link ends at a signal, it is the running time
abbrev pub WithoutSignals : Type 0
WithoutSignals =
    (turnout : ℕ) (links : List LinkFacts) → AllByRecursion (λ facts. facts.signal ≡ None) links
    → along clock turnout links ≡ along running_time turnout links
