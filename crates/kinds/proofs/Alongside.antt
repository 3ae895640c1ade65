-- How the kinds stand to one another: each kind's step beside running time's.
use Rattle.std.proofs.Common.{◌≡◌, ℕ, ◌+◌, ◌≤◌, List, [], ◌∷◌, map, None, refl, ap, ◌∙◌, arith}
use Rattle.kinds.specs.Moments.{waited_not_before}
use Rattle.kinds.specs.Agreement.{SameTime, NeverEarlier, WithoutSignals}
use Rattle.kinds.specs.Clock.{waited, clock}
use Rattle.kinds.specs.Cut.{cut}
use Rattle.kinds.specs.Delays.{elapsed_on}
use Rattle.kinds.specs.Running.{running_time}
use Rattle.kinds.specs.Runs.{cost_from}
use Rattle.kinds.specs.Turns.{time_then_turns}
use Rattle.kinds.specs.declared.facts.LinkFacts.{LinkFacts}
use Rattle.kinds.specs.declared.turns.TimeAndTurns.{TimeAndTurns}
use Rattle.kinds.specs.declared.turns.TurnStep.{TurnStep}
use Rattle.std.proofs.lemmas.Bool.Decides.{nat_tests}
use Rattle.std.specs.List.{AllByRecursion}

same_time_after : (c : TimeAndTurns) (s : TurnStep) → (time_then_turns.after c s).time ≡ cut (c.time + s.elapsed)
same_time_after c s = grind (arith, nat_tests)

same_time_from :
    (c : TimeAndTurns) (n : ℕ) (links : List LinkFacts)
    → c.time ≡ n
    → (cost_from time_then_turns c (map time_then_turns.step links)).time ≡ cost_from running_time n (map running_time.step links)
same_time_from c n [] e = e
same_time_from c n (l ∷ links) e =
    same_time_from (time_then_turns.after c (time_then_turns.step l)) (running_time.after n (running_time.step l)) links
    (same_time_after c (time_then_turns.step l) ∙ ap (λ k. cut (k + elapsed_on l.link)) e)

pub same_time : SameTime
same_time turnout links = same_time_from (time_then_turns.start turnout) turnout links refl

never_earlier_from :
    (c n : ℕ) (links : List LinkFacts)
    → n ≤ c
    → cost_from running_time n (map running_time.step links) ≤ cost_from clock c (map clock.step links)
never_earlier_from c n [] h = h
never_earlier_from c n (l ∷ links) h =
    never_earlier_from (clock.after c (clock.step l)) (running_time.after n (running_time.step l)) links
    (omega (arith, waited_not_before l.signal (c + elapsed_on l.link)))

pub never_earlier : NeverEarlier
never_earlier turnout links = never_earlier_from turnout turnout links (omega arith)

without_signals_from :
    (c n : ℕ) (links : List LinkFacts)
    → c ≡ n → AllByRecursion (λ facts. facts.signal ≡ None) links
    → cost_from clock c (map clock.step links) ≡ cost_from running_time n (map running_time.step links)
without_signals_from c n [] e none = e
without_signals_from c n (l ∷ links) e none =
    without_signals_from (clock.after c (clock.step l)) (running_time.after n (running_time.step l)) links
    (ap (λ o. cut (waited o (c + elapsed_on l.link))) none.0 ∙ ap (λ k. cut (k + elapsed_on l.link)) e) none.1

pub without_signals : WithoutSignals
without_signals turnout links none = without_signals_from turnout turnout links refl none
