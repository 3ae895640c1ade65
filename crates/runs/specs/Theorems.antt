-- What is proved of every kind of cost.
use Rattle.std.specs.Prelude.{◌≡◌, ℕ, ◌<◌, true, false, List, reverse, Some}
use Rattle.kinds.specs.Meaning.{Meaning}
use Rattle.runs.specs.Computed.{balanced}
use Rattle.runs.specs.Labels.{Sheet, unreached, Meets}
use Rattle.runs.specs.Least.{Least}
use Rattle.runs.specs.Nets.{Net, Open, Lawful}
use Rattle.runs.specs.Orders.{Ordered}
use Rattle.runs.specs.Runs.{Run, Everywhere, Reaches, Driven}
use Rattle.runs.specs.Searches.{Search}
use Rattle.runs.specs.Stages.{Stage, Own, Leaves}
use Rattle.runs.specs.Takes.{Listed, TakeList}
use Rattle.runs.specs.Traces.{WalkBack, Traced, Found}

module _ {Cost Step : Type 0} (m : Meaning Cost Step) where
  -- Runs are what is driven: their links in the order of driving lead from a station on, at the cost of their steps.
  pub record RunsDriven (net : Net Step) (links : List ℕ) (p : ℕ) (c : Cost) : Type 0 where
    pub run_driven : Run m net Everywhere links p c → Driven m net (reverse links) p c
    pub driven_run : Driven m net links p c → Run m net Everywhere (reverse links) p c

  abbrev pub RunsAreDriven : Type 0
  RunsAreDriven = (net : Net Step) (links : List ℕ) (p : ℕ) (c : Cost) → RunsDriven net links p c

  -- A search at its end: the stage of the taken triggers, in which no reached trigger is left to take.
  pub record Ended (net : Net Step) (trig list : ℕ → ℕ) (takes : ℕ) (L : Sheet Cost) : Type 0 where
    pub stage : Stage m net (Leaves trig (Listed list takes)) L
    pub traced : Traced m net L
    pub take_list : TakeList m L list takes
    pub taken_reached : (t : ℕ) → Listed list takes t → (t < net.graph.places) × Own trig t × ((L t).reached ≡ true)
    pub all_taken : (t : ℕ) → t < net.graph.places → Own trig t → (L t).reached ≡ true → Listed list takes t

  -- What the search has then found.
  pub record Solved (net : Net Step) (trig list : ℕ → ℕ) (takes : ℕ) (L : Sheet Cost) : Type 0 where
    -- each label holds the least cost of all drivable runs to its place, and is the unreached one where there is none
    pub least : Stage m net Everywhere L
    -- each walk back is a run of that cost, and there is no other walk back
    pub found : (p : ℕ) → p < net.graph.places → (L p).reached ≡ true → Found m net L p
    pub one_walk : (p : ℕ) (links others : List ℕ) → WalkBack net.graph L links p → WalkBack net.graph L others p → links ≡ others
    -- the taken triggers are exactly those that runs reach, each once, none before one cheaper to reach
    pub taken_runs : (t : ℕ) → Listed list takes t → Own trig t × ((c : Cost) × Reaches m net Everywhere t c)
    pub runs_taken : (t : ℕ) (c : Cost) → Own trig t → Reaches m net Everywhere t c → Listed list takes t
    pub once : (i j : ℕ) → i < takes → j < takes → list i ≡ list j → i ≡ j
    pub rising :
        (i j : ℕ) (c d : Cost) → i < j → j < takes
        → Least m (Reaches m net Everywhere (list i)) c → Least m (Reaches m net Everywhere (list j)) d → m.less d c ≡ false

  abbrev pub SearchSolves : Type 0
  SearchSolves =
      (net : Net Step) → Lawful net → (trig list : ℕ → ℕ) (takes : ℕ) (L : Sheet Cost) → Ended net trig list takes L → Solved net trig list takes L

  -- After each take the sheet is at the stage of the triggers taken so far, and the search is at its end when no reached trigger is left.
  pub record Searched (net : Net Step) (trig list : ℕ → ℕ) (takes : ℕ) (L : Sheet Cost) : Type 0 where
    pub stage : Stage m net (Leaves trig (Listed list takes)) L
    pub ended : ((t : ℕ) → t < net.graph.places → Own trig t → (L t).reached ≡ true → Listed list takes t) → Ended net trig list takes L

  abbrev pub SearchStages : Type 0
  SearchStages =
      (net : Net Step) → Lawful net → (trig order : ℕ → ℕ) (count : ℕ) → Ordered net.graph trig order count
      → (list : ℕ → ℕ) (takes : ℕ) (L : Sheet Cost) → Search m net trig order count list takes L → Searched net trig list takes L

  -- A sheet on which stations and links are met, so that no link would lower a label, and each of whose reached labels some run attains.
  pub record Balanced (net : Net Step) (May : ℕ → Type 0) (L : Sheet Cost) : Type 0 where
    pub stations : (p turnout : ℕ) → net.station p ≡ Some turnout → ((L p).reached ≡ true) × (m.less (m.start turnout) (L p).cost ≡ false)
    pub met :
        (k : ℕ) → Open net.graph k → May (net.graph.tail k) → (L (net.graph.tail k)).reached ≡ true
        → Meets m net L (L (net.graph.tail k)).cost k
    pub attained : (p : ℕ) → p < net.graph.places → (L p).reached ≡ true → Reaches m net May p (L p).cost
    pub blank : (p : ℕ) → p < net.graph.places → (L p).reached ≡ false → L p ≡ unreached m

  -- It holds the least costs of all runs.
  abbrev pub BalancedLeast : Type 0
  BalancedLeast = (net : Net Step) → Lawful net → (L : Sheet Cost) → Balanced net Everywhere L → Stage m net Everywhere L

  -- So does one that passes the tests, and its walks back are runs of those costs.
  pub record Tested (net : Net Step) (L : Sheet Cost) : Type 0 where
    pub least : Stage m net Everywhere L
    pub found : (p : ℕ) → p < net.graph.places → (L p).reached ≡ true → Found m net L p

  abbrev pub BalanceTested : Type 0
  BalanceTested = (net : Net Step) → Lawful net → (L : Sheet Cost) → balanced m net L ≡ true → Tested net L
