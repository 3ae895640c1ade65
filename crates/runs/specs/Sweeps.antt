-- Sweeps: what following the links of one place does to a sheet, and what holds of the sheet between two places.
use Rattle.std.specs.Prelude.{◌≡◌, ℕ, ◌<◌, true, false, ◌⊎◌, Some, None, Option}
use Rattle.kinds.specs.Meaning.{Meaning}
use Rattle.runs.specs.Labels.{Sheet, unreached, arrived, Meets}
use Rattle.runs.specs.Nets.{Net, Open}
use Rattle.runs.specs.Runs.{Reaches}
use Rattle.runs.specs.Stages.{Own, Leaves}
use Rattle.runs.specs.Traces.{Traced}

module _ {Cost Step : Type 0} (m : Meaning Cost Step) (net : Net Step) where
  -- Every open link out of p is met.
  abbrev pub MeetsAll : Sheet Cost → ℕ → Type 0
  MeetsAll L p = (k : ℕ) → Open net.graph k → net.graph.tail k ≡ p → Meets m net L (L p).cost k

  -- From L to M the label of w was lowered by an open link out of p: w was not reached, or at more.
  pub record Lowered (L : Sheet Cost) (p : ℕ) (M : Sheet Cost) (w : ℕ) : Type 0 where
    pub link : ℕ
    pub is_open : Open net.graph link
    pub from : net.graph.tail link ≡ p
    pub to : net.graph.head link ≡ w
    pub becomes : M w ≡ arrived (m.after (L p).cost (net.step link)) link
    pub lower : (L w).reached ≡ true → m.less (m.after (L p).cost (net.step link)) (L w).cost ≡ true

  -- From L to M the place p, which is reached, was swept: its open links are met, and each label is as it was or was lowered by one of them.
  pub record Swept (L : Sheet Cost) (p : ℕ) (M : Sheet Cost) : Type 0 where
    pub met : (k : ℕ) → Open net.graph k → net.graph.tail k ≡ p → Meets m net M (L p).cost k
    pub change : (w : ℕ) → (M w ≡ L w) ⊎ Lowered L p M w

-- The cost is not under the floor, if there is one; it is not over the floor, and there is one.
module _ {Cost Step : Type 0} (m : Meaning Cost Step) where
  abbrev pub NotUnder : Option Cost → Cost → Type 0
  NotUnder None c = Unit {0}
  NotUnder (Some f) c = m.less c f ≡ false

  abbrev pub NotOver : Option Cost → Cost → Type 0
  NotOver None c = ⊥
  NotOver (Some f) c = m.less f c ≡ false

-- What holds within the first sweep (no trigger is taken, there is no floor) and within a take (the trigger just taken counts as taken, its cost is
-- the floor), while the places of Todo are still to be swept; and between them, when nothing is to do.
pub record Sweep
    {Cost Step : Type 0} (m : Meaning Cost Step) (net : Net Step) (trig : ℕ → ℕ) (Taken Todo : ℕ → Type 0) (floor : Option Cost) (L : Sheet Cost)
    : Type 0
  where
    -- a station's place is reached at no more than its start
    pub stations : (p turnout : ℕ) → net.station p ≡ Some turnout → ((L p).reached ≡ true) × (m.less (m.start turnout) (L p).cost ≡ false)
    -- a reached label is what some run costs that leaves only members and taken triggers
    pub attained : (p : ℕ) → p < net.graph.places → (L p).reached ≡ true → Reaches m net (Leaves trig Taken) p (L p).cost
    -- of those that are reached each is to do, and not under the floor, or its links are met
    pub met :
        (p : ℕ) → p < net.graph.places → Leaves trig Taken p → (L p).reached ≡ true → (Todo p × NotUnder m floor (L p).cost) ⊎ MeetsAll m net L p
    -- taken triggers are not over the floor
    pub taken : (p : ℕ) → Taken p → (p < net.graph.places) × Own trig p × ((L p).reached ≡ true) × NotOver m floor (L p).cost
    -- triggers that wait are not under it
    pub waiting : (p : ℕ) → p < net.graph.places → Own trig p → (Taken p → ⊥) → (L p).reached ≡ true → NotUnder m floor (L p).cost
    pub blank : (p : ℕ) → p < net.graph.places → (L p).reached ≡ false → L p ≡ unreached m
    pub traced : Traced m net L
