-- Stages of the search: which places may be left, and what a sheet holds then.
use Rattle.std.specs.Prelude.{◌≡◌, ℕ, ◌<◌, true, false, ◌≢◌, ◌⊎◌}
use Rattle.kinds.specs.Meaning.{Meaning}
use Rattle.runs.specs.Labels.{Sheet, unreached}
use Rattle.runs.specs.Least.{Least}
use Rattle.runs.specs.Nets.{Net}
use Rattle.runs.specs.Runs.{Reaches}

-- Each label holds the least cost of the runs to its place that leave only places of May, and is the unreached one where there is none.
pub record Stage {Cost Step : Type 0} (m : Meaning Cost Step) (net : Net Step) (May : ℕ → Type 0) (L : Sheet Cost) : Type 0 where
  pub least : (p : ℕ) → p < net.graph.places → (L p).reached ≡ true → Least m (Reaches m net May p) (L p).cost
  pub none : (p : ℕ) → p < net.graph.places → (L p).reached ≡ false → (c : Cost) → Reaches m net May p c → ⊥
  pub blank : (p : ℕ) → p < net.graph.places → (L p).reached ≡ false → L p ≡ unreached m

-- p is its own trigger.
abbrev pub Own : (ℕ → ℕ) → ℕ → Type 0
Own trig p = trig p ≡ p

-- p is a member of a structure and not its trigger.
abbrev pub Member : (ℕ → ℕ) → ℕ → Type 0
Member trig p = trig p ≢ p

-- The places that may be left once some triggers are taken: the members, and the taken triggers.
abbrev pub Leaves : (ℕ → ℕ) → (ℕ → Type 0) → ℕ → Type 0
Leaves trig Taken p = Member trig p ⊎ Taken p
