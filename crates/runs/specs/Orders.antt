-- What the sweeps lean on of the division, and the places that a sweep has yet to come to.
use Rattle.std.specs.Prelude.{◌≡◌, ℕ, ◌<◌, ◌≤◌, None, Option}
use Rattle.kinds.specs.Meaning.{Meaning}
use Rattle.runs.specs.Labels.{Sheet}
use Rattle.runs.specs.Nets.{Net}
use Rattle.runs.specs.Runs.{Everywhere}
use Rattle.runs.specs.Stages.{Member}
use Rattle.runs.specs.Sweeps.{Sweep}
use Rattle.structures.specs.Graphs.{Graph, Approach}

-- The trigger of each place, and the members in an order: `order i` for the positions i below `count`.
pub record Ordered (g : Graph) (trig order : ℕ → ℕ) (count : ℕ) : Type 0 where
  -- an open link into a member comes from its own structure
  pub inside : (u w : ℕ) → Approach g u w → Member trig w → trig u ≡ trig w
  -- the members stand in the order, and no others
  pub members : (i : ℕ) → i < count → (order i < g.places) × Member trig (order i)
  pub listed : (p : ℕ) → p < g.places → Member trig p → (i : ℕ) × (i < count) × (order i ≡ p)
  -- an open link between two members goes to a later position
  pub forward : (i j : ℕ) → i < count → j < count → Approach g (order i) (order j) → i < j

-- w is one of those meant, and stands in the order, not before position i.
pub record Ahead (order : ℕ → ℕ) (count : ℕ) (Of : ℕ → Type 0) (i w : ℕ) : Type 0 where
  pub position : ℕ
  pub not_before : i ≤ position
  pub counted : position < count
  pub stands : order position ≡ w
  pub meant : Of w

abbrev pub Nowhere : ℕ → Type 0
Nowhere p = ⊥

module _ {Cost Step : Type 0} (m : Meaning Cost Step) (net : Net Step) (trig : ℕ → ℕ) where
  -- Between sweeps: nothing is to do.
  abbrev pub Settled : (Taken : ℕ → Type 0) (floor : Option Cost) (L : Sheet Cost) → Type 0
  Settled Taken floor L = Sweep m net trig Taken Nowhere floor L

  -- The first sweep, in which nothing is taken yet, has come to position i.
  abbrev pub FirstSweep : (Taken : ℕ → Type 0) (order : ℕ → ℕ) (count i : ℕ) (L : Sheet Cost) → Type 0
  FirstSweep Taken order count i L = Sweep m net trig Taken (Ahead order count Everywhere i) None L

  -- The take of t has swept t, and has come to position i.
  abbrev pub TakeSweep : (Taken : ℕ → Type 0) (floor : Option Cost) (t : ℕ) (order : ℕ → ℕ) (count i : ℕ) (L : Sheet Cost) → Type 0
  TakeSweep Taken floor t order count i L = Sweep m net trig Taken (Ahead order count (λ w. trig w ≡ t) i) floor L
