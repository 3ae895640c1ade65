-- Runs: from a station along open links, each from where the one before ended.
use Rattle.std.specs.Prelude.{◌≡◌, ℕ, List, [], ◌∷◌, map, Some}
use Rattle.kinds.specs.Meaning.{Meaning}
use Rattle.kinds.specs.Runs.{run_cost}
use Rattle.runs.specs.Nets.{Net, Open}
use Rattle.structures.specs.Graphs.{Graph}

-- `Run m net May links place cost`: the links, the latest first, are a run that ends at the place, costs that much and leaves only places of May.
pub data Run {Cost Step : Type 0} (m : Meaning Cost Step) (net : Net Step) (May : ℕ → Type 0) : List ℕ → ℕ → Cost → Type 0 where
  -- it starts at a station, at the cost of the turnout
  start : {p : ℕ} {cost : Cost} (turnout : ℕ) → net.station p ≡ Some turnout → cost ≡ m.start turnout → Run m net May [] p cost
  -- it follows one open link more, from the place where it ended
  follow :
      {links : List ℕ} {p : ℕ} {cost : Cost} (k : ℕ) (before : Cost)
      → Open net.graph k → net.graph.head k ≡ p → May (net.graph.tail k) → cost ≡ m.after before (net.step k)
      → Run m net May links (net.graph.tail k) before → Run m net May (k ∷ links) p cost

-- A drivable run may leave every place.
abbrev pub Everywhere : ℕ → Type 0
Everywhere p = Unit {0}

-- Some such run reaches the place at that cost.
abbrev pub Reaches : {Cost Step : Type 0} → Meaning Cost Step → Net Step → (ℕ → Type 0) → ℕ → Cost → Type 0
Reaches m net May p cost = (links : List ℕ) × Run m net May links p cost

-- The links, in the order of driving, lead from p to q, and all of them are open.
abbrev pub Leads : Graph → ℕ → List ℕ → ℕ → Type 0
Leads g p [] q = p ≡ q
Leads g p (k ∷ links) q = Open g k × (g.tail k ≡ p) × Leads g (g.head k) links q

-- The links, in the order of driving, lead from a station to q, at the cost of their steps after its turnout.
pub record Driven {Cost Step : Type 0} (m : Meaning Cost Step) (net : Net Step) (links : List ℕ) (q : ℕ) (cost : Cost) : Type 0 where
  pub from : ℕ
  pub turnout : ℕ
  pub station : net.station from ≡ Some turnout
  pub leads : Leads net.graph from links q
  pub costs : cost ≡ run_cost m turnout (map net.step links)
