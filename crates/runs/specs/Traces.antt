-- Arriving links, and the walk back along them.
use Rattle.std.specs.Prelude.{◌≡◌, ℕ, ◌<◌, true, false, List, [], ◌∷◌, length, Some, None}
use Rattle.kinds.specs.Meaning.{Meaning}
use Rattle.runs.specs.Labels.{Sheet}
use Rattle.runs.specs.Nets.{Net, Open}
use Rattle.runs.specs.Runs.{Run, Everywhere}
use Rattle.structures.specs.Graphs.{Graph}

-- `WalkBack g L links p`: from p, on from each arriving link at its tail, as far as a label without a link. The links are met in this order.
pub data WalkBack {Cost : Type 0} (g : Graph) (L : Sheet Cost) : List ℕ → ℕ → Type 0 where
  ends : {p : ℕ} → (L p).reached ≡ true → (L p).link ≡ None → WalkBack g L [] p
  back :
      {links : List ℕ} {p : ℕ} (k : ℕ)
      → (L p).reached ≡ true → (L p).link ≡ Some k → g.head k ≡ p → WalkBack g L links (g.tail k) → WalkBack g L (k ∷ links) p

-- A walk back whose labels come from somewhere: the last from a station's start, each other from an open link, at no less than the cost after that
-- link's step from the label, as it now is, at the link's tail.
pub data Trace {Cost Step : Type 0} (m : Meaning Cost Step) (net : Net Step) (L : Sheet Cost) : List ℕ → ℕ → Type 0 where
  origin :
      {p : ℕ} (turnout : ℕ)
      → (L p).reached ≡ true → (L p).link ≡ None → net.station p ≡ Some turnout → (L p).cost ≡ m.start turnout → Trace m net L [] p
  onward :
      {links : List ℕ} {p : ℕ} (k : ℕ)
      → (L p).reached ≡ true → (L p).link ≡ Some k → Open net.graph k → net.graph.head k ≡ p
      → m.less (L p).cost (m.after (L (net.graph.tail k)).cost (net.step k)) ≡ false
      → Trace m net L links (net.graph.tail k) → Trace m net L (k ∷ links) p

-- Every reached label has such a walk.
abbrev pub Traced : {Cost Step : Type 0} → Meaning Cost Step → Net Step → Sheet Cost → Type 0
Traced m net L = (p : ℕ) → p < net.graph.places → (L p).reached ≡ true → (links : List ℕ) × Trace m net L links p

-- The walk back from p meets fewer links than there are places, and they are a run to p of exactly its label's cost.
pub record Found {Cost Step : Type 0} (m : Meaning Cost Step) (net : Net Step) (L : Sheet Cost) (p : ℕ) : Type 0 where
  pub links : List ℕ
  pub walk : WalkBack net.graph L links p
  pub short : length links < net.graph.places
  pub run : Run m net Everywhere links p (L p).cost
