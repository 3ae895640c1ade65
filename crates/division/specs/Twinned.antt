-- Finding the lowest place whose complete structure is that of u.
use Rattle.std.specs.Prelude.{◌≡◌, ℕ, ◌<◌, ◌≤◌, ◌≢◌, ◌⊎◌, Option, Some}
use Rattle.structures.specs.Graphs.{Graph}
use Rattle.structures.proofs.Maximal.{Twins}
use Rattle.structures.proofs.Twins.{Back, Past}
use Rattle.division.specs.Growing.{Grown, Closed}

-- Each of the first len members knows its position.
abbrev pub Spotted : (ℕ → ℕ) → ℕ → (ℕ → ℕ) → Type 0
Spotted member len spot = (q : ℕ) → q < len → spot (member q) ≡ q

-- The members of u's structure with their positions; u is approached, from among them only.
pub record Ringed (g : Graph) (u : ℕ) (member : ℕ → ℕ) (len : ℕ) (spot : ℕ → ℕ) : Type 0 where
  pub known : u < g.places
  pub grown : Grown g u member len
  pub closed : Closed g u
  pub spotted : Spotted member len spot

-- How far ahead one link leads to w on a way back to u: past the end if w is u.
pub record LinkReach (g : Graph) (u : ℕ) (len : ℕ) (spot : ℕ → ℕ) (w far : ℕ) : Type 0 where
  pub small : far ≤ len
  pub leads : (k : ℕ) → k < far → (w ≡ u) ⊎ (Back g u w × (k < spot w))
  pub home : w ≡ u → len ≤ far
  pub back : w ≢ u → Back g u w → spot w ≤ far

-- How far ahead the links of x lead on a way back to u.
pub record Reach (g : Graph) (u : ℕ) (len : ℕ) (spot : ℕ → ℕ) (x far : ℕ) : Type 0 where
  pub small : far ≤ len
  pub leads : (k : ℕ) → k < far → Past g u spot k x
  pub every : (k : ℕ) → k < len → Past g u spot k x → k < far

-- The members from position q on have their reach.
abbrev pub ReachFrom : Graph → ℕ → (ℕ → ℕ) → ℕ → (ℕ → ℕ) → (ℕ → ℕ) → ℕ → Type 0
ReachFrom g u member len spot far q = (r : ℕ) → q ≤ r → r < len → Reach g u len spot (member r) (far r)

-- t is the lowest place that holds u and is held by it.
pub record LowestTwin (g : Graph) (u t : ℕ) : Type 0 where
  pub twin : Twins g u t
  pub lowest : (x : ℕ) → Twins g u x → t ≤ x

-- Each owner below a place has the lowest twin for its name.
abbrev pub Named : Graph → (ℕ → Option ℕ) → (ℕ → ℕ) → ℕ → Type 0
Named g owner name p = (u : ℕ) → u < p → owner u ≡ Some u → LowestTwin g u (name u)
