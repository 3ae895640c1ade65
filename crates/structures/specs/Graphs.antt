-- A map: its places 0 .. places - 1 and its links 0 .. links - 1, each from its tail to its head. A link is open where it is usable.
use Rattle.std.specs.Prelude.{◌≡◌, ℕ, ◌<◌, Bool, true}

pub record Graph : Type 0 where
  pub places : ℕ
  pub links : ℕ
  pub usable : ℕ → Bool
  pub tail : ℕ → ℕ
  pub head : ℕ → ℕ

-- Each open link leads from a place to a place.
abbrev pub Within : Graph → Type 0
Within g = (k : ℕ) → k < g.links → g.usable k ≡ true → (g.tail k < g.places) × (g.head k < g.places)

-- The map with every link turned round.
abbrev pub turned : Graph → Graph
turned g = record { places = g.places; links = g.links; usable = g.usable; tail = g.head; head = g.tail }

-- An open link leads from u to w. IN(w) is the set of such u.
pub record Approach (g : Graph) (u w : ℕ) : Type 0 where
  pub link : ℕ
  pub known : link < g.links
  pub is_open : g.usable link ≡ true
  pub from : g.tail link ≡ u
  pub to : g.head link ≡ w
