-- What a lent list means of which the first `len` entries have the items that wait.
use Rattle.std.specs.Prelude.{◌≡◌, ℕ, zero, suc, ◌<◌, ◌≤◌, true, if◌then◌else◌, List, length, is_some, Some, None, Option, ◌==◌, ◌≢◌, slice_index_or}
use Rattle.queues.specs.declared.entry.Item.{Item}
use Rattle.queues.specs.declared.entry.Entry.{Entry}
use Rattle.queues.specs.State.{State}

module _ {Cost : Type 0} where
  abbrev pub blank : Entry Cost
  blank = record { item = record { number = 0; cost = None }; floor = None; slot = 0 }

  abbrev pub entry : List (Entry Cost) → ℕ → Entry Cost
  entry cells k = slice_index_or cells k blank

  -- the item at place k
  abbrev pub item : List (Entry Cost) → ℕ → Item Cost
  item cells k = (entry cells k).item

  -- the cost of n among the first `len` items
  abbrev pub seek : (ℕ → Item Cost) → ℕ → ℕ → Option Cost
  seek items n zero = None
  seek items n (suc len) = if n == (items len).number then (items len).cost else seek items n len

  abbrev pub cells_state : List (Entry Cost) → ℕ → ℕ → State Cost
  cells_state cells len takes = record {
    at = λ n. seek (item cells) n len;
    waiting = len;
    floor = (entry cells 0).floor;
    takes = takes;
    size = length cells;
  }

-- the first `len` items wait lawfully: each with a cost, each number once
pub record Fit {Cost : Type 0} (items : ℕ → Item Cost) (len : ℕ) : Type 0 where
  pub costed : (k : ℕ) → k < len → is_some (items k).cost ≡ true
  pub once : (j k : ℕ) → j < len → k < len → (items j).number ≡ (items k).number → j ≡ k

pub record Tidy {Cost : Type 0} (cells : List (Entry Cost)) (len : ℕ) : Type 0 where
  pub room : len ≤ length cells
  pub fit : Fit (item cells) len

module _ {Cost : Type 0} where
  abbrev pub Nowhere : (ℕ → Item Cost) → ℕ → ℕ → Type 0
  Nowhere items n len = (k : ℕ) → k < len → (items k).number ≢ n

  -- the answer to where n stands among the first `len` items
  abbrev pub Found : (ℕ → Item Cost) → ℕ → ℕ → Option ℕ → Type 0
  Found items n len None = Nowhere items n len
  Found items n len (Some k) = (k < len) × ((items k).number ≡ n)

-- only the floor is another
pub record Refloored {Cost : Type 0} (old new : List (Entry Cost)) (floor : Option Cost) : Type 0 where
  pub length_same : length new ≡ length old
  pub items : (k : ℕ) → item new k ≡ item old k
  pub slots : (k : ℕ) → (entry new k).slot ≡ (entry old k).slot
  pub floor_set : 0 < length old → (entry new 0).floor ≡ floor
