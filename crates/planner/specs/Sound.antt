-- What every call book keeps.
use Rattle.std.specs.Prelude.{◌≡◌, ℕ, ◌<◌, ◌≤◌, true, false, List, length, Some, None, slice_index_or}
use Rattle.mapfile.specs.declared.counts.Counts.{Counts}
use Rattle.planner.specs.declared.change.Change.{Change}
use Rattle.planner.specs.Book.{Book, blank, is_closed, after_all}
use Rattle.planner.specs.Stations.{stationed}

pub record Sound (n : Counts) (b : Book) : Type 0 where
  pub tables : (length b.stations ≡ 2048) × (length b.closed ≡ 4096)
  -- a station stands at a place of the map, with a turnout of at most an hour
  pub at_places : (p t : ℕ) → slice_index_or b.stations p None ≡ Some t → (p < n.places) × (t ≤ 36000)
  -- no more than 64 stand
  pub few : stationed b.stations ≤ 64
  -- what is closed is a link of the map
  pub known_links : (k : ℕ) → is_closed b k ≡ true → k < n.links
  -- no change leaves a plan solved
  pub unsolved : b.solved ≡ false

-- on every map, after every list of changes
abbrev pub BooksSound : Type 0
BooksSound = (n : Counts) → n.places ≤ 2048 → n.links ≤ 4096 → (cs : List Change) → Sound n (after_all n blank cs)
