-- What a row means, and when it is well kept.
use Rattle.std.specs.Prelude.{◌≡◌, ℕ, ◌≢◌, List, length}
use Rattle.queues.specs.declared.entry.Item.{Item}
use Rattle.queues.specs.declared.entry.Entry.{Entry}
use Rattle.queues.specs.State.{State}
use Rattle.queues.specs.Cells.{entry, item}
use Rattle.queues.specs.Lent.{lent_state, LentTidy}
use Rattle.queues.specs.Sound.{Sound}
use Rattle.queues.proofs.Lents.{lent_sound}
use Rattle.queue_row.specs.declared.row.Row.{Row}

abbrev pub row_state : {C : Type 0} → Row C → State C
row_state q = lent_state q.lent

abbrev pub Kept : {C : Type 0} → Row C → Type 0
Kept q = LentTidy q.lent

pub row_sound : {C : Type 0} (q : Row C) → Kept q → Sound (row_state q)
row_sound q kept = lent_sound q.lent kept

-- only the item at one place is another
pub record Written {C : Type 0} (old new : List (Entry C)) (place : ℕ) (it : Item C) : Type 0 where
  pub length_same : length new ≡ length old
  pub here : item new place ≡ it
  pub there : (k : ℕ) → k ≢ place → item new k ≡ item old k
  pub floor_same : (entry new 0).floor ≡ (entry old 0).floor
