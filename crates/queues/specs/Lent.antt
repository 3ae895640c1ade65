-- What a lent list means, with what is kept beside it, and where an offered item goes in it.
use Rattle.std.specs.Prelude.{ℕ, Bool, length, Some, None, Ok, Err, Option, Result, ◌==◌, if◌then◌else◌}
use Rattle.queues.specs.declared.lent.Lent.{Lent}
use Rattle.queues.specs.declared.refusal.OfferRefusal.{OfferRefusal}
use Rattle.queues.specs.declared.refusal.OfferRefusal.TheVariants.{BelowFloor, Full}
use Rattle.queues.specs.State.{State}
use Rattle.queues.specs.Offers.{below}
use Rattle.queues.specs.Cells.{item, cells_state, Tidy}

module _ {C : Type 0} where
  abbrev pub lent_state : Lent C → State C
  lent_state q = cells_state q.entries.now q.waiting q.takes

  -- the items that wait do so lawfully
  abbrev pub LentTidy : Lent C → Type 0
  LentTidy q = Tidy q.entries.now q.waiting

  module _ (less : C → C → Bool) where
    -- a cost below the floor is refused
    abbrev pub admitted : Lent C → C → Result (Unit {0}) OfferRefusal
    admitted q c = if below less (lent_state q).floor c then Err BelowFloor else Ok tt

    -- where an offered item goes, if its number stands at the given place: nowhere if it waits at no more
    abbrev pub place_of : Lent C → Option ℕ → C → Result (Option ℕ) OfferRefusal
    place_of q (Some k) c = Ok (if below less (item q.entries.now k).cost c then Some k else None)
    place_of q None c = if q.waiting == length q.entries.now then Err Full else Ok (Some q.waiting)
