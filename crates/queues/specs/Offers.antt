-- What an offer is answered, and what it leaves.
use Rattle.std.specs.Prelude.{ℕ, Bool, false, if◌then◌else◌, Some, None, Ok, Err, Option, Result, ◌==◌}
use Rattle.queues.specs.declared.refusal.OfferRefusal.{OfferRefusal}
use Rattle.queues.specs.declared.refusal.OfferRefusal.TheVariants.{BelowFloor, Full}
use Rattle.queues.specs.State.{State, added, lowered}

module _ {Cost : Type 0} (less : Cost → Cost → Bool) where
  -- the cost is below the floor
  abbrev pub below : Option Cost → Cost → Bool
  below None c = false
  below (Some f) c = less c f

  -- an offer of n, which waits so far as `waits` says, is refused
  abbrev pub refusal_at : State Cost → Option Cost → Cost → Option OfferRefusal
  refusal_at s (Some old) c = if below s.floor c then Some BelowFloor else None
  refusal_at s None c = if below s.floor c then Some BelowFloor else if s.waiting == s.size then Some Full else None

  abbrev pub refusal : State Cost → ℕ → Cost → Option OfferRefusal
  refusal s n c = refusal_at s (s.at n) c

  abbrev pub answer_of : Option OfferRefusal → Result (Unit {0}) OfferRefusal
  answer_of None = Ok tt
  answer_of (Some r) = Err r

  abbrev pub answer : State Cost → ℕ → Cost → Result (Unit {0}) OfferRefusal
  answer s n c = answer_of (refusal s n c)

  -- an accepted offer keeps a waiting number whose cost is not higher, lowers one whose cost is, and else adds it
  abbrev pub accepted_at : State Cost → Option Cost → ℕ → Cost → State Cost
  accepted_at s (Some old) n c = if less c old then lowered s n c else s
  accepted_at s None n c = added s n c

  abbrev pub offered_as : State Cost → Option OfferRefusal → ℕ → Cost → State Cost
  offered_as s (Some r) n c = s
  offered_as s None n c = accepted_at s (s.at n) n c

  abbrev pub offered : State Cost → ℕ → Cost → State Cost
  offered s n c = offered_as s (refusal s n c) n c
