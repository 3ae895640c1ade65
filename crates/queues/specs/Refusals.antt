-- The refusals of an offer: their numbers and their words.
use Rattle.std.specs.Prelude.{ℕ, List, codes}
use Rattle.queues.specs.declared.refusal.OfferRefusal.{OfferRefusal}
use Rattle.queues.specs.declared.refusal.OfferRefusal.TheVariants.{BelowFloor, Full}

abbrev pub number : OfferRefusal → ℕ
number BelowFloor = 16
number Full = 17

abbrev pub said : OfferRefusal → List ℕ
said BelowFloor = codes "cost below floor"
said Full = codes "queue full"
