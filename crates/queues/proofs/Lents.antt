-- A lent list: its state, and what the tests of an offer tell.
use Rattle.std.proofs.Common.{◌≡◌, ℕ, ◌<◌, Bool, true, false, cond, eqb, ◌⊎◌, length, Some, None, Ok, Err, Option, Result, option_and_then, sym, refl, ◌∙◌, subst, inl, inr}
use Rattle.std.proofs.lemmas.Bool.{eqb-true, eqb-false}
use Rattle.queues.specs.declared.lent.Lent.{Lent}
use Rattle.queues.specs.declared.refusal.OfferRefusal.{OfferRefusal}
use Rattle.queues.specs.declared.refusal.OfferRefusal.TheVariants.{BelowFloor, Full}
use Rattle.queues.specs.Offers.{below}
use Rattle.queues.specs.Cells.{item, Nowhere, Found}
use Rattle.queues.specs.Lent.{lent_state, LentTidy, admitted, place_of}
use Rattle.queues.proofs.Calls.{Offered, offer_full, offer_kept}
use Rattle.queues.proofs.Places.{seek_none, seek_at}
use Rattle.queues.proofs.States.{tidy_sound}
use Rattle.queues.specs.Sound.{Sound}

-- the number waits at this place, at more
pub record Lowers {C : Type 0} (less : C → C → Bool) (q : Lent C) (n : ℕ) (c : C) (place : ℕ) : Type 0 where
  pub within : place < q.waiting
  pub number : (item q.entries.now place).number ≡ n
  pub is_less : below less (item q.entries.now place).cost c ≡ true

-- the number does not wait, and this is the next free place
pub record Adds {C : Type 0} (q : Lent C) (n place : ℕ) : Type 0 where
  pub end : place ≡ q.waiting
  pub nowhere : Nowhere (item q.entries.now) n q.waiting
  pub room : q.waiting ≡ length q.entries.now → ⊥

high_told : (b : Bool) (u : Unit {0}) → ◌≡◌ {A = Result (Unit {0}) OfferRefusal} (Ok u) (cond b (Err BelowFloor) (Ok tt)) → b ≡ false
high_told true u h = cc
high_told false u h = refl

full_told : (b : Bool) (e : OfferRefusal) (k : ℕ) → ◌≡◌ {A = Result (Option ℕ) OfferRefusal} (Err e) (cond b (Err Full) (Ok (Some k))) → (b ≡ true) × (e ≡ Full)
full_told true e k h = (refl, cc)
full_told false e k h = cc

room_told : (b : Bool) (k : ℕ) (o : Option ℕ) → ◌≡◌ {A = Result (Option ℕ) OfferRefusal} (Ok o) (cond b (Err Full) (Ok (Some k))) → (b ≡ false) × (o ≡ Some k)
room_told true k o h = cc
room_told false k o h = (refl, cc)

less_told : (b : Bool) (k place : ℕ) → ◌≡◌ {A = Result (Option ℕ) OfferRefusal} (Ok (Some place)) (Ok (cond b (Some k) None)) → (b ≡ true) × (place ≡ k)
less_told true k place h = (refl, cc)
less_told false k place h = cc

kept_told : (b : Bool) (k : ℕ) → ◌≡◌ {A = Result (Option ℕ) OfferRefusal} (Ok None) (Ok (cond b (Some k) None)) → b ≡ false
kept_told true k h = cc
kept_told false k h = refl

-- what holds of the state of a list whose items wait lawfully
pub lent_sound : {C : Type 0} (q : Lent C) → LentTidy q → Sound (lent_state q)
lent_sound q tidy = tidy_sound q.entries.now q.waiting q.takes tidy

-- the cost at the place of a number
pub at_found : {C : Type 0} (q : Lent C) (n : ℕ) (found : Option ℕ) → LentTidy q → Found (item q.entries.now) n q.waiting found
    → option_and_then (λ place. (item q.entries.now place).cost) found ≡ (lent_state q).at n
at_found q n None tidy is = sym (seek_none (item q.entries.now) n q.waiting is)
at_found q n (Some k) tidy is = sym (seek_at (item q.entries.now) n q.waiting k tidy.fit.once is.0 is.1)

-- the offered cost is not below the floor, and the item goes to this place
pub record Goes {C : Type 0} (less : C → C → Bool) (q : Lent C) (n : ℕ) (c : C) (place : ℕ) : Type 0 where
  pub high : below less (lent_state q).floor c ≡ false
  pub way : Lowers less q n c place ⊎ Adds q n place

-- an offer that is admitted, of a number that is looked for
module _ {C : Type 0} (less : C → C → Bool) (q : Lent C) (n : ℕ) (c : C) (tidy : LentTidy q) (admit : Result (Unit {0}) OfferRefusal) (u : Unit {0}) (told : admit ≡ admitted less q c) (passed : admit ≡ Ok u) where
  high : below less (lent_state q).floor c ≡ false
  high = high_told (below less (lent_state q).floor c) u (sym passed ∙ told)

  pub place_refused : (found : Option ℕ) (e : OfferRefusal) → Found (item q.entries.now) n q.waiting found → Err e ≡ place_of less q found c → Offered less (lent_state q) n c (Err e) (lent_state q)
  place_refused (Some k) e is h = cc
  place_refused None e is h =
      let told = full_told (eqb q.waiting (length q.entries.now)) e q.waiting h in
      let s = lent_state q in
      subst (λ x. Offered less s n c (Err x) s) (sym told.1)
      (offer_full less s n c s high (seek_none (item q.entries.now) n q.waiting is) (eqb-true q.waiting (length q.entries.now) told.0) refl)

  pub place_kept : (found : Option ℕ) → Found (item q.entries.now) n q.waiting found → Ok None ≡ place_of less q found c → Offered less (lent_state q) n c (Ok tt) (lent_state q)
  place_kept None is h = let told = room_told (eqb q.waiting (length q.entries.now)) q.waiting None h in cc
  place_kept (Some k) is h =
      let f = item q.entries.now in
      let s = lent_state q in
      offer_kept less s n c (f k).cost s high (seek_at f n q.waiting k tidy.fit.once is.0 is.1) (tidy.fit.costed k is.0) (kept_told (below less (f k).cost c) k h) refl

  pub place_goes : (found : Option ℕ) (place : ℕ) → Found (item q.entries.now) n q.waiting found → Ok (Some place) ≡ place_of less q found c → Goes less q n c place
  place_goes None place is h =
      let told = room_told (eqb q.waiting (length q.entries.now)) q.waiting (Some place) h in
      record { high = high; way = inr (record { end = cc; nowhere = is; room = eqb-false q.waiting (length q.entries.now) told.0 }) }
  place_goes (Some k) place is h =
      let told = less_told (below less (item q.entries.now k).cost c) k place h in
      record { high = high; way = subst (λ x. Lowers less q n c x ⊎ Adds q n x) (sym told.1) (inl (record { within = is.0; number = is.1; is_less = told.0 })) }
