-- The calls' equations, case by case.
use Rattle.std.proofs.Common.{◌≡◌, ℕ, Bool, true, false, is_some, Some, None, Ok, Err, Option, Result, sym, refl, ap, ◌∙◌}
use Rattle.std.proofs.lemmas.Bool.{cond-true, cond-false, eq-eqb, ne_eqb, both_ways}
use Rattle.queues.specs.declared.refusal.OfferRefusal.{OfferRefusal}
use Rattle.queues.specs.declared.refusal.OfferRefusal.TheVariants.{BelowFloor, Full}
use Rattle.queues.specs.State.{State, added, lowered}
use Rattle.queues.specs.Offers.{below, refusal_at, answer, answer_of, offered, offered_as, accepted_at}

module _ {Cost : Type 0} (less : Cost → Cost → Bool) (s : State Cost) (n : ℕ) (c : Cost) where
  -- an offer is answered r and leaves t
  pub record Offered (r : Result (Unit {0}) OfferRefusal) (t : State Cost) : Type 0 where
    pub answers : r ≡ answer less s n c
    pub leaves : t ≡ offered less s n c

  refused_with : (o : Option Cost) (r : OfferRefusal) (t : State Cost) → s.at n ≡ o → refusal_at less s o c ≡ Some r → t ≡ s → Offered (Err r) t
  refused_with o r t e f same =
      let all : refusal_at less s (s.at n) c ≡ Some r = ap (λ x. refusal_at less s x c) e ∙ f in
      record { answers = sym (ap (answer_of less) all); leaves = same ∙ sym (ap (λ x. offered_as less s x n c) all) }

  accepted_with : (o : Option Cost) (t : State Cost) → s.at n ≡ o → refusal_at less s o c ≡ None → t ≡ accepted_at less s o n c → Offered (Ok tt) t
  accepted_with o t e f same =
      let all : refusal_at less s (s.at n) c ≡ None = ap (λ x. refusal_at less s x c) e ∙ f in
      record { answers = sym (ap (answer_of less) all); leaves = same ∙ sym (ap (λ x. accepted_at less s x n c) e) ∙ sym (ap (λ x. offered_as less s x n c) all) }

  pub offer_below : (t : State Cost) → below less s.floor c ≡ true → t ≡ s → Offered (Err BelowFloor) t
  offer_below t low same = refused_with (s.at n) BelowFloor t refl (each (s.at n)) same
    where
      each : (o : Option Cost) → refusal_at less s o c ≡ Some BelowFloor
      each (Some old) = cond-true _ _ _ low
      each None = cond-true _ _ _ low

  pub offer_full : (t : State Cost) → below less s.floor c ≡ false → s.at n ≡ None → s.waiting ≡ s.size → t ≡ s → Offered (Err Full) t
  offer_full t high new full same = refused_with None Full t new (cond-false _ _ _ high ∙ cond-true _ _ _ (eq-eqb s.waiting s.size full)) same

  pub offer_added : (t : State Cost) → below less s.floor c ≡ false → s.at n ≡ None → (s.waiting ≡ s.size → ⊥) → t ≡ added s n c → Offered (Ok tt) t
  offer_added t high new room same = accepted_with None t new (cond-false _ _ _ high ∙ cond-false _ _ _ (ne_eqb s.waiting s.size room)) same

  pub offer_kept : (o : Option Cost) (t : State Cost) → below less s.floor c ≡ false → s.at n ≡ o → is_some o ≡ true → below less o c ≡ false → t ≡ s → Offered (Ok tt) t
  offer_kept (Some old) t high waits some no_less same = accepted_with (Some old) t waits (cond-false _ _ _ high) (same ∙ sym (cond-false _ _ _ no_less))
  offer_kept None t high waits some no_less same = absurd (both_ways false refl some)

  pub offer_lowered : (o : Option Cost) (t : State Cost) → below less s.floor c ≡ false → s.at n ≡ o → is_some o ≡ true → below less o c ≡ true → t ≡ lowered s n c → Offered (Ok tt) t
  offer_lowered (Some old) t high waits some is_less same = accepted_with (Some old) t waits (cond-false _ _ _ high) (same ∙ sym (cond-true _ _ _ is_less))
  offer_lowered None t high waits some is_less same = absurd (both_ways false refl some)

-- what a test against a bound that was read tells of the bound itself
pub tested : {Cost : Type 0} (less : Cost → Cost → Bool) (bound read : Option Cost) (c : Cost) (r b : Bool) → read ≡ bound → r ≡ below less read c → r ≡ b → below less bound c ≡ b
tested less bound read c r b e t h = ap (λ x. below less x c) (sym e) ∙ sym t ∙ h
