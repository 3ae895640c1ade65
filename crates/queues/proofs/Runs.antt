-- Between two clears the costs handed out never fall.
use Rattle.std.proofs.Common.{◌≡◌, ℕ, Bool, true, false, eqb, ◌⊎◌, List, [], ◌∷◌, Some, None, Option, sym, refl, ap, ◌∙◌, subst, inl, inr, arith}
use Rattle.std.proofs.lemmas.Bool.{cases_eq, cond-true, cond-false, eq-eqb, ne_eqb}
use Rattle.kinds.specs.Meaning.{Meaning}
use Rattle.kinds.specs.Laws.{Laws}
use Rattle.queues.specs.State.{State, cleared, put, added, lowered, taken}
use Rattle.queues.specs.Offers.{below, refusal_at, offered, offered_as, accepted_at}
use Rattle.queues.specs.Takes.{Least}
use Rattle.queues.specs.Runs.{Run, NoneAbove, NeverFalls, CostsNeverFall}
use Rattle.queues.specs.Runs.Run.{start, offer, take, idle}
use Rattle.kinds.proofs.Order.{not_less_self, not_greater_trans}

module _ {Cost : Type 0} where
  pub some_same : (c d : Cost) → ◌≡◌ {A = Option Cost} (Some c) (Some d) → c ≡ d
  some_same c d e = cc

  pub none_some : {A : Type 0} (c : Cost) → ◌≡◌ {A = Option Cost} None (Some c) → A
  none_some c e = let z : ◌≡◌ {A = ℕ} 0 1 = cc in absurd (omega arith)

  -- who waits after one change
  pub put_cases : (at : ℕ → Option Cost) (n m : ℕ) (o : Option Cost) (d : Cost) → put at n o m ≡ Some d → ((m ≡ n) × (o ≡ Some d)) ⊎ ((m ≡ n → ⊥) × (at m ≡ Some d))
  put_cases at n m o d e = go (cases_eq m n)
    where
      go : (m ≡ n) ⊎ (m ≡ n → ⊥) → ((m ≡ n) × (o ≡ Some d)) ⊎ ((m ≡ n → ⊥) × (at m ≡ Some d))
      go (inl q) = inl (q, sym (cond-true (eqb m n) o (at m) (eq-eqb m n q)) ∙ e)
      go (inr q) = inr (q, sym (cond-false (eqb m n) o (at m) (ne_eqb m n q)) ∙ e)

  pub put_here : (at : ℕ → Option Cost) (n m : ℕ) (o : Option Cost) → m ≡ n → put at n o m ≡ o
  put_here at n m o e = cond-true (eqb m n) o (at m) (eq-eqb m n e)

  pub put_there : (at : ℕ → Option Cost) (n m : ℕ) (o : Option Cost) → (m ≡ n → ⊥) → put at n o m ≡ at m
  put_there at n m o d = cond-false (eqb m n) o (at m) (ne_eqb m n d)

  -- an offer changes nothing, or has n wait at a cost not below the floor
  abbrev pub Changed : (Cost → Cost → Bool) → State Cost → ℕ → Cost → State Cost → Type 0
  Changed less s n c u = (u ≡ s) ⊎ ((below less s.floor c ≡ false) × (u.at ≡ put s.at n (Some c)) × (u.floor ≡ s.floor))

  pub offered_cases : (less : Cost → Cost → Bool) (s : State Cost) (n : ℕ) (c : Cost) → Changed less s n c (offered less s n c)
  offered_cases less s n c = by_number (s.at n) refl (below less s.floor c) refl
    where
      by_room : (b : Bool) → below less s.floor c ≡ false → s.at n ≡ None → eqb s.waiting s.size ≡ b → Changed less s n c (offered less s n c)
      by_room true high new full =
          let r = ap (λ x. refusal_at less s x c) new ∙ cond-false _ _ _ high ∙ cond-true _ _ _ full in
          inl (ap (λ x. offered_as less s x n c) r)
      by_room false high new room =
          let r = ap (λ x. refusal_at less s x c) new ∙ cond-false _ _ _ high ∙ cond-false _ _ _ room in
          let e : offered less s n c ≡ added s n c = ap (λ x. offered_as less s x n c) r ∙ ap (λ x. accepted_at less s x n c) new in
          inr (high, ap (λ x. x.at) e, ap (λ x. x.floor) e)

      by_cost : (b : Bool) (old : Cost) → below less s.floor c ≡ false → s.at n ≡ Some old → less c old ≡ b → Changed less s n c (offered less s n c)
      by_cost true old high waits is_less =
          let r = ap (λ x. refusal_at less s x c) waits ∙ cond-false _ _ _ high in
          let e : offered less s n c ≡ lowered s n c = ap (λ x. offered_as less s x n c) r ∙ ap (λ x. accepted_at less s x n c) waits ∙ cond-true _ _ _ is_less in
          inr (high, ap (λ x. x.at) e, ap (λ x. x.floor) e)
      by_cost false old high waits no_less =
          let r = ap (λ x. refusal_at less s x c) waits ∙ cond-false _ _ _ high in
          inl (ap (λ x. offered_as less s x n c) r ∙ ap (λ x. accepted_at less s x n c) waits ∙ cond-false _ _ _ no_less)

      by_number : (o : Option Cost) → s.at n ≡ o → (b : Bool) → below less s.floor c ≡ b → Changed less s n c (offered less s n c)
      by_number (Some old) waits true low = inl (ap (λ x. offered_as less s x n c) (ap (λ x. refusal_at less s x c) waits ∙ cond-true _ _ _ low))
      by_number (Some old) waits false high = by_cost (less c old) old high waits refl
      by_number None new true low = inl (ap (λ x. offered_as less s x n c) (ap (λ x. refusal_at less s x c) new ∙ cond-true _ _ _ low))
      by_number None new false high = by_room (eqb s.waiting s.size) high new refl

module _ {Cost Step : Type 0} {m : Meaning Cost Step} (laws : Laws m) where
  none_above_up : (a b : Cost) (costs : List Cost) → m.less a b ≡ false → NoneAbove m.less b costs → NoneAbove m.less a costs
  none_above_up a b [] h n = tt
  none_above_up a b (d ∷ costs) h n = (not_greater_trans laws d b a n.0 h, none_above_up a b costs h n.1)

  -- no cost was handed out above the floor
  abbrev Under : Option Cost → List Cost → Type 0
  Under None costs = costs ≡ []
  Under (Some f) costs = NoneAbove m.less f costs

  under_up : (f : Option Cost) (c : Cost) (costs : List Cost) → below m.less f c ≡ false → Under f costs → NoneAbove m.less c costs
  under_up None c costs h u = subst (λ x. NoneAbove m.less c x) (sym u) tt
  under_up (Some f) c costs h u = none_above_up c f costs h u

  record Held (costs : List Cost) (t : State Cost) : Type 0 where
    floored : (n : ℕ) (c : Cost) → t.at n ≡ Some c → below m.less t.floor c ≡ false
    under : Under t.floor costs
    never : NeverFalls m.less costs

  offered_held : (costs : List Cost) (t : State Cost) (n : ℕ) (c : Cost) → Held costs t → Held costs (offered m.less t n c)
  offered_held costs t n c h = go (offered_cases m.less t n c)
    where
      go : Changed m.less t n c (offered m.less t n c) → Held costs (offered m.less t n c)
      go (inl e) = subst (λ x. Held costs x) (sym e) h
      go (inr p) = record {
        floored = λ k d e. ap (λ x. below m.less x d) p.2 ∙ each k d (put_cases t.at n k (Some c) d (ap (λ f. f k) (sym p.1) ∙ e));
        under = subst (λ x. Under x costs) (sym p.2) h.under;
        never = h.never;
      }
        where
          each : (k : ℕ) (d : Cost) → ((k ≡ n) × (Some c ≡ Some d)) ⊎ ((k ≡ n → ⊥) × (t.at k ≡ Some d)) → below m.less t.floor d ≡ false
          each k d (inl q) = ap (below m.less t.floor) (sym (some_same c d q.1)) ∙ p.0
          each k d (inr q) = h.floored k d q.1

  taken_held : (costs : List Cost) (t : State Cost) (n : ℕ) (c : Cost) → Held costs t → Least m.less t n c → Held (c ∷ costs) (taken t n c)
  taken_held costs t n c h least =
      let above = under_up t.floor c costs (h.floored n c least.waits) h.under in
      record {
        floored = λ k d e. each k d (put_cases t.at n k None d e);
        under = (not_less_self laws c, above);
        never = (above, h.never);
      }
    where
      each : (k : ℕ) (d : Cost) → ((k ≡ n) × (None ≡ Some d)) ⊎ ((k ≡ n → ⊥) × (t.at k ≡ Some d)) → m.less d c ≡ false
      each k d (inl q) = none_some d q.1
      each k d (inr q) = least.least k d q.1

  held : {size : ℕ} {costs : List Cost} {t : State Cost} → Run m.less (cleared size) costs t → Held costs t
  held start = record { floored = λ n c e. none_some c e; under = refl; never = tt }
  held (offer {costs} {t} n c u e r) = subst (λ x. Held costs x) (sym e) (offered_held costs t n c (held r))
  held (take {costs} {t} n c u took r) = subst (λ x. Held (c ∷ costs) x) (sym took.2) (taken_held costs t n c (held r) took.1)
  held (idle {costs} {t} u took r) = subst (λ x. Held costs x) (sym took.1) (held r)

  pub costs_never_fall_lem : CostsNeverFall m.less
  costs_never_fall_lem size costs t r = (held r).never
