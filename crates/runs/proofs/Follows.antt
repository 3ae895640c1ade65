-- Following one link, and the links of one place one after the other.
use Rattle.std.proofs.Common.{◌≡◌, ℕ, ◌+◌, ◌<◌, ◌≤◌, true, false, not, ◌⊎◌, List, length, get_or, set, sym, refl, ap, ◌∙◌, inl, inr, ⊎_elim, arith}
use Rattle.kinds.proofs.Order.{not_less_self, not_greater_trans}
use Rattle.kinds.specs.Laws.{Laws}
use Rattle.kinds.specs.Meaning.{Meaning}
use Rattle.runs.specs.Follows.{lowers, lowered, Followed, Following, Part}
use Rattle.runs.specs.Labels.{Sheet, sheet, unreached, arrived, Meets}
use Rattle.runs.specs.Nets.{Net}
use Rattle.runs.specs.Sweeps.{Lowered, Swept}
use Rattle.runs.specs.declared.label.Label.{Label}
use Rattle.std.proofs.lemmas.List.{get_or-set_same, get_or-set_other, get_or_default, set-get_or}
use Rattle.std.proofs.lemmas.Bool.{both_ways, cases_eq, cases_Bool, cond-true, cond-false, or_cases, or_parts, not-true, not-false}

module _ {Cost Step : Type 0} {m : Meaning Cost Step} (laws : Laws m) where
  -- A label that would be lowered holds more, if it is reached.
  pub lowers_less : (c : Cost) (l : Label Cost) → lowers m c l ≡ true → l.reached ≡ true → m.less c l.cost ≡ true
  lowers_less c l h r =
      ⊎_elim (λ u. absurd (both_ways l.reached (not-true l.reached u) r)) (λ e. e) (or_cases (not l.reached) (m.less c l.cost) h)

  -- One that would not be is reached, at no more.
  pub not_lowers : (c : Cost) (l : Label Cost) → lowers m c l ≡ false → (l.reached ≡ true) × (m.less c l.cost ≡ false)
  not_lowers c l h = let e = or_parts (not l.reached) (m.less c l.cost) h in (not-false l.reached e.0, e.1)

  -- What is read from a list of labels is what its sheet says.
  pub sheet_read : (labels : List (Label Cost)) (w : ℕ) (read : Label Cost) → w < length labels → read ≡ get_or labels w read → read ≡ sheet m labels w
  sheet_read labels w read lt e = e ∙ get_or_default labels w read (unreached m) lt

  -- Where nothing is lowered, the write would write what is there.
  pub write_none : (labels : List (Label Cost)) (w k : ℕ) (c : Cost) → lowers m c (sheet m labels w) ≡ false → set labels w (lowered m c k (sheet m labels w)) ≡ labels
  write_none labels w k c h =
      ap (set labels w) (cond-false (lowers m c (sheet m labels w)) (arrived c k) (sheet m labels w) h) ∙ set-get_or labels w (unreached m)

  module _ {net : Net Step} where
    -- A link that lowers nothing leaves the sheet as it is.
    pub followed_none : (L : Sheet Cost) (c : Cost) (k : ℕ) → lowers m (m.after c (net.step k)) (L (net.graph.head k)) ≡ false → Followed m net c k L L
    followed_none L c k h =
        let w : ℕ = net.graph.head k in
        let new : Cost = m.after c (net.step k) in
        record { head = sym (cond-false (lowers m new (L w)) (arrived new k) (L w) h); others = λ z ne. refl }

    -- On a list of labels, following a link is one write.
    pub followed_write :
        (old labels : List (Label Cost)) (c cost new : Cost) (step : Step) (k w : ℕ) → w < length old → net.graph.head k ≡ w
        → cost ≡ c → step ≡ net.step k → new ≡ m.after cost step → labels ≡ set old w (lowered m new k (sheet m old w))
        → Followed m net c k (sheet m old) (sheet m labels)
    followed_write old labels c cost new step k w lt to start of after e =
        let label : Label Cost = lowered m new k (sheet m old w) in
        let same : m.after c (net.step k) ≡ new = cc in
        record {
          head = rw (to, e, same) (get_or-set_same old w label (unreached m) lt);
          others = λ z ne. rw e (get_or-set_other old w z label (unreached m) (λ here. ne (here ∙ sym to)));
        }

    module _ {L M : Sheet Cost} {c : Cost} {k : ℕ} (f : Followed m net c k L M) where
      -- What following a link does: it lowers the label at its head, or nothing.
      pub followed_change :
          (w : ℕ) → (M w ≡ L w) ⊎ ((net.graph.head k ≡ w) × (M w ≡ arrived (m.after c (net.step k)) k) × (lowers m (m.after c (net.step k)) (L w) ≡ true))
      followed_change w = ⊎_elim (λ e. rw e (at_head (cases_Bool (lowers m new (L h))))) (λ ne. inl (f.others w ne)) (cases_eq w h)
        where
          h : ℕ
          h = net.graph.head k

          new : Cost
          new = m.after c (net.step k)

          at_head : (lowers m new (L h) ≡ true) ⊎ (lowers m new (L h) ≡ false) → (M h ≡ L h) ⊎ ((h ≡ h) × (M h ≡ arrived new k) × (lowers m new (L h) ≡ true))
          at_head (inl e) = inr (refl, f.head ∙ cond-true (lowers m new (L h)) (arrived new k) (L h) e, e)
          at_head (inr e) = inl (f.head ∙ cond-false (lowers m new (L h)) (arrived new k) (L h) e)

      pub followed_sinks : (w : ℕ) → (L w).reached ≡ true → ((M w).reached ≡ true) × (m.less (L w).cost (M w).cost ≡ false)
      followed_sinks w r = go (followed_change w)
        where
          new : Cost
          new = m.after c (net.step k)

          go : (M w ≡ L w) ⊎ ((net.graph.head k ≡ w) × (M w ≡ arrived new k) × (lowers m new (L w) ≡ true)) → ((M w).reached ≡ true) × (m.less (L w).cost (M w).cost ≡ false)
          go (inl e) = (rw e r, rw e (not_less_self laws (L w).cost))
          go (inr h) = (rw h.1 refl, rw h.1 (laws.one_way new (L w).cost (lowers_less new (L w) h.2 r)))

      -- The link is met then, and links that were met are.
      pub followed_meets : Meets m net M c k
      followed_meets = go (cases_Bool (lowers m new (L h)))
        where
          h : ℕ
          h = net.graph.head k

          new : Cost
          new = m.after c (net.step k)

          go : (lowers m new (L h) ≡ true) ⊎ (lowers m new (L h) ≡ false) → Meets m net M c k
          go (inl e) = let g = f.head ∙ cond-true (lowers m new (L h)) (arrived new k) (L h) e in record { reached = rw g refl; no_more = rw g (not_less_self laws new) }
          go (inr e) =
              let g = f.head ∙ cond-false (lowers m new (L h)) (arrived new k) (L h) e in
              let n = not_lowers new (L h) e in
              record { reached = rw g n.0; no_more = rw g n.1 }

      pub followed_met : (b : Cost) (j : ℕ) → Meets m net L b j → Meets m net M b j
      followed_met b j h =
          let w : ℕ = net.graph.head j in
          let s = followed_sinks w h.reached in
          record { reached = s.0; no_more = not_greater_trans laws (M w).cost (L w).cost (m.after b (net.step j)) s.1 h.no_more }

    -- The links of one place, from the first position of its part on.
    module _ {part : ℕ → ℕ} {first : ℕ} {L : Sheet Cost} {p : ℕ} where
      pub following_start : Following m net part first L p first L
      following_start = record { met = λ i a b. absurd (omega arith); change = λ w. inl refl }

      pub following_on :
          {last j : ℕ} {M N : Sheet Cost} → Part net.graph part first last p → first ≤ j → j < last
          → Following m net part first L p j M → Followed m net (L p).cost (part j) M N → Following m net part first L p (j + 1) N
      following_on {last} {j} {M} {N} of from below before f = record {
        met = λ i a b. ⊎_elim (λ e. rw e (followed_meets f)) (λ ne. followed_met f (L p).cost (part i) (before.met i a (omega arith))) (cases_eq i j);
        change = λ w. change w (followed_change f w) (before.change w);
      }
        where
          new : Cost
          new = m.after (L p).cost (net.step (part j))

          lower : (w : ℕ) → lowers m new (M w) ≡ true → (M w ≡ L w) ⊎ Lowered m net L p M w → (L w).reached ≡ true → m.less new (L w).cost ≡ true
          lower w h (inl e) r = lowers_less new (L w) (rw e at h) r
          lower w h (inr l) r =
              let old : Cost = m.after (L p).cost (net.step l.link) in
              laws.chain new old (L w).cost (lowers_less new (arrived old l.link) (rw l.becomes at h) refl) (l.lower r)

          kept : (w : ℕ) → N w ≡ M w → (M w ≡ L w) ⊎ Lowered m net L p M w → (N w ≡ L w) ⊎ Lowered m net L p N w
          kept w e (inl same) = inl (e ∙ same)
          kept w e (inr l) = inr (record { link = l.link; is_open = l.is_open; from = l.from; to = l.to; becomes = e ∙ l.becomes; lower = l.lower })

          change :
              (w : ℕ) → (N w ≡ M w) ⊎ ((net.graph.head (part j) ≡ w) × (N w ≡ arrived new (part j)) × (lowers m new (M w) ≡ true))
              → (M w ≡ L w) ⊎ Lowered m net L p M w → (N w ≡ L w) ⊎ Lowered m net L p N w
          change w (inl e) c = kept w e c
          change w (inr h) c =
              let o = of.leaving j from below in
              inr (record { link = part j; is_open = o.0; from = o.1; to = h.0; becomes = h.1; lower = lower w h.2 c })

      pub following_stop :
          {last next : ℕ} {M : Sheet Cost} → Part net.graph part first last p → last ≤ next → Following m net part first L p next M → Swept m net L p M
      following_stop of done all = record {
        met = λ k o from. let i = of.all_leaving k o from in rw (← i.3) (all.met i.0 i.1 (omega (arith, i.2)));
        change = all.change;
      }
