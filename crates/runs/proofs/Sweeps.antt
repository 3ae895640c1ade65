-- What sweeping one place keeps.
use Rattle.std.proofs.Common.{◌≡◌, ℕ, ◌<◌, true, false, ◌≢◌, ◌⊎◌, List, [], ◌∷◌, Some, None, Option, sym, refl, ap, ◌∙◌, subst, inl, inr, ⊎_elim}
use mathlib.Core.Path.{fun_ext}
use Rattle.kinds.proofs.Order.{not_less_self, not_greater_trans}
use Rattle.kinds.specs.Laws.{Laws}
use Rattle.kinds.specs.Meaning.{Meaning}
use Rattle.runs.proofs.Bounds.{reaches_on, run_is_cost, balanced_stage}
use Rattle.runs.specs.Labels.{Sheet, Meets}
use Rattle.runs.specs.Nets.{Net, Open, Lawful}
use Rattle.runs.specs.Runs.{Reaches}
use Rattle.runs.specs.Stages.{Stage, Own, Member, Leaves}
use Rattle.runs.specs.Sweeps.{MeetsAll, Lowered, Swept, NotUnder, NotOver, Sweep}
use Rattle.runs.specs.Theorems.{Balanced}
use Rattle.runs.specs.Traces.{Trace, origin, onward, Traced}
use Rattle.std.proofs.lemmas.Bool.{both_ways, cases_eq}

module _ {Cost Step : Type 0} {m : Meaning Cost Step} (laws : Laws m) where
  -- What is no less than a cost that is not under the floor is not under it either.
  pub not_under_more : (floor : Option Cost) (a b : Cost) → NotUnder m floor a → m.less b a ≡ false → NotUnder m floor b
  not_under_more None a b h k = tt
  not_under_more (Some f) a b h k = not_greater_trans laws f a b h k

  -- What is not over the floor is no more than what is not under it.
  pub not_over_under : (floor : Option Cost) (a b : Cost) → NotOver m floor a → NotUnder m floor b → m.less b a ≡ false
  not_over_under None a b h k = absurd h
  not_over_under (Some f) a b h k = not_greater_trans laws a f b h k

-- A label that is kept or lowered stays reached, at no more.
pub lowered_sinks :
    {Cost Step : Type 0} {m : Meaning Cost Step} (laws : Laws m) {net : Net Step} {L M : Sheet Cost} {p : ℕ} (w : ℕ)
    → (M w ≡ L w) ⊎ Lowered m net L p M w → (L w).reached ≡ true → ((M w).reached ≡ true) × (m.less (L w).cost (M w).cost ≡ false)
lowered_sinks laws {L = L} w (inl e) r = (rw e r, rw e (not_less_self laws (L w).cost))
lowered_sinks {m = m} laws {net} {L} {p = p} w (inr l) r =
    (rw l.becomes refl, rw l.becomes (laws.one_way (m.after (L p).cost (net.step l.link)) (L w).cost (l.lower r)))

pub trace_reached :
    {Cost Step : Type 0} {m : Meaning Cost Step} {net : Net Step} {L : Sheet Cost} {links : List ℕ} {p : ℕ} → Trace m net L links p → (L p).reached ≡ true
trace_reached (origin turnout r l s c) = r
trace_reached (onward k r l o h i t) = r

module _ {Cost Step : Type 0} {m : Meaning Cost Step} (laws : Laws m) {net : Net Step} (lawful : Lawful net) {L M : Sheet Cost} {p : ℕ} (swept : Swept m net L p M) where
  -- A reached label stays reached, at no more.
  pub swept_sinks : (w : ℕ) → (L w).reached ≡ true → ((M w).reached ≡ true) × (m.less (L w).cost (M w).cost ≡ false)
  swept_sinks w r = lowered_sinks laws w (swept.change w) r

  -- Links that were met are met.
  pub swept_meets : (c : Cost) (k : ℕ) → Meets m net L c k → Meets m net M c k
  swept_meets c k h =
      let w : ℕ = net.graph.head k in
      let s = swept_sinks w h.reached in
      record { reached = s.0; no_more = not_greater_trans laws (M w).cost (L w).cost (m.after c (net.step k)) s.1 h.no_more }

  module _ (valid : m.is_cost (L p).cost) where
    -- What is lowered costs no less than p.
    pub lowered_no_less : {w : ℕ} → Lowered m net L p M w → m.less (M w).cost (L p).cost ≡ false
    lowered_no_less l = rw l.becomes (laws.no_lower (L p).cost (net.step l.link) valid)

    -- What costs no more than p is not lowered.
    pub kept_below : (w : ℕ) → (L w).reached ≡ true → m.less (L p).cost (L w).cost ≡ false → M w ≡ L w
    kept_below w r h = go (swept.change w)
      where
        go : (M w ≡ L w) ⊎ Lowered m net L p M w → M w ≡ L w
        go (inl e) = e
        go (inr l) =
            let new : Cost = m.after (L p).cost (net.step l.link) in
            absurd (both_ways (m.less new (L w).cost) (not_greater_trans laws (L w).cost (L p).cost new h (laws.no_lower (L p).cost (net.step l.link) valid)) (l.lower r))

    module _ (costs : (x : ℕ) → x < net.graph.places → (L x).reached ≡ true → m.is_cost (L x).cost) (here : p < net.graph.places) (reached : (L p).reached ≡ true) where
      pub own_kept : M p ≡ L p
      own_kept = kept_below p reached (not_less_self laws (L p).cost)

      -- A walk back that begins at no more than p's cost stands as it was.
      pub trace_below : {links : List ℕ} {a : ℕ} → Trace m net L links a → m.less (L p).cost (L a).cost ≡ false → Trace m net M links a
      trace_below {a = a} (origin turnout r l s c) h =
          let e = kept_below a r h in origin turnout (rw e r) (rw e l) s (rw e c)
      trace_below {a = a} (onward k r l o to i t) h =
          let u : ℕ = net.graph.tail k in
          let ru = trace_reached t in
          let vu = costs u (lawful.within k o.known o.usable).0 ru in
          let ua = not_greater_trans laws (L u).cost (m.after (L u).cost (net.step k)) (L a).cost (laws.no_lower (L u).cost (net.step k) vu) i in
          let up = not_greater_trans laws (L u).cost (L a).cost (L p).cost ua h in
          let e = kept_below a r h in
          let f = kept_below u ru up in
          onward k (rw e r) (rw e l) o to (rw (e, f) i) (trace_below t up)

      pub costs_after : (x : ℕ) → x < net.graph.places → (M x).reached ≡ true → m.is_cost (M x).cost
      costs_after x lt r = go (swept.change x)
        where
          go : (M x ≡ L x) ⊎ Lowered m net L p M x → m.is_cost (M x).cost
          go (inl e) = rw e (costs x lt (rw e at r))
          go (inr l) = rw l.becomes (laws.steps (L p).cost (net.step l.link) valid)

      -- A lowered label's walk back goes on at p.
      pub trace_lowered : {own : List ℕ} → Trace m net L own p → {w : ℕ} (l : Lowered m net L p M w) → Trace m net M (l.link ∷ own) w
      trace_lowered {own} t l =
          let k : ℕ = l.link in
          let through : Trace m net M own p = trace_below t (not_less_self laws (L p).cost) in
          let step : m.less (m.after (L p).cost (net.step k)) (m.after (L p).cost (net.step k)) ≡ false = not_less_self laws (m.after (L p).cost (net.step k)) in
          onward k (rw l.becomes refl) (rw l.becomes refl) l.is_open l.to (rw (l.becomes, l.from, own_kept) step) (rw l.from through)

      -- Walks back are there still.
      pub trace_on : {own : List ℕ} → Trace m net L own p → {links : List ℕ} {x : ℕ} → Trace m net L links x → (after : List ℕ) × Trace m net M after x
      trace_on {own} t {x = x} (origin turnout r l s c) = go (swept.change x)
        where
          go : (M x ≡ L x) ⊎ Lowered m net L p M x → (after : List ℕ) × Trace m net M after x
          go (inl e) = ([], origin turnout (rw e r) (rw e l) s (rw e c))
          go (inr w) = (w.link ∷ own, trace_lowered t w)
      trace_on {own} t {x = x} (onward k r l o to i rest) = go (swept.change x) (trace_on t rest)
        where
          u : ℕ
          u = net.graph.tail k

          go : (M x ≡ L x) ⊎ Lowered m net L p M x → (after : List ℕ) × Trace m net M after u → (after : List ℕ) × Trace m net M after x
          go (inl e) before =
              let lt = (lawful.within k o.known o.usable).0 in
              let sunk = swept_sinks u (trace_reached rest) in
              let order = laws.in_order (M u).cost (L u).cost (net.step k) (costs_after u lt sunk.0) (costs u lt (trace_reached rest)) sunk.1 in
              let bound = not_greater_trans laws (m.after (M u).cost (net.step k)) (m.after (L u).cost (net.step k)) (L x).cost order i in
              (k ∷ before.0, onward k (rw e r) (rw e l) o to (rw e bound) before.1)
          go (inr w) before = (w.link ∷ own, trace_lowered t w)

      pub traced_on : Traced m net L → Traced m net M
      traced_on traced x lt r = go (swept.change x)
        where
          own : (links : List ℕ) × Trace m net L links p
          own = traced p here reached

          go : (M x ≡ L x) ⊎ Lowered m net L p M x → (links : List ℕ) × Trace m net M links x
          go (inl e) = trace_on own.1 (traced x lt (rw e at r)).1
          go (inr w) = (w.link ∷ own.0, trace_lowered own.1 w)

module _
    {Cost Step : Type 0} {m : Meaning Cost Step} (laws : Laws m) {net : Net Step} (lawful : Lawful net) {trig : ℕ → ℕ} {Taken Todo : ℕ → Type 0}
    {floor : Option Cost} {L : Sheet Cost} (s : Sweep m net trig Taken Todo floor L)
  where
    pub sweep_costs : (p : ℕ) → p < net.graph.places → (L p).reached ≡ true → m.is_cost (L p).cost
    sweep_costs p lt r = run_is_cost laws lawful (s.attained p lt r).1

    -- Other places to do, where each that was to do still is, or its links are met.
    pub sweep_relieved :
        {Then : ℕ → Type 0}
        → ((p : ℕ) → p < net.graph.places → (L p).reached ≡ true → Todo p → Then p ⊎ MeetsAll m net L p)
        → Sweep m net trig Taken Then floor L
    sweep_relieved {Then} still = record {
      stations = s.stations;
      attained = s.attained;
      met = λ p lt may r. go p lt r (s.met p lt may r);
      taken = s.taken;
      waiting = s.waiting;
      blank = s.blank;
      traced = s.traced;
    }
      where
        go :
            (p : ℕ) → p < net.graph.places → (L p).reached ≡ true → (Todo p × NotUnder m floor (L p).cost) ⊎ MeetsAll m net L p
            → (Then p × NotUnder m floor (L p).cost) ⊎ MeetsAll m net L p
        go p lt r (inl h) = ⊎_elim (λ t. inl (t, h.1)) (λ a. inr a) (still p lt r h.0)
        go p lt r (inr a) = inr a

    -- With nothing to do the sheet is balanced, so the stage is reached.
    pub sweep_balanced : ((p : ℕ) → Todo p → ⊥) → Balanced m net (Leaves trig Taken) L
    sweep_balanced done = record {
      stations = s.stations;
      met = λ k o may r. ⊎_elim (λ h. absurd (done (net.graph.tail k) h.0)) (λ a. a k o refl) (s.met (net.graph.tail k) (lawful.within k o.known o.usable).0 may r);
      attained = s.attained;
      blank = s.blank;
    }

    pub sweep_stage : ((p : ℕ) → Todo p → ⊥) → Stage m net (Leaves trig Taken) L
    sweep_stage done = balanced_stage laws lawful L (sweep_balanced done)

    module _ {M : Sheet Cost} {p : ℕ} (here : p < net.graph.places) (may : Leaves trig Taken p) (reached : (L p).reached ≡ true) (swept : Swept m net L p M) where
      valid : m.is_cost (L p).cost
      valid = sweep_costs p here reached

      -- Where p's links are met already, sweeping it changes nothing.
      pub met_none_lowered : MeetsAll m net L p → {w : ℕ} → Lowered m net L p M w → ⊥
      met_none_lowered all {w} l =
          let k : ℕ = l.link in
          let h : Meets m net L (L p).cost k = all k l.is_open l.from in
          both_ways (m.less (m.after (L p).cost (net.step k)) (L w).cost) (rw l.to at h.no_more) (l.lower (rw l.to at h.reached))

      pub met_unchanged : MeetsAll m net L p → M ≡ L
      met_unchanged all = fun_ext (λ w. ⊎_elim (λ e. e) (λ l. absurd (met_none_lowered all l)) (swept.change w))

      -- What sweeping p lowers is not under the floor.
      pub lowered_not_under : {w : ℕ} → Lowered m net L p M w → NotUnder m floor (M w).cost
      lowered_not_under {w} l =
          ⊎_elim
          (λ h. not_under_more laws floor (L p).cost (M w).cost h.1 (lowered_no_less laws lawful swept valid l))
          (λ a. absurd (met_none_lowered a l))
          (s.met p here may reached)

      -- The label of a taken trigger never changes.
      pub taken_kept : (w : ℕ) → Taken w → M w ≡ L w
      taken_kept w t =
          ⊎_elim
          (λ h. let d = s.taken w t in kept_below laws lawful swept valid w d.2 (not_over_under laws floor (L w).cost (L p).cost d.3 h.1))
          (λ a. ap (λ f. f w) (met_unchanged a))
          (s.met p here may reached)

      pub lowered_not_taken : {w : ℕ} → Lowered m net L p M w → Taken w → ⊥
      lowered_not_taken {w} l t =
          let new : Cost = m.after (L p).cost (net.step l.link) in
          let same : (L w).cost ≡ new = ap (λ x. x.cost) (sym (taken_kept w t) ∙ l.becomes) in
          both_ways (m.less new new) (not_less_self laws new) (rw same at (l.lower (s.taken w t).2))

      -- p is swept: it is to do no more, and the members at the heads of its links are.
      pub sweep_place :
          {Then : ℕ → Type 0} → ((w : ℕ) → Todo w → w ≢ p → Then w)
          → ((k : ℕ) → Open net.graph k → net.graph.tail k ≡ p → Member trig (net.graph.head k) → Then (net.graph.head k))
          → Sweep m net trig Taken Then floor M
      sweep_place {Then} stays joins = go (s.met p here may reached)
        where
          attained : (q : ℕ) → q < net.graph.places → (M q).reached ≡ true → (M q ≡ L q) ⊎ Lowered m net L p M q → Reaches m net (Leaves trig Taken) q (M q).cost
          attained q lt r (inl e) = rw e (s.attained q lt (rw e at r))
          attained q lt r (inr l) =
              rw (l.becomes, ← l.to)
              (reaches_on l.link (L p).cost l.is_open (rw l.from may) (rw l.from (s.attained p here reached)))

          still : (q : ℕ) → Todo q → Then q ⊎ (q ≡ p)
          still q t = ⊎_elim (λ e. inr e) (λ ne. inl (stays q t ne)) (cases_eq q p)

          own : (q : ℕ) → q ≡ p → M q ≡ L q → MeetsAll m net M q
          own q e same k o from = rw (same, e) (swept.met k o (from ∙ e))

          met_kept :
              (q : ℕ) → M q ≡ L q → (Todo q × NotUnder m floor (L q).cost) ⊎ MeetsAll m net L q
              → (Then q × NotUnder m floor (M q).cost) ⊎ MeetsAll m net M q
          met_kept q e (inl h) = ⊎_elim (λ t. inl (t, rw e h.1)) (λ f. inr (own q f e)) (still q h.0)
          met_kept q e (inr a) = inr (λ k o from. rw e (swept_meets laws lawful swept (L q).cost k (a k o from)))

          met :
              (q : ℕ) → q < net.graph.places → Leaves trig Taken q → (M q).reached ≡ true → (M q ≡ L q) ⊎ Lowered m net L p M q
              → (Then q × NotUnder m floor (M q).cost) ⊎ MeetsAll m net M q
          met q lt mq r (inl e) = met_kept q e (s.met q lt mq (rw e at r))
          met q lt (inl member) r (inr l) = inl (subst Then l.to (joins l.link l.is_open l.from (rw l.to member)), lowered_not_under l)
          met q lt (inr taken) r (inr l) = absurd (lowered_not_taken l taken)

          waiting : (q : ℕ) → q < net.graph.places → Own trig q → (Taken q → ⊥) → (M q).reached ≡ true → (M q ≡ L q) ⊎ Lowered m net L p M q → NotUnder m floor (M q).cost
          waiting q lt o wait r (inl e) = rw e (s.waiting q lt o wait (rw e at r))
          waiting q lt o wait r (inr l) = lowered_not_under l

          go : (Todo p × NotUnder m floor (L p).cost) ⊎ MeetsAll m net L p → Sweep m net trig Taken Then floor M
          go (inr a) =
              subst (Sweep m net trig Taken Then floor) (sym (met_unchanged a))
              (sweep_relieved (λ q lt r t. ⊎_elim (λ h. inl h) (λ e. inr (rw e a)) (still q t)))
          go (inl h) = record {
            stations = λ q turnout e.
                let old = s.stations q turnout e in
                let sunk = swept_sinks laws lawful swept q old.0 in
                (sunk.0, not_greater_trans laws (M q).cost (L q).cost (m.start turnout) sunk.1 old.1);
            attained = λ q lt r. attained q lt r (swept.change q);
            met = λ q lt mq r. met q lt mq r (swept.change q);
            taken = λ q t. let d = s.taken q t in let e = taken_kept q t in (d.0, d.1, rw e d.2, rw e d.3);
            waiting = λ q lt o wait r. waiting q lt o wait r (swept.change q);
            blank = λ q lt u.
                ⊎_elim (λ e. e ∙ s.blank q lt (rw e at u)) (λ l. absurd (both_ways (M q).reached u (rw l.becomes refl))) (swept.change q);
            traced = traced_on laws lawful swept valid sweep_costs here reached s.traced;
          }
