-- What the sweeps offer to the queue, and what waits there.
use Rattle.std.proofs.Common.{◌≡◌, ℕ, ◌+◌, ◌<◌, true, false, eqb, ◌≢◌, ◌⊎◌, is_some, Some, None, Option, sym, refl, ◌∙◌, inl, inr, ⊎_elim, arith}
use Rattle.kinds.proofs.Order.{not_greater_trans}
use Rattle.kinds.specs.Laws.{Laws}
use Rattle.kinds.specs.Meaning.{Meaning}
use Rattle.runs.proofs.Follows.{lowers_less}
use Rattle.runs.proofs.Sweeps.{not_under_more, not_over_under, lowered_sinks, sweep_costs}
use Rattle.runs.proofs.Takes.{listed_cases, takes_room}
use Rattle.runs.specs.Follows.{lowers, Followed, Following}
use Rattle.runs.specs.Labels.{Sheet, arrived, Meets}
use Rattle.runs.specs.Nets.{Net, Open, Lawful}
use Rattle.runs.specs.Stages.{Own, Member, Leaves}
use Rattle.runs.specs.Sweeps.{MeetsAll, NotUnder, Sweep}
use Rattle.runs.specs.Takes.{Cheapest, Listed, Queued}
use Rattle.std.proofs.lemmas.Bool.{both_ways, cases_eq, eq-eqb, cond-true}
use Rattle.structures.specs.Computed.{count}

-- While the links of p are followed: a link that lowers a label offers no less than the floor, and never lowers a taken trigger.
pub offer_fits :
    {Cost Step : Type 0} {m : Meaning Cost Step} (laws : Laws m) {net : Net Step} (lawful : Lawful net) {trig : ℕ → ℕ} {Taken Todo : ℕ → Type 0}
    {floor : Option Cost} {L M : Sheet Cost} {part : ℕ → ℕ} {first p next : ℕ}
    → Sweep m net trig Taken Todo floor L → p < net.graph.places → Leaves trig Taken p → (L p).reached ≡ true
    → Following m net part first L p next M
    → (k : ℕ) → Open net.graph k → net.graph.tail k ≡ p → lowers m (m.after (L p).cost (net.step k)) (M (net.graph.head k)) ≡ true
    → NotUnder m floor (m.after (L p).cost (net.step k)) × (Taken (net.graph.head k) → ⊥)
offer_fits {Cost} {m = m} laws {net} lawful {trig} {Taken} {Todo} {floor} {L} {M} {p = p} s here may reached f k o from h = go (s.met p here may reached)
  where
    w : ℕ
    w = net.graph.head k

    new : Cost
    new = m.after (L p).cost (net.step k)

    -- the head was not reached at so little
    dearer : (L w).reached ≡ true → m.less new (L w).cost ≡ false → ⊥
    dearer r n =
        let sunk = lowered_sinks laws w (f.change w) r in
        both_ways (m.less new (M w).cost) (not_greater_trans laws (M w).cost (L w).cost new sunk.1 n) (lowers_less laws new (M w) h sunk.0)

    go : (Todo p × NotUnder m floor (L p).cost) ⊎ MeetsAll m net L p → NotUnder m floor new × (Taken w → ⊥)
    go (inl t) =
        let over : NotUnder m floor new = not_under_more laws floor (L p).cost new t.1 (laws.no_lower (L p).cost (net.step k) (sweep_costs laws lawful s p here reached)) in
        (over, λ taken. let d = s.taken w taken in dearer d.2 (not_over_under laws floor (L w).cost new d.3 over))
    go (inr a) = let met : Meets m net L (L p).cost k = a k o from in absurd (dearer met.reached met.no_more)

module _ {Cost : Type 0} where
  some_cost : (o : Option Cost) (c d : Cost) → o ≡ Some c → o ≡ Some d → c ≡ d
  some_cost o c d a b = cc

  none_cost : (o : Option Cost) (c : Cost) → o ≡ None → o ≡ Some c → ⊥
  none_cost o c a b = let z : ◌≡◌ {A = ℕ} 0 1 = cc in omega arith

  apart : (o : Option Cost) → o ≡ None → is_some o ≡ true → ⊥
  apart o a b = both_ways (is_some o) (rw a refl) b

module _ {Cost : Type 0} {trig : ℕ → ℕ} {Taken : ℕ → Type 0} where
  -- An empty queue, of no place yet.
  pub queued_start : {L : Sheet Cost} {at : ℕ → Option Cost} → ((q : ℕ) → at q ≡ None) → Queued trig Taken 0 L at
  queued_start {at = at} empty = record { waits = λ q lt. absurd (omega arith); only = λ q c e. absurd (none_cost (at q) c (empty q) e) }

  module _ {bound : ℕ} {L : Sheet Cost} {at : ℕ → Option Cost} (queued : Queued trig Taken bound L at) where
    -- The next place waits, or need not.
    pub queued_next :
        {then : ℕ → Option Cost} → Own trig bound → (Taken bound → ⊥) → (L bound).reached ≡ true
        → then bound ≡ Some (L bound).cost → ((q : ℕ) → q ≢ bound → then q ≡ at q) → Queued trig Taken (bound + 1) L then
    queued_next {then} own wait r here others = record {
      waits = λ q lt o n reached. ⊎_elim (λ e. rw e here) (λ ne. others q ne ∙ queued.waits q (omega arith) o n reached) (cases_eq q bound);
      only = λ q c e. only q c e (cases_eq q bound);
    }
      where
        only :
            (q : ℕ) (c : Cost) → then q ≡ Some c → (q ≡ bound) ⊎ (q ≡ bound → ⊥)
            → (q < bound + 1) × Own trig q × (Taken q → ⊥) × ((L q).reached ≡ true) × ((L q).cost ≡ c)
        only q c e (inl same) =
            rw same (omega arith, own, wait, r, some_cost (then bound) (L bound).cost c here (rw same at e))
        only q c e (inr ne) = let o = queued.only q c (sym (others q ne) ∙ e) in (omega (arith, o.0), o.1, o.2, o.3, o.4)

    pub queued_pass : (Own trig bound → (Taken bound → ⊥) → (L bound).reached ≡ true → ⊥) → Queued trig Taken (bound + 1) L at
    queued_pass none = record {
      waits = λ q lt o n reached.
          ⊎_elim (λ e. absurd (none (rw e at o) (rw e at n) (rw e at reached))) (λ ne. queued.waits q (omega arith) o n reached) (cases_eq q bound);
      only = λ q c e. let o = queued.only q c e in (omega (arith, o.0), o.1, o.2, o.3, o.4);
    }

    -- A trigger's label is written, and the trigger then waits at its cost.
    pub queued_write :
        {M : Sheet Cost} {then : ℕ → Option Cost} (w : ℕ) → w < bound → Own trig w → (Taken w → ⊥) → (M w).reached ≡ true
        → ((q : ℕ) → q ≢ w → M q ≡ L q) → then w ≡ Some (M w).cost → ((q : ℕ) → q ≢ w → then q ≡ at q) → Queued trig Taken bound M then
    queued_write {M} {then} w lt own wait r labels here others = record {
      waits = λ q below o n reached.
          ⊎_elim (λ e. rw e here) (λ ne. let same = labels q ne in others q ne ∙ rw same (queued.waits q below o n (rw same at reached))) (cases_eq q w);
      only = λ q c e. only q c e (cases_eq q w);
    }
      where
        only :
            (q : ℕ) (c : Cost) → then q ≡ Some c → (q ≡ w) ⊎ (q ≡ w → ⊥)
            → (q < bound) × Own trig q × (Taken q → ⊥) × ((M q).reached ≡ true) × ((M q).cost ≡ c)
        only q c e (inl same) = rw same (lt, own, wait, r, some_cost (then w) (M w).cost c here (rw same at e))
        only q c e (inr ne) = rw (labels q ne) (queued.only q c (sym (others q ne) ∙ e))

    -- Labels of members are nothing to the queue.
    pub queued_members : {M : Sheet Cost} → ((q : ℕ) → Own trig q → M q ≡ L q) → Queued trig Taken bound M at
    queued_members labels = record {
      waits = λ q lt o n reached. let same = labels q o in rw same (queued.waits q lt o n (rw same at reached));
      only = λ q c e. let o = queued.only q c e in (o.0, o.1, o.2, rw (labels q o.1) o.3, rw (labels q o.1) o.4);
    }

    -- A trigger is taken, and waits no more.
    pub queued_taken :
        {Then : ℕ → Type 0} {then : ℕ → Option Cost} (t : ℕ) → then t ≡ None → ((q : ℕ) → q ≢ t → then q ≡ at q)
        → ((q : ℕ) → Taken q → Then q) → Then t → ((q : ℕ) → Then q → Taken q ⊎ (q ≡ t)) → Queued trig Then bound L then
    queued_taken {Then} {then} t gone others grows taken split = record {
      waits = λ q lt o n reached.
          others q (λ e. n (rw e taken)) ∙ queued.waits q lt o (λ old. n (grows q old)) reached;
      only = λ q c e. only q c e (cases_eq q t);
    }
      where
        only :
            (q : ℕ) (c : Cost) → then q ≡ Some c → (q ≡ t) ⊎ (q ≡ t → ⊥)
            → (q < bound) × Own trig q × (Then q → ⊥) × ((L q).reached ≡ true) × ((L q).cost ≡ c)
        only q c e (inl same) = absurd (none_cost (then t) c gone (rw same at e))
        only q c e (inr ne) =
            let o = queued.only q c (sym (others q ne) ∙ e) in
            (o.0, o.1, λ now. ⊎_elim o.2 ne (split q now), o.3, o.4)

    -- An unreached place does not wait.
    pub queued_unreached : (w : ℕ) → (L w).reached ≡ false → at w ≡ None
    queued_unreached w u = go (at w) refl
      where
        go : (o : Option Cost) → at w ≡ o → at w ≡ None
        go None e = e
        go (Some c) e = absurd (both_ways (L w).reached u (queued.only w c e).3)

    -- While a trigger does not wait, fewer wait than there are triggers, whatever list holds those that wait, each once.
    pub queued_room :
        (list : ℕ → ℕ) (n : ℕ) → ((i j : ℕ) → i < n → j < n → list i ≡ list j → i ≡ j) → ((i : ℕ) → i < n → is_some (at (list i)) ≡ true)
        → (w : ℕ) → w < bound → Own trig w → at w ≡ None → n < count (λ q. eqb (trig q) q) bound
    queued_room list n once waits w lt own none =
        takes_room (λ q. eqb (trig q) q) list n bound w once (λ q l. each q (at q) refl (rw l.stands at (waits l.position l.counted))) lt
        (eq-eqb (trig w) w own) (λ l. apart (at w) none (rw l.stands at (waits l.position l.counted)))
      where
        each : (q : ℕ) (o : Option Cost) → at q ≡ o → is_some (at q) ≡ true → (q < bound) × (eqb (trig q) q ≡ true)
        each q None e h = absurd (apart (at q) e h)
        each q (Some c) e h = let o = queued.only q c e in (o.0, eq-eqb (trig q) q o.1)

-- One link was followed: to a member it offers nothing, and where it lowers a trigger's label it offers the new cost.
module _
    {Cost Step : Type 0} {m : Meaning Cost Step} {net : Net Step} {trig : ℕ → ℕ} {Taken : ℕ → Type 0} {bound : ℕ} {L M : Sheet Cost} {at : ℕ → Option Cost}
    {c : Cost} {k : ℕ} (queued : Queued trig Taken bound L at) (f : Followed m net c k L M)
  where
    pub queued_member : Member trig (net.graph.head k) → Queued trig Taken bound M at
    queued_member member = queued_members queued (λ q own. f.others q (λ e. member (rw e at own)))

    pub queued_offer :
        {then : ℕ → Option Cost} → lowers m (m.after c (net.step k)) (L (net.graph.head k)) ≡ true
        → net.graph.head k < bound → Own trig (net.graph.head k) → (Taken (net.graph.head k) → ⊥)
        → then (net.graph.head k) ≡ Some (m.after c (net.step k)) → ((q : ℕ) → q ≢ net.graph.head k → then q ≡ at q)
        → Queued trig Taken bound M then
    queued_offer h lt own wait here others =
        let w : ℕ = net.graph.head k in
        let new : Cost = m.after c (net.step k) in
        let e : M w ≡ arrived new k = f.head ∙ cond-true (lowers m new (L w)) (arrived new k) (L w) h in
        queued_write queued w lt own wait (rw e refl) f.others (rw e here) others

-- With an empty queue no reached trigger is left to take.
pub queued_empty :
    {Cost : Type 0} {trig list : ℕ → ℕ} {n bound : ℕ} {L : Sheet Cost} {at : ℕ → Option Cost}
    → Queued trig (Listed list n) bound L at → ((q : ℕ) → at q ≡ None) → (t : ℕ) → t < bound → Own trig t → (L t).reached ≡ true → Listed list n t
queued_empty {list = list} {n} {L = L} {at} queued empty t lt own r =
    ⊎_elim (λ l. l) (λ wait. absurd (none_cost (at t) (L t).cost (empty t) (queued.waits t lt own wait r))) (listed_cases list n t)

-- What waits at the least cost is the trigger to take.
pub queued_cheapest :
    {Cost Step : Type 0} {m : Meaning Cost Step} {net : Net Step} {trig : ℕ → ℕ} {Taken : ℕ → Type 0} {L : Sheet Cost} {at : ℕ → Option Cost}
    → Queued trig Taken net.graph.places L at → (t : ℕ) (c : Cost) → at t ≡ Some c → ((q : ℕ) (d : Cost) → at q ≡ Some d → m.less d c ≡ false)
    → Cheapest m net trig Taken L t × ((L t).cost ≡ c)
queued_cheapest {L = L} queued t c waits least =
    let o = queued.only t c waits in (
      record {
        place = o.0;
        own = o.1;
        waits = o.2;
        reached = o.3;
        least = λ q lt own wait r. rw o.4 (least q (L q).cost (queued.waits q lt own wait r));
      },
      o.4,
    )
