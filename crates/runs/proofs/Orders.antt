-- The first sweep and a take, place by place in the order.
use Rattle.std.proofs.Common.{◌≡◌, ℕ, ◌+◌, ◌<◌, ◌≤◌, true, false, ◌≢◌, ◌⊎◌, [], Some, None, Option, sym, refl, ap, ◌∙◌, inl, inr, ⊎_elim, arith}
use Rattle.kinds.proofs.Order.{not_less_self}
use Rattle.kinds.specs.Laws.{Laws}
use Rattle.kinds.specs.Meaning.{Meaning}
use Rattle.runs.proofs.Bounds.{run_more, stage_balanced}
use Rattle.runs.proofs.Sweeps.{not_over_under, sweep_relieved, sweep_place, sweep_stage}
use Rattle.runs.specs.Labels.{Sheet, unreached, first_label}
use Rattle.runs.specs.Nets.{Net, Open, Lawful}
use Rattle.runs.specs.Orders.{Ordered, Ahead, Settled, FirstSweep, TakeSweep}
use Rattle.runs.specs.Runs.{start}
use Rattle.runs.specs.Stages.{Stage, Own, Member, Leaves}
use Rattle.runs.specs.Sweeps.{MeetsAll, Swept, Sweep, NotUnder, NotOver}
use Rattle.runs.specs.Takes.{Cheapest}
use Rattle.runs.specs.Traces.{origin, Traced}
use Rattle.std.proofs.lemmas.Bool.{both_ways}
use Rattle.structures.proofs.Triggers.{trigger_approach}
use Rattle.structures.specs.Computed.{trigger}
use Rattle.structures.specs.Graphs.{Graph, Within, Approach}

-- The triggers of the maximal structures keep the first rule of an order.
pub trigger_inside : (g : Graph) → Within g → (u w : ℕ) → Approach g u w → Member (trigger g) w → trigger g u ≡ trigger g w
trigger_inside g within u w a member = trigger_approach g within u w a (λ e. member (sym e))

pub approach_by : {g : Graph} (k : ℕ) {u w : ℕ} → Open g k → g.tail k ≡ u → g.head k ≡ w → Approach g u w
approach_by k o from to = record { link = k; known = o.known; is_open = o.usable; from = from; to = to }

module _
    {Cost Step : Type 0} {m : Meaning Cost Step} (laws : Laws m) {net : Net Step} (lawful : Lawful net) {trig order : ℕ → ℕ} {count : ℕ}
    (ordered : Ordered net.graph trig order count)
  where
    -- The place at position i is swept.
    pub ahead_on :
        {Taken Of : ℕ → Type 0} {floor : Option Cost} {L M : Sheet Cost} (i : ℕ) → i < count
        → ((k : ℕ) → Open net.graph k → net.graph.tail k ≡ order i → Member trig (net.graph.head k) → Of (net.graph.head k))
        → Sweep m net trig Taken (Ahead order count Of i) floor L → (L (order i)).reached ≡ true → Swept m net L (order i) M
        → Sweep m net trig Taken (Ahead order count Of (i + 1)) floor M
    ahead_on {Of = Of} i lt of s r swept =
        let here = ordered.members i lt in
        sweep_place laws lawful s here.0 (inl here.1) r swept
        (λ w a apart. record {
          position = a.position;
          not_before = let ne : a.position ≢ i = λ e. apart (sym a.stands ∙ ap order e) in omega (arith, a.not_before);
          counted = a.counted;
          stands = a.stands;
          meant = a.meant;
        })
        (λ k o from member.
        let j = ordered.listed (net.graph.head k) (lawful.within k o.known o.usable).1 member in
        let later : i < j.0 = ordered.forward i j.0 lt j.1 (approach_by k o from (sym j.2)) in
        record { position = j.0; not_before = omega arith; counted = j.1; stands = j.2; meant = of k o from member })

    -- The place at position i needs no sweep: it is not reached, or is not meant.
    pub ahead_skip :
        {Taken Of : ℕ → Type 0} {floor : Option Cost} {L : Sheet Cost} (i : ℕ) → ((L (order i)).reached ≡ true → Of (order i) → ⊥)
        → Sweep m net trig Taken (Ahead order count Of i) floor L → Sweep m net trig Taken (Ahead order count Of (i + 1)) floor L
    ahead_skip {Of = Of} {L = L} i none s =
        sweep_relieved laws lawful s
        (λ w lt r a. inl (record {
          position = a.position;
          not_before =
              let ne : a.position ≢ i = λ e. none (rw (sym a.stands ∙ ap order e) at r) (rw (sym a.stands ∙ ap order e) at a.meant) in
              omega (arith, a.not_before);
          counted = a.counted;
          stands = a.stands;
          meant = a.meant;
        }))

    -- The first sweep: at its start the stations' places have their starts, and the others are unreached.
    pub first_start :
        {Taken : ℕ → Type 0} {L : Sheet Cost} → ((q : ℕ) → Taken q → ⊥)
        → ((p : ℕ) → p < net.graph.places → L p ≡ first_label m (net.station p)) → FirstSweep m net trig Taken order count 0 L
    first_start {L = L} nobody first = record {
      stations = λ p turnout e. let f = station p turnout e in (rw f refl, rw f (not_less_self laws (m.start turnout)));
      attained = λ p lt r. let o = of p lt r in ([], start o.0 o.1 (ap (λ x. x.cost) (station p o.0 o.1)));
      met = λ p lt may r.
          ⊎_elim
          (λ member. let j = ordered.listed p lt member in inl (record { position = j.0; not_before = omega arith; counted = j.1; stands = j.2; meant = tt }, tt))
          (λ t. absurd (nobody p t))
          may;
      taken = λ p t. absurd (nobody p t);
      waiting = λ p lt o wait r. tt;
      blank = λ p lt u. none p lt u;
      traced = λ p lt r.
          let o = of p lt r in
          let f = station p o.0 o.1 in
          ([], origin o.0 r (rw f refl) o.1 (rw f refl));
    }
      where
        station : (p turnout : ℕ) → net.station p ≡ Some turnout → L p ≡ first_label m (Some turnout)
        station p turnout e = first p (lawful.station_place p turnout e) ∙ ap (first_label m) e

        of : (p : ℕ) → p < net.graph.places → (L p).reached ≡ true → (turnout : ℕ) × (net.station p ≡ Some turnout)
        of p lt r = go (net.station p) refl
          where
            go : (o : Option ℕ) → net.station p ≡ o → (turnout : ℕ) × (net.station p ≡ Some turnout)
            go None e = absurd (both_ways (L p).reached (rw (first p lt ∙ ap (first_label m) e) refl) r)
            go (Some turnout) e = (turnout, e)

        none : (p : ℕ) → p < net.graph.places → (L p).reached ≡ false → L p ≡ unreached m
        none p lt u = go (net.station p) refl
          where
            go : (o : Option ℕ) → net.station p ≡ o → L p ≡ unreached m
            go None e = first p lt ∙ ap (first_label m) e
            go (Some turnout) e = absurd (both_ways (L p).reached u (rw (first p lt ∙ ap (first_label m) e) refl))

    pub first_on :
        {Taken : ℕ → Type 0} {L M : Sheet Cost} (i : ℕ) → i < count → FirstSweep m net trig Taken order count i L → (L (order i)).reached ≡ true
        → Swept m net L (order i) M → FirstSweep m net trig Taken order count (i + 1) M
    first_on i lt s r swept = ahead_on i lt (λ k o from member. tt) s r swept

    pub first_skip :
        {Taken : ℕ → Type 0} {L : Sheet Cost} (i : ℕ) → FirstSweep m net trig Taken order count i L → (L (order i)).reached ≡ false
        → FirstSweep m net trig Taken order count (i + 1) L
    first_skip {L = L} i s u = ahead_skip i (λ r of. both_ways (L (order i)).reached u r) s

    pub first_end : {Taken : ℕ → Type 0} {L : Sheet Cost} (i : ℕ) → count ≤ i → FirstSweep m net trig Taken order count i L → Settled m net trig Taken None L
    first_end i done s = sweep_relieved laws lawful s (λ p lt r a. absurd (omega (arith, a.not_before, a.counted)))

    -- The trigger is swept: the members of its structure, none before position first, are to do.
    pub take_trigger :
        {Taken : ℕ → Type 0} {floor : Option Cost} {L M : Sheet Cost} (t first : ℕ)
        → ((i : ℕ) → i < count → trig (order i) ≡ t → first ≤ i)
        → Sweep m net trig Taken (λ q. q ≡ t) floor L → Taken t → Swept m net L t M → TakeSweep m net trig Taken floor t order count first M
    take_trigger t first begins s taken swept =
        let d = s.taken t taken in
        sweep_place laws lawful s d.0 (inr taken) d.2 swept (λ w e apart. absurd (apart e))
        (λ k o from member.
        let w : ℕ = net.graph.head k in
        let j = ordered.listed w (lawful.within k o.known o.usable).1 member in
        let same : trig w ≡ t = sym (ordered.inside t w (approach_by k o from refl) member) ∙ d.1 in
        record { position = j.0; not_before = begins j.0 j.1 (ap trig j.2 ∙ same); counted = j.1; stands = j.2; meant = same })

    pub take_on :
        {Taken : ℕ → Type 0} {floor : Option Cost} {L M : Sheet Cost} (t i : ℕ) → i < count → trig (order i) ≡ t
        → TakeSweep m net trig Taken floor t order count i L → (L (order i)).reached ≡ true → Swept m net L (order i) M
        → TakeSweep m net trig Taken floor t order count (i + 1) M
    take_on t i lt of s r swept =
        ahead_on i lt (λ k o from member. sym (ordered.inside (order i) (net.graph.head k) (approach_by k o from refl) member) ∙ of) s r swept

    -- A place that is not reached, or is of another structure, needs no sweep.
    pub take_skip :
        {Taken : ℕ → Type 0} {floor : Option Cost} {L : Sheet Cost} (t i : ℕ) → ((L (order i)).reached ≡ true → trig (order i) ≡ t → ⊥)
        → TakeSweep m net trig Taken floor t order count i L → TakeSweep m net trig Taken floor t order count (i + 1) L
    take_skip t i none s = ahead_skip i none s

    pub take_end :
        {Taken : ℕ → Type 0} {floor : Option Cost} {L : Sheet Cost} (t last : ℕ) → ((i : ℕ) → i < count → trig (order i) ≡ t → i < last)
        → TakeSweep m net trig Taken floor t order count last L → Settled m net trig Taken floor L
    take_end t last ends s =
        sweep_relieved laws lawful s
        (λ p lt r a. absurd (omega (arith, ends a.position a.counted (ap trig a.stands ∙ a.meant), a.not_before)))

module _ {Cost Step : Type 0} {m : Meaning Cost Step} (laws : Laws m) {net : Net Step} (lawful : Lawful net) {trig : ℕ → ℕ} where
  -- A take of t begins: t counts as taken, its cost is the floor, and t is to do.
  pub take_start :
      {Taken Then : ℕ → Type 0} {floor : Option Cost} {L : Sheet Cost} (t : ℕ) → Settled m net trig Taken floor L → Cheapest m net trig Taken L t
      → ((q : ℕ) → Taken q → Then q) → Then t → ((q : ℕ) → Then q → Taken q ⊎ (q ≡ t))
      → Sweep m net trig Then (λ q. q ≡ t) (Some (L t).cost) L
  take_start {Taken} {Then} {floor} {L} t s c grows taken split = record {
    stations = s.stations;
    attained = λ p here reached. let a = s.attained p here reached in (a.0, run_more (λ x may. ⊎_elim (λ member. inl member) (λ old. inr (grows x old)) may) a.1);
    met = λ p here may reached. met p here may reached;
    taken = λ p now. ⊎_elim (old p) (λ e. rw e (c.place, c.own, c.reached, not_less_self laws (L t).cost)) (split p now);
    waiting = λ p here o not reached. c.least p here o (λ old. not (grows p old)) reached;
    blank = s.blank;
    traced = s.traced;
  }
    where
      old : (p : ℕ) → Taken p → (p < net.graph.places) × Own trig p × ((L p).reached ≡ true) × (m.less (L t).cost (L p).cost ≡ false)
      old p now =
          let d = s.taken p now in
          (d.0, d.1, d.2, not_over_under laws floor (L p).cost (L t).cost d.3 (s.waiting t c.place c.own c.waits c.reached))

      met_by : (p : ℕ) → Leaves trig Taken p → p < net.graph.places → (L p).reached ≡ true → ((p ≡ t) × NotUnder m (Some (L t).cost) (L p).cost) ⊎ MeetsAll m net L p
      met_by p may here reached = ⊎_elim (λ h. absurd h.0) (λ a. inr a) (s.met p here may reached)

      met : (p : ℕ) → p < net.graph.places → Leaves trig Then p → (L p).reached ≡ true → ((p ≡ t) × NotUnder m (Some (L t).cost) (L p).cost) ⊎ MeetsAll m net L p
      met p here (inl member) reached = met_by p (inl member) here reached
      met p here (inr now) reached =
          ⊎_elim (λ old. met_by p (inr old) here reached) (λ e. inl (e, rw e (not_less_self laws (L t).cost))) (split p now)

-- Between sweeps the sheet is at the stage of the taken triggers.
module _
    {Cost Step : Type 0} {m : Meaning Cost Step} (laws : Laws m) {net : Net Step} (lawful : Lawful net) {trig : ℕ → ℕ} {Taken : ℕ → Type 0} {floor : Option Cost}
    {L : Sheet Cost}
  where
    pub settled_stage : Settled m net trig Taken floor L → Stage m net (Leaves trig Taken) L
    settled_stage s = sweep_stage laws lawful s (λ p h. h)

    -- No taken trigger costs more than one that is taken next: the costs of taken triggers never fall.
    pub settled_in_order :
        Settled m net trig Taken floor L → (t : ℕ) → Cheapest m net trig Taken L t → (q : ℕ) → Taken q → m.less (L t).cost (L q).cost ≡ false
    settled_in_order s t c q taken =
        not_over_under laws floor (L q).cost (L t).cost (s.taken q taken).3 (s.waiting t c.place c.own c.waits c.reached)

    -- A stage, with walks back and the floor between what is taken and what waits, is settled.
    pub stage_settled :
        Stage m net (Leaves trig Taken) L → Traced m net L
        → ((p : ℕ) → Taken p → (p < net.graph.places) × Own trig p × ((L p).reached ≡ true) × NotOver m floor (L p).cost)
        → ((p : ℕ) → p < net.graph.places → Own trig p → (Taken p → ⊥) → (L p).reached ≡ true → NotUnder m floor (L p).cost)
        → Settled m net trig Taken floor L
    stage_settled stage traced taken waiting =
        let b = stage_balanced laws lawful L stage in
        record {
          stations = b.stations;
          attained = b.attained;
          met = λ p lt may r. inr (λ k o from. rw (← from) (b.met k o (rw from may) (rw from r)));
          taken = taken;
          waiting = waiting;
          blank = b.blank;
          traced = traced;
        }
