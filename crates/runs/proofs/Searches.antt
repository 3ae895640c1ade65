-- Every search is at its stage.
use Rattle.std.proofs.Common.{◌≡◌, ℕ, zero, suc, ◌+◌, ◌<◌, ◌≤◌, Some, None, Option, sym, refl, ap, ◌∙◌, subst, inl, inr, add-one, arith}
use Rattle.kinds.specs.Laws.{Laws}
use Rattle.kinds.specs.Meaning.{Meaning}
use Rattle.runs.proofs.Ends.{settled_ended}
use Rattle.runs.proofs.Orders.{approach_by, ahead_on, ahead_skip, first_start, first_end, take_start, take_trigger, take_end, settled_stage, settled_in_order}
use Rattle.runs.proofs.Sweeps.{taken_kept}
use Rattle.runs.proofs.Takes.{listed_none, listed_grows, listed_last, listed_split, takes_start, takes_on, takes_kept}
use Rattle.runs.specs.Labels.{Sheet}
use Rattle.runs.specs.Nets.{Net, Open, Lawful}
use Rattle.runs.specs.Orders.{Ordered, Ahead, Settled}
use Rattle.runs.specs.Searches.{Visited, sweep, pass, Visits, Search, first, take}
use Rattle.runs.specs.Stages.{Member}
use Rattle.runs.specs.Sweeps.{Sweep}
use Rattle.runs.specs.Takes.{Listed, TakeList}
use Rattle.runs.specs.Theorems.{SearchStages}

module _
    {Cost Step : Type 0} {m : Meaning Cost Step} (laws : Laws m) {net : Net Step} (lawful : Lawful net) {trig order : ℕ → ℕ} {count : ℕ}
    (ordered : Ordered net.graph trig order count)
  where
    -- The places at the first n positions are visited; taken triggers keep their labels.
    pub visits_on :
        {Taken Of : ℕ → Type 0} {floor : Option Cost} {L : Sheet Cost}
        → ((i k : ℕ) → Of (order i) → Open net.graph k → net.graph.tail k ≡ order i → Member trig (net.graph.head k) → Of (net.graph.head k))
        → Sweep m net trig Taken (Ahead order count Of 0) floor L → (n : ℕ) (M : Sheet Cost) → n ≤ count → Visits m net Of order L n M
        → Sweep m net trig Taken (Ahead order count Of n) floor M × ((q : ℕ) → Taken q → M q ≡ L q)
    visits_on {Taken} {Of} {floor} closed s zero M le e =
        (subst (Sweep m net trig Taken (Ahead order count Of 0) floor) (sym e) s, λ q t. ap (λ f. f q) e)
    visits_on {Taken} {Of} {floor} {L} closed s (suc n) N le v = go (visits_on closed s n v.0 (omega arith) v.1) v.2
      where
        M : Sheet Cost
        M = v.0

        go :
            Sweep m net trig Taken (Ahead order count Of n) floor M × ((q : ℕ) → Taken q → M q ≡ L q) → Visited m net Of (order n) M N
            → Sweep m net trig Taken (Ahead order count Of (suc n)) floor N × ((q : ℕ) → Taken q → N q ≡ L q)
        go before (sweep of r swept) =
            let lt : n < count = omega arith in
            let here = ordered.members n lt in
            let on = ahead_on laws lawful ordered n lt (λ k o from member. closed n k of o from member) before.0 r swept in
            (rw add-one at on, λ q t. taken_kept laws lawful before.0 here.0 (inl here.1) r swept q t ∙ before.1 q t)
        go before (pass none e) =
            let on = ahead_skip laws lawful ordered n none before.0 in
            (subst (Sweep m net trig Taken (Ahead order count Of (suc n)) floor) (sym e) (rw add-one at on), λ q t. ap (λ f. f q) e ∙ before.1 q t)

    pub search_settled :
        {list : ℕ → ℕ} {takes : ℕ} {L : Sheet Cost} → Search m net trig order count list takes L
        → (floor : Option Cost) × Settled m net trig (Listed list takes) floor L × TakeList m L list takes
    search_settled {list} {L = N} (first L starts visits) =
        let s = visits_on (λ i k of o from member. tt) (first_start laws lawful ordered (listed_none list) starts) count N (omega arith) visits in
        (None, first_end laws lawful ordered count (omega arith) s.0, takes_start)
    search_settled {list = next} {L = N} (take {takes = n} list t L M before cheapest same last swept visits) = go (search_settled before)
      where
        go :
            (floor : Option Cost) × Settled m net trig (Listed list n) floor L × TakeList m L list n
            → (floor : Option Cost) × Settled m net trig (Listed next (suc n)) floor N × TakeList m N next (suc n)
        go old =
            let now : Listed next (n + 1) t = listed_last same last in
            let begun = take_start laws lawful t old.1 cheapest (listed_grows same last) now (listed_split same last) in
            let d = begun.taken t now in
            let members = take_trigger laws lawful ordered t 0 (λ i a b. omega arith) begun now swept in
            let inside : (i k : ℕ) → trig (order i) ≡ t → Open net.graph k → net.graph.tail k ≡ order i → Member trig (net.graph.head k) → trig (net.graph.head k) ≡ t =
            λ i k of o from member. sym (ordered.inside (order i) (net.graph.head k) (approach_by k o from refl) member) ∙ of in
            let visited = visits_on inside members count N (omega arith) visits in
            let kept : (q : ℕ) → Listed next (n + 1) q → N q ≡ L q = λ q l. visited.1 q l ∙ taken_kept laws lawful begun d.0 (inr now) d.2 swept q l in
            let settled = take_end laws lawful ordered t count (λ i a b. a) visited.0 in
            let takes = takes_kept (takes_on same last old.2 cheapest.waits (settled_in_order laws lawful old.1 t cheapest)) kept in
            (Some (L t).cost, rw add-one at settled, rw add-one at takes)

pub search_stages : {Cost Step : Type 0} (m : Meaning Cost Step) → Laws m → SearchStages m
search_stages m laws net lawful trig order count ordered list takes L search =
    let s = search_settled laws lawful ordered search in
    record { stage = settled_stage laws lawful s.1; ended = settled_ended laws lawful s.1 s.2 }
