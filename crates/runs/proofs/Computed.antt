-- The tests say what they are named for.
use Rattle.std.proofs.Common.{◌≡◌, ℕ, zero, suc, ◌<◌, Bool, true, false, not, ◌&&◌, ◌||◌, eqb, ltb, leb, List, [], ◌∷◌, length, get_or, Some, None, Option, refl, ⊎_elim, arith}
use lib.ListN.{get_or-eq_default}
use Rattle.kinds.proofs.Order.{not_less_self}
use Rattle.kinds.specs.Laws.{Laws}
use Rattle.kinds.specs.Meaning.{Meaning}
use Rattle.runs.proofs.Bounds.{balanced_stage}
use Rattle.runs.proofs.Walks.{found}
use Rattle.runs.specs.Computed.{no_more, same_cost, station_met, starts_at, no_link, is_blank, link_met, walks_on, walks, balanced, turnout_fits, stations_fit}
use Rattle.runs.specs.Labels.{Sheet, unreached, Meets}
use Rattle.runs.specs.Nets.{Net, Open, Lawful}
use Rattle.runs.specs.Runs.{Everywhere, Run, start, follow}
use Rattle.runs.specs.Theorems.{Balanced, Tested, BalanceTested}
use Rattle.runs.specs.Traces.{Trace, origin, onward}
use Rattle.runs.specs.declared.label.Label.{Label}
use Rattle.std.proofs.lemmas.Bool.{false≢true, both_ways, cases_lt, not-true, and_parts, and_from, or_cases, ltb-true, eqb-true, leb-true}
use Rattle.structures.proofs.Tests.{each_decides}
use Rattle.structures.specs.Computed.{each}
use Rattle.structures.specs.Graphs.{Graph, Within}

each_passes : (P : ℕ → Bool) (n : ℕ) → each P n ≡ true → (k : ℕ) → k < n → P k ≡ true
each_passes P n e = (each_decides P (λ k. P k ≡ true) (λ k. (λ h. h, λ h. h)) n).0 e

implied : (a b : Bool) → not a || b ≡ true → a ≡ true → b ≡ true
implied a b h e = ⊎_elim (λ n. absurd (both_ways a (not-true a n) e)) (λ k. k) (or_cases (not a) b h)

module _ {Cost Step : Type 0} {m : Meaning Cost Step} (laws : Laws m) where
  no_more_is : (a b : Cost) → no_more m a b ≡ true → m.less b a ≡ false
  no_more_is a b h = not-true (m.less b a) h

  same_cost_is : (a b : Cost) → same_cost m a b ≡ true → a ≡ b
  same_cost_is a b h =
      let p = and_parts (no_more m a b) (no_more m b a) h in
      laws.same a b (no_more_is b a p.1) (no_more_is a b p.0)

  no_link_is : (o : Option ℕ) → no_link o ≡ true → o ≡ None
  no_link_is None h = refl
  no_link_is (Some k) h = absurd (false≢true h)

  blank_is : (l : Label Cost) → l.reached ≡ false → l.reached || is_blank m l ≡ true → l ≡ unreached m
  blank_is l u h =
      let p = and_parts (same_cost m l.cost (m.start 0)) (no_link l.link) (⊎_elim (λ r. absurd (both_ways l.reached u r)) (λ b. b) (or_cases l.reached (is_blank m l) h)) in
      let c : l.cost ≡ m.start 0 = same_cost_is l.cost (m.start 0) p.0 in
      let n : l.link ≡ None = no_link_is l.link p.1 in
      λ i. record { reached = u i; cost = c i; link = n i }

  station_is :
      (o : Option ℕ) (l : Label Cost) (turnout : ℕ) → o ≡ Some turnout → station_met m o l ≡ true
      → (l.reached ≡ true) × (m.less (m.start turnout) l.cost ≡ false)
  station_is o l turnout e h =
      let p = and_parts l.reached (no_more m l.cost (m.start turnout)) (rw e at h) in
      (p.0, no_more_is l.cost (m.start turnout) p.1)

  module _ {net : Net Step} (lawful : Lawful net) {L : Sheet Cost} where
    -- A walk that passes, as a trace and as a run.
    walks_is : (bound p : ℕ) → walks m net L bound p ≡ true → (links : List ℕ) × Trace m net L links p × Run m net Everywhere links p (L p).cost
    walks_is zero p h = absurd (false≢true h)
    walks_is (suc bound) p h = go (L p).link refl w.1 (walks_is bound)
      where
        w : ((L p).reached ≡ true) × (walks_on m net L (walks m net L bound) p (L p).link ≡ true)
        w = and_parts (L p).reached (walks_on m net L (walks m net L bound) p (L p).link) h

        begin :
            (o : Option ℕ) → net.station p ≡ o → starts_at m o (L p).cost ≡ true → (L p).link ≡ None
            → (links : List ℕ) × Trace m net L links p × Run m net Everywhere links p (L p).cost
        begin None s e n = absurd (false≢true e)
        begin (Some turnout) s e n = let c = same_cost_is (L p).cost (m.start turnout) e in ([], origin turnout w.0 n s c, start turnout s c)

        go :
            (o : Option ℕ) → (L p).link ≡ o → walks_on m net L (walks m net L bound) p o ≡ true
            → ((q : ℕ) → walks m net L bound q ≡ true → (links : List ℕ) × Trace m net L links q × Run m net Everywhere links q (L q).cost)
            → (links : List ℕ) × Trace m net L links p × Run m net Everywhere links p (L p).cost
        go None n e on = begin (net.station p) refl e n
        go (Some k) l e on =
            let t : ℕ = net.graph.tail k in
            let after : Cost = m.after (L t).cost (net.step k) in
            let known : Bool = ltb k net.graph.links && net.graph.usable k in
            let fits : Bool = eqb (net.graph.head k) p && same_cost m (L p).cost after in
            let a = and_parts known (fits && walks m net L bound t) e in
            let b = and_parts (ltb k net.graph.links) (net.graph.usable k) a.0 in
            let c = and_parts fits (walks m net L bound t) a.1 in
            let d = and_parts (eqb (net.graph.head k) p) (same_cost m (L p).cost after) c.0 in
            let same = same_cost_is (L p).cost after d.1 in
            let o : Open net.graph k = record { known = ltb-true k net.graph.links b.0; usable = b.1 } in
            let h = eqb-true (net.graph.head k) p d.0 in
            let r = on t c.1 in
            (k ∷ r.0, onward k w.0 l o h (rw same (not_less_self laws after)) r.1, follow k (L t).cost o h tt same r.2)

    walks_at : ((p : ℕ) → p < net.graph.places → not (L p).reached || walks m net L net.graph.places p ≡ true) → (p : ℕ) → p < net.graph.places → (L p).reached ≡ true
        → (links : List ℕ) × Trace m net L links p × Run m net Everywhere links p (L p).cost
    walks_at all p lt r = walks_is net.graph.places p (implied (L p).reached (walks m net L net.graph.places p) (all p lt) r)

    link_is : (k : ℕ) → link_met m net L k ≡ true → net.graph.usable k ≡ true → (L (net.graph.tail k)).reached ≡ true → Meets m net L (L (net.graph.tail k)).cost k
    link_is k h u r =
        let t : ℕ = net.graph.tail k in
        let w : ℕ = net.graph.head k in
        let after : Cost = m.after (L t).cost (net.step k) in
        let met = implied (net.graph.usable k && (L t).reached) ((L w).reached && no_more m (L w).cost after) h (and_from (net.graph.usable k) (L t).reached u r) in
        let p = and_parts (L w).reached (no_more m (L w).cost after) met in
        record { reached = p.0; no_more = no_more_is (L w).cost after p.1 }

    pub balanced_tested : balanced m net L ≡ true → Tested m net L
    balanced_tested test = record { least = balanced_stage laws lawful L whole; found = found laws lawful whole (λ p lt r. let t = walks_at walk p lt r in (t.0, t.1)) }
      where
        n : ℕ
        n = net.graph.places

        halves : (each (λ p. station_met m (net.station p) (L p)) n && each (link_met m net L) net.graph.links ≡ true)
            × (each (λ p. not (L p).reached || walks m net L n p) n && each (λ p. (L p).reached || is_blank m (L p)) n ≡ true)
        halves =
            and_parts (each (λ p. station_met m (net.station p) (L p)) n && each (link_met m net L) net.graph.links)
            (each (λ p. not (L p).reached || walks m net L n p) n && each (λ p. (L p).reached || is_blank m (L p)) n) test

        met : (each (λ p. station_met m (net.station p) (L p)) n ≡ true) × (each (link_met m net L) net.graph.links ≡ true)
        met = and_parts (each (λ p. station_met m (net.station p) (L p)) n) (each (link_met m net L) net.graph.links) halves.0

        held : (each (λ p. not (L p).reached || walks m net L n p) n ≡ true) × (each (λ p. (L p).reached || is_blank m (L p)) n ≡ true)
        held = and_parts (each (λ p. not (L p).reached || walks m net L n p) n) (each (λ p. (L p).reached || is_blank m (L p)) n) halves.1

        walk : (p : ℕ) → p < n → not (L p).reached || walks m net L n p ≡ true
        walk = each_passes (λ p. not (L p).reached || walks m net L n p) n held.0

        whole : Balanced m net Everywhere L
        whole = record {
          stations = λ p turnout e.
              station_is (net.station p) (L p) turnout e
              (each_passes (λ p. station_met m (net.station p) (L p)) n met.0 p (lawful.station_place p turnout e));
          met = λ k o may r. link_is k (each_passes (link_met m net L) net.graph.links met.1 k o.known) o.usable r;
          attained = λ p lt r. let t = walks_at walk p lt r in (t.0, t.2);
          blank = λ p lt u. blank_is (L p) u (each_passes (λ p. (L p).reached || is_blank m (L p)) n held.1 p lt);
        }

pub balance_tested : {Cost Step : Type 0} (m : Meaning Cost Step) → Laws m → BalanceTested m
balance_tested m laws net lawful L test = balanced_tested laws lawful test

-- A net whose stations are listed by place.
pub lawful_listed :
    {Step : Type 0} (g : Graph) (step : ℕ → Step) (stations : List (Option ℕ)) → Within g → stations_fit g.places stations ≡ true
    → Lawful (record { graph = g; step = step; station = λ p. get_or stations p None })
lawful_listed g step stations within test = record {
  within = within;
  station_place = place;
  turnouts = λ p turnout e.
      leb-true turnout 4294967295 (rw e at (each_passes (λ p. turnout_fits (get_or stations p None)) g.places parts.1 p (place p turnout e)));
}
  where
    parts : (leb (length stations) g.places ≡ true) × (each (λ p. turnout_fits (get_or stations p None)) g.places ≡ true)
    parts = and_parts (leb (length stations) g.places) (each (λ p. turnout_fits (get_or stations p None)) g.places) test

    none : (o : Option ℕ) (turnout : ℕ) → o ≡ None → o ≡ Some turnout → ⊥
    none o turnout a b = let z : ◌≡◌ {A = ℕ} 0 1 = cc in omega arith

    place : (p turnout : ℕ) → get_or stations p None ≡ Some turnout → p < g.places
    place p turnout e =
        ⊎_elim
        (λ lt. omega (arith, leb-true (length stations) g.places parts.0))
        (λ le. absurd (none (get_or stations p None) turnout (get_or-eq_default stations None le) e))
        (cases_lt p (length stations))
