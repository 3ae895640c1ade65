-- The end of the search.
use Rattle.std.proofs.Common.{◌≡◌, ℕ, ◌<◌, true, List, Option, refl, inl, inr, ⊎_elim, arith}
use Rattle.kinds.specs.Laws.{Laws}
use Rattle.kinds.specs.Meaning.{Meaning}
use Rattle.runs.proofs.Bounds.{run_more, one_least, run_place, stage_bounds, stage_balanced}
use Rattle.runs.proofs.Orders.{settled_stage}
use Rattle.runs.proofs.Walks.{one_walk, found}
use Rattle.runs.specs.Labels.{Sheet}
use Rattle.runs.specs.Least.{Least}
use Rattle.runs.specs.Nets.{Net, Lawful}
use Rattle.runs.specs.Orders.{Settled}
use Rattle.runs.specs.Runs.{Run, start, follow, Everywhere, Reaches}
use Rattle.runs.specs.Stages.{Stage, Own, Leaves}
use Rattle.runs.specs.Takes.{Listed, TakeList}
use Rattle.runs.specs.Theorems.{Ended, SearchSolves}
use Rattle.std.proofs.lemmas.Bool.{cases_eq}

module _ {Cost Step : Type 0} {m : Meaning Cost Step} (laws : Laws m) {net : Net Step} (lawful : Lawful net) where
  -- Where every reached place may be left, every run is one that leaves only such places.
  pub run_within :
      {May : ℕ → Type 0} {L : Sheet Cost} → Stage m net May L → ((p : ℕ) → p < net.graph.places → (L p).reached ≡ true → May p)
      → {links : List ℕ} {p : ℕ} {c : Cost} → Run m net Everywhere links p c → Run m net May links p c
  run_within s may (start turnout e c) = start turnout e c
  run_within {L = L} s may (follow k before o h u e r) =
      let inner = run_within s may r in
      follow k before o h (may (net.graph.tail k) (run_place laws lawful r) (stage_bounds laws lawful L s inner).0) e inner

  pub stage_everywhere :
      {May : ℕ → Type 0} {L : Sheet Cost} → Stage m net May L → ((p : ℕ) → p < net.graph.places → (L p).reached ≡ true → May p)
      → Stage m net Everywhere L
  stage_everywhere s may = record {
    least = λ p lt r.
        let l = s.least p lt r in
        record { had = (l.had.0, run_more (λ x y. tt) l.had.1); none_less = λ d run. l.none_less d (run.0, run_within s may run.1) };
    none = λ p lt u c run. s.none p lt u c (run.0, run_within s may run.1);
    blank = s.blank;
  }

  -- The stage in which no reached trigger is left to take is that of all runs.
  pub all_taken_stage :
      {trig : ℕ → ℕ} {Taken : ℕ → Type 0} {L : Sheet Cost} → Stage m net (Leaves trig Taken) L
      → ((t : ℕ) → t < net.graph.places → Own trig t → (L t).reached ≡ true → Taken t) → Stage m net Everywhere L
  all_taken_stage {trig} s all = stage_everywhere s (λ p lt r. ⊎_elim (λ own. inr (all p lt own r)) (λ member. inl member) (cases_eq (trig p) p))

-- A settled sheet, with the list of the takes so far and no reached trigger left, is the end.
pub settled_ended :
    {Cost Step : Type 0} {m : Meaning Cost Step} (laws : Laws m) {net : Net Step} (lawful : Lawful net) {trig list : ℕ → ℕ} {takes : ℕ} {floor : Option Cost}
    {L : Sheet Cost}
    → Settled m net trig (Listed list takes) floor L → TakeList m L list takes
    → ((t : ℕ) → t < net.graph.places → Own trig t → (L t).reached ≡ true → Listed list takes t) → Ended m net trig list takes L
settled_ended laws lawful s takes all = record {
  stage = settled_stage laws lawful s;
  traced = s.traced;
  take_list = takes;
  taken_reached = λ t l. let d = s.taken t l in (d.0, d.1, d.2);
  all_taken = all;
}

pub search_solves : {Cost Step : Type 0} (m : Meaning Cost Step) → Laws m → SearchSolves m
search_solves m laws net lawful trig list takes L e = record {
  least = whole;
  found = found laws lawful (stage_balanced laws lawful L whole) e.traced;
  one_walk = λ p links others. one_walk;
  taken_runs = λ t a. let h = e.taken_reached t a in (h.1, ((L t).cost, (whole.least t h.0 h.2).had));
  runs_taken = λ t c own run. e.all_taken t (run_place laws lawful run.1) own (stage_bounds laws lawful L whole run.1).0;
  once = e.take_list.once;
  rising = λ i j c d before lt a b.
      let same : c ≡ (L (list i)).cost = one_least laws a (at i (omega arith)) in
      let other : d ≡ (L (list j)).cost = one_least laws b (at j lt) in
      rw (same, other) (e.take_list.rising i j before lt);
}
  where
    whole : Stage m net Everywhere L
    whole = all_taken_stage laws lawful e.stage e.all_taken

    at : (i : ℕ) → i < takes → Least m (Reaches m net Everywhere (list i)) (L (list i)).cost
    at i lt = let h = e.taken_reached (list i) (record { position = i; counted = lt; stands = refl }) in whole.least (list i) h.0 h.2
