-- Runs, their costs, and sheets that hold least costs.
use Rattle.std.proofs.Common.{◌≡◌, ℕ, ◌<◌, Bool, true, false, List, ◌∷◌, sym, refl, subst, inl, inr}
use Rattle.kinds.proofs.Order.{not_greater_trans}
use Rattle.kinds.specs.Laws.{Laws}
use Rattle.kinds.specs.Meaning.{Meaning}
use Rattle.runs.specs.Labels.{Sheet, Meets}
use Rattle.runs.specs.Least.{Least}
use Rattle.runs.specs.Nets.{Net, Open, Lawful}
use Rattle.runs.specs.Runs.{Run, start, follow, Reaches}
use Rattle.runs.specs.Stages.{Stage}
use Rattle.runs.specs.Theorems.{Balanced, BalancedLeast}
use Rattle.std.proofs.lemmas.Bool.{both_ways}
use Rattle.structures.specs.Rivals.{Among}

-- A run that leaves places of one set leaves places of a larger one.
pub run_more :
    {Cost Step : Type 0} {m : Meaning Cost Step} {net : Net Step} {May More : ℕ → Type 0} {links : List ℕ} {p : ℕ} {c : Cost}
    → ((x : ℕ) → May x → More x) → Run m net May links p c → Run m net More links p c
run_more grows (start turnout s e) = start turnout s e
run_more {net = net} grows (follow k before o h may e r) = follow k before o h (grows (net.graph.tail k) may) e (run_more grows r)

-- One link more.
pub reaches_on :
    {Cost Step : Type 0} {m : Meaning Cost Step} {net : Net Step} {May : ℕ → Type 0} (k : ℕ) (c : Cost)
    → Open net.graph k → May (net.graph.tail k) → Reaches m net May (net.graph.tail k) c → Reaches m net May (net.graph.head k) (m.after c (net.step k))
reaches_on k c o may r = (k ∷ r.0, follow k c o refl may refl r.1)

-- The links of a run are open.
pub run_open :
    {Cost Step : Type 0} {m : Meaning Cost Step} {net : Net Step} {May : ℕ → Type 0} {links : List ℕ} {p : ℕ} {c : Cost}
    → Run m net May links p c → (k : ℕ) → Among k links → Open net.graph k
run_open (start turnout s e) k a = absurd a
run_open (follow j before o h may e r) k (inl same) = rw same o
run_open (follow j before o h may e r) k (inr a) = run_open r k a

-- There is one least cost at most.
pub one_least : {Cost Step : Type 0} {m : Meaning Cost Step} (laws : Laws m) {Had : Cost → Type 0} {c d : Cost} → Least m Had c → Least m Had d → c ≡ d
one_least laws {c = c} {d = d} a b = laws.same c d (b.none_less c a.had) (a.none_less d b.had)

module _ {Cost Step : Type 0} {m : Meaning Cost Step} (laws : Laws m) {net : Net Step} (lawful : Lawful net) where
  pub run_place : {May : ℕ → Type 0} {links : List ℕ} {p : ℕ} {c : Cost} → Run m net May links p c → p < net.graph.places
  run_place {p = p} (start turnout s e) = lawful.station_place p turnout s
  run_place (follow k before o h may e r) = subst (λ x. x < net.graph.places) h (lawful.within k o.known o.usable).1

  pub run_is_cost : {May : ℕ → Type 0} {links : List ℕ} {p : ℕ} {c : Cost} → Run m net May links p c → m.is_cost c
  run_is_cost {p = p} (start turnout s e) = subst m.is_cost (sym e) (laws.starts turnout (lawful.turnouts p turnout s))
  run_is_cost (follow k before o h may e r) = subst m.is_cost (sym e) (laws.steps before (net.step k) (run_is_cost r))

  -- No run to a place costs less than the label of a balanced sheet.
  pub balanced_bounds :
      {May : ℕ → Type 0} (L : Sheet Cost) → Balanced m net May L → {links : List ℕ} {p : ℕ} {c : Cost} → Run m net May links p c
      → ((L p).reached ≡ true) × (m.less c (L p).cost ≡ false)
  balanced_bounds L b {p = p} (start turnout s e) = let h = b.stations p turnout s in (h.0, rw e h.1)
  balanced_bounds L b (follow k before o h may e r) =
      let ih = balanced_bounds L b r in
      let t : ℕ = net.graph.tail k in
      let place : t < net.graph.places = run_place r in
      let meets : Meets m net L (L t).cost k = b.met k o may ih.0 in
      let order = laws.in_order (L t).cost before (net.step k) (run_is_cost (b.attained t place ih.0).1) (run_is_cost r) ih.1 in
      let bound = not_greater_trans laws (L (net.graph.head k)).cost (m.after (L t).cost (net.step k)) (m.after before (net.step k)) meets.no_more order in
      (rw (← h) meets.reached, rw (← h, e) bound)

  pub balanced_stage : {May : ℕ → Type 0} (L : Sheet Cost) → Balanced m net May L → Stage m net May L
  balanced_stage L b = record {
    least = λ p lt r. record { had = b.attained p lt r; none_less = λ d run. (balanced_bounds L b run.1).1 };
    none = λ p lt u c run. both_ways (L p).reached u (balanced_bounds L b run.1).0;
    blank = b.blank;
  }

  -- Nor less than the label of a stage.
  pub stage_bounds :
      {May : ℕ → Type 0} (L : Sheet Cost) → Stage m net May L → {links : List ℕ} {p : ℕ} {c : Cost} → Run m net May links p c
      → ((L p).reached ≡ true) × (m.less c (L p).cost ≡ false)
  stage_bounds L s {links} {p} {c} r = go (L p).reached refl
    where
      go : (b : Bool) → (L p).reached ≡ b → ((L p).reached ≡ true) × (m.less c (L p).cost ≡ false)
      go true e = (e, (s.least p (run_place r) e).none_less c (links, r))
      go false e = absurd (s.none p (run_place r) e c (links, r))

  -- A stage is balanced.
  pub stage_balanced : {May : ℕ → Type 0} (L : Sheet Cost) → Stage m net May L → Balanced m net May L
  stage_balanced L s = record {
    stations = λ p turnout e. stage_bounds L s (start turnout e refl);
    met = λ k o may r.
        let t : ℕ = net.graph.tail k in
        let had = (s.least t (lawful.within k o.known o.usable).0 r).had in
        let h = stage_bounds L s (follow k (L t).cost o refl may refl had.1) in
        record { reached = h.0; no_more = h.1 };
    attained = λ p lt r. (s.least p lt r).had;
    blank = s.blank;
  }

pub balanced_least : {Cost Step : Type 0} (m : Meaning Cost Step) → Laws m → BalancedLeast m
balanced_least m laws net lawful L b = balanced_stage laws lawful L b
