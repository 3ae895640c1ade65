-- Runs, in the order of driving.
use Rattle.std.proofs.Common.{ℕ, List, [], ◌∷◌, map, refl}
use mathlib.Core.List.{reverse_aux}
use Rattle.kinds.specs.Meaning.{Meaning}
use Rattle.kinds.specs.Runs.{cost_from}
use Rattle.runs.specs.Nets.{Net}
use Rattle.runs.specs.Runs.{Run, start, follow, Everywhere, Leads, Driven}
use Rattle.runs.specs.Theorems.{RunsAreDriven}

module _ {Cost Step : Type 0} {m : Meaning Cost Step} {net : Net Step} where
  pub run_drives :
      {links : List ℕ} {p : ℕ} {c : Cost} (more : List ℕ) (q : ℕ) → Run m net Everywhere links p c → Leads net.graph p more q
      → Driven m net (reverse_aux links more) q (cost_from m c (map net.step more))
  run_drives {p = p} more q (start turnout s e) leads = record { from = p; turnout = turnout; station = s; leads = leads; costs = rw e refl }
  run_drives more q (follow k before o h u e r) leads = rw e (run_drives (k ∷ more) q r (o, refl, rw h leads))

  pub drives_run :
      (more : List ℕ) (q : ℕ) {links : List ℕ} {p : ℕ} {c : Cost} → Run m net Everywhere links p c → Leads net.graph p more q
      → Run m net Everywhere (reverse_aux more links) q (cost_from m c (map net.step more))
  drives_run [] q r leads = rw (← leads) r
  drives_run (k ∷ more) q {c = c} r leads =
      drives_run more q (follow k c leads.0 refl tt refl (rw leads.1 r)) leads.2

pub runs_driven : {Cost Step : Type 0} (m : Meaning Cost Step) → RunsAreDriven m
runs_driven m net links p c = record {
  run_driven = λ r. run_drives [] p r refl;
  driven_run = λ d. rw d.costs (drives_run links p (start d.turnout d.station refl) d.leads);
}
