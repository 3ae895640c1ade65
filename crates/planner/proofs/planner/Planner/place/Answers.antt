use Rattle.std.proofs.Common.{◌≡◌, set, Some, sym, ap, ◌∙◌, length-set}
use Rattle.planner.specs.Stations.{stationed}
use Rattle.planner.proofs.Count.{placed, replaced, in_table}
use Rattle.planner.proofs.planner.Planner.place.Goals as goal
use Rattle.planner.proofs.planner.Planner.place.Goals.{then-not-has_station+else-self-ge-MOST_STATIONS, else-not-has_station}

pub invariant_of-self-2 : goal.invariant_of-self-2
invariant_of-self-2 c =
    let p = c.args.self.now in
    let i = c.in_ok-at.at in
    let lt = in_table p _ i c.args.place c.counts.ensures c.in_ok-at.ensures.known in
    let new : c.if-not-has_station.self.1.1.1.0 ≡ stationed (set p.stations i (Some c.args.turnout)) = elim c.if-not-has_station.branch [
      | then-not-has_station+else-self-ge-MOST_STATIONS w ↦ ap (λ x. x.1.1.1.0) w.self-is ∙ placed p.stations i p.standing c.args.turnout lt p.counted (sym w.if-not-has_station.ensures)
      | else-not-has_station w ↦ ap (λ x. x.1.1.1.0) w.self-is ∙ replaced p.stations i p.standing c.args.turnout lt p.counted (sym w.if-not-has_station.ensures)
    ] in
    record { sized = (simp length-set p.sized.0, p.sized.1); counted = new }
