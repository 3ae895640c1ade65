use Rattle.std.proofs.Common.{◌≡◌, ◌-◌, set, None, sym, arith, length-set}
use Rattle.planner.specs.Stations.{stationed}
use Rattle.planner.proofs.Count.{lifted, in_table}
use Rattle.planner.proofs.planner.Planner.lift.Goals as goal

pub overflow_sub-self : goal.overflow_sub-self
overflow_sub-self c =
    let p = c.args.self.now in
    let i = c.in_ok-at.at in
    let lt = in_table p _ i c.args.place c.counts.ensures c.in_ok-at.ensures.known in
    omega (arith, lifted p.stations i p.standing lt p.counted (sym c.if-not-has_station.ensures))

pub invariant_of-self : goal.invariant_of-self
invariant_of-self c =
    let p = c.args.self.now in
    let i = c.in_ok-at.at in
    let lt = in_table p _ i c.args.place c.counts.ensures c.in_ok-at.ensures.known in
    let one : p.standing - 1 ≡ stationed (set p.stations i None) = omega (arith, lifted p.stations i p.standing lt p.counted (sym c.if-not-has_station.ensures)) in
    record { sized = (simp length-set p.sized.0, p.sized.1); counted = one }
