use Rattle.std.proofs.Common.{◌≡◌, ◌+◌, ◌-◌, arith}
use Rattle.kinds.specs.Lights.{next_green_is_next}
use Rattle.kinds.specs.Green.{next_green}
use Rattle.std.proofs.lemmas.Bool.Decides.{nat_tests}
use Rattle.kinds.proofs.green.next_green.Goals as goal

pub returns-else-phase-from : goal.returns-else-phase-from
returns-else-phase-from c =
    let v : c.from-else-phase-from.result + (c.from-else-phase-from-2.result - c.phase-phase.result) ≡ next_green c.args.signal c.args.moment = grind (arith, nat_tests) in
    record { least = rw v (next_green_is_next c.args.signal c.args.moment); value = v }
