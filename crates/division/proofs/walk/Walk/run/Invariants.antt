use Rattle.std.proofs.Common.{◌≡◌}
use Rattle.division.proofs.walk.Walk.run.Given as goal

abbrev pub invariant-loop : goal.invariant-loop
invariant-loop l = l.self.net ≡ l.initial.self.net
