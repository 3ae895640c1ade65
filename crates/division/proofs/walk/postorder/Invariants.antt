use Rattle.std.proofs.Common.{◌≡◌}
use Rattle.division.proofs.walk.postorder.Given as goal

abbrev pub invariant-loop-start : goal.invariant-loop-start
invariant-loop-start l = l.walk.net.now ≡ l.net
