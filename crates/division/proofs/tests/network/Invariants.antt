use Rattle.std.proofs.Common.{◌≡◌, length}
use Rattle.network.specs.Within.{Within}
use Rattle.division.proofs.tests.network.Given as goal

abbrev pub invariant-loop-number : goal.invariant-loop-number
invariant-loop-number l = Within l.places l.number l.drawn × (length l.drawn ≡ 4096)
