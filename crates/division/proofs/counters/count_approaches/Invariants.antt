use Rattle.std.proofs.Common.{◌≡◌, length}
use Rattle.division.specs.Lists.{at}
use Rattle.division.proofs.Approached.{Counting}
use Rattle.division.proofs.counters.count_approaches.Given as goal

abbrev pub invariant-loop-link : goal.invariant-loop-link
invariant-loop-link l = Counting l.net (at l.approaches) l.link-index × (length l.approaches ≡ 2048)
