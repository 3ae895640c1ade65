use Rattle.std.proofs.Common.{◌≡◌, length}
use Rattle.division.specs.Lists.{at}
use Rattle.division.specs.Covering.{owner_at, Overwritten}
use Rattle.division.proofs.cover.assign.Given as goal

abbrev pub invariant-loop-member : goal.invariant-loop-member
invariant-loop-member l = Overwritten (at l.members) l.member-index l.v (owner_at l.initial.owners) (owner_at l.owners) × (length l.owners ≡ 2048)
