use Rattle.std.proofs.Common.{◌≡◌, ℕ, length, subst, arith}
use Rattle.network.specs.Packed.{graph_of}
use Rattle.division.specs.Lists.{at}
use Rattle.division.proofs.Grown.{Emptying, emptying_all}
use Rattle.division.proofs.growth.put_back.Goals as goal

pub returns : goal.returns
returns c =
    let done : c.loop-member.member-index ≡ length c.args.members.now = omega arith in
    emptying_all (graph_of c.args.net.now) (at c.args.members.now) (at c.args.full.now) (at c.args.left.now) (at c.loop-member.left) (length c.args.members.now)
    c.requires.full c.requires.pending
    (subst (λ (k : ℕ). Emptying (graph_of c.args.net.now) (at c.args.members.now) (at c.args.full.now) (at c.args.left.now) (at c.loop-member.left) k) done c.loop-member.invariant)
