use Rattle.std.proofs.Common.{ℕ, ◌+◌, ◌<◌, length, sym, subst, arith}
use Rattle.network.specs.Packed.{graph_of}
use Rattle.network.proofs.Parts.{within}
use Rattle.network.proofs.Leaving.{leaving_length, leaving_place, leaving_approach}
use Rattle.structures.specs.Graphs.{Approach}
use Rattle.structures.proofs.Held.{held_place}
use Rattle.division.specs.Lists.{at}
use Rattle.division.specs.declared.lowest.Ring.{Ring}
use Rattle.division.specs.Ringing.{IsRing}
use Rattle.division.proofs.Reaches.{ordered, reaching_turn, reaching_all}
use Rattle.division.proofs.lowest.Ring.reach_of.Goals as goal

-- a member is a place
member_place : (s : Ring) (q : ℕ) → IsRing s → q < length s.members.now → at s.members.now q < s.net.now.places
member_place s q ringed lt = held_place (graph_of s.net.now) (within s.net.now) ringed.known (ringed.grown.only q lt)

pub leaving-link-items-requires : goal.leaving-link-items-requires
leaving-link-items-requires c = member_place c.args.self.now c.args.from c.requires.ringed c.requires.within

pub link_reach-requires-clause-known : goal.link_reach-requires-clause-known
link_reach-requires-clause-known c =
    let s = c.args.self.now in
    let here = member_place s c.args.from c.requires.ringed c.requires.within in
    leaving_place s.net.now (at s.members.now c.args.from) here c.leaving-link-items.result.now c.leaving-link-items.ensures c.loop-link.link-index c.loop-link-test.true

pub link_reach-requires-clause-later : goal.link_reach-requires-clause-later
link_reach-requires-clause-later c q pos lt e =
    let s = c.args.self.now in
    let here = member_place s c.args.from c.requires.ringed c.requires.within in
    c.requires.ringed.grown.after c.args.from q c.requires.within pos lt
    (subst (Approach (graph_of s.net.now) (at s.members.now c.args.from)) (sym e)
    (leaving_approach s.net.now (at s.members.now c.args.from) here c.leaving-link-items.result.now c.leaving-link-items.ensures c.loop-link.link-index c.loop-link-test.true))

pub loop-link-preserved : goal.loop-link-preserved
loop-link-preserved c =
    let s = c.args.self.now in
    let here = member_place s c.args.from c.requires.ringed c.requires.within in
    reaching_turn s.net.now s.u (length s.members.now) (at s.spots.now) (at s.members.now c.args.from) c.loop-link.best c.loop-link.link-index here
    c.leaving-link-items.result.now c.leaving-link-items.ensures c.loop-link-test.true c.loop-link.invariant c.link_reach.result c.link_reach.ensures _ (omega (arith, c.max-best.ensures))

pub returns : goal.returns
returns c =
    let s = c.args.self.now in
    let x = at s.members.now c.args.from in
    let here = member_place s c.args.from c.requires.ringed c.requires.within in
    reaching_all s.net.now s.u (length s.members.now) (at s.spots.now) x c.loop-link.best (at s.net.now.first x + c.loop-link.link-index) (ordered c.requires.ringed).first
    (omega (arith, leaving_length s.net.now x here c.leaving-link-items.result.now c.leaving-link-items.ensures, c.loop-link-test.false)) c.loop-link.invariant
