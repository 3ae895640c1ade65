use Rattle.std.proofs.Common.{refl, arith}
use Rattle.division.specs.Lists.{at}
use Rattle.division.proofs.Reaches.{link_on, link_nowhere}
use Rattle.division.proofs.lowest.Ring.link_reach.Goals as goal
use Rattle.division.proofs.lowest.Ring.link_reach.Goals.{else-q-self-via-then-q-self+then-self-q+else-far-q-gt0, else-q-self-via-then-q-self+else-self-q, else-q-self-via-else-q-self}

pub returns-then-far-q-gt0 : goal.returns-then-far-q-gt0
returns-then-far-q-gt0 c =
    link_on c.requires.ringed (at c.args.far.now) c.args.from c.requires.reach c.args.w c.requires.later (at c.args.self.now.spots.now c.args.w) refl c.if-w-self.false c.if-q-self.true c.if-self-q.true c.if-far-q-gt0.true

pub returns-else-q-self : goal.returns-else-q-self
returns-else-q-self c =
    link_nowhere c.requires.ringed (at c.args.far.now) c.args.from c.requires.reach c.args.w c.requires.later c.if-w-self.false
    (λ lt e pos. elim c.else-q-self.branch [
      | else-q-self-via-then-q-self+then-self-q+else-far-q-gt0 w ↦ omega (arith, pos, w.if-far-q-gt0.false)
      | else-q-self-via-then-q-self+else-self-q w ↦ w.if-self-q.false e
      | else-q-self-via-else-q-self w ↦ omega (arith, lt, w.if-q-self.false)
    ])
