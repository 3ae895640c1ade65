use Rattle.std.proofs.Common.{ℕ, [], ◌∷◌, ◌++◌, List, length, sym, ap, ◌∙◌, subst, arith}
use Rattle.network.specs.Packed.{graph_of}
use Rattle.division.specs.Lists.{at}
use Rattle.division.specs.Growing.{Growing, Before}
use Rattle.division.proofs.Grown.{growing_none}
use Rattle.division.proofs.growth.spread.Goals as goal

pub loop-k-init : goal.loop-k-init
loop-k-init c =
    let g = graph_of c.args.net.now in
    let alone = c.push.ensures ∙ ap (λ xs. xs ++ c.args.v ∷ []) c.clear.ensures in (
      subst (λ (xs : List ℕ). Growing g c.args.v (at xs) (at c.args.left.now) (length xs) (Before g (at xs) 0)) (sym alone)
          (growing_none c.args.net.now c.args.v c.requires.place c.args.left.now c.requires.full),
      omega arith,
    )
