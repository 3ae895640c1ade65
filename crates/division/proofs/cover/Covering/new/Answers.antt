use Rattle.std.proofs.Common.{ℕ, ◌<◌, Option, None, arith}
use Rattle.network.specs.Packed.{graph_of}
use Rattle.network.proofs.Parts.{within}
use Rattle.std.proofs.lemmas.List.{get_or-replicate}
use Rattle.division.proofs.Covers.{called_none, named_none}
use Rattle.division.proofs.cover.Covering.new.Goals as goal

pub returns : goal.returns
returns c n =
    let free = λ (w : ℕ) (here : w < n.places). get_or-replicate {A = Option ℕ} 2048 w None None (omega (arith, n.sized)) in
    record {
      called = called_none (graph_of n) (within n) _ free;
      names = named_none (graph_of n) (within n) _ _ free;
      waiting = c.new.ensures n.places;
    }
