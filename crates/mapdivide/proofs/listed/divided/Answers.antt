use Rattle.std.proofs.Common.{◌≡◌, ℕ, List, length, drop, sym, ◌∙◌, subst, arith}
use Rattle.std.proofs.lemmas.List.{take_at}
use Rattle.network.specs.Drawn.{map_graph}
use Rattle.mapdivide.specs.Listing.{Lists}
use Rattle.mapdivide.proofs.listed.divided.Goals as goal

pub returns : goal.returns
returns c =
    let d = c.in-Ok.ensures in
    let s = c.of_map-network.ensures in
    let list = c.divide.new.triggers in
    let n : length list ≡ c.in_ok-triggers.triggers.len = omega (arith, c.as_mut_slice.ensures.len, c.divide.auto.triggers) in
    let P : List ℕ → Type 0 = λ xs. Lists (map_graph c.args.map.now c.args.closed.now) xs c.in-Ok.division.count in
    subst P (sym (take_at list (drop (length list) c.in_ok-triggers.triggers.items) c.in_ok-triggers.triggers.len n)) record {
      long = omega (arith, n, c.as_mut_slice.ensures.len, d.0, s.packs.places);
      each = λ p h. d.1 p (omega (arith, s.packs.places)) ∙ s.same_trigger p h;
      counted = d.3 ∙ s.same_count;
    }
