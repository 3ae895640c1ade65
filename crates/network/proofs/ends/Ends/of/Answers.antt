use Rattle.std.proofs.Common.{◌≡◌, ◌<◌, false, not, is_some, Some, Option, ap, arith, get_or-take}
use Rattle.mapfile.specs.View.{link_of}
use Rattle.network.specs.Drawn.{map_graph}
use Rattle.network.proofs.Drawing.{sketch_more}
use Rattle.network.proofs.ends.Ends.of.Goals as goal

same_some : {A : Type 0} (o : Option A) (a b : A) → o ≡ Some a → o ≡ Some b → b ≡ a
same_some o a b e f = cc

pub unwrap-link-requires : goal.unwrap-link-requires
unwrap-link-requires c = ap is_some (c.link.ensures.known (omega (arith, ap (λ n. n.links) c.counts-counts.ensures)))

pub loop-number-preserved : goal.loop-number-preserved
loop-number-preserved c =
    let m = c.args.map.now in
    let k = c.loop-number.number in
    let lt : k < m.counts.links = omega (arith, ap (λ n. n.links) c.counts-counts.ensures) in
    let l : c.unwrap-link.result ≡ link_of m k lt = same_some c.link.result (link_of m k lt) c.unwrap-link.result (c.link.ensures.known lt) c.unwrap-link.ensures in
    let few : k < 4096 = omega (arith, m.sized, lt) in
    sketch_more (map_graph m c.args.closed.now) k c.loop-number.drawn _ c.loop-number.invariant few (record { is_open = ap not (get_or-take c.counts-counts.result.links c.args.closed.now k false (omega arith)); tail = ap (λ x. x.from) l; head = ap (λ x. x.to) l })
