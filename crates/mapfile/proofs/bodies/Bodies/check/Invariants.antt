use Rattle.std.specs.Iterator.Adapters.{enumerate_source, enumerate_count}
use Rattle.std.specs.Slice.Iter.{chunks_exact_rest, chunks_exact_size}
use Rattle.mapfile.proofs.Cuts.{Checked, part_shown}
use Rattle.mapfile.proofs.bodies.Bodies.check.Given as goal

abbrev pub invariant-loop-i : goal.invariant-loop-i
invariant-loop-i g l =
    let it = l.i-iterator in
    let s = enumerate_source it in
    (goal.iterator-loop-i g).can_next it × (goal.iterator-loop-i g).is_finite it
    × Checked (part_shown g.R.Record.KIND l.part) l.self.counts (enumerate_count it) l.before (chunks_exact_rest s) (chunks_exact_size s)
