use Rattle.network.specs.Drawn.{map_graph}
use Rattle.network.proofs.Drawing.{Sketch}
use Rattle.network.proofs.ends.Ends.of.Given as goal

abbrev pub invariant-loop-number : goal.invariant-loop-number
invariant-loop-number l = Sketch (map_graph l.map l.closed) l.number l.drawn
