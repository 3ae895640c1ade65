use Rattle.network.specs.Drawn.{ends_graph}
use Rattle.network.proofs.Filled.{Filled}
use Rattle.network.proofs.network.Network.of.Given as goal

abbrev pub invariant-loop-number : goal.invariant-loop-number
invariant-loop-number l = Filled (ends_graph l.ends) l.number l.next l.links
