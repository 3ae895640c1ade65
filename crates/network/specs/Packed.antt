-- The graph of a network: its positions are the links, all of them open.
use Rattle.std.specs.Prelude.{true, slice_index}
use Rattle.structures.specs.Graphs.{Graph}
use Rattle.network.specs.declared.network.Network.{Network}
use Rattle.network.specs.Links.{link_at}

abbrev pub graph_of : Network → Graph
graph_of n = record {
  places = n.places;
  links = slice_index n.first n.places;
  usable = λ i. true;
  tail = λ i. (link_at n.links i).tail;
  head = λ i. (link_at n.links i).head;
}
