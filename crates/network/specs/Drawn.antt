-- The graph of a map whose links are open but for those that are closed.
use Rattle.std.specs.Prelude.{◌≡◌, ℕ, ◌<◌, Bool, true, false, not, List, slice_index, slice_index_or}
use Rattle.structures.specs.Graphs.{Graph}
use Rattle.mapfile.specs.declared.map.Map.{Map}
use Rattle.mapfile.specs.Bytes.{word}
use Rattle.mapfile.specs.Rules.{link_bytes}
use Rattle.mapfile.specs.View.{bytes_of}
use Rattle.network.specs.declared.ends.Ends.{Ends}
use Rattle.network.specs.declared.network.Network.{Network}
use Rattle.network.specs.Links.{link_at}
use Rattle.network.specs.Within.{drawn_at}

abbrev pub map_graph : Map → List Bool → Graph
map_graph m closed = record {
  places = m.counts.places;
  links = m.counts.links;
  usable = λ k. not (slice_index_or closed k false);
  tail = λ k. word (link_bytes (bytes_of m) m.counts k) 0;
  head = λ k. word (link_bytes (bytes_of m) m.counts k) 2;
}

abbrev pub ends_graph : Ends → Graph
ends_graph e = record {
  places = e.places;
  links = e.links;
  usable = λ k. (drawn_at e.drawn k).is_open;
  tail = λ k. (drawn_at e.drawn k).tail;
  head = λ k. (drawn_at e.drawn k).head;
}

-- two graphs with the same places and links
pub record Alike (g h : Graph) : Type 0 where
  pub places : g.places ≡ h.places
  pub links : g.links ≡ h.links
  pub usable : (k : ℕ) → k < h.links → g.usable k ≡ h.usable k
  pub tail : (k : ℕ) → k < h.links → g.tail k ≡ h.tail k
  pub head : (k : ℕ) → k < h.links → g.head k ≡ h.head k

-- the links of a graph, at the positions of a network: each open one once, with its ends, and no other
pub record Packs (n : Network) (g : Graph) : Type 0 where
  pub places : n.places ≡ g.places
  pub known : (i : ℕ) → i < slice_index n.first n.places → (link_at n.links i).number < g.links
  pub usable : (i : ℕ) → i < slice_index n.first n.places → g.usable (link_at n.links i).number ≡ true
  pub tail : (i : ℕ) → i < slice_index n.first n.places → (link_at n.links i).tail ≡ g.tail (link_at n.links i).number
  pub head : (i : ℕ) → i < slice_index n.first n.places → (link_at n.links i).head ≡ g.head (link_at n.links i).number
  pub once : (i j : ℕ) → i < slice_index n.first n.places → j < slice_index n.first n.places → (link_at n.links i).number ≡ (link_at n.links j).number → i ≡ j
  pub stands : (k : ℕ) → k < g.links → g.usable k ≡ true → (i : ℕ) × (i < slice_index n.first n.places) × ((link_at n.links i).number ≡ k)
