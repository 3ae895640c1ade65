-- The open links that leave a place, and all open links, by position.
use Rattle.std.proofs.Common.{◌≡◌, ℕ, ◌+◌, ◌-◌, ◌<◌, List, [], length, take, drop, slice_index, slice_index_or, slice_range, nat_lt, sym, refl, ap, ◌∙◌, arith}
use Rattle.std.proofs.lemmas.List.{get_or-take, get_or-drop, length-take-le, length-drop}
use Rattle.network.specs.declared.link.OpenLink.{OpenLink}
use Rattle.network.specs.declared.network.Network.{Network}
use Rattle.network.specs.Links.{blank, link_at}
use Rattle.network.specs.Packed.{graph_of}
use Rattle.network.specs.Leaving.{leaving_of}
use Rattle.std.proofs.lemmas.Bool.{cond-true, lt-ltb}
use Rattle.structures.specs.Graphs.{Approach}
use Rattle.network.proofs.Parts.{rise, part_known, part_tail}

-- the links of u's part
module _ (n : Network) (u : ℕ) (here : u < n.places) (xs : List OpenLink) (e : xs ≡ leaving_of n u) where
  part : xs ≡ slice_range n.links (slice_index n.first u) (slice_index n.first (u + 1))
  part = e ∙ cond-true (nat_lt u n.places) (slice_range n.links (slice_index n.first u) (slice_index n.first (u + 1))) [] (lt-ltb u n.places here)

  pub leaving_length : slice_index n.first u + length xs ≡ slice_index n.first (u + 1)
  leaving_length =
      let a = rise n (u + 1) n.places (omega arith) (omega arith) in
      let b = rise n u (u + 1) (omega arith) (omega arith) in
      let d : length (drop (slice_index n.first u) n.links) ≡ 4096 - slice_index n.first u = omega (arith, length-drop (slice_index n.first u) n.links, n.sized) in
      omega (arith, ap length part, length-take-le (slice_index n.first (u + 1) - slice_index n.first u) (drop (slice_index n.first u) n.links) (omega (arith, d, a, n.sized)), b)

  module _ (k : ℕ) (lt : k < length xs) where
    pub leaving_position : slice_index n.first u + k < slice_index n.first (u + 1)
    leaving_position = omega (arith, leaving_length)

    pub leaving_at : slice_index_or xs k blank ≡ link_at n.links (slice_index n.first u + k)
    leaving_at =
        ap (λ ys. slice_index_or ys k blank) part
        ∙ get_or-take (slice_index n.first (u + 1) - slice_index n.first u) (drop (slice_index n.first u) n.links) k blank (omega (arith, leaving_position))
        ∙ get_or-drop (slice_index n.first u) n.links k blank

    pub leaving_known : slice_index n.first u + k < (graph_of n).links
    leaving_known = part_known n u (slice_index n.first u + k) here leaving_position

    pub leaving_head : (slice_index_or xs k blank).head ≡ (graph_of n).head (slice_index n.first u + k)
    leaving_head = ap (λ l. l.head) leaving_at

    pub leaving_place : (slice_index_or xs k blank).head < n.places
    leaving_place = omega (arith, leaving_head, n.ends (slice_index n.first u + k) leaving_known)

    pub leaving_approach : Approach (graph_of n) u (slice_index_or xs k blank).head
    leaving_approach = record {
      link = slice_index n.first u + k;
      known = leaving_known;
      is_open = refl;
      from = part_tail n u (slice_index n.first u + k) here (omega arith) leaving_position;
      to = sym leaving_head;
    }

    pub leaving_small : (slice_index_or xs k blank).head < 2048
    leaving_small = omega (arith, leaving_place, n.sized)

-- all open links
module _ (n : Network) (xs : List OpenLink) (e : xs ≡ take (slice_index n.first n.places) n.links) where
  pub open_length : length xs ≡ (graph_of n).links
  open_length = ap length e ∙ length-take-le (slice_index n.first n.places) n.links (omega (arith, n.sized))

  pub open_at : (k : ℕ) → k < length xs → slice_index_or xs k blank ≡ link_at n.links k
  open_at k lt = ap (λ ys. slice_index_or ys k blank) e ∙ get_or-take (slice_index n.first n.places) n.links k blank (omega (arith, open_length))

  pub open_head : (k : ℕ) → k < length xs → (slice_index_or xs k blank).head ≡ (graph_of n).head k
  open_head k lt = ap (λ l. l.head) (open_at k lt)
