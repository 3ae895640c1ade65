-- The parts of a network: the links that leave a place stand at the positions of its part, and only they.
use Rattle.std.proofs.Common.{◌≡◌, ℕ, zero, suc, ◌+◌, ◌-◌, ◌<◌, ◌≤◌, ◌⊎◌, List, slice_index, refl, ap, subst, inl, inr, arith}
use Rattle.std.proofs.lemmas.Bool.{cases_order}
use Rattle.structures.specs.Graphs.{Within, Approach}
use Rattle.network.specs.Shape.{Parts}
use Rattle.network.specs.declared.network.Network.{Network}
use Rattle.network.specs.Packed.{graph_of}

parts_rise : (places : ℕ) (first : List ℕ) → Parts places first → (d p q : ℕ) → p + d ≡ q → q ≤ places → slice_index first p ≤ slice_index first q
parts_rise places first parts zero p q e le = let same : p ≡ q = omega arith in omega (arith, ap (λ x. slice_index first x) same)
parts_rise places first parts (suc d) p q e le =
    let h : slice_index first p ≤ slice_index first (q - 1) = parts_rise places first parts d p (q - 1) (omega arith) (omega arith) in
    let k : slice_index first (q - 1) ≤ slice_index first (q - 1 + 1) = parts (q - 1) (omega arith) in
    let same : q - 1 + 1 ≡ q = omega arith in
    omega (arith, h, k, ap (λ x. slice_index first x) same)

module _ (n : Network) where
  pub within : Within (graph_of n)
  within k lt is_open = ((n.leaves k lt).0, n.ends k lt)

  pub rise : (p q : ℕ) → p ≤ q → q ≤ n.places → slice_index n.first p ≤ slice_index n.first q
  rise p q le top = parts_rise n.places n.first n.parts (q - p) p q (omega arith) top

  -- a position of u's part is a link that leaves u
  pub part_known : (u i : ℕ) → u < n.places → i < slice_index n.first (u + 1) → i < (graph_of n).links
  part_known u i here lt = omega (arith, rise (u + 1) n.places (omega arith) (omega arith))

  pub part_tail : (u i : ℕ) → u < n.places → slice_index n.first u ≤ i → i < slice_index n.first (u + 1) → (graph_of n).tail i ≡ u
  part_tail u i here low high = go (cases_order t u)
    where
      t : ℕ
      t = (graph_of n).tail i

      known : (t < n.places) × (slice_index n.first t ≤ i) × (i < slice_index n.first (t + 1))
      known = n.leaves i (part_known u i here high)

      go : (t ≡ u) ⊎ ((t < u) ⊎ (u < t)) → t ≡ u
      go (inl e) = e
      go (inr (inl lt)) = absurd (omega (arith, rise (t + 1) u (omega arith) (omega arith), known.2))
      go (inr (inr lt)) = absurd (omega (arith, rise (u + 1) t (omega arith) (omega (arith, known.0)), known.1))

  -- and within the table, as is the place that it leads to
  pub part_index : (u i : ℕ) → u < n.places → i < slice_index n.first (u + 1) → i < 4096
  part_index u i here lt = omega (arith, part_known u i here lt, n.sized)

  pub part_head : (u i : ℕ) → u < n.places → i < slice_index n.first (u + 1) → (graph_of n).head i < 2048
  part_head u i here lt = omega (arith, n.ends i (part_known u i here lt), n.sized)

  -- a link that leaves u is a position of u's part
  pub tail_part : (u i : ℕ) → i < (graph_of n).links → (graph_of n).tail i ≡ u → (slice_index n.first u ≤ i) × (i < slice_index n.first (u + 1))
  tail_part u i lt e = subst (λ x. (slice_index n.first x ≤ i) × (i < slice_index n.first (x + 1))) e ((n.leaves i lt).1, (n.leaves i lt).2)

-- An open link, by its position.
pub link_approach : (n : Network) (i : ℕ) → i < (graph_of n).links → Approach (graph_of n) ((graph_of n).tail i) ((graph_of n).head i)
link_approach n i lt = record { link = i; known = lt; is_open = refl; from = refl; to = refl }
