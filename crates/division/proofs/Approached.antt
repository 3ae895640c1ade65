-- Counting the approaches link by link.
use Rattle.std.proofs.Common.{◌≡◌, ℕ, ◌+◌, ◌<◌, ◌≤◌, Bool, cond, eqb, ◌⊎◌, List, length, set, replicate, take, slice_index_or, sym, ap, subst, inl, inr, arith, get_or-set_other, get_or-set_same}
use Rattle.std.proofs.lemmas.Bool.{cases_eq, eq-eqb, ne_eqb}
use Rattle.std.proofs.lemmas.List.{get_or-replicate}
use Rattle.structures.specs.Computed.{count}
use Rattle.network.specs.declared.network.Network.{Network}
use Rattle.network.specs.declared.link.OpenLink.{OpenLink}
use Rattle.network.specs.Links.{blank}
use Rattle.network.specs.Packed.{graph_of}
use Rattle.network.proofs.Leaving.{open_head, open_length}
use Rattle.division.specs.Lists.{at}
use Rattle.division.proofs.Counts.{count_next}

pub record Counting (n : Network) (full : ℕ → ℕ) (j : ℕ) : Type 0 where
  pub counts : (w : ℕ) → w < n.places → full w ≡ count (λ i. eqb ((graph_of n).head i) w) j
  pub few : (w : ℕ) → w < n.places → full w ≤ j

pub counting_none : (n : Network) → Counting n (at (replicate 2048 0)) 0
counting_none n = record {
  counts = λ w here. get_or-replicate {A = ℕ} 2048 w 0 0 (omega (arith, n.sized));
  few = λ w here. omega (arith, get_or-replicate {A = ℕ} 2048 w 0 0 (omega (arith, n.sized)));
}

pub counting_more : (n : Network) → (full : List ℕ) (j : ℕ) → length full ≡ 2048 → j < (graph_of n).links → Counting n (at full) j →
    Counting n (at (set full ((graph_of n).head j) (at full ((graph_of n).head j) + 1))) (j + 1)
counting_more n full j long known counting = record { counts = λ w here. one w here (cases_eq w h); few = λ w here. few w here (cases_eq w h) }
  where
    h : ℕ
    h = (graph_of n).head j

    after : List ℕ
    after = set full ((graph_of n).head j) (at full ((graph_of n).head j) + 1)

    here_h : h < n.places
    here_h = n.ends j known

    new : at after h ≡ at full h + 1
    new = get_or-set_same full h (at full h + 1) 0 (omega (arith, here_h, n.sized))

    to : ℕ → ℕ → Bool
    to w i = eqb ((graph_of n).head i) w

    next : (w : ℕ) → count (to w) (j + 1) ≡ cond (to w j) 1 0 + count (to w) j
    next w = count_next (to w) j

    one : (w : ℕ) → w < n.places → (w ≡ h) ⊎ (w ≡ h → ⊥) → at after w ≡ count (to w) (j + 1)
    one w here (inl e) =
        let yes_here : ◌≡◌ {A = ℕ} (cond (to w j) 1 0) 1 = ap (λ (b : Bool). cond {A = ℕ} b 1 0) (eq-eqb h w (sym e)) in
        omega (arith, ap (at after) e, new, ap (at full) e, counting.counts w here, next w)
    one w here (inr ne) =
        let not_here : ◌≡◌ {A = ℕ} (cond (to w j) 1 0) 0 = ap (λ (b : Bool). cond {A = ℕ} b 1 0) (ne_eqb h w (λ e. ne (sym e))) in
        omega (arith, get_or-set_other full h w (at full h + 1) 0 ne, counting.counts w here, next w)

    few : (w : ℕ) → w < n.places → (w ≡ h) ⊎ (w ≡ h → ⊥) → at after w ≤ j + 1
    few w here (inl e) = omega (arith, ap (at after) e, new, counting.few h here_h)
    few w here (inr ne) = omega (arith, get_or-set_other full h w (at full h + 1) 0 ne, counting.few w here)

-- one turn of the loop over the open links
pub counting_turn : (n : Network) (items : List OpenLink) → items ≡ take (at n.first n.places) n.links → (k : ℕ) → k < length items → (full : List ℕ) → length full ≡ 2048 → Counting n (at full) k →
    Counting n (at (set full (slice_index_or items k blank).head (at full (slice_index_or items k blank).head + 1))) (k + 1)
counting_turn n items e k lt full long counting =
    subst (λ x. Counting n (at (set full x (at full x + 1))) (k + 1)) (sym (open_head n items e k lt)) (counting_more n full k long (omega (arith, open_length n items e)) counting)
