-- The links of member k, from the first position of its part to the last.
use Rattle.std.proofs.Common.{◌≡◌, ℕ, ◌+◌, ◌-◌, ◌<◌, ◌≤◌, cond, eqb, ◌≢◌, ◌⊎◌, List, [], ◌∷◌, ◌++◌, length, set, slice_index_or, sym, refl, ap, ◌∙◌, subst, inl, inr, arith, get_or-set_other, get_or-set_same}
use Rattle.std.proofs.Math.ListN.{length-append}
use Rattle.std.proofs.lemmas.Bool.{cases_eq, cond-true, cond-false, eq-eqb, ne_eqb}
use Rattle.network.specs.Leaving.{leaving_of}
use Rattle.network.specs.declared.network.Network.{Network}
use Rattle.network.specs.declared.link.OpenLink.{OpenLink}
use Rattle.network.specs.Links.{blank}
use Rattle.network.specs.Packed.{graph_of}
use Rattle.network.proofs.Leaving.{leaving_head, leaving_position, leaving_small}
use Rattle.structures.proofs.Held.{held_place}
use Rattle.division.specs.Lists.{at}
use Rattle.division.specs.Growing.{Member, Before, Partly, Growing}
use Rattle.network.proofs.Parts.{within, part_known, part_tail, tail_part}
use Rattle.division.proofs.Pushes.{at_push, at_push_other}
use Rattle.division.proofs.Follow.{Too, growing_like, growing_passes, growing_joins, link_counted}

-- The growth while the links of member k are followed: the members before are as they were.
pub record Following (n : Network) (v k u : ℕ) (was : ℕ → ℕ) (joined : ℕ) (member left : ℕ → ℕ) (len j : ℕ) : Type 0 where
  pub same : u ≡ was k
  pub here : u < n.places
  pub below : k < joined
  pub growing : Growing (graph_of n) v member left len (Partly (graph_of n) was k j)
  pub longer : joined ≤ len
  pub kept : (q : ℕ) → q < joined → member q ≡ was q

module _ {n : Network} {v k u : ℕ} {was : ℕ → ℕ} {joined : ℕ} where
  pub following_none : {left : ℕ → ℕ} {j : ℕ} → u ≡ was k → k < joined → j ≡ at n.first u → Growing (graph_of n) v was left joined (Before (graph_of n) was k) → Following n v k u was joined was left joined j
  following_none {left} {j} same below e growing = record {
    same = same;
    here = subst (λ x. x < n.places) (sym same) (held_place (graph_of n) (within n) growing.known (growing.only k below));
    below = below;
    growing = growing_like (graph_of n) v was left joined (Before (graph_of n) was k) (Partly (graph_of n) was k j) (λ i lt. (λ b. inl b, back i lt)) growing;
    longer = omega arith;
    kept = λ q lt. refl;
  }
    where
      back : (i : ℕ) → i < (graph_of n).links → Partly (graph_of n) was k j i → Before (graph_of n) was k i
      back i lt (inl b) = b
      back i lt (inr s) = absurd (omega (arith, (tail_part n (was k) i lt s.0).0, s.1, e, ap (at n.first) same))

  module _ {member left : ℕ → ℕ} {len i : ℕ} (following : Following n v k u was joined member left len i)
      (low : at n.first u ≤ i) (high : i < at n.first (u + 1)) where
    below : k < joined
    below = following.below

    pub link_known : i < (graph_of n).links
    link_known = part_known n u i following.here high

    leaves : (graph_of n).tail i ≡ was k
    leaves = part_tail n u i following.here low high ∙ following.same

    tail : Member member len ((graph_of n).tail i)
    tail = (k, omega (arith, following.longer), following.kept k below ∙ sym leaves)

    fresh : Partly (graph_of n) was k i i → ⊥
    fresh (inr s) = omega (arith, s.1)
    fresh (inl b) =
        let e : b.0 ≡ k = following.growing.once b.0 k (omega (arith, b.1, following.longer)) (omega (arith, following.longer))
        (following.kept b.0 (omega (arith, b.1)) ∙ b.2 ∙ leaves ∙ sym (following.kept k below)) in
        omega (arith, b.1)

    more_like : (x : ℕ) → x < (graph_of n).links → (Too (Partly (graph_of n) was k i) i x → Partly (graph_of n) was k (i + 1) x) × (Partly (graph_of n) was k (i + 1) x → Too (Partly (graph_of n) was k i) i x)
    more_like x lt = (to, back)
      where
        to : Too (Partly (graph_of n) was k i) i x → Partly (graph_of n) was k (i + 1) x
        to (inl (inl b)) = inl b
        to (inl (inr s)) = inr (s.0, omega (arith, s.1))
        to (inr e) = inr (ap (graph_of n).tail e ∙ leaves, omega arith)

        back : Partly (graph_of n) was k (i + 1) x → Too (Partly (graph_of n) was k i) i x
        back (inl b) = inl (inl b)
        back (inr s) = go (cases_eq x i)
          where
            go : (x ≡ i) ⊎ (x ≡ i → ⊥) → Too (Partly (graph_of n) was k i) i x
            go (inl e) = inr e
            go (inr ne) = inl (inr (s.0, omega (arith, s.1)))

    -- the place that the link leads to, and the links left to it
    pub link_place : (graph_of n).head i < n.places
    link_place = (within n i link_known refl).1

    pub link_left : 0 < left ((graph_of n).head i)
    link_left = link_counted (graph_of n) (within n) (λ x. refl) left left (Partly (graph_of n) was k i) following.growing.pending i link_known fresh

    module _ (after : ℕ → ℕ) (less : after ((graph_of n).head i) ≡ left ((graph_of n).head i) - 1) (same : (z : ℕ) → z ≢ (graph_of n).head i → after z ≡ left z) where
      pub following_passes : (after ((graph_of n).head i) ≡ 0 → (graph_of n).head i ≢ v → ⊥) → Following n v k u was joined member after len (i + 1)
      following_passes stays = record {
        same = following.same;
        here = following.here;
        below = below;
        growing = growing_like (graph_of n) v member after len (Too (Partly (graph_of n) was k i) i) (Partly (graph_of n) was k (i + 1)) more_like
            (growing_passes (graph_of n) (within n) (λ x. refl) v member left after len (Partly (graph_of n) was k i) following.growing i link_known fresh tail less same stays);
        longer = following.longer;
        kept = following.kept;
      }

      module _ (none : after ((graph_of n).head i) ≡ 0) (ne : (graph_of n).head i ≢ v) where
        grows : (more : ℕ → ℕ) → more len ≡ (graph_of n).head i → ((q : ℕ) → q ≢ len → more q ≡ member q) → Growing (graph_of n) v more after (len + 1) (Partly (graph_of n) was k (i + 1))
        grows more at_len kept = growing_like (graph_of n) v more after (len + 1) (Too (Partly (graph_of n) was k i) i) (Partly (graph_of n) was k (i + 1)) more_like
            (growing_joins (graph_of n) (within n) (λ x. refl) v member left after len (Partly (graph_of n) was k i) following.growing i link_known fresh tail less same none ne more at_len kept)

        -- there is room for one more
        pub following_room : len < n.places
        following_room =
            let more : ℕ → ℕ = λ q. cond (eqb q len) ((graph_of n).head i) (member q) in
            omega (
              arith,
              (grows more (cond-true (eqb len len) ((graph_of n).head i) (member len) (eq-eqb len len refl))
                  (λ q apart. cond-false (eqb q len) ((graph_of n).head i) (member q) (ne_eqb q len apart))).short,
            )

        pub following_joins : (more : ℕ → ℕ) → more len ≡ (graph_of n).head i → ((q : ℕ) → q ≢ len → more q ≡ member q) → Following n v k u was joined more after (len + 1) (i + 1)
        following_joins more at_len kept = record {
          same = following.same;
          here = following.here;
          below = below;
          growing = grows more at_len kept;
          longer = omega (arith, following.longer);
          kept = λ q lt. kept q (omega (arith, following.longer)) ∙ following.kept q lt;
        }

  -- all links of member k are done
  pub following_all : {member left : ℕ → ℕ} {len j : ℕ} → Following n v k u was joined member left len j → at n.first (u + 1) ≤ j →
      Growing (graph_of n) v member left len (Before (graph_of n) member (k + 1))
  following_all {member} {left} {len} {j} following past =
      growing_like (graph_of n) v member left len (Partly (graph_of n) was k j) (Before (graph_of n) member (k + 1)) (λ i lt. (to i, back i lt)) following.growing
    where
      to : (i : ℕ) → Partly (graph_of n) was k j i → Before (graph_of n) member (k + 1) i
      to i (inl b) = (b.0, omega (arith, b.1), following.kept b.0 (omega (arith, b.1, following.below)) ∙ b.2)
      to i (inr s) = (k, omega arith, following.kept k following.below ∙ sym s.0)

      back : (i : ℕ) → i < (graph_of n).links → Before (graph_of n) member (k + 1) i → Partly (graph_of n) was k j i
      back i lt b = go (cases_eq b.0 k)
        where
          same : was b.0 ≡ (graph_of n).tail i
          same = sym (following.kept b.0 (omega (arith, b.1, following.below))) ∙ b.2

          go : (b.0 ≡ k) ⊎ (b.0 ≡ k → ⊥) → Partly (graph_of n) was k j i
          go (inl e) =
              let out : (graph_of n).tail i ≡ was k = sym same ∙ ap was e in
              inr (out, omega (arith, (tail_part n u i lt (out ∙ sym following.same)).1))
          go (inr ne) = inl (b.0, omega (arith, b.1), same)

-- One turn of the loop over the links that leave u, which is member k, on the lists themselves.
module _ {n : Network} {v k u : ℕ} {was : ℕ → ℕ} {joined j : ℕ}
    {items : List OpenLink} (e : items ≡ leaving_of n u) (lt : j < length items)
    (members left : List ℕ) (following : Following n v k u was joined (at members) (at left) (length members) (at n.first u + j)) (long : length left ≡ 2048) where
  abbrev w : ℕ
  w = (slice_index_or items j blank).head

  head : w ≡ (graph_of n).head (at n.first u + j)
  head = leaving_head n u following.here items e j lt

  low : at n.first u ≤ at n.first u + j
  low = omega arith

  high : at n.first u + j < at n.first (u + 1)
  high = leaving_position n u following.here items e j lt

  abbrev lowered : List ℕ
  lowered = set left w (at left w - 1)

  lowered_head : at lowered ((graph_of n).head (at n.first u + j)) ≡ at left ((graph_of n).head (at n.first u + j)) - 1
  lowered_head = subst (λ x. at lowered x ≡ at left x - 1) head (get_or-set_same left w (at left w - 1) 0 (omega (arith, leaving_small n u following.here items e j lt)))

  lowered_other : (z : ℕ) → z ≢ (graph_of n).head (at n.first u + j) → at lowered z ≡ at left z
  lowered_other z ne = get_or-set_other left w z (at left w - 1) 0 (λ f. ne (f ∙ head))

  next : at n.first u + j + 1 ≡ at n.first u + (j + 1)
  next = omega arith

  pub turn_small : w < 2048
  turn_small = leaving_small n u following.here items e j lt

  pub turn_left : 1 ≤ at left w
  turn_left = subst (λ x. 1 ≤ at left x) (sym head) (omega (arith, link_left following low high))

  pub turn_passes : (at lowered w ≡ 0 → w ≢ v → ⊥) → Following n v k u was joined (at members) (at lowered) (length members) (at n.first u + (j + 1))
  turn_passes stays = subst (Following n v k u was joined (at members) (at lowered) (length members)) next
      (following_passes following low high (at lowered) lowered_head lowered_other (λ none ne. stays (ap (at lowered) head ∙ none) (λ f. ne (sym head ∙ f))))

  module _ (none : at lowered w ≡ 0) (ne : w ≢ v) where
    none_there : at lowered ((graph_of n).head (at n.first u + j)) ≡ 0
    none_there = ap (at lowered) (sym head) ∙ none

    pub turn_room : length members < 2048
    turn_room = omega (arith, following_room following low high (at lowered) lowered_head lowered_other none_there (λ f. ne (head ∙ f)), n.sized)

    pub turn_joins : Following n v k u was joined (at (members ++ w ∷ [])) (at lowered) (length (members ++ w ∷ [])) (at n.first u + (j + 1))
    turn_joins = subst (λ x. Following n v k u was joined (at (members ++ w ∷ [])) (at lowered) x (at n.first u + (j + 1))) (sym (length-append members (w ∷ [])))
        (subst (Following n v k u was joined (at (members ++ w ∷ [])) (at lowered) (length members + 1)) next
        (following_joins following low high (at lowered) lowered_head lowered_other none_there (λ f. ne (head ∙ f)) (at (members ++ w ∷ []))
        (at_push members w ∙ head) (at_push_other members w)))

-- the same members under another name
pub followed_same : {n : Network} {v k u : ℕ} {was : ℕ → ℕ} {joined : ℕ} {left : ℕ → ℕ} {j : ℕ} {members others : List ℕ} → others ≡ members →
    Following n v k u was joined (at members) left (length members) j → Following n v k u was joined (at others) left (length others) j
followed_same {n} {v} {k} {u} {was} {joined} {left} {j} e following = subst (λ xs. Following n v k u was joined (at xs) left (length xs) j) (sym e) following
