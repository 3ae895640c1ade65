-- How far the links of each member lead on a way back to u, and what that says of the lowest twin.
use Rattle.std.proofs.Common.{◌≡◌, ℕ, ◌+◌, ◌-◌, ◌<◌, ◌≤◌, ◌≢◌, ◌⊎◌, List, length, set, min, max, slice_index_or, false, nat_eq, Option, Some, sym, refl, ap, ◌∙◌, subst, inl, inr, arith, get_or-set_other, get_or-set_same}
use Rattle.std.specs.Option.{option_eq}
use Rattle.std.proofs.lemmas.Bool.{both_ways, cases_eq, cases_lt, eq-eqb}
use Rattle.structures.specs.Graphs.{Graph, Within, Approach}
use Rattle.structures.proofs.Held.{Held, held_self, held_before, holder_place}
use Rattle.structures.proofs.Maximal.{Twins}
use Rattle.structures.proofs.Twins.{Back, home, on, Past, Ordered, back_held, twin_yes, twin_no}
use Rattle.network.specs.Leaving.{leaving_of}
use Rattle.network.specs.declared.network.Network.{Network}
use Rattle.network.specs.declared.link.OpenLink.{OpenLink}
use Rattle.network.specs.Links.{blank}
use Rattle.network.specs.Packed.{graph_of}
use Rattle.network.proofs.Leaving.{leaving_head, leaving_position}
use Rattle.division.specs.Lists.{at}
use Rattle.division.specs.Growing.{Alone}
use Rattle.division.specs.Twinned.{Spotted, Ringed, LinkReach, Reach, ReachFrom, LowestTwin, Named}
use Rattle.division.specs.Covering.{named, Owned}
use Rattle.structures.specs.Computed.{trigger}
use Rattle.structures.proofs.Triggers.{trigger_twin}
use Rattle.network.proofs.Parts.{part_known, part_tail, tail_part}

-- One more member knows its position.
pub spotted_more : (member : ℕ → ℕ) (len q : ℕ) (spots : List ℕ) → ((i j : ℕ) → i < len → j < len → member i ≡ member j → i ≡ j) → q < len → member q < length spots →
    Spotted member q (at spots) → Spotted member (q + 1) (at (set spots (member q) q))
spotted_more member len q spots once lt within before r below = go (cases_eq r q)
  where
    go : (r ≡ q) ⊎ (r ≡ q → ⊥) → at (set spots (member q) q) (member r) ≡ r
    go (inl e) = ap (λ x. at (set spots (member q) q) (member x)) e ∙ get_or-set_same spots (member q) q 0 within ∙ sym e
    go (inr ne) = get_or-set_other spots (member q) (member r) q 0 (λ e. ne (once r q (omega arith) lt e)) ∙ before r (omega arith)

module _ {g : Graph} {u : ℕ} {member : ℕ → ℕ} {len : ℕ} {spot : ℕ → ℕ} (ringed : Ringed g u member len spot) where
  -- the position of what u holds
  position : (w : ℕ) → Held g u w → (spot w < len) × (member (spot w) ≡ w)
  position w h =
      let m = ringed.grown.all w h in
      let e : spot w ≡ m.0 = ap spot (sym m.2) ∙ ringed.spotted m.0 m.1 in
      (omega (arith, m.1), ap member e ∙ m.2)

  pub ordered : Ordered g u spot
  ordered = record {
    first = ap spot (sym ringed.grown.first) ∙ ringed.spotted 0 ringed.grown.begun;
    after = after;
    apart = λ x y a b e. sym (position x a).1 ∙ ap member e ∙ (position y b).1;
    approached = ringed.closed.approached;
    inner = ringed.closed.inner;
  }
    where
      start : spot u ≡ 0
      start = ap spot (sym ringed.grown.first) ∙ ringed.spotted 0 ringed.grown.begun

      after : (x w : ℕ) → Held g u w → w ≢ u → Approach g x w → spot x < spot w
      after x w h ne a =
          let p = position x (held_before g h ne x a) in
          let q = position w h in
          ringed.grown.after (spot x) (spot w) p.0 (positive (cases_eq (spot w) 0)) q.0 (subst (λ z. Approach g z (member (spot w))) (sym p.1) (subst (Approach g x) (sym q.1) a))
        where
          positive : (spot w ≡ 0) ⊎ (spot w ≡ 0 → ⊥) → 0 < spot w
          positive (inl z) = absurd (ne (sym (position w h).1 ∙ ap member z ∙ ringed.grown.first))
          positive (inr n) = omega arith

  -- what leads back to u but u itself stands at a position above 0
  pub back_later : (w : ℕ) → Back g u w → w ≢ u → 0 < spot w
  back_later w b ne = go (cases_eq (spot w) 0)
    where
      go : (spot w ≡ 0) ⊎ (spot w ≡ 0 → ⊥) → 0 < spot w
      go (inl z) = absurd (ne (sym (position w (back_held g u spot ordered b)).1 ∙ ap member z ∙ ringed.grown.first))
      go (inr n) = omega arith

  -- a way back is a link past position 0
  pub back_past : (x : ℕ) → Back g u x → Past g u spot 0 x
  back_past x (home a) = (u, a, inl refl)
  back_past x (on w a ne b) = (w, a, inr (b, back_later w b ne))

  pub past_back : (x k : ℕ) → Past g u spot k x → Back g u x
  past_back x k (w, a, inl e) = home (subst (Approach g x) e a)
  past_back x k (w, a, inr s) = on w a (λ e. omega (arith, ap spot e, ordered.first, s.1)) s.0

  module _ (far : ℕ → ℕ) (from : ℕ) (reach : ReachFrom g u member len spot far (from + 1)) (w : ℕ) (later : (q : ℕ) → 0 < q → q < len → member q ≡ w → from < q) where
    -- the link leads to u
    pub link_home : w ≡ u → LinkReach g u len spot w len
    link_home e = record { small = omega arith; leads = λ k lt. inl e; home = λ f. omega arith; back = λ ne. absurd (ne e) }

    member_later : w ≢ u → (q : ℕ) → q < len → member q ≡ w → from < q
    member_later ne q lt e = go (cases_eq q 0)
      where
        go : (q ≡ 0) ⊎ (q ≡ 0 → ⊥) → from < q
        go (inl z) = absurd (ne (sym e ∙ ap member z ∙ ringed.grown.first))
        go (inr n) = later q (omega arith) lt e

    -- it leads to a member on a way back
    pub link_on : (q : ℕ) → q ≡ spot w → w ≢ u → q < len → member q ≡ w → 0 < far q → LinkReach g u len spot w q
    link_on q same ne lt e pos = record {
      small = omega arith;
      leads = λ k below. inr (subst (Back g u) e (past_back (member q) 0 ((reach q (omega (arith, member_later ne q lt e)) lt).leads 0 pos)), omega arith);
      home = λ f. absurd (ne f);
      back = λ n b. omega arith;
    }

    -- it leads nowhere
    pub link_nowhere : w ≢ u → ((spot w < len) → member (spot w) ≡ w → 0 < far (spot w) → ⊥) → LinkReach g u len spot w 0
    link_nowhere ne none = record {
      small = omega arith;
      leads = λ k lt. absurd (omega arith);
      home = λ f. absurd (ne f);
      back = λ n b.
          let p = position w (back_held g u spot ordered b) in
          let r = reach (spot w) (omega (arith, member_later ne (spot w) p.0 p.1)) p.0 in
          absurd (none p.0 p.1 (r.every 0 ringed.grown.begun (subst (Past g u spot 0) (sym p.1) (back_past w b))));
    }

-- The links of x up to position j.
pub record Reaching (n : Network) (u len : ℕ) (spot : ℕ → ℕ) (x best j : ℕ) : Type 0 where
  pub small : best ≤ len
  pub leads : (k : ℕ) → k < best → Past (graph_of n) u spot k x
  pub homes : (i : ℕ) → at n.first x ≤ i → i < j → (graph_of n).head i ≡ u → len ≤ best
  pub backs : (i : ℕ) → at n.first x ≤ i → i < j → (graph_of n).head i ≢ u → Back (graph_of n) u ((graph_of n).head i) → spot ((graph_of n).head i) ≤ best

pub reaching_none : (n : Network) (u len : ℕ) (spot : ℕ → ℕ) (x j : ℕ) → j ≡ at n.first x → Reaching n u len spot x 0 j
reaching_none n u len spot x j e = record {
  small = omega arith;
  leads = λ k lt. absurd (omega arith);
  homes = λ i low high. absurd (omega arith);
  backs = λ i low high. absurd (omega arith);
}

module _ (n : Network) (u len : ℕ) (spot : ℕ → ℕ) (x best j : ℕ) (here : x < n.places) (low : at n.first x ≤ j) (high : j < at n.first (x + 1))
    (before : Reaching n u len spot x best j) (one : ℕ) (link : LinkReach (graph_of n) u len spot ((graph_of n).head j) one) where
  approach : Approach (graph_of n) x ((graph_of n).head j)
  approach = record { link = j; known = part_known n x j here high; is_open = refl; from = part_tail n x j here low high; to = refl }

  -- the greater of the two
  pub reaching_more : (more : ℕ) → best ≤ more → one ≤ more → (more ≡ best) ⊎ (more ≡ one) → Reaching n u len spot x more (j + 1)
  reaching_more more a b which = record {
    small = small which;
    leads = λ k lt. leads k lt which;
    homes = λ i lo hi e. homes i lo hi e (cases_eq i j);
    backs = λ i lo hi ne back. backs i lo hi ne back (cases_eq i j);
  }
    where
      small : (more ≡ best) ⊎ (more ≡ one) → more ≤ len
      small (inl e) = omega (arith, before.small)
      small (inr e) = omega (arith, link.small)

      leads : (k : ℕ) → k < more → (more ≡ best) ⊎ (more ≡ one) → Past (graph_of n) u spot k x
      leads k lt (inl e) = before.leads k (omega arith)
      leads k lt (inr e) = ((graph_of n).head j, approach, link.leads k (omega arith))

      homes : (i : ℕ) → at n.first x ≤ i → i < j + 1 → (graph_of n).head i ≡ u → (i ≡ j) ⊎ (i ≡ j → ⊥) → len ≤ more
      homes i lo hi e (inl same) = omega (arith, link.home (ap ((graph_of n).head) (sym same) ∙ e))
      homes i lo hi e (inr ne) = omega (arith, before.homes i lo (omega arith) e)

      backs : (i : ℕ) → at n.first x ≤ i → i < j + 1 → (graph_of n).head i ≢ u → Back (graph_of n) u ((graph_of n).head i) → (i ≡ j) ⊎ (i ≡ j → ⊥) → spot ((graph_of n).head i) ≤ more
      backs i lo hi ne back (inl same) =
          let e : (graph_of n).head i ≡ (graph_of n).head j = ap ((graph_of n).head) same in
          omega (arith, link.back (λ f. ne (e ∙ f)) (subst (Back (graph_of n) u) e back), ap spot e)
      backs i lo hi ne back (inr apart) = omega (arith, before.backs i lo (omega arith) ne back)

-- one turn of the loop over the links that leave x
module _ (n : Network) (u len : ℕ) (spot : ℕ → ℕ) (x best k : ℕ) (here : x < n.places) (items : List OpenLink) (e : items ≡ leaving_of n x) (lt : k < length items)
    (before : Reaching n u len spot x best (at n.first x + k)) (one : ℕ) (link : LinkReach (graph_of n) u len spot (slice_index_or items k blank).head one) where
  pub reaching_turn : (more : ℕ) → more ≡ max best one → Reaching n u len spot x more (at n.first x + (k + 1))
  reaching_turn more is =
      let next : at n.first x + k + 1 ≡ at n.first x + (k + 1) = omega arith in
      let there : LinkReach (graph_of n) u len spot ((graph_of n).head (at n.first x + k)) one = subst (λ w. LinkReach (graph_of n) u len spot w one) (leaving_head n x here items e k lt) link in
      subst (Reaching n u len spot x more) next
      (reaching_more n u len spot x best (at n.first x + k) here (omega arith) (leaving_position n x here items e k lt) before one there more (omega arith) (omega arith) (subst (λ m. (m ≡ best) ⊎ (m ≡ one)) (sym is) (which best one)))
    where
      which : (a b : ℕ) → (max a b ≡ a) ⊎ (max a b ≡ b)
      which a b = go (cases_lt a b)
        where
          go : (a < b) ⊎ (b ≤ a) → (max a b ≡ a) ⊎ (max a b ≡ b)
          go (inl l) = inr (omega arith)
          go (inr l) = inl (omega arith)

pub reaching_all : (n : Network) → (u len : ℕ) (spot : ℕ → ℕ) (x best j : ℕ) → spot u ≡ 0 → at n.first (x + 1) ≤ j → Reaching n u len spot x best j → Reach (graph_of n) u len spot x best
reaching_all n u len spot x best j start past reaching = record {
  small = reaching.small;
  leads = reaching.leads;
  every = every;
}
  where
    every : (k : ℕ) → k < len → Past (graph_of n) u spot k x → k < best
    every k lt (w, a, inl e) =
        let p = tail_part n x a.link a.known a.from in
        omega (arith, reaching.homes a.link p.0 (omega (arith, p.1)) (a.to ∙ e))
    every k lt (w, a, inr s) =
        let p = tail_part n x a.link a.known a.from in
        let away : (graph_of n).head a.link ≢ u = λ e. omega (arith, ap spot (sym a.to ∙ e), s.1, start) in
        omega (arith, s.1, ap spot a.to, reaching.backs a.link p.0 (omega (arith, p.1)) away (subst (Back (graph_of n) u) (sym a.to) s.0))

-- One more member has its reach.
pub reach_more : (g : Graph) (u : ℕ) (member : ℕ → ℕ) (len : ℕ) (spot : ℕ → ℕ) (far : List ℕ) (q one : ℕ) → q - 1 < length far → Reach g u len spot (member (q - 1)) one →
    ReachFrom g u member len spot (at far) q → ReachFrom g u member len spot (at (set far (q - 1) one)) (q - 1)
reach_more g u member len spot far q one within reach before r le lt = go (cases_eq r (q - 1))
  where
    go : (r ≡ q - 1) ⊎ (r ≡ q - 1 → ⊥) → Reach g u len spot (member r) (at (set far (q - 1) one) r)
    go (inl e) =
        let new : at (set far (q - 1) one) r ≡ one = ap (at (set far (q - 1) one)) e ∙ get_or-set_same far (q - 1) one 0 within in
        subst (λ x. Reach g u len spot (member r) x) (sym new) (subst (λ x. Reach g u len spot (member x) one) (sym e) reach)
    go (inr ne) = subst (λ x. Reach g u len spot (member r) x) (sym (get_or-set_other far (q - 1) r one 0 ne)) (before r (omega arith) lt)

-- The members before position k, for the lowest twin: the farthest reach among them, and the lowest candidate.
pub record Lowering (g : Graph) (u : ℕ) (member far : ℕ → ℕ) (low top k : ℕ) : Type 0 where
  pub twin : Twins g u low
  pub least : (r : ℕ) → r < k → Twins g u (member r) → low ≤ member r
  pub reached : (r : ℕ) → r < k → far r ≤ top
  pub by : 0 < top → (r : ℕ) × (r < k) × (far r ≡ top)

module _ {g : Graph} {u : ℕ} {member : ℕ → ℕ} {len : ℕ} {spot : ℕ → ℕ} (ringed : Ringed g u member len spot) (far : ℕ → ℕ) (reach : ReachFrom g u member len spot far 0) where
  -- before the first member
  pub lowering_first : Lowering g u member far u 0 0
  lowering_first = record {
    twin = (held_self g u, held_self g u);
    least = λ r lt t. absurd (omega arith);
    reached = λ r lt. absurd (omega arith);
    by = λ pos. absurd (omega arith);
  }

  module _ (low top k : ℕ) (lt : k < len) (before : Lowering g u member far low top k) where
    held_k : Held g u (member k)
    held_k = ringed.grown.only k lt

    here : spot (member k) ≡ k
    here = ringed.spotted k lt

    -- nothing before leads past k: a candidate
    candidate : top ≤ k → Held g (member k) u
    candidate le = go (cases_eq k 0)
      where
        none : (x : ℕ) → Held g u x → spot x < k → Past g u spot k x → ⊥
        none x h below past =
            let m = ringed.grown.all x h in
            let e : spot x ≡ m.0 = ap spot (sym m.2) ∙ ringed.spotted m.0 m.1 in
            omega (arith, (reach m.0 (omega arith) m.1).every k lt (subst (Past g u spot k) (sym m.2) past), before.reached m.0 (omega arith))

        go : (k ≡ 0) ⊎ (k ≡ 0 → ⊥) → Held g (member k) u
        go (inl z) = subst (λ x. Held g x u) (sym (ap member z ∙ ringed.grown.first)) (held_self g u)
        go (inr nz) = twin_yes g u spot (ordered ringed) (member k) k held_k here (omega arith) none

    -- something does: none
    no_candidate : k < top → Held g (member k) u → ⊥
    no_candidate past h =
        let r = before.by (omega arith) in
        twin_no g u spot (ordered ringed) (member k) k held_k here (omega (arith, r.1)) (member r.0) (ringed.grown.only r.0 (omega (arith, r.1)))
        (omega (arith, r.1, ringed.spotted r.0 (omega (arith, r.1))))
        ((reach r.0 (omega arith) (omega (arith, r.1))).leads k (omega (arith, r.2))) h

    pub lowering_more : (low' top' : ℕ) → ((top ≤ k) × (low' ≡ min low (member k))) ⊎ ((k < top) × (low' ≡ low)) → top' ≡ max top (far k) → Lowering g u member far low' top' (k + 1)
    lowering_more low' top' a e = subst (λ x. Lowering g u member far low' x (k + 1)) (sym e) (record {
      twin = twin a (cases_lt (member k) low);
      least = λ r below t. least r below t a (cases_eq r k);
      reached = λ r below. reached r below (cases_eq r k);
      by = λ pos. by (cases_lt top (far k)) pos;
    })
      where
        twin : ((top ≤ k) × (low' ≡ min low (member k))) ⊎ ((k < top) × (low' ≡ low)) → (member k < low) ⊎ (low ≤ member k) → Twins g u low'
        twin (inl s) (inl lower) = let e : low' ≡ member k = omega (arith, s.1) in subst (Twins g u) (sym e) (held_k, candidate s.0)
        twin (inl s) (inr not_lower) = let e : low' ≡ low = omega (arith, s.1) in subst (Twins g u) (sym e) before.twin
        twin (inr s) either = subst (Twins g u) (sym s.1) before.twin

        least : (r : ℕ) → r < k + 1 → Twins g u (member r) → ((top ≤ k) × (low' ≡ min low (member k))) ⊎ ((k < top) × (low' ≡ low)) → (r ≡ k) ⊎ (r ≡ k → ⊥) → low' ≤ member r
        least r below t (inl s) (inl e) = omega (arith, ap member e, s.1)
        least r below t (inl s) (inr ne) = omega (arith, s.1, before.least r (omega arith) t)
        least r below t (inr s) (inr ne) = omega (arith, s.1, before.least r (omega arith) t)
        least r below t (inr s) (inl e) = absurd (no_candidate s.0 (subst (λ x. Held g (member x) u) e t.1))

        reached : (r : ℕ) → r < k + 1 → (r ≡ k) ⊎ (r ≡ k → ⊥) → far r ≤ max top (far k)
        reached r below (inl e) = omega (arith, ap far e)
        reached r below (inr ne) = omega (arith, before.reached r (omega arith))

        by : (top < far k) ⊎ (far k ≤ top) → 0 < max top (far k) → (r : ℕ) × (r < k + 1) × (far r ≡ max top (far k))
        by (inl lower) pos = (k, omega arith, omega arith)
        by (inr not_lower) pos = let r = before.by (omega arith) in (r.0, omega (arith, r.1), omega (arith, r.2))

  pub lowering_all : (low top k : ℕ) → len ≤ k → Lowering g u member far low top k → LowestTwin g u low
  lowering_all low top k past lowering = record {
    twin = lowering.twin;
    lowest = λ x t.
        let m = ringed.grown.all x t.0 in
        omega (arith, m.2, lowering.least m.0 (omega (arith, m.1)) (subst (Twins g u) (sym m.2) t));
  }

-- One whose structure no other place has.
pub alone_lowest : (g : Graph) (u : ℕ) → Alone g u → LowestTwin g u u
alone_lowest g u alone = record { twin = (held_self g u, held_self g u); lowest = λ x t. omega (arith, alone x t.0 t.1) }

-- One more owner has its name.
pub named_more : (g : Graph) (owner : ℕ → Option ℕ) (names : List ℕ) (p low : ℕ) → p < length names → LowestTwin g p low → Named g owner (at names) p → Named g owner (at (set names p low)) (p + 1)
named_more g owner names p low within twin before u lt own = go (cases_eq u p)
  where
    go : (u ≡ p) ⊎ (u ≡ p → ⊥) → LowestTwin g u (at (set names p low) u)
    go (inl e) = subst (λ x. LowestTwin g x (at (set names p low) x)) (sym e) (subst (LowestTwin g p) (sym (get_or-set_same names p low 0 within)) twin)
    go (inr ne) = subst (LowestTwin g u) (sym (get_or-set_other names p u low 0 ne)) (before u (omega arith) own)

pub some_differs : (o : Option ℕ) (u : ℕ) → false ≡ option_eq nat_eq o (Some u) → o ≢ Some u
some_differs o u e f = both_ways (option_eq nat_eq o (Some u)) (sym e) (ap (λ x. option_eq nat_eq x (Some u)) f ∙ eq-eqb u u refl)

pub named_skip : (g : Graph) (owner : ℕ → Option ℕ) (name : ℕ → ℕ) (p : ℕ) → owner p ≢ Some p → Named g owner name p → Named g owner name (p + 1)
named_skip g owner name p ne before u lt own = go (cases_eq u p)
  where
    go : (u ≡ p) ⊎ (u ≡ p → ⊥) → LowestTwin g u (name u)
    go (inl e) = absurd (ne (subst (λ x. owner x ≡ Some x) e own))
    go (inr apart) = before u (omega arith) own

-- The name of a place's owner is its trigger.
module _ (g : Graph) (within : Within g) (owner : ℕ → Option ℕ) (owned : Owned g owner) where
  pub owner_place : (w : ℕ) → w < g.places → named owner w < g.places
  owner_place w lt = holder_place g within lt (owned.holds w lt)

  pub name_trigger : (name : ℕ → ℕ) → Named g owner name g.places → (w : ℕ) → w < g.places → name (named owner w) ≡ trigger g w
  name_trigger name names w lt =
      let low = names (named owner w) (owner_place w lt) (owned.own w lt ∙ owned.all w lt) in
      sym (trigger_twin g within (named owner w) w (name (named owner w)) lt (owned.top w lt) (owned.holds w lt) low.twin low.lowest)

  pub triggers_more : (name : ℕ → ℕ) → Named g owner name g.places → (list : List ℕ) (w : ℕ) → w < g.places → w < length list →
      ((p : ℕ) → p < w → at list p ≡ trigger g p) → (p : ℕ) → p < w + 1 → at (set list w (name (named owner w))) p ≡ trigger g p
  triggers_more name names list w lt long before p below = go (cases_eq p w)
    where
      go : (p ≡ w) ⊎ (p ≡ w → ⊥) → at (set list w (name (named owner w))) p ≡ trigger g p
      go (inl e) = ap (at (set list w (name (named owner w)))) e ∙ get_or-set_same list w (name (named owner w)) 0 long ∙ name_trigger name names w lt ∙ ap (trigger g) (sym e)
      go (inr ne) = get_or-set_other list w p (name (named owner w)) 0 ne ∙ before p (omega arith)
