-- The growth from its start to its end, and the counters put back.
use Rattle.std.proofs.Common.{◌≡◌, ℕ, ◌+◌, ◌<◌, ◌≤◌, Bool, true, false, not, ◌&&◌, eqb, ltb, ◌≢◌, ◌⊎◌, List, [], ◌∷◌, length, set, slice_index_or, MatchBool, sym, refl, ap, ◌∙◌, subst, inl, inr, arith, get_or-set_other, get_or-set_same}
use Rattle.std.proofs.lemmas.Bool.{both_ways, cases_eq, cases_Bool, and_parts, and_from, not-true, eq-eqb, eqb-true, eqb-false, ltb-true}
use Rattle.network.specs.Leaving.{leaving_of}
use Rattle.network.specs.declared.network.Network.{Network}
use Rattle.network.specs.Packed.{graph_of}
use Rattle.network.specs.declared.link.OpenLink.{OpenLink}
use Rattle.network.specs.Links.{blank}
use Rattle.network.proofs.Leaving.{leaving_head, leaving_small}
use Rattle.structures.specs.Graphs.{Graph, Approach}
use Rattle.structures.specs.Computed.{some}
use Rattle.structures.proofs.Tests.{some_decides}
use Rattle.structures.proofs.Held.{Held, held_self, held_place, held_least, head_place}
use Rattle.structures.proofs.Twins.{twin_bare, twin_outside}
use Rattle.division.specs.Lists.{at}
use Rattle.division.specs.Growing.{Member, Before, Pending, Growing, Grown, Full, PutBack, Closed, Alone, approaches}
use Rattle.division.proofs.Counts.{count_same, count_none, count_some}
use Rattle.network.proofs.Parts.{within, tail_part}
use Rattle.division.proofs.Follow.{none_pending, all_done}

-- v alone, with nothing done.
pub growing_none : (n : Network) → (v : ℕ) → v < n.places → (left : List ℕ) → Full (graph_of n) (at left) →
    Growing (graph_of n) v (at (v ∷ [])) (at left) 1 (Before (graph_of n) (at (v ∷ [])) 0)
growing_none n v here left full = record {
  pending = record { done = λ i. false; told = λ i lt. (λ e. absurd (both_ways false refl e), λ b. absurd (omega (arith, b.1))); counts = full };
  known = here;
  begun = omega arith;
  first = refl;
  short = omega arith;
  only = λ q lt. subst (Held (graph_of n) v) (sym (ap (at (v ∷ [])) (zero_only q lt))) (held_self (graph_of n) v);
  once = λ q r a b e. omega arith;
  from = λ i lt b. absurd (omega (arith, b.1));
  none_left = λ q pos lt. absurd (omega arith);
  after = λ q i pos lt. absurd (omega arith);
  joined = λ i lt ne none. absurd (count_none (λ j. eqb ((graph_of n).head j) ((graph_of n).head i)) (graph_of n).links
      (sym (full ((graph_of n).head i) (n.ends i lt)) ∙ none) i lt (eq-eqb ((graph_of n).head i) ((graph_of n).head i) refl));
}
  where
    zero_only : (q : ℕ) → q < 1 → q ≡ 0
    zero_only q lt = omega arith

-- A place without approaches is alone.
pub bare_alone : (n : Network) (v : ℕ) → v < n.places → (full : ℕ → ℕ) → Full (graph_of n) full → full v ≡ 0 → Alone (graph_of n) v
bare_alone n v here full fulls none m h k = twin_bare (graph_of n)
    (λ x a. count_none (λ j. eqb ((graph_of n).head j) v) (graph_of n).links (sym (fulls v here) ∙ none) a.link a.known (eq-eqb ((graph_of n).head a.link) v a.to)) k

module _ (n : Network) (v : ℕ) (member left : ℕ → ℕ) (len : ℕ) (growing : Growing (graph_of n) v member left len (Before (graph_of n) member len)) where
  -- every link into a place whose approaches are members is done
  fed : (x : ℕ) → ((y : ℕ) → Approach (graph_of n) y x → Member member len y) → (i : ℕ) → i < (graph_of n).links → (graph_of n).head i ≡ x → Before (graph_of n) member len i
  fed x all i lt e = all ((graph_of n).tail i) (record { link = i; known = lt; is_open = refl; from = refl; to = e })

  all_held : (w : ℕ) → Held (graph_of n) v w → Member member len w
  all_held w h = held_least (graph_of n) (Member member len) (0, growing.begun, growing.first) takes h
    where
      takes : (x u : ℕ) → Approach (graph_of n) u x → ((y : ℕ) → Approach (graph_of n) y x → Member member len y) → Member member len x
      takes x u a all = go (cases_eq x v)
        where
          place : x < n.places
          place = head_place (graph_of n) (within n) u x a

          go : (x ≡ v) ⊎ (x ≡ v → ⊥) → Member member len x
          go (inl e) = (0, growing.begun, growing.first ∙ sym e)
          go (inr ne) = subst (Member member len) a.to (growing.joined a.link a.known (λ e. ne (sym a.to ∙ e))
              (ap left a.to ∙ all_done (graph_of n) left (Before (graph_of n) member len) growing.pending x place (fed x all)))

  pub grown_all : Grown (graph_of n) v member len
  grown_all = record {
    begun = growing.begun;
    first = growing.first;
    short = growing.short;
    only = growing.only;
    all = all_held;
    once = growing.once;
    after = λ q r a pos b link.
        let s = growing.after r link.link pos b link.known link.to in
        let e : s.0 ≡ q = growing.once s.0 q (omega (arith, s.1)) a (s.2 ∙ link.from) in
        omega (arith, s.1);
  }

  pub grown_places : (q : ℕ) → q < len → member q < n.places
  grown_places q lt = held_place (graph_of n) (within n) growing.known (growing.only q lt)

  -- approached, and no link left: closed
  pub grown_closed : (full : ℕ → ℕ) → Full (graph_of n) full → 0 < full v → left v ≡ 0 → Closed (graph_of n) v
  grown_closed full fulls some_to none = record {
    approached =
        let i = count_some (λ j. eqb ((graph_of n).head j) v) (graph_of n).links (omega (arith, some_to, fulls v growing.known)) in
        ((graph_of n).tail i.0, record { link = i.0; known = i.1; is_open = refl; from = refl; to = eqb-true ((graph_of n).head i.0) v i.2 });
    inner = λ x a.
        let b = none_pending (graph_of n) left (Before (graph_of n) member len) growing.pending v growing.known none a.link a.known a.to in
        subst (Held (graph_of n) v) (b.2 ∙ a.from) (growing.only b.0 b.1);
  }

  pub grown_entered : left v ≢ 0 → Alone (graph_of n) v
  grown_entered some_left m h k =
      let i = count_some (λ j. not (growing.pending.done j) && eqb ((graph_of n).head j) v) (graph_of n).links (omega (arith, some_left, growing.pending.counts v growing.known)) in
      let p = and_parts (not (growing.pending.done i.0)) (eqb ((graph_of n).head i.0) v) i.2 in
      twin_outside (graph_of n) ((graph_of n).tail i.0)
      (record { link = i.0; known = i.1; is_open = refl; from = refl; to = eqb-true ((graph_of n).head i.0) v p.1 })
      (λ held. both_ways (growing.pending.done i.0) (not-true (growing.pending.done i.0) p.0) ((growing.pending.told i.0 i.1).1 (all_held ((graph_of n).tail i.0) held)))
      h k

  -- the two ways of the test
  pub closed_when : (full : ℕ → ℕ) → Full (graph_of n) full → 0 < full v → (b : Bool) → b ≡ eqb (left v) 0 → MatchBool b (Closed (graph_of n) v) (Alone (graph_of n) v)
  closed_when full fulls some_to true e = grown_closed full fulls some_to (eqb-true (left v) 0 (sym e))
  closed_when full fulls some_to false e = grown_entered (eqb-false (left v) 0 (sym e))

  pub bare_when : (full : ℕ → ℕ) → Full (graph_of n) full → full v ≤ 0 → (b : Bool) → b ≡ ltb 0 (full v) → MatchBool b (Closed (graph_of n) v) (Alone (graph_of n) v)
  bare_when full fulls none true e = absurd (omega (arith, ltb-true 0 (full v) (sym e)))
  bare_when full fulls none false e = bare_alone n v growing.known full fulls (omega arith)

-- The counters while the links of u are put back.
pub record Putting (n : Network) (u : ℕ) (full was now : ℕ → ℕ) (j : ℕ) : Type 0 where
  pub heads : (i : ℕ) → at n.first u ≤ i → i < j → now ((graph_of n).head i) ≡ full ((graph_of n).head i)
  pub others : (w : ℕ) → (now w ≡ full w) ⊎ (now w ≡ was w)

pub putting_none : (n : Network) (u : ℕ) (full was : ℕ → ℕ) (j : ℕ) → j ≡ at n.first u → Putting n u full was was j
putting_none n u full was j e = record { heads = λ i low high. absurd (omega arith); others = λ w. inr refl }

pub putting_more : (n : Network) (u : ℕ) (full left : List ℕ) (was : ℕ → ℕ) (j : ℕ) → Putting n u (at full) was (at left) j → (graph_of n).head j < length left →
    Putting n u (at full) was (at (set left ((graph_of n).head j) (at full ((graph_of n).head j)))) (j + 1)
putting_more n u full left was j putting within = record {
  heads = λ i low high. head i low high (cases_eq ((graph_of n).head i) h);
  others = λ w. other w (cases_eq w h);
}
  where
    h : ℕ
    h = (graph_of n).head j

    after : List ℕ
    after = set left ((graph_of n).head j) (at full ((graph_of n).head j))

    new : at after h ≡ at full h
    new = get_or-set_same left h (at full h) 0 within

    head : (i : ℕ) → at n.first u ≤ i → i < j + 1 → ((graph_of n).head i ≡ h) ⊎ ((graph_of n).head i ≡ h → ⊥) → at after ((graph_of n).head i) ≡ at full ((graph_of n).head i)
    head i low high (inl e) = ap (at after) e ∙ new ∙ ap (at full) (sym e)
    head i low high (inr ne) =
        get_or-set_other left h ((graph_of n).head i) (at full h) 0 ne ∙ putting.heads i low (earlier (cases_eq i j))
      where
        earlier : (i ≡ j) ⊎ (i ≡ j → ⊥) → i < j
        earlier (inl e) = absurd (ne (ap ((graph_of n).head) e))
        earlier (inr apart) = omega arith

    other : (w : ℕ) → (w ≡ h) ⊎ (w ≡ h → ⊥) → (at after w ≡ at full w) ⊎ (at after w ≡ was w)
    other w (inl e) = inl (ap (at after) e ∙ new ∙ ap (at full) (sym e))
    other w (inr ne) = go (putting.others w)
      where
        same : at after w ≡ at left w
        same = get_or-set_other left h w (at full h) 0 ne

        go : (at left w ≡ at full w) ⊎ (at left w ≡ was w) → (at after w ≡ at full w) ⊎ (at after w ≡ was w)
        go (inl e) = inl (same ∙ e)
        go (inr e) = inr (same ∙ e)

-- one turn of the loop over the links that leave u
pub putting_turn : (n : Network) (u : ℕ) → u < n.places → (items : List OpenLink) → items ≡ leaving_of n u → (k : ℕ) → k < length items →
    (full left : List ℕ) (was : ℕ → ℕ) → length left ≡ 2048 → Putting n u (at full) was (at left) (at n.first u + k) →
    Putting n u (at full) was (at (set left (slice_index_or items k blank).head (at full (slice_index_or items k blank).head))) (at n.first u + (k + 1))
putting_turn n u here items e k lt full left was long putting =
    let h = leaving_head n u here items e k lt in
    let small = leaving_small n u here items e k lt in
    let next : at n.first u + k + 1 ≡ at n.first u + (k + 1) = omega arith in
    subst (Putting n u (at full) was (at (set left (slice_index_or items k blank).head (at full (slice_index_or items k blank).head)))) next
    (subst (λ x. Putting n u (at full) was (at (set left x (at full x))) (at n.first u + k + 1)) (sym h)
    (putting_more n u full left was (at n.first u + k) putting (omega (arith, h, small, long))))

pub putting_all : (n : Network) → (u : ℕ) (full was now : ℕ → ℕ) (j : ℕ) → Putting n u full was now j → at n.first (u + 1) ≤ j → PutBack (graph_of n) u full was now
putting_all n u full was now j putting past = record {
  heads = λ i lt e. let p = tail_part n u i lt e in putting.heads i p.0 (omega (arith, p.1));
  others = putting.others;
}

-- The counters while the members' links are put back.
pub record Emptying (g : Graph) (member full was now : ℕ → ℕ) (k : ℕ) : Type 0 where
  pub heads : (q i : ℕ) → q < k → i < g.links → g.tail i ≡ member q → now (g.head i) ≡ full (g.head i)
  pub others : (w : ℕ) → (now w ≡ full w) ⊎ (now w ≡ was w)

pub emptying_none : (g : Graph) (member full was : ℕ → ℕ) → Emptying g member full was was 0
emptying_none g member full was = record { heads = λ q i lt. absurd (omega arith); others = λ w. inr refl }

pub emptying_more : (g : Graph) (member full was now after : ℕ → ℕ) (k : ℕ) → Emptying g member full was now k → PutBack g (member k) full now after → Emptying g member full was after (k + 1)
emptying_more g member full was now after k emptying back = record {
  heads = λ q i lt known e. head q i known e lt (cases_eq q k);
  others = λ w. other w (back.others w) (emptying.others w);
}
  where
    still : (w : ℕ) → now w ≡ full w → (after w ≡ full w) ⊎ (after w ≡ now w) → after w ≡ full w
    still w e (inl f) = f
    still w e (inr f) = f ∙ e

    head : (q i : ℕ) → i < g.links → g.tail i ≡ member q → q < k + 1 → (q ≡ k) ⊎ (q ≡ k → ⊥) → after (g.head i) ≡ full (g.head i)
    head q i known e lt (inl same) = back.heads i known (e ∙ ap member same)
    head q i known e lt (inr ne) = still (g.head i) (emptying.heads q i (omega arith) known e) (back.others (g.head i))

    other : (w : ℕ) → (after w ≡ full w) ⊎ (after w ≡ now w) → (now w ≡ full w) ⊎ (now w ≡ was w) → (after w ≡ full w) ⊎ (after w ≡ was w)
    other w (inl e) h = inl e
    other w (inr e) (inl f) = inl (e ∙ f)
    other w (inr e) (inr f) = inr (e ∙ f)

-- A counter that nothing counted down is full.
pub emptying_all : (g : Graph) (member full was now : ℕ → ℕ) (len : ℕ) → Full g full → Pending g was (Before g member len) → Emptying g member full was now len → Full g now
emptying_all g member full was now len fulls pending emptying w here = go (cases_Bool (some to_w g.links))
  where
    to_w : ℕ → Bool
    to_w i = pending.done i && eqb (g.head i) w

    go : (some to_w g.links ≡ true) ⊎ (some to_w g.links ≡ false) → now w ≡ approaches g w
    go (inl e) =
        let s = (some_decides to_w (λ i. to_w i ≡ true) (λ i. (λ h. h, λ h. h)) g.links).0 e in
        let p = and_parts (pending.done s.0) (eqb (g.head s.0) w) s.2 in
        let b = (pending.told s.0 s.1).0 p.0 in
        let same : g.head s.0 ≡ w = eqb-true (g.head s.0) w p.1 in
        ap now (sym same) ∙ emptying.heads b.0 s.0 b.1 s.1 (sym b.2) ∙ ap full same ∙ fulls w here
    go (inr e) = either (emptying.others w)
      where
        untouched : was w ≡ approaches g w
        untouched = pending.counts w here ∙ count_same (λ i. not (pending.done i) && eqb (g.head i) w) (λ i. eqb (g.head i) w) g.links (λ i lt. at_link i lt (pending.done i) refl)
          where
            at_link : (i : ℕ) → i < g.links → (b : Bool) → pending.done i ≡ b → (not b && eqb (g.head i) w) ≡ eqb (g.head i) w
            at_link i lt false d = refl
            at_link i lt true d = sym (off (cases_Bool (eqb (g.head i) w)))
              where
                off : (eqb (g.head i) w ≡ true) ⊎ (eqb (g.head i) w ≡ false) → eqb (g.head i) w ≡ false
                off (inl t) = absurd (both_ways (some to_w g.links) e ((some_decides to_w (λ j. to_w j ≡ true) (λ j. (λ h. h, λ h. h)) g.links).1 (i, lt, and_from (pending.done i) (eqb (g.head i) w) d t)))
                off (inr f) = f

        either : (now w ≡ full w) ⊎ (now w ≡ was w) → now w ≡ approaches g w
        either (inl f) = f ∙ fulls w here
        either (inr f) = f ∙ untouched
