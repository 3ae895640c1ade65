-- The order list, written one structure after the other in the order of their triggers.
use Rattle.std.proofs.Common.{◌≡◌, ℕ, ◌+◌, ◌-◌, ◌<◌, ◌≤◌, Bool, true, cond, not, ltb, ◌≢◌, ◌⊎◌, List, length, take, drop, set, sym, refl, ap, ◌∙◌, subst, inl, inr, arith, get_or-set_other, get_or-set_same}
use Rattle.std.proofs.lemmas.Bool.{cases_eq, cases_lt, cond-true, cond-false, lt-ltb, le-ltb, eqb-false, eq-eqb, ne_eqb, not-true, not_from_false}
use Rattle.std.proofs.lemmas.List.{length-take, length-drop, get_or-take, get_or-drop}
use Rattle.structures.specs.Graphs.{Graph, Within, Approach}
use Rattle.structures.specs.Rivals.{Among}
use Rattle.structures.specs.Computed.{count, trigger}
use Rattle.structures.proofs.Lists.{length_once, chosen, length_chosen, chosen_only, chosen_all, chosen_once}
use Rattle.structures.proofs.Held.{Held, held_self, held_place, holder_place}
use Rattle.structures.proofs.Maximal.{Top, top_twin}
use Rattle.structures.proofs.Triggers.{own_trigger, triggers_count, trigger_candidate, trigger_trigger, trigger_approach, trigger_lowest, trigger_twin}
use Rattle.division.specs.Lists.{at}
use Rattle.division.specs.Growing.{Grown}
use Rattle.division.specs.Laying.{Stretched}
use Rattle.division.specs.declared.answer.Stretch.{Stretch}
use Rattle.division.specs.Divided.{Inner, inner, stretch_at, OrderEntries}
use Rattle.division.proofs.Counts.{count_split, count_next}
use Rattle.division.proofs.Pigeon.{values, length_values, values_among, fewer, pigeon}

-- Writing one stretch.
pub stretched_none : (member : ℕ → ℕ) (from : ℕ) (was : ℕ → ℕ) → Stretched member 1 from was was
stretched_none member from was = record { members = λ q i pos lt e. absurd (omega arith); earlier = λ i lt. refl; later = λ i le. refl }

pub stretched_more : (member : ℕ → ℕ) (q from : ℕ) (was : ℕ → ℕ) (order : List ℕ) → 0 < q → from + q - 1 < length order → Stretched member q from was (at order) →
    Stretched member (q + 1) from was (at (set order (from + q - 1) (member q)))
stretched_more member q from was order pos within before = record {
  members = λ r i posr lt e. one r i posr lt e (cases_eq r q);
  earlier = λ i lt. other i (omega arith) ∙ before.earlier i lt;
  later = λ i le. other i (omega arith) ∙ before.later i (omega arith);
}
  where
    after : List ℕ
    after = set order (from + q - 1) (member q)

    other : (i : ℕ) → i ≢ from + q - 1 → at after i ≡ at order i
    other i ne = get_or-set_other order (from + q - 1) i (member q) 0 ne

    one : (r i : ℕ) → 0 < r → r < q + 1 → from + r ≡ i + 1 → (r ≡ q) ⊎ (r ≡ q → ⊥) → at after i ≡ member r
    one r i posr lt e (inl same) =
        let here : i ≡ from + q - 1 = omega arith in
        ap (at after) here ∙ get_or-set_same order (from + q - 1) (member q) 0 within ∙ ap member (sym same)
    one r i posr lt e (inr ne) = other i (omega arith) ∙ before.members r i posr (omega arith) e

-- the members but the first
abbrev pub rest : List ℕ → List ℕ
rest xs = take (length xs - 1) (drop 1 xs)

pub length_rest : (xs : List ℕ) → length (rest xs) ≡ length xs - 1
length_rest xs = omega (arith, length-take (length xs - 1) (drop 1 xs), length-drop 1 xs)

pub at_rest : (xs : List ℕ) (q : ℕ) → q < length (rest xs) → at (rest xs) q ≡ at xs (1 + q)
at_rest xs q lt = get_or-take (length xs - 1) (drop 1 xs) q 0 (omega (arith, length_rest xs)) ∙ get_or-drop 1 xs q 0

-- one turn of the loop over the members but the first
pub stretched_turn : (members : List ℕ) (q from : ℕ) (was : ℕ → ℕ) (order : List ℕ) → from + q < length order → Stretched (at members) (q + 1) from was (at order) →
    Stretched (at members) (q + 1 + 1) from was (at (set order (from + q) (at members (1 + q))))
stretched_turn members q from was order within before =
    let place : from + (q + 1) - 1 ≡ from + q = omega arith in
    let index : q + 1 ≡ 1 + q = omega arith in
    subst (λ x. Stretched (at members) (q + 1 + 1) from was (at (set order x (at members (1 + q))))) place
    (subst (λ x. Stretched (at members) (q + 1 + 1) from was (at (set order (from + (q + 1) - 1) (at members x)))) index
    (stretched_more (at members) (q + 1) from was order (omega arith) (omega arith) before))

-- The order list when the structures of the triggers below p are written, up to position next.
pub record Laid (g : Graph) (was order begins ends : ℕ → ℕ) (next p : ℕ) : Type 0 where
  pub inner_only : (i : ℕ) → i < next → Inner g (order i) × (trigger g (order i) < p)
  pub complete : (x : ℕ) → Inner g x → trigger g x < p → (i : ℕ) × (i < next) × (order i ≡ x)
  pub once : (i j : ℕ) → i < next → j < next → order i ≡ order j → i ≡ j
  pub forward : (i j : ℕ) → i < next → j < next → Approach g (order i) (order j) → i < j
  pub stretch_only : (t i : ℕ) → t < p → trigger g t ≡ t → begins t ≤ i → i < ends t → (i < next) × (trigger g (order i) ≡ t)
  pub stretch_all : (t i : ℕ) → t < p → trigger g t ≡ t → i < next → trigger g (order i) ≡ t → (begins t ≤ i) × (i < ends t)
  pub kept : (i : ℕ) → next ≤ i → order i ≡ was i

pub laid_none : (g : Graph) (was begins ends : ℕ → ℕ) → Laid g was was begins ends 0 0
laid_none g was begins ends = record {
  inner_only = λ i lt. absurd (omega arith);
  complete = λ x n lt. absurd (omega arith);
  once = λ i j lt. absurd (omega arith);
  forward = λ i j lt. absurd (omega arith);
  stretch_only = λ t i lt. absurd (omega arith);
  stretch_all = λ t i lt. absurd (omega arith);
  kept = λ i le. refl;
}

module _ (g : Graph) (within : Within g) where
  -- what a trigger holds has that trigger
  pub trigger_held : (t w : ℕ) → t < g.places → trigger g t ≡ t → Held g t w → trigger g w ≡ t
  trigger_held t w lt own h =
      trigger_twin g within t w t (held_place g within lt h) top h (held_self g t, held_self g t)
      (λ x twins. omega (arith, own, trigger_lowest g within t x (holder_place g within lt twins.1) (twins.1, top_twin g t x top twins.1)))
    where
      top : Top g t
      top = subst (Top g) own (trigger_candidate g within t lt).1.1

  pub held_trigger : (w t : ℕ) → w < g.places → trigger g w ≡ t → Held g t w
  held_trigger w t lt e = subst (λ x. Held g x w) e (trigger_candidate g within w lt).1.0

  module _ (was order begins ends : ℕ → ℕ) (next p : ℕ) (here : p < g.places) (laid : Laid g was order begins ends next p) where
    -- p is no trigger
    pub laid_skip : trigger g p ≢ p → Laid g was order begins ends next (p + 1)
    laid_skip ne = record {
      inner_only = λ i lt. ((laid.inner_only i lt).0, omega (arith, (laid.inner_only i lt).1));
      complete = λ x n lt. laid.complete x n (below x n.0 lt);
      once = laid.once;
      forward = laid.forward;
      stretch_only = λ t i lt own. laid.stretch_only t i (lower t lt own) own;
      stretch_all = λ t i lt own. laid.stretch_all t i (lower t lt own) own;
      kept = laid.kept;
    }
      where
        lower : (t : ℕ) → t < p + 1 → trigger g t ≡ t → t < p
        lower t lt own = go (cases_eq t p)
          where
            go : (t ≡ p) ⊎ (t ≡ p → ⊥) → t < p
            go (inl e) = absurd (ne (subst (λ x. trigger g x ≡ x) e own))
            go (inr n) = omega arith

        below : (x : ℕ) → x < g.places → trigger g x < p + 1 → trigger g x < p
        below x lt le = lower (trigger g x) le (trigger_trigger g within x lt)

    -- p is a trigger: its stretch follows
    module _ (own : trigger g p ≡ p) (member : ℕ → ℕ) (len : ℕ) (grown : Grown g p member len) where
      module _ (after : ℕ → ℕ) (stretched : Stretched member len next order after) where
        abbrev end : ℕ
        end = next + (len - 1)

        of_p : (q : ℕ) → q < len → trigger g (member q) ≡ p
        of_p q lt = trigger_held p (member q) here own (grown.only q lt)

        inside : (q : ℕ) → 0 < q → q < len → Inner g (member q)
        inside q pos lt = (
          held_place g within here (grown.only q lt),
          λ e. omega (arith, grown.once q 0 lt grown.begun (e ∙ of_p q lt ∙ sym grown.first)),
        )

        -- a written position is an old one or one of the new stretch
        abbrev Old : ℕ → Type 0
        Old i = (i < next) × (after i ≡ order i)

        abbrev New : ℕ → Type 0
        New i = (q : ℕ) × (0 < q) × (q < len) × (next + q ≡ i + 1) × (after i ≡ member q)

        split : (i : ℕ) → i < end → Old i ⊎ New i
        split i lt = go (cases_lt i next)
          where
            go : (i < next) ⊎ (next ≤ i) → Old i ⊎ New i
            go (inl b) = inl (b, stretched.earlier i b)
            go (inr le) =
                let pos : 0 < i - next + 1 = omega arith in
                let short : i - next + 1 < len = omega arith in
                let e : next + (i - next + 1) ≡ i + 1 = omega arith in
                inr (i - next + 1, pos, short, e, stretched.members (i - next + 1) i pos short e)

        old_trigger : (i : ℕ) → Old i → trigger g (after i) < p
        old_trigger i o = omega (arith, ap (trigger g) o.1, (laid.inner_only i o.0).1)

        new_trigger : (i : ℕ) → New i → trigger g (after i) ≡ p
        new_trigger i s = ap (trigger g) s.4 ∙ of_p s.0 s.2

        pub once_more : (i j : ℕ) → i < end → j < end → after i ≡ after j → i ≡ j
        once_more i j a b e = go (split i a) (split j b)
          where
            go : Old i ⊎ New i → Old j ⊎ New j → i ≡ j
            go (inl x) (inl y) = laid.once i j x.0 y.0 (sym x.1 ∙ e ∙ y.1)
            go (inl x) (inr y) = absurd (omega (arith, old_trigger i x, new_trigger j y, ap (trigger g) e))
            go (inr x) (inl y) = absurd (omega (arith, old_trigger j y, new_trigger i x, ap (trigger g) e))
            go (inr x) (inr y) = omega (arith, grown.once x.0 y.0 x.2 y.2 (sym x.4 ∙ e ∙ y.4), x.3, y.3)

        inner_more : (i : ℕ) → i < end → Inner g (after i) × (trigger g (after i) < p + 1)
        inner_more i lt = go (split i lt)
          where
            go : Old i ⊎ New i → Inner g (after i) × (trigger g (after i) < p + 1)
            go (inl x) = (subst (Inner g) (sym x.1) (laid.inner_only i x.0).0, omega (arith, old_trigger i x))
            go (inr s) = (subst (Inner g) (sym s.4) (inside s.0 s.1 s.2), omega (arith, new_trigger i s))

        pub laid_short : end ≤ g.places
        laid_short = pigeon after end g.places once_more (λ i lt. (inner_more i lt).0.0)

        module _ (begun ended : ℕ → ℕ) (begun_p : begun p ≡ next) (ended_p : ended p ≡ end)
            (begun_other : (t : ℕ) → t ≢ p → begun t ≡ begins t) (ended_other : (t : ℕ) → t ≢ p → ended t ≡ ends t) where
          pub laid_more : Laid g was after begun ended end (p + 1)
          laid_more = record {
            inner_only = inner_more;
            complete = λ x n lt. complete x n lt (cases_eq (trigger g x) p);
            once = once_more;
            forward = λ i j a b link. forward i j a b link (split i a) (split j b);
            stretch_only = λ t i lt self low high. only t i lt self low high (cases_eq t p);
            stretch_all = λ t i lt self below e. every t i lt self e (cases_eq t p) (split i below);
            kept = λ i le. stretched.later i (omega (arith, grown.begun)) ∙ laid.kept i (omega arith);
          }
            where
              complete : (x : ℕ) → Inner g x → trigger g x < p + 1 → (trigger g x ≡ p) ⊎ (trigger g x ≡ p → ⊥) → (i : ℕ) × (i < end) × (after i ≡ x)
              complete x n lt (inl e) = found (grown.all x (held_trigger x p n.0 e))
                where
                  found : (q : ℕ) × (q < len) × (member q ≡ x) → (i : ℕ) × (i < end) × (after i ≡ x)
                  found s = at_q (cases_eq s.0 0)
                    where
                      at_q : (s.0 ≡ 0) ⊎ (s.0 ≡ 0 → ⊥) → (i : ℕ) × (i < end) × (after i ≡ x)
                      at_q (inl z) = absurd (n.1 (sym s.2 ∙ ap member z ∙ grown.first ∙ sym e))
                      at_q (inr nz) = (next + s.0 - 1, omega (arith, s.1), stretched.members s.0 (next + s.0 - 1) (omega arith) s.1 (omega arith) ∙ s.2)
              complete x n lt (inr ne) =
                  let s = laid.complete x n (omega arith) in
                  (s.0, omega (arith, s.1), stretched.earlier s.0 s.1 ∙ s.2)

              forward : (i j : ℕ) → i < end → j < end → Approach g (after i) (after j) → Old i ⊎ New i → Old j ⊎ New j → i < j
              forward i j a b link (inl x) (inl y) =
                  laid.forward i j x.0 y.0 (subst (λ z. Approach g z (order j)) x.1 (subst (Approach g (after i)) y.1 link))
              forward i j a b link (inl x) (inr y) = omega (arith, x.0, y.1, y.3)
              forward i j a b link (inr x) (inl y) =
                  absurd (omega (arith, old_trigger j y, new_trigger i x, trigger_approach g within (after i) (after j) link (inner_more j b).0.1))
              forward i j a b link (inr x) (inr y) =
                  omega (arith, grown.after x.0 y.0 x.2 y.1 y.2 (subst (λ z. Approach g z (member y.0)) x.4 (subst (Approach g (after i)) y.4 link)), x.3, y.3)

              only : (t i : ℕ) → t < p + 1 → trigger g t ≡ t → begun t ≤ i → i < ended t → (t ≡ p) ⊎ (t ≡ p → ⊥) → (i < end) × (trigger g (after i) ≡ t)
              only t i lt self low high (inl e) =
                  let below : i < end = omega (arith, ap ended e, ended_p) in
                  (below, at_i (split i below))
                where
                  from_next : next ≤ i
                  from_next = omega (arith, ap begun e, begun_p)

                  at_i : Old i ⊎ New i → trigger g (after i) ≡ t
                  at_i (inl x) = absurd (omega (arith, x.0, from_next))
                  at_i (inr s) = new_trigger i s ∙ sym e
              only t i lt self low high (inr ne) =
                  let s = laid.stretch_only t i (omega arith) self (omega (arith, begun_other t ne)) (omega (arith, ended_other t ne)) in
                  (omega (arith, s.0), ap (trigger g) (stretched.earlier i s.0) ∙ s.1)

              every : (t i : ℕ) → t < p + 1 → trigger g t ≡ t → trigger g (after i) ≡ t → (t ≡ p) ⊎ (t ≡ p → ⊥) → Old i ⊎ New i → (begun t ≤ i) × (i < ended t)
              every t i lt self e (inl same) (inl x) = absurd (omega (arith, old_trigger i x))
              every t i lt self e (inl same) (inr s) =
                  (omega (arith, ap begun same, begun_p, s.1, s.3), omega (arith, ap ended same, ended_p, s.2, s.3))
              every t i lt self e (inr ne) (inl x) =
                  let b = laid.stretch_all t i (omega arith) self x.0 (ap (trigger g) (sym x.1) ∙ e) in
                  (omega (arith, b.0, begun_other t ne), omega (arith, b.1, ended_other t ne))
              every t i lt self e (inr ne) (inr s) = absurd (ne (sym e ∙ new_trigger i s))

      -- there is room for the stretch
      pub laid_room : next + (len - 1) ≤ g.places
      laid_room = laid_short filled (record {
        members = λ q i pos lt e.
            let same : i - next + 1 ≡ q = omega arith in
            cond-false (ltb i next) (order i) (rest i) (le-ltb i next (omega arith)) ∙ cond-true (ltb i (next + (len - 1))) (member (i - next + 1)) (order i) (lt-ltb i (next + (len - 1)) (omega arith)) ∙ ap member same;
        earlier = λ i lt. cond-true (ltb i next) (order i) (rest i) (lt-ltb i next lt);
        later = λ i le. cond-false (ltb i next) (order i) (rest i) (le-ltb i next (omega (arith, grown.begun))) ∙ cond-false (ltb i (next + (len - 1))) (member (i - next + 1)) (order i) (le-ltb i (next + (len - 1)) (omega (arith, grown.begun)));
      })
        where
          rest : ℕ → ℕ
          rest i = cond (ltb i (next + (len - 1))) (member (i - next + 1)) (order i)

          filled : ℕ → ℕ
          filled i = cond (ltb i next) (order i) (rest i)

  -- Is p no trigger?
  abbrev no_trigger : ℕ → Bool
  no_trigger p = not (own_trigger g p)

  inner_test : (x : ℕ) → x ≢ trigger g x → no_trigger x ≡ true
  inner_test x ne = not_from_false (own_trigger g x) (ne_eqb (trigger g x) x (λ e. ne (sym e)))

  test_inner : (x : ℕ) → no_trigger x ≡ true → x ≢ trigger g x
  test_inner x e same = eqb-false (trigger g x) x (not-true (own_trigger g x) e) (sym same)

  -- all structures are written
  module _ (was order begins ends : ℕ → ℕ) (next : ℕ) (laid : Laid g was order begins ends next g.places) where
    pub laid_count : next ≡ inner g
    laid_count =
        let all : List ℕ = chosen no_trigger g.places in
        let a : next ≤ length all = fewer order next all laid.once
        (λ i lt. let n = (laid.inner_only i lt).0 in chosen_all no_trigger g.places (order i) n.0 (inner_test (order i) n.1)) in
        let b : length all ≤ length (values order next) = length_once all (values order next) (chosen_once no_trigger g.places)
        (λ x m.
        let c = chosen_only no_trigger g.places x m in
        let s = laid.complete x (c.0, test_inner x c.1) (trigger_candidate g within x c.0).0 in
        subst (λ y. Among y (values order next)) s.2 (values_among order next s.0 s.1)) in
        omega (arith, length_values order next, length_chosen no_trigger g.places, count_split (own_trigger g) g.places, triggers_count g)

-- where each stretch begins and ends
abbrev pub begins : List Stretch → ℕ → ℕ
begins stretches t = (stretch_at stretches t).begin

abbrev pub ends : List Stretch → ℕ → ℕ
ends stretches t = (stretch_at stretches t).end

pub laid_all : (g : Graph) → Within g → (was order : List ℕ) (stretches : List Stretch) (next : ℕ) → Laid g (at was) (at order) (begins stretches) (ends stretches) next g.places → OrderEntries g was order stretches
laid_all g within was order stretches next laid = record {
  inner_only = λ i lt. (laid.inner_only i (to i lt)).0;
  complete = λ p n. let s = laid.complete p n (trigger_candidate g within p n.0).0 in (s.0, back s.0 s.1, s.2);
  once = λ i j a b. laid.once i j (to i a) (to j b);
  forward = λ i j a b. laid.forward i j (to i a) (to j b);
  stretch_only = λ t i lt own s. let o = laid.stretch_only t i lt own s.0 s.1 in (back i o.0, o.1);
  stretch_all = λ t i lt own b. laid.stretch_all t i lt own (to i b);
  kept = λ i le. laid.kept i (omega (arith, same));
}
  where
    same : next ≡ inner g
    same = laid_count g within (at was) (at order) (begins stretches) (ends stretches) next laid

    to : (i : ℕ) → i < inner g → i < next
    to i lt = omega (arith, same)

    back : (i : ℕ) → i < next → i < inner g
    back i lt = omega (arith, same)

-- One turn of the loop over the places, on the lists themselves.
pub turn_lays : (g : Graph) (within : Within g) (was : ℕ → ℕ) (order : List ℕ) (stretches : List Stretch) (next p : ℕ) (here : p < g.places) →
    Laid g was (at order) (begins stretches) (ends stretches) next p → trigger g p ≡ p → (member : ℕ → ℕ) (len : ℕ) → Grown g p member len → (after : List ℕ) → Stretched member len next (at order) (at after) →
    p < length stretches → (end : ℕ) → end ≡ next + (len - 1) →
    Laid g was (at after) (begins (set stretches p (record { begin = next; end = end }))) (ends (set stretches p (record { begin = next; end = end }))) end (p + 1)
turn_lays g within was order stretches next p here laid own member len grown after stretched room end e =
    subst (λ x. Laid g was (at after) (begins more) (ends more) x (p + 1)) (sym e)
    (laid_more g within was (at order) (begins stretches) (ends stretches) next p here laid own member len grown (at after) stretched
    (begins more) (ends more) (ap (λ s. s.begin) new) (ap (λ s. s.end) new ∙ e) (λ t ne. ap (λ s. s.begin) (old t ne)) (λ t ne. ap (λ s. s.end) (old t ne)))
  where
    stretch : Stretch
    stretch = record { begin = next; end = end }

    more : List Stretch
    more = set stretches p stretch

    new : stretch_at more p ≡ stretch
    new = get_or-set_same stretches p stretch _ room

    old : (t : ℕ) → t ≢ p → stretch_at more t ≡ stretch_at stretches t
    old t ne = get_or-set_other stretches p t stretch _ ne

pub laid_same : (g : Graph) (was : ℕ → ℕ) (p : ℕ) (o o' : List ℕ) (s s' : List Stretch) (n n' : ℕ) → o' ≡ o → s' ≡ s → n' ≡ n →
    Laid g was (at o) (begins s) (ends s) n p → Laid g was (at o') (begins s') (ends s') n' p
laid_same g was p o o' s s' n n' oo ss nn laid =
    subst (λ x. Laid g was (at x) (begins s') (ends s') n' p) (sym oo)
    (subst (λ x. Laid g was (at o) (begins x) (ends x) n' p) (sym ss)
    (subst (λ x. Laid g was (at o) (begins s) (ends s) x p) (sym nn) laid))

-- Counting the triggers.
pub own_more : (g : Graph) (t n : ℕ) → n ≡ count (own_trigger g) t → trigger g t ≡ t → n + 1 ≡ count (own_trigger g) (t + 1)
own_more g t n e own =
    let on : ◌≡◌ {A = ℕ} (cond (own_trigger g t) 1 0) 1 = ap (λ (b : Bool). cond {A = ℕ} b 1 0) (eq-eqb (trigger g t) t own) in
    omega (arith, count_next (own_trigger g) t)

pub own_same : (g : Graph) (t n : ℕ) → n ≡ count (own_trigger g) t → trigger g t ≢ t → n ≡ count (own_trigger g) (t + 1)
own_same g t n e ne =
    let off : ◌≡◌ {A = ℕ} (cond (own_trigger g t) 1 0) 0 = ap (λ (b : Bool). cond {A = ℕ} b 1 0) (ne_eqb (trigger g t) t ne) in
    omega (arith, count_next (own_trigger g) t)
