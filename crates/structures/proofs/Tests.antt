-- The computed tests say what they are named for.
use Rattle.std.proofs.Common.{◌≡◌, ℕ, zero, suc, ◌<◌, ◌≤◌, Bool, true, false, cond, not, ◌&&◌, ◌||◌, eqb, ltb, Decides, refl, subst, arith}
use lib.ListN.{get_or-eq_default}
use Rattle.std.proofs.lemmas.Bool.{false≢true, both_ways, and_parts, and_from, eqb-true, eq-eqb, ltb-true}
use Rattle.std.proofs.lemmas.Bool.Decides.{Decides-below_and, Decides-below_or}
use Rattle.std.proofs.lemmas.List.FromFn.{get_or-map-range_with_len, length-map-range_with_len}
use Rattle.structures.specs.Graphs.{Graph, Within, Approach}
use Rattle.structures.specs.Computed.{each, some, lowest, leads, fed, table, listed}

pub decides_implies : (a b : Bool) → Decides (not a || b) (a ≡ true → b ≡ true)
decides_implies true b = (λ e _. e, λ h. h refl)
decides_implies false b = (λ _ f. absurd (false≢true f), λ _. refl)

pub each_decides : (P : ℕ → Bool) (Q : ℕ → Type 0) → ((k : ℕ) → Decides (P k) (Q k)) → (n : ℕ) → Decides (each P n) ((k : ℕ) → k < n → Q k)
each_decides P Q decides = Decides-below_and P Q (each P) decides refl (λ _. refl)

pub some_decides : (P : ℕ → Bool) (Q : ℕ → Type 0) → ((k : ℕ) → Decides (P k) (Q k)) → (n : ℕ) → Decides (some P n) ((k : ℕ) × (k < n) × Q k)
some_decides P Q decides = Decides-below_or P Q (some P) decides refl (λ _. refl)

-- The lowest number that passes passes, and none that passes is lower.
pub lowest_passes : (P : ℕ → Bool) (n k : ℕ) → k < n → P k ≡ true → (P (lowest P n) ≡ true) × (lowest P n ≤ k)
lowest_passes P zero k lt pass = absurd (omega arith)
lowest_passes P (suc n) k lt pass = go (P zero) refl k lt pass (λ j. lowest_passes (λ i. P (suc i)) n j)
  where
    rest : ℕ
    rest = lowest (λ i. P (suc i)) n

    go : (b : Bool) → P zero ≡ b → (j : ℕ) → j < suc n → P j ≡ true → ((i : ℕ) → i < n → P (suc i) ≡ true → (P (suc rest) ≡ true) × (rest ≤ i)) →
        (P (cond b zero (suc rest)) ≡ true) × (cond b zero (suc rest) ≤ j)
    go true e j lt pass later = (e, omega arith)
    go false e zero lt pass later = absurd (both_ways (P zero) e pass)
    go false e (suc j) lt pass later = ((later j (omega arith) pass).0, omega (arith, (later j (omega arith) pass).1))

pub listed_table : (P : ℕ → Bool) (n w : ℕ) → w < n → listed (table P n) w ≡ P w
listed_table P n w lt = get_or-map-range_with_len P 0 n w w false lt (omega arith)

pub listed_past : (P : ℕ → Bool) (n w : ℕ) → n ≤ w → listed (table P n) w ≡ false
listed_past P n w le = get_or-eq_default (table P n) false (omega (arith, length-map-range_with_len P 0 n))

pub leads_decides : (g : Graph) (w k : ℕ) → Decides (leads g w k) ((g.usable k ≡ true) × (g.head k ≡ w))
leads_decides g w k = (
  λ e. let p = and_parts (g.usable k) (eqb (g.head k) w) e in (p.0, eqb-true (g.head k) w p.1),
  λ h. and_from (g.usable k) (eqb (g.head k) w) h.0 (eq-eqb (g.head k) w h.1),
)

-- w has an approach, and every approach of w is in Q.
abbrev pub Fed : Graph → (ℕ → Type 0) → ℕ → Type 0
Fed g Q w = ((u : ℕ) × Approach g u w) × ((u : ℕ) → Approach g u w → Q u)

pub fed_decides : (g : Graph) → Within g → (S : ℕ → Bool) (Q : ℕ → Type 0) → ((u : ℕ) → u < g.places → Decides (S u) (Q u)) → (w : ℕ) → Decides (fed g S w) (Fed g Q w)
fed_decides g within S Q decides w = (is, make)
  where
    Leads : ℕ → Type 0
    Leads k = (g.usable k ≡ true) × (g.head k ≡ w)

    Passes : ℕ → Type 0
    Passes k = leads g w k ≡ true → S (g.tail k) ≡ true

    a : Bool
    a = some (leads g w) g.links

    b : Bool
    b = each (λ k. not (leads g w k) || S (g.tail k)) g.links

    dec_a : Decides a ((k : ℕ) × (k < g.links) × Leads k)
    dec_a = some_decides (leads g w) Leads (leads_decides g w) g.links

    dec_b : Decides b ((k : ℕ) → k < g.links → Passes k)
    dec_b = each_decides (λ k. not (leads g w k) || S (g.tail k)) Passes (λ k. decides_implies (leads g w k) (S (g.tail k))) g.links

    is : (a && b) ≡ true → Fed g Q w
    is e =
        let p = and_parts a b e in
        let k = dec_a.0 p.0 in (
          (g.tail k.0, record { link = k.0; known = k.1; is_open = k.2.0; from = refl; to = k.2.1 }),
          λ u c. subst Q c.from ((decides (g.tail c.link) (within c.link c.known c.is_open).0).0
              (dec_b.0 p.1 c.link c.known ((leads_decides g w c.link).1 (c.is_open, c.to)))),
        )

    make : Fed g Q w → (a && b) ≡ true
    make h = and_from a b
        (dec_a.1 (h.0.1.link, h.0.1.known, (h.0.1.is_open, h.0.1.to)))
        (dec_b.1 (λ k lt e. passed k lt ((leads_decides g w k).0 e)))
      where
        passed : (k : ℕ) → k < g.links → Leads k → S (g.tail k) ≡ true
        passed k lt l = (decides (g.tail k) (within k lt l.0).0).1 (h.1 (g.tail k) (record { link = k; known = lt; is_open = l.0; from = refl; to = l.1 }))

-- A computed test for a map whose open links lead from a place to a place.
abbrev pub within_test : Graph → Bool
within_test g = each (λ k. not (g.usable k) || (ltb (g.tail k) g.places && ltb (g.head k) g.places)) g.links

pub within_from_test : (g : Graph) → within_test g ≡ true → Within g
within_from_test g e k lt is_open =
    let p = and_parts (ltb (g.tail k) g.places) (ltb (g.head k) g.places) (tests.0 e k lt is_open) in
    (ltb-true (g.tail k) g.places p.0, ltb-true (g.head k) g.places p.1)
  where
    Fits : ℕ → Type 0
    Fits j = g.usable j ≡ true → (ltb (g.tail j) g.places && ltb (g.head j) g.places) ≡ true

    tests : Decides (within_test g) ((j : ℕ) → j < g.links → Fits j)
    tests = each_decides (λ j. not (g.usable j) || (ltb (g.tail j) g.places && ltb (g.head j) g.places)) Fits
        (λ j. decides_implies (g.usable j) (ltb (g.tail j) g.places && ltb (g.head j) g.places)) g.links
