-- All checks are kept exactly when the file keeps every rule.
use Rattle.std.proofs.Common.{◌≡◌, ℕ, ◌<◌, ◌≤◌, Bool, true, false, ◌&&◌, ◌||◌, eqb, ltb, leb, List, [], ◌∷◌, ◌++◌, Ok, Err, Result, sym, refl, subst, arith}
use Rattle.std.proofs.lemmas.Bool.Decides.{nat_tests}
use Rattle.mapfile.specs.declared.body.BodyKind.{BodyKind}
use Rattle.mapfile.specs.declared.body.BodyKind.TheVariants.{Places, Links, Signals}
use Rattle.mapfile.specs.declared.counts.Counts.{Counts}
use Rattle.mapfile.specs.declared.fault.Fault.{Fault}
use Rattle.mapfile.specs.Bodies.{body_of, body_checks, nth}
use Rattle.mapfile.specs.Checks.{Check, answer, AllKept, First}
use Rattle.mapfile.specs.Contents.{line_checks, contents_checks}
use Rattle.mapfile.specs.File.{checks, rest_checks}
use Rattle.mapfile.specs.Layout.{start, counts}
use Rattle.mapfile.specs.Rules.{Line, Lawful, EachPlace, EachLink, EachSign, EachSignal, EachSpare, Sized}
use Rattle.mapfile.proofs.Lists.{kept_both, kept_front, kept_back, each_at, each_all, kept_of_ok, told_of_ok}

-- ---- a test that passed, and the fact that it tests
is_eq : {a b : ℕ} → eqb a b ≡ true → a ≡ b
is_eq {a} {b} h = grind (arith, nat_tests)

is_le : {a b : ℕ} → leb a b ≡ true → a ≤ b
is_le {a} {b} h = grind (arith, nat_tests)

halves : (a b : Bool) → (a && b) ≡ true → (a ≡ true) × (b ≡ true)
halves true b h = (refl, h)
halves false b h = cc

is_both : {a b : Bool} → (a && b) ≡ true → (a ≡ true) × (b ≡ true)
is_both {a} {b} h = halves a b h

is_signal : {w n : ℕ} → (ltb w n || eqb w 65535) ≡ true → (w ≡ 65535 → ⊥) → w < n
is_signal {w} {n} h k = grind (arith, nat_tests)

eq_is : {a b : ℕ} → a ≡ b → eqb a b ≡ true
eq_is {a} {b} h = grind (arith, nat_tests)

le_is : {a b : ℕ} → a ≤ b → leb a b ≡ true
le_is {a} {b} h = grind (arith, nat_tests)

both_is : {a b : Bool} → a ≡ true → b ≡ true → (a && b) ≡ true
both_is {a} {b} h k = rw (h, k)

signal_is : {w n : ℕ} → ((w ≡ 65535 → ⊥) → w < n) → (ltb w n || eqb w 65535) ≡ true
signal_is {w} {n} h = grind (arith, nat_tests)

-- ---- the contents
line_of : (f : List ℕ) (k : BodyKind) (due : ℕ) → AllKept (line_checks f k due) → Line f k due
line_of f k due h = record {
  kind = is_eq h.0;
  spare = is_eq h.1.0;
  enough = is_le (is_both h.1.1.0).0;
  few = is_le (is_both h.1.1.0).1;
  begins = is_eq h.1.1.1.0;
}

of_line : (f : List ℕ) (k : BodyKind) (due : ℕ) → Line f k due → AllKept (line_checks f k due)
of_line f k due l = (eq_is l.kind, (eq_is l.spare, (both_is (le_is l.enough) (le_is l.few), (eq_is l.begins, tt))))

module _ (f : List ℕ) where
  abbrev lines_1 : List Check
  lines_1 = line_checks f Places 26

  abbrev lines_2 : List Check
  lines_2 = line_checks f Links (start (counts f) Links)

  abbrev lines_3 : List Check
  lines_3 = line_checks f Signals (start (counts f) Signals)

  -- ---- the records
  module _ (n : Counts) where
    places_of : AllKept (body_checks (body_of f n Places) n) → EachPlace f n
    places_of h i lt = is_le (each_at (nth Places (body_of f n Places).bytes 26 n) n.places i lt h).0

    of_places : EachPlace f n → AllKept (body_checks (body_of f n Places) n)
    of_places h = each_all (nth Places (body_of f n Places).bytes 26 n) n.places (λ i lt. (le_is (h i lt), tt))

    abbrev links_of : ℕ → List Check
    links_of = nth Links (body_of f n Links).bytes (start n Links) n

    link_rules : AllKept (body_checks (body_of f n Links) n) → EachLink f n
    link_rules h i lt =
        let k = each_at links_of n.links i lt h in
        (is_le (is_both k.0).0, is_le (is_both k.0).1, is_le k.1.0, is_le k.1.1.0, is_eq k.1.1.1.0)

    sign_rules : AllKept (body_checks (body_of f n Links) n) → EachSign f n
    sign_rules h i lt =
        let k = each_at links_of n.links i lt h in
        (is_signal k.1.1.1.1.0, is_le k.1.1.1.1.1.0)

    of_links : EachLink f n → EachSign f n → AllKept (body_checks (body_of f n Links) n)
    of_links h k = each_all links_of n.links (λ i lt. (both_is (le_is (h i lt).0) (le_is (h i lt).1), (le_is (h i lt).2, (le_is (h i lt).3, (eq_is (h i lt).4, (signal_is (k i lt).0, (le_is (k i lt).1, tt)))))))

    abbrev signals_of : ℕ → List Check
    signals_of = nth Signals (body_of f n Signals).bytes (start n Signals) n

    signal_rules : AllKept (body_checks (body_of f n Signals) n) → EachSignal f n
    signal_rules h i lt =
        let k = each_at signals_of n.signals i lt h in
        (is_le (is_both k.0).0, is_le (is_both k.0).1, is_le k.1.0, is_le (is_both k.1.1.0).0, is_le (is_both k.1.1.0).1)

    spare_rules : AllKept (body_checks (body_of f n Signals) n) → EachSpare f n
    spare_rules h i lt = is_eq (each_at signals_of n.signals i lt h).1.1.1.0

    of_signals : EachSignal f n → EachSpare f n → AllKept (body_checks (body_of f n Signals) n)
    of_signals h k = each_all signals_of n.signals (λ i lt. (both_is (le_is (h i lt).0) (le_is (h i lt).1), (le_is (h i lt).2, (both_is (le_is (h i lt).3) (le_is (h i lt).4), (eq_is (k i lt), tt)))))

    abbrev bodies_1 : List Check
    bodies_1 = body_checks (body_of f n Places) n

    abbrev bodies_2 : List Check
    bodies_2 = body_checks (body_of f n Links) n

    abbrev bodies_3 : List Check
    bodies_3 = body_checks (body_of f n Signals) n

  pub lawful_of_kept : AllKept (checks f) → Lawful f
  unfolding checks rest_checks
  lawful_of_kept h =
      let n = counts f in
      let c : AllKept (contents_checks f) = kept_front (contents_checks f) (rest_checks f n) h in
      let r : AllKept (rest_checks f n) = kept_back (contents_checks f) (rest_checks f n) h in
      let ls = c.1.1.1 in
      let bs = r.1 in
      let b2 = kept_back (bodies_1 n) (bodies_2 n ++ bodies_3 n) bs in
      record {
        long_enough = is_le c.0;
        edition = is_eq c.1.0;
        lines = is_eq c.1.1.0;
        places = line_of f Places 26 (kept_front lines_1 (lines_2 ++ lines_3) ls);
        links = line_of f Links (start n Links) (kept_front lines_2 lines_3 (kept_back lines_1 (lines_2 ++ lines_3) ls));
        signals = line_of f Signals (start n Signals) (kept_back lines_2 lines_3 (kept_back lines_1 (lines_2 ++ lines_3) ls));
        ends = is_eq r.0;
        each_place = places_of n (kept_front (bodies_1 n) (bodies_2 n ++ bodies_3 n) bs);
        each_link = link_rules n (kept_front (bodies_2 n) (bodies_3 n) b2);
        each_sign = sign_rules n (kept_front (bodies_2 n) (bodies_3 n) b2);
        each_signal = signal_rules n (kept_back (bodies_2 n) (bodies_3 n) b2);
        each_spare = spare_rules n (kept_back (bodies_2 n) (bodies_3 n) b2);
      }

  pub kept_of_lawful : Lawful f → AllKept (checks f)
  unfolding checks rest_checks
  kept_of_lawful l =
      let n = counts f in
      let ls : AllKept (lines_1 ++ (lines_2 ++ lines_3)) = kept_both lines_1 (lines_2 ++ lines_3) (of_line f Places 26 l.places) (kept_both lines_2 lines_3 (of_line f Links (start n Links) l.links) (of_line f Signals (start n Signals) l.signals)) in
      let bs : AllKept (bodies_1 n ++ (bodies_2 n ++ bodies_3 n)) = kept_both (bodies_1 n) (bodies_2 n ++ bodies_3 n) (of_places n l.each_place) (kept_both (bodies_2 n) (bodies_3 n) (of_links n l.each_link l.each_sign) (of_signals n l.each_signal l.each_spare)) in
      kept_both (contents_checks f) (rest_checks f n) (le_is l.long_enough, (eq_is l.edition, (eq_is l.lines, ls))) (eq_is l.ends, bs)

-- ---- what an accepted file gives
module _ (f : List ℕ) (n : Counts) (h : answer (checks f) (counts f) ≡ Ok n) where
  pub counts_of_ok : n ≡ counts f
  counts_of_ok = told_of_ok (checks f) (counts f) n h

  pub lawful_of_ok : Lawful f
  lawful_of_ok = lawful_of_kept f (kept_of_ok (checks f) (counts f) n h)

  pub sized_of_ok : Sized f n
  sized_of_ok = let l = lawful_of_ok in subst (Sized f) (sym counts_of_ok) (l.ends, (l.places.few, l.links.few, l.signals.few))

  pub rules_of_ok : EachPlace f n × EachLink f n × EachSign f n × EachSignal f n × EachSpare f n
  rules_of_ok =
      let l = lawful_of_ok in
      let P : Counts → Type 0 = λ m. EachPlace f m × EachLink f m × EachSign f m × EachSignal f m × EachSpare f m in
      subst P (sym counts_of_ok) (l.each_place, l.each_link, l.each_sign, l.each_signal, l.each_spare)

-- ---- a fault is the first
pub first_of_err : {A : Type 0} (cs : List Check) (a : A) (e : Fault) → answer cs a ≡ Err e → First cs e
first_of_err [] a e h = cc
first_of_err {A} (c ∷ cs) a e h = go c.kept refl (first_of_err cs a e)
  where
    go : (k : Bool) → c.kept ≡ k → (answer cs a ≡ Err e → First cs e) → First (c ∷ cs) e
    go true q rest =
        let i = rest (rw q at h) in
        record { before = c ∷ i.before; broken = i.broken; after = i.after; order = let o = i.order in cc; fine = (q, i.fine); breach = i.breach; tells = i.tells }
    go false q rest =
        let w : ◌≡◌ {A = Result A Fault} (Err c.told) (Err e) = rw q at h in
        record { before = []; broken = c; after = cs; order = refl; fine = tt; breach = q; tells = cc }
