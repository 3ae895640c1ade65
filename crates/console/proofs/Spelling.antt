-- A line's meaning is the call that it spells.
use Rattle.std.proofs.Common.{◌≡◌, ℕ, suc, ◌+◌, ◌-◌, ◌<◌, ◌≤◌, Bool, true, false, cond, ◌&&◌, eqb, ltb, leb, List, [], ◌∷◌, ◌++◌, length, get_or, take, drop, Some, None, codes, Option, sym, refl, ap, ◌∙◌, subst, add-one, one-add, arith, length-append, length-drop}
use Rattle.std.proofs.lemmas.Bool.Decides.{nat_tests}
use Rattle.std.proofs.lemmas.List.{take_all}
use Rattle.planner.specs.declared.change.Change.{Change}
use Rattle.planner.specs.declared.change.Change.TheVariants.{Place, Lift, Close, Reopen}
use Rattle.console.specs.Grammar.{One, Spells}
use Rattle.console.specs.Lines.{no_space, space, with_both, pair_of, single, by_letter, meaning}
use Rattle.console.specs.Numerals.{is_digit, digits, number, Numeral}
use Rattle.console.proofs.DigitByDigit.{numeral_of, of_numeral}

pub is_space : (b : ℕ) → b ≡ 32 → no_space b ≡ false
is_space b h = grind (arith, nat_tests)

pub is_none : (b : ℕ) → (b ≡ 32 → ⊥) → no_space b ≡ true
is_none b h = grind (arith, nat_tests)

-- ---- the rest of a list from a place on
pub rest_is : (s : List ℕ) (i : ℕ) → take (length s - i) (drop i s) ≡ drop i s
rest_is s i = take_all (length s - i) (drop i s) (simp length-drop (omega arith))

-- ---- two numbers
pub pair_none : (s : List ℕ) → length s ≤ space s → None ≡ pair_of s
pair_none s h = let e : ltb (space s) (length s) ≡ false = grind (arith, nat_tests) in rw e

pub pair_is : (s : List ℕ) (o p : Option ℕ) → space s < length s → o ≡ number (take (space s) s) → p ≡ number (drop (space s + 1) s) → with_both Place o p ≡ pair_of s
pair_is s o p h e f = let t : ltb (space s) (length s) ≡ true = grind (arith, nat_tests) in rw (t, e, f)

-- ---- a line
pub meaning_none : (s : List ℕ) → (2 ≤ length s → get_or s 1 0 ≡ 32 → ⊥) → None ≡ meaning s
meaning_none s h = let e : (leb 2 (length s) && eqb (get_or s 1 0) 32) ≡ false = grind (arith, nat_tests) in rw e

pub meaning_is : (s : List ℕ) → 2 ≤ length s → get_or s 1 0 ≡ 32 → meaning s ≡ by_letter (get_or s 0 0) (drop 2 s)
meaning_is s h k = let e : (leb 2 (length s) && eqb (get_or s 1 0) 32) ≡ true = grind (arith, nat_tests) in rw e

pub by_place : (l : ℕ) (s : List ℕ) → l ≡ 80 → by_letter l s ≡ pair_of s
by_place l s h = let e : eqb l 80 ≡ true = grind (arith, nat_tests) in rw e

pub by_other : (l : ℕ) (s : List ℕ) → (l ≡ 80 → ⊥) → by_letter l s ≡ single l (number s)
by_other l s h = let e : eqb l 80 ≡ false = grind (arith, nat_tests) in rw e

-- ---- a line and its letters
split : (s : List ℕ) → 2 ≤ length s → s ≡ get_or s 0 0 ∷ (get_or s 1 0 ∷ drop 2 s)
split [] h = absurd (omega arith)
split (a ∷ []) h = absurd (omega arith)
split (a ∷ (b ∷ s)) h = refl

-- ---- the first space
space_here : (b : ℕ) (s : List ℕ) → no_space b ≡ false → space (b ∷ s) ≡ 0
space_here b s h = rw h

space_later : (b : ℕ) (s : List ℕ) → no_space b ≡ true → space (b ∷ s) ≡ suc (space s)
space_later b s h = rw h (one-add (space s))

was_space : (b : ℕ) → no_space b ≡ false → b ≡ 32
was_space b h = grind (arith, nat_tests)

-- what stands before the first space, the space, and what follows
parts : (s : List ℕ) → space s < length s → s ≡ take (space s) s ++ (32 ∷ drop (space s + 1) s)
parts [] h = absurd (omega arith)
parts (b ∷ s) h = go (no_space b) refl (parts s)
  where
    go : (k : Bool) → no_space b ≡ k → (space s < length s → s ≡ take (space s) s ++ (32 ∷ drop (space s + 1) s)) → b ∷ s ≡ take (space (b ∷ s)) (b ∷ s) ++ (32 ∷ drop (space (b ∷ s) + 1) (b ∷ s))
    go false q rest = let e = was_space b q in rw (space_here b s q) (ap (λ x. x ∷ s) e)
    go true q rest =
        let n = space_later b s q in
        let r = rest (omega (arith, n)) in
        let a : drop (suc (space s) + 1) (b ∷ s) ≡ drop (space s + 1) s = rw (add-one (suc (space s)), add-one (space s)) in
        rw (n, a) (ap (λ x. b ∷ x) r)

-- no digit is a space
digit_no_space : (d : ℕ) → is_digit d ≡ true → no_space d ≡ true
digit_no_space d h = grind (arith, nat_tests)

halves : (a b : Bool) → (a && b) ≡ true → (a ≡ true) × (b ≡ true)
halves true b h = (refl, h)
halves false b h = let z : ◌≡◌ {A = ℕ} 0 1 = cc in absurd (omega arith)

-- after digits, the first space is the one that follows them
space_after : (ds es : List ℕ) → digits ds ≡ true → space (ds ++ (32 ∷ es)) ≡ length ds
space_after [] es h = refl
space_after (d ∷ ds) es h =
    let p = halves (is_digit d) (digits ds) h in
    space_later d (ds ++ (32 ∷ es)) (digit_no_space d p.0) ∙ ap suc (space_after ds es p.1)

take_front : (ds es : List ℕ) → take (length ds) (ds ++ es) ≡ ds
take_front [] es = refl
take_front (d ∷ ds) es = ap (λ x. d ∷ x) (take_front ds es)

drop_front : (ds : List ℕ) (x : ℕ) (es : List ℕ) → drop (length ds + 1) (ds ++ (x ∷ es)) ≡ es
drop_front ds x es = rw (add-one (length ds)) (go ds)
  where
    go : (ds : List ℕ) → drop (suc (length ds)) (ds ++ (x ∷ es)) ≡ es
    go [] = refl
    go (d ∷ ds) = go ds

length_past : (ds es : List ℕ) (x : ℕ) → length ds < length (ds ++ (x ∷ es))
length_past ds es x = simp length-append (omega arith)

-- ---- two numbers
pub pair_late : (s : List ℕ) (o p : Option ℕ) (m : ℕ) → space s < length s → o ≡ number (take (space s) s) → p ≡ number (drop (space s + 1) s) → o ≡ Some m → p ≡ None → None ≡ pair_of s
pair_late s o p m h e f a b = let w : with_both Place (Some m) None ≡ pair_of s = rw (a, b) at (pair_is s o p h e f) in w

pub pair_done : (s : List ℕ) (o p : Option ℕ) (m n : ℕ) → space s < length s → o ≡ number (take (space s) s) → p ≡ number (drop (space s + 1) s) → o ≡ Some m → p ≡ Some n → Some (Place m n) ≡ pair_of s
pair_done s o p m n h e f a b = let w : with_both Place (Some m) (Some n) ≡ pair_of s = rw (a, b) at (pair_is s o p h e f) in w

-- ---- what a meaning was spelt by
starts : (s : List ℕ) (l : ℕ) → 2 ≤ length s → get_or s 0 0 ≡ l → get_or s 1 0 ≡ 32 → s ≡ l ∷ (32 ∷ drop 2 s)
starts s l h a b = split s h ∙ ap (λ x. x ∷ (get_or s 1 0 ∷ drop 2 s)) a ∙ ap (λ x. l ∷ (x ∷ drop 2 s)) b

no_some : (c : Change) → None ≡ Some c → ⊥
no_some c h = let z : ◌≡◌ {A = ℕ} 0 1 = cc in absurd (omega arith)

-- two numbers with a space between them
pub record Paired (r : List ℕ) (c : Change) : Type 0 where
  pub place : ℕ
  pub turnout : ℕ
  pub call : c ≡ Place place turnout
  pub front : List ℕ
  pub back : List ℕ
  pub line : r ≡ front ++ (32 ∷ back)
  pub first : Numeral front place
  pub second : Numeral back turnout

numbers_spelt : (r : List ℕ) (c : Change) (o p : Option ℕ) → space r < length r → number (take (space r) r) ≡ o → number (drop (space r + 1) r) ≡ p → with_both Place o p ≡ Some c → Paired r c
numbers_spelt r c None p lt e f h = absurd (no_some c h)
numbers_spelt r c (Some m) None lt e f h = absurd (no_some c h)
numbers_spelt r c (Some m) (Some n) lt e f h = record {
  place = m;
  turnout = n;
  call = cc;
  front = take (space r) r;
  back = drop (space r + 1) r;
  line = parts r lt;
  first = numeral_of (take (space r) r) m e;
  second = numeral_of (drop (space r + 1) r) n f;
}

pair_spelt : (r : List ℕ) (c : Change) → pair_of r ≡ Some c → Paired r c
pair_spelt r c h = go (ltb (space r) (length r)) refl
  where
    lt : ltb (space r) (length r) ≡ true → space r < length r
    lt q = grind (arith, nat_tests)

    go : (k : Bool) → ltb (space r) (length r) ≡ k → Paired r c
    go true q = numbers_spelt r c (number (take (space r) r)) (number (drop (space r + 1) r)) (lt q) refl refl (rw q at h)
    go false q = absurd (no_some c (rw q at h))

module _ (s : List ℕ) (c : Change) (long : 2 ≤ length s) (gap : get_or s 1 0 ≡ 32) where
  letter_is : (l : ℕ) → eqb (get_or s 0 0) l ≡ true → get_or s 0 0 ≡ l
  letter_is l h = grind (arith, nat_tests)

  place_spelt : eqb (get_or s 0 0) 80 ≡ true → Paired (drop 2 s) c → Spells s c
  place_spelt l p =
      let e = starts s 80 long (letter_is 80 l) gap in
      subst (Spells s) (sym p.call) (p.front, p.back, e ∙ ap (λ x. 80 ∷ (32 ∷ x)) p.line, p.first, p.second)

  one_spelt : (word : List ℕ) (l n : ℕ) → word ≡ l ∷ (32 ∷ []) → eqb (get_or s 0 0) l ≡ true → number (drop 2 s) ≡ Some n → One word s n
  one_spelt word l n w q m =
      let P : List ℕ → Type 0 = λ v. One v s n in
      subst P (sym w) (drop 2 s, starts s l long (letter_is l q) gap, numeral_of (drop 2 s) n m)

  single_spelt : (n : ℕ) → number (drop 2 s) ≡ Some n → single (get_or s 0 0) (Some n) ≡ Some c → Spells s c
  single_spelt n m h = lift (eqb (get_or s 0 0) 76) refl
    where
      same : {a b : Change} → Some a ≡ Some b → b ≡ a
      same {a} {b} e = cc

      reopen : (k : Bool) → eqb (get_or s 0 0) 82 ≡ k → cond k (Some (Reopen n)) None ≡ Some c → Spells s c
      reopen true q e = subst (Spells s) (sym (same e)) (one_spelt (codes "R ") 82 n refl q m)
      reopen false q e = absurd (no_some c e)

      close : (k : Bool) → eqb (get_or s 0 0) 67 ≡ k → cond k (Some (Close n)) (cond (eqb (get_or s 0 0) 82) (Some (Reopen n)) None) ≡ Some c → Spells s c
      close true q e = subst (Spells s) (sym (same e)) (one_spelt (codes "C ") 67 n refl q m)
      close false q e = reopen (eqb (get_or s 0 0) 82) refl e

      lift : (k : Bool) → eqb (get_or s 0 0) 76 ≡ k → Spells s c
      lift true q = let e : Some (Lift n) ≡ Some c = rw q at h in subst (Spells s) (sym (same e)) (one_spelt (codes "L ") 76 n refl q m)
      lift false q = close (eqb (get_or s 0 0) 67) refl (rw q at h)

  other_spelt : (o : Option ℕ) → number (drop 2 s) ≡ o → single (get_or s 0 0) o ≡ Some c → Spells s c
  other_spelt None m h = absurd (no_some c h)
  other_spelt (Some n) m h = single_spelt n m h

  letter_spelt : (k : Bool) → eqb (get_or s 0 0) 80 ≡ k → cond k (pair_of (drop 2 s)) (single (get_or s 0 0) (number (drop 2 s))) ≡ Some c → Spells s c
  letter_spelt true q h = place_spelt q (pair_spelt (drop 2 s) c h)
  letter_spelt false q h = other_spelt (number (drop 2 s)) refl h

pub spelt_of_meaning : (s : List ℕ) (c : Change) → meaning s ≡ Some c → Spells s c
spelt_of_meaning s c h = go (leb 2 (length s) && eqb (get_or s 1 0) 32) refl
  where
    long : (leb 2 (length s) && eqb (get_or s 1 0) 32) ≡ true → 2 ≤ length s
    long q = grind (arith, nat_tests)

    gap : (leb 2 (length s) && eqb (get_or s 1 0) 32) ≡ true → get_or s 1 0 ≡ 32
    gap q = grind (arith, nat_tests)

    go : (k : Bool) → (leb 2 (length s) && eqb (get_or s 1 0) 32) ≡ k → Spells s c
    go true q = letter_spelt s c (long q) (gap q) (eqb (get_or s 0 0) 80) refl (rw q at h)
    go false q = absurd (no_some c (rw q at h))

-- ---- what a spelling means
meaning_of : (l : ℕ) (r : List ℕ) → meaning (l ∷ (32 ∷ r)) ≡ by_letter l r
meaning_of l r = meaning_is (l ∷ (32 ∷ r)) (omega arith) refl

one_means : (l n : ℕ) (ds : List ℕ) → Numeral ds n → single l (number ds) ≡ single l (Some n)
one_means l n ds m = ap (single l) (of_numeral ds n m)

two_mean : (p t : ℕ) (ds es : List ℕ) → Numeral ds p → Numeral es t → pair_of (ds ++ (32 ∷ es)) ≡ Some (Place p t)
two_mean p t ds es m n =
    let r = ds ++ (32 ∷ es) in
    let a = space_after ds es m.only_digits in
    let lt : space r < length r = rw a (length_past ds es 32) in
    let f : take (space r) r ≡ ds = ap (λ k. take k r) a ∙ take_front ds (32 ∷ es) in
    let g : drop (space r + 1) r ≡ es = ap (λ k. drop (k + 1) r) a ∙ drop_front ds 32 es in
    sym (pair_done r (number (take (space r) r)) (number (drop (space r + 1) r)) p t lt refl refl (ap number f ∙ of_numeral ds p m) (ap number g ∙ of_numeral es t n))

pub meaning_of_spelt : (s : List ℕ) (c : Change) → Spells s c → meaning s ≡ Some c
meaning_of_spelt s (Place p t) h = ap meaning h.2 ∙ meaning_of 80 (h.0 ++ (32 ∷ h.1)) ∙ two_mean p t h.0 h.1 h.3 h.4
meaning_of_spelt s (Lift p) h = ap meaning h.1 ∙ meaning_of 76 h.0 ∙ one_means 76 p h.0 h.2
meaning_of_spelt s (Close k) h = ap meaning h.1 ∙ meaning_of 67 h.0 ∙ one_means 67 k h.0 h.2
meaning_of_spelt s (Reopen k) h = ap meaning h.1 ∙ meaning_of 82 h.0 ∙ one_means 82 k h.0 h.2
