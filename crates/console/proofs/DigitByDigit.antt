-- Reading a numeral digit by digit.
use Rattle.std.proofs.Common.{◌≡◌, ℕ, zero, suc, ◌+◌, ◌-◌, ◌*◌, ◌^◌, ◌<◌, ◌≤◌, Bool, true, false, ◌&&◌, eqb, List, [], ◌∷◌, ◌++◌, length, get_or, take, Some, None, Ok, Err, Result, sym, refl, ap, ◌∙◌, pow-suc, add-one, arith}
use Rattle.std.proofs.lemmas.List.{take_more, take_all}
use Rattle.std.proofs.lemmas.List.Sums.{fold_more}
use Rattle.std.specs.Result.{OkIff, result_ok}
use Rattle.std.proofs.lemmas.Bool.Decides.{nat_tests}
use Rattle.console.specs.Numerals.{is_digit, digits, next, value, number, Numeral}

both : {a b : Bool} → a ≡ true → b ≡ true → (a && b) ≡ true
both {a} {b} h k = rw (h, k)

digits_join : (xs ys : List ℕ) → digits (xs ++ ys) ≡ (digits xs && digits ys)
digits_join [] ys = refl
digits_join (x ∷ xs) ys = go (is_digit x) (digits_join xs ys)
  where
    go : (b : Bool) → digits (xs ++ ys) ≡ (digits xs && digits ys) → (b && digits (xs ++ ys)) ≡ (b && digits xs && digits ys)
    go true h = h
    go false h = refl

pub digit_is : (d : ℕ) → 48 ≤ d → d ≤ 57 → is_digit d ≡ true
digit_is d h k = grind (arith, nat_tests)

pub digits_more : (ds : List ℕ) (i : ℕ) → i < length ds → digits (take i ds) ≡ true → is_digit (get_or ds i 0) ≡ true → digits (take (i + 1) ds) ≡ true
digits_more ds i h e f =
    let s : (is_digit (get_or ds i 0) && true) ≡ true = both f refl in
    ap digits (take_more ds i 0 h) ∙ digits_join (take i ds) (get_or ds i 0 ∷ []) ∙ both e s

pub value_more : (ds : List ℕ) (i v : ℕ) → i < length ds → v ≡ value (take i ds) → v * 10 + (get_or ds i 0 - 48) ≡ value (take (i + 1) ds)
value_more ds i v h e = ap (λ a. next a (get_or ds i 0)) e ∙ sym (fold_more next 0 ds i 0 h)

pub power_more : (v d i : ℕ) → v < 10 ^ i → d ≤ 57 → v * 10 + (d - 48) < 10 ^ (i + 1)
power_more v d i h k = rw add-one (let e : 10 ^ suc i ≡ 10 ^ i * 10 = pow-suc 10 i in omega (arith, e))

no_digit : (d : ℕ) → (48 ≤ d → 57 < d) → is_digit d ≡ false
no_digit d h = grind (arith, nat_tests)

digits_broken : (ds : List ℕ) (i : ℕ) → i < length ds → is_digit (get_or ds i 0) ≡ false → digits ds ≡ false
digits_broken [] i h e = absurd (omega arith)
digits_broken (d ∷ ds) zero h e = rw e
digits_broken (d ∷ ds) (suc i) h e = let r : digits ds ≡ false = digits_broken ds i (omega arith) e in go (is_digit d) r
  where
    go : (b : Bool) → digits ds ≡ false → (b && digits ds) ≡ false
    go true q = q
    go false q = refl

-- ---- what the reading answers
pub none_empty : (ds : List ℕ) → eqb (length ds) 0 ≡ true → None ≡ number ds
unfolding number
none_empty ds h = grind (arith, nat_tests)

pub none_long : (ds : List ℕ) → 10 < length ds → None ≡ number ds
unfolding number
none_long ds h = grind (arith, nat_tests)

pub none_broken : (ds : List ℕ) (i : ℕ) → i < length ds → (48 ≤ get_or ds i 0 → 57 < get_or ds i 0) → None ≡ number ds
unfolding number
none_broken ds i h k = let e : digits ds ≡ false = digits_broken ds i h (no_digit (get_or ds i 0) k) in grind (arith, nat_tests, e)

pub none_great : (ds : List ℕ) → 4294967295 < value ds → None ≡ number ds
unfolding number
none_great ds h = grind (arith, nat_tests)

pub some_read : (ds : List ℕ) → 1 ≤ length ds → length ds ≤ 10 → digits ds ≡ true → value ds ≤ 4294967295 → Some (value ds) ≡ number ds
unfolding number
some_read ds h k e f = grind (arith, nat_tests, e)

pub not_empty : (ds : List ℕ) → false ≡ eqb (length ds) 0 → 1 ≤ length ds
not_empty ds h = grind (arith, nat_tests)

-- the value of digits, where it fits
pub value_read : {E : Type 0} (r : Result ℕ E) (ds : List ℕ) (v : ℕ) → 1 ≤ length ds → length ds ≤ 10 → digits ds ≡ true → v ≡ value ds → OkIff r (v < 4294967296) v → result_ok r ≡ number ds
value_read (Ok x) ds v h k e q f = let x_is : x ≡ v = f.1 in let low : v < 4294967296 = f.0 in ap Some (x_is ∙ q) ∙ some_read ds h k e (omega arith)
value_read (Err x) ds v h k e q f = none_great ds (omega arith)

-- the whole list was read
pub whole : (ds : List ℕ) (i : ℕ) → length ds ≤ i → take i ds ≡ ds
whole ds i h = take_all i ds h

-- ---- the number is that of the numeral
pub numeral_of : (ds : List ℕ) (n : ℕ) → number ds ≡ Some n → Numeral ds n
unfolding number
numeral_of ds n h = record {
  only_digits = grind (arith, nat_tests);
  some = grind (arith, nat_tests);
  few = grind (arith, nat_tests);
  is = grind (arith, nat_tests);
  small = grind (arith, nat_tests);
}

pub of_numeral : (ds : List ℕ) (n : ℕ) → Numeral ds n → number ds ≡ Some n
of_numeral ds n m = sym (some_read ds m.some m.few m.only_digits (let e = m.is in let s = m.small in omega arith)) ∙ ap Some m.is
