-- How many numbers below n pass a test.
use Rattle.std.proofs.Common.{◌≡◌, ℕ, zero, suc, ◌+◌, ◌<◌, Bool, true, false, cond, not, ◌&&◌, ◌||◌, ◌≢◌, ◌⊎◌, sym, refl, ap, ◌∙◌, subst, inl, inr, arith}
use Rattle.std.proofs.lemmas.Bool.{both_ways, cases_eq}
use Rattle.structures.specs.Computed.{count}

abbrev one_if : Bool → ℕ
one_if b = cond b 1 0

pub count_same : (P Q : ℕ → Bool) (n : ℕ) → ((i : ℕ) → i < n → P i ≡ Q i) → count P n ≡ count Q n
count_same P Q zero same = refl
count_same P Q (suc n) same =
    let e : P n ≡ Q n = same n (omega arith) in
    let r : count P n ≡ count Q n = count_same P Q n (λ i lt. same i (omega arith)) in
    ap (λ b. one_if b + count P n) e ∙ ap (λ m. one_if (Q n) + m) r

-- One more passes.
pub count_more : (P Q : ℕ → Bool) (n j : ℕ) → j < n → P j ≡ true → Q j ≡ false → ((i : ℕ) → i < n → i ≢ j → P i ≡ Q i) → count P n ≡ suc (count Q n)
count_more P Q zero j lt p q same = absurd (omega arith)
count_more P Q (suc n) j lt p q same = go (cases_eq n j) (λ h. count_more P Q n j h p q (λ i below. same i (omega arith)))
  where
    go : (n ≡ j) ⊎ (n ≡ j → ⊥) → (j < n → count P n ≡ suc (count Q n)) → cond (P n) 1 0 + count P n ≡ suc (cond (Q n) 1 0 + count Q n)
    go (inl e) before =
        let a : one_if (P n) ≡ 1 = ap one_if (ap P e ∙ p) in
        let b : one_if (Q n) ≡ 0 = ap one_if (ap Q e ∙ q) in
        let r : count P n ≡ count Q n = count_same P Q n (λ i below. same i (omega arith) (λ f. omega arith)) in
        omega arith
    go (inr ne) before =
        let a : one_if (P n) ≡ one_if (Q n) = ap one_if (same n (omega arith) ne) in
        omega (arith, before (omega arith))

-- If none passes, none does.
pub count_none : (P : ℕ → Bool) (n : ℕ) → count P n ≡ 0 → (i : ℕ) → i < n → P i ≡ true → ⊥
count_none P zero none i lt pass = omega arith
count_none P (suc n) none i lt pass = go (cases_eq i n) (P n) refl (λ e. count_none P n e i)
  where
    go : (i ≡ n) ⊎ (i ≡ n → ⊥) → (b : Bool) → P n ≡ b → (count P n ≡ 0 → i < n → P i ≡ true → ⊥) → ⊥
    go (inl e) true f before = let a : one_if (P n) ≡ 1 = ap one_if f in omega arith
    go (inl e) false f before = both_ways (P n) f (ap P (sym e) ∙ pass)
    go (inr ne) b f before = before (omega arith) (omega arith) pass

-- What passes and what does not are all.
pub count_split : (P : ℕ → Bool) (n : ℕ) → count P n + count (λ i. not (P i)) n ≡ n
count_split P zero = refl
count_split P (suc n) = go (P n) (count_split P n)
  where
    go : (b : Bool) → count P n + count (λ i. not (P i)) n ≡ n → (cond b 1 0 + count P n) + (cond (not b) 1 0 + count (λ i. not (P i)) n) ≡ suc n
    go true e = omega arith
    go false e = omega arith

pub or_off : (a b : Bool) → b ≡ false → (a || b) ≡ a
or_off true b e = refl
or_off false b e = e

pub or_on : (a b : Bool) → b ≡ true → (a || b) ≡ true
or_on true b e = refl
or_on false b e = e

pub and_off : (a b : Bool) → b ≡ false → (a && b) ≡ false
and_off true b e = e
and_off false b e = refl

pub count_nothing : (n : ℕ) → count (λ i. false) n ≡ 0
count_nothing zero = refl
count_nothing (suc n) = let e = count_nothing n in omega arith

-- Where some pass, one of them.
pub count_some : (P : ℕ → Bool) (n : ℕ) → 0 < count P n → (i : ℕ) × (i < n) × (P i ≡ true)
count_some P zero pos = absurd (omega arith)
count_some P (suc n) pos = go (P n) refl pos (count_some P n)
  where
    go : (b : Bool) → P n ≡ b → 0 < cond b 1 0 + count P n → (0 < count P n → (i : ℕ) × (i < n) × (P i ≡ true)) → (i : ℕ) × (i < suc n) × (P i ≡ true)
    go true e h before = (n, omega arith, e)
    go false e h before = let s = before (omega arith) in (s.0, omega (arith, s.1), s.2)

-- One number more.
pub count_next : (P : ℕ → Bool) (j : ℕ) → count P (j + 1) ≡ cond (P j) 1 0 + count P j
count_next P j = subst (λ x. count P x ≡ cond (P j) 1 0 + count P j) (suc_is j) refl
  where
    suc_is : (x : ℕ) → suc x ≡ x + 1
    suc_is x = omega arith
