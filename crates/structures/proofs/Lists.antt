-- Lists without repetition: taking one out, and comparing lengths.
use Rattle.std.proofs.Common.{◌≡◌, ℕ, zero, suc, ◌+◌, ◌<◌, ◌≤◌, Bool, true, false, cond, ◌≢◌, ◌⊎◌, List, [], ◌∷◌, map, length, sym, refl, ap, ◌∙◌, subst, inl, inr, arith}
use Rattle.structures.specs.Rivals.{Among, Once}
use Rattle.structures.specs.Computed.{count}
use Rattle.std.proofs.lemmas.Bool.{both_ways, cases_eq}

-- The list without the x that stands at a given position.
abbrev pub remove : {X : Type 0} (x : X) (ys : List X) → Among x ys → List X
remove x [] m = absurd m
remove x (y ∷ ys) (inl e) = ys
remove x (y ∷ ys) (inr m) = y ∷ remove x ys m

pub length_remove : {X : Type 0} (x : X) (ys : List X) (m : Among x ys) → suc (length (remove x ys m)) ≡ length ys
length_remove x [] m = absurd m
length_remove x (y ∷ ys) (inl e) = refl
length_remove x (y ∷ ys) (inr m) = ap suc (length_remove x ys m)

pub among_remove : {X : Type 0} (x z : X) (ys : List X) (m : Among x ys) → Among z ys → z ≢ x → Among z (remove x ys m)
among_remove x z [] m a apart = absurd m
among_remove x z (y ∷ ys) (inl e) (inl f) apart = absurd (apart (f ∙ sym e))
among_remove x z (y ∷ ys) (inl e) (inr a) apart = a
among_remove x z (y ∷ ys) (inr m) (inl f) apart = inl f
among_remove x z (y ∷ ys) (inr m) (inr a) apart = inr (among_remove x z ys m a apart)

-- A list without repetition is no longer than a list that holds all of it.
pub length_once : (xs ys : List ℕ) → Once xs → ((x : ℕ) → Among x xs → Among x ys) → length xs ≤ length ys
length_once [] ys once held = omega arith
length_once (x ∷ xs) ys once held =
    let m : Among x ys = held x (inl refl) in
    let rest : (z : ℕ) → Among z xs → Among z (remove x ys m) = λ z a. among_remove x z ys m (held z (inr a)) (λ e. once.0 (subst (λ y. Among y xs) e a)) in
    let shorter : length xs ≤ length (remove x ys m) = length_once xs (remove x ys m) once.1 rest in
    omega (arith, length_remove x ys m)

pub among_map : {X : Type 0} (f : X → ℕ) (x : X) (xs : List X) → Among x xs → Among (f x) (map f xs)
among_map f x [] m = absurd m
among_map f x (y ∷ ys) (inl e) = inl (ap f e)
among_map f x (y ∷ ys) (inr m) = inr (among_map f x ys m)

-- The numbers below n that pass, the greatest first.
abbrev pub chosen : (ℕ → Bool) → ℕ → List ℕ
chosen P zero = []
chosen P (suc n) = cond (P n) (n ∷ chosen P n) (chosen P n)

pub length_chosen : (P : ℕ → Bool) (n : ℕ) → length (chosen P n) ≡ count P n
length_chosen P zero = refl
length_chosen P (suc n) = go (P n) (length_chosen P n)
  where
    go : (b : Bool) → length (chosen P n) ≡ count P n → length (cond b (n ∷ chosen P n) (chosen P n)) ≡ cond b 1 0 + count P n
    go true e = omega arith
    go false e = omega arith

pub chosen_only : (P : ℕ → Bool) (n k : ℕ) → Among k (chosen P n) → (k < n) × (P k ≡ true)
chosen_only P zero k m = absurd m
chosen_only P (suc n) k m = go (P n) refl m (chosen_only P n k)
  where
    go : (b : Bool) → P n ≡ b → Among k (cond b (n ∷ chosen P n) (chosen P n)) → (Among k (chosen P n) → (k < n) × (P k ≡ true)) → (k < suc n) × (P k ≡ true)
    go true e (inl f) before = (omega arith, ap P f ∙ e)
    go true e (inr a) before = (omega (arith, (before a).0), (before a).1)
    go false e a before = (omega (arith, (before a).0), (before a).1)

pub chosen_all : (P : ℕ → Bool) (n k : ℕ) → k < n → P k ≡ true → Among k (chosen P n)
chosen_all P zero k lt pass = absurd (omega arith)
chosen_all P (suc n) k lt pass = go (cases_eq k n) (P n) refl (chosen_all P n k)
  where
    go : (k ≡ n) ⊎ (k ≡ n → ⊥) → (b : Bool) → P n ≡ b → (k < n → P k ≡ true → Among k (chosen P n)) → Among k (cond b (n ∷ chosen P n) (chosen P n))
    go (inl e) true f before = inl e
    go (inl e) false f before = absurd (both_ways (P n) f (ap P (sym e) ∙ pass))
    go (inr ne) true f before = inr (before (omega arith) pass)
    go (inr ne) false f before = before (omega arith) pass

pub chosen_once : (P : ℕ → Bool) (n : ℕ) → Once (chosen P n)
chosen_once P zero = tt
chosen_once P (suc n) = go (P n) (chosen_once P n)
  where
    go : (b : Bool) → Once (chosen P n) → Once (cond b (n ∷ chosen P n) (chosen P n))
    go true once = (λ a. omega (arith, (chosen_only P n n a).0), once)
    go false once = once

-- All numbers below n.
abbrev pub below : ℕ → List ℕ
below zero = []
below (suc n) = n ∷ below n

pub length_below : (n : ℕ) → length (below n) ≡ n
length_below zero = refl
length_below (suc n) = ap suc (length_below n)

pub among_below : (n k : ℕ) → k < n → Among k (below n)
among_below zero k lt = absurd (omega arith)
among_below (suc n) k lt = go (cases_eq k n) (among_below n k)
  where
    go : (k ≡ n) ⊎ (k ≡ n → ⊥) → (k < n → Among k (below n)) → (k ≡ n) ⊎ Among k (below n)
    go (inl e) before = inl e
    go (inr ne) before = inr (before (omega arith))
