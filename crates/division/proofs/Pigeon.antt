-- As many different numbers below n as there are positions below m: then m ≤ n.
use Rattle.std.proofs.Common.{◌≡◌, ℕ, zero, suc, ◌<◌, ◌≤◌, ◌⊎◌, List, [], ◌∷◌, length, sym, refl, ap, subst, inl, inr, arith}
use Rattle.std.proofs.lemmas.Bool.{cases_eq}
use Rattle.structures.specs.Rivals.{Among, Once}
use Rattle.structures.proofs.Lists.{length_once, below, length_below, among_below}

-- The first m values of f, latest first.
abbrev pub values : (ℕ → ℕ) → ℕ → List ℕ
values f zero = []
values f (suc m) = f m ∷ values f m

pub length_values : (f : ℕ → ℕ) (m : ℕ) → length (values f m) ≡ m
length_values f zero = refl
length_values f (suc m) = let e = length_values f m in omega arith

pub among_values : (f : ℕ → ℕ) (m y : ℕ) → Among y (values f m) → (i : ℕ) × (i < m) × (f i ≡ y)
among_values f zero y a = absurd a
among_values f (suc m) y (inl e) = (m, omega arith, sym e)
among_values f (suc m) y (inr a) = let s = among_values f m y a in (s.0, omega (arith, s.1), s.2)

pub values_among : (f : ℕ → ℕ) (m i : ℕ) → i < m → Among (f i) (values f m)
values_among f zero i lt = absurd (omega arith)
values_among f (suc m) i lt = go (cases_eq i m) (values_among f m i)
  where
    go : (i ≡ m) ⊎ (i ≡ m → ⊥) → (i < m → Among (f i) (values f m)) → (f i ≡ f m) ⊎ Among (f i) (values f m)
    go (inl e) before = inl (ap f e)
    go (inr ne) before = inr (before (omega arith))

pub once_values : (f : ℕ → ℕ) (m : ℕ) → ((i j : ℕ) → i < m → j < m → f i ≡ f j → i ≡ j) → Once (values f m)
once_values f zero apart = tt
once_values f (suc m) apart = (
  λ a. let s = among_values f m (f m) a in omega (arith, s.1, apart s.0 m (omega (arith, s.1)) (omega arith) s.2),
  once_values f m (λ i j a b. apart i j (omega arith) (omega arith)),
)

-- Different values, all of which stand in a list, are no more than the list is long.
pub fewer : (f : ℕ → ℕ) (m : ℕ) (ys : List ℕ) → ((i j : ℕ) → i < m → j < m → f i ≡ f j → i ≡ j) → ((i : ℕ) → i < m → Among (f i) ys) → m ≤ length ys
fewer f m ys apart held =
    let h : length (values f m) ≤ length ys =
    length_once (values f m) ys (once_values f m apart) (λ x a. let s = among_values f m x a in subst (λ y. Among y ys) s.2 (held s.0 s.1)) in
    omega (arith, length_values f m)

pub pigeon : (f : ℕ → ℕ) (m n : ℕ) → ((i j : ℕ) → i < m → j < m → f i ≡ f j → i ≡ j) → ((i : ℕ) → i < m → f i < n) → m ≤ n
pigeon f m n apart within = omega (arith, fewer f m (below n) apart (λ i lt. among_below n (f i) (within i lt)), length_below n)
