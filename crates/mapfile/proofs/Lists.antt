-- Laws of lists of checks.
use Rattle.std.proofs.Common.{◌≡◌, ℕ, zero, suc, ◌+◌, ◌<◌, Bool, true, false, ◌⊎◌, List, [], ◌∷◌, ◌++◌, Ok, Err, Result, sym, refl, ◌∙◌, ⊎_elim, add-one, arith, ap}
use Rattle.std.specs.Prelude.{IsErrAnd}
use Rattle.std.proofs.lemmas.Result.{err_from_is_err_and}
use Rattle.mapfile.specs.declared.fault.Fault.{Fault}
use Rattle.mapfile.specs.Checks.{Check, answer, each, AllKept}

-- an accepted list keeps every check
pub kept_of_ok : {A : Type 0} (cs : List Check) (a b : A) → answer cs a ≡ Ok b → AllKept cs
kept_of_ok [] a b e = tt
kept_of_ok {A} (c ∷ cs) a b e = go c.kept refl (kept_of_ok cs a b)
  where
    go : (k : Bool) → c.kept ≡ k → (answer cs a ≡ Ok b → AllKept cs) → AllKept (c ∷ cs)
    go true h rest = (h, rest (rw h at e))
    go false h rest = cc (rw h at e)

pub ok_of_kept : {A : Type 0} (cs : List Check) (a : A) → AllKept cs → answer cs a ≡ Ok a
ok_of_kept [] a h = refl
ok_of_kept (c ∷ cs) a h = let e : c.kept ≡ true = h.0 in rw e (ok_of_kept cs a h.1)

-- past checks that are kept, the answer is that of the others
pub answer_past : {A : Type 0} (xs ys : List Check) (a : A) → AllKept xs → answer (xs ++ ys) a ≡ answer ys a
answer_past [] ys a h = refl
answer_past (c ∷ xs) ys a h = let e : c.kept ≡ true = h.0 in rw e (answer_past xs ys a h.1)

-- a fault in front stays the answer
pub answer_stops : {A B : Type 0} (xs ys : List Check) (a : A) (b : B) (e : Fault) → answer xs a ≡ Err e → answer (xs ++ ys) b ≡ Err e
answer_stops [] ys a b e h = cc
answer_stops {A} {B} (c ∷ xs) ys a b e h = go c.kept refl (answer_stops xs ys a b e)
  where
    go : (k : Bool) → c.kept ≡ k → (answer xs a ≡ Err e → answer (xs ++ ys) b ≡ Err e) → answer (c ∷ xs ++ ys) b ≡ Err e
    go true q rest = rw q (rest (rw q at h))
    go false q rest = rw q (cc (rw q at h))

-- a fault does not depend on the value that is told without one
pub err_any : {A B : Type 0} (xs : List Check) (a : A) (b : B) (e : Fault) → answer xs a ≡ Err e → answer xs b ≡ Err e
err_any [] a b e h = cc
err_any {A} {B} (c ∷ xs) a b e h = go c.kept refl (err_any xs a b e)
  where
    go : (k : Bool) → c.kept ≡ k → (answer xs a ≡ Err e → answer xs b ≡ Err e) → answer (c ∷ xs) b ≡ Err e
    go true q rest = rw q (rest (rw q at h))
    go false q rest = rw q (cc (rw q at h))

-- what is kept of two lists is kept of both together, and the other way round
pub kept_both : (xs ys : List Check) → AllKept xs → AllKept ys → AllKept (xs ++ ys)
kept_both [] ys h k = k
kept_both (c ∷ xs) ys h k = (h.0, kept_both xs ys h.1 k)

pub kept_front : (xs ys : List Check) → AllKept (xs ++ ys) → AllKept xs
kept_front [] ys h = tt
kept_front (c ∷ xs) ys h = (h.0, kept_front xs ys h.1)

pub kept_back : (xs ys : List Check) → AllKept (xs ++ ys) → AllKept ys
kept_back [] ys h = h
kept_back (c ∷ xs) ys h = kept_back xs ys h.1

-- ---- many things, one after the other
pub each_more : (f : ℕ → List Check) (i : ℕ) → AllKept (each i f) → AllKept (f i) → AllKept (each (i + 1) f)
each_more f i h k = rw add-one (kept_both (each i f) (f i) h k)

pub each_at : (f : ℕ → List Check) (n i : ℕ) → i < n → AllKept (each n f) → AllKept (f i)
each_at f zero i h k = absurd (omega arith)
each_at f (suc n) i h k = ⊎_elim (λ q. each_at f n i q (kept_front (each n f) (f n) k)) (λ q. rw q (kept_back (each n f) (f n) k)) (cases i n h)
  where
    cases : (i n : ℕ) → i < suc n → (i < n) ⊎ (i ≡ n)
    cases i n h = grind arith

pub each_all : (f : ℕ → List Check) (n : ℕ) → ((i : ℕ) → i < n → AllKept (f i)) → AllKept (each n f)
each_all f zero h = tt
each_all f (suc n) h = kept_both (each n f) (f n) (each_all f n (λ i q. h i (omega arith))) (h n (omega arith))

-- the first thing with a fault gives the answer
pub each_breach : {A B : Type 0} (f : ℕ → List Check) (n i : ℕ) (a : A) (b : B) (e : Fault) → i < n → AllKept (each i f) → answer (f i) a ≡ Err e → answer (each n f) b ≡ Err e
each_breach f zero i a b e h k q = absurd (omega arith)
each_breach {A} {B} f (suc n) i a b e h k q = ⊎_elim (λ r. answer_stops (each n f) (f n) b b e (each_breach f n i a b e r k q)) (λ r. last r) (cases i n h)
  where
    cases : (i n : ℕ) → i < suc n → (i < n) ⊎ (i ≡ n)
    cases i n h = grind arith

    last : i ≡ n → answer (each n f ++ f n) b ≡ Err e
    last r = let kn : AllKept (each n f) = rw r at k in let qn : answer (f n) a ≡ Err e = rw r at q in answer_past (each n f) (f n) b kn ∙ err_any (f n) a b e qn

-- ---- a loop over many things that stops at the first fault
pub told_of_ok : {A : Type 0} (cs : List Check) (a b : A) → answer cs a ≡ Ok b → b ≡ a
told_of_ok cs a b h = let k = ok_of_kept cs a (kept_of_ok cs a b h) in cc

pub each_on : {A : Type 0} (f : ℕ → List Check) (i : ℕ) (a b : A) → AllKept (each i f) → answer (f i) a ≡ Ok b → AllKept (each (i + 1) f)
each_on f i a b h k = each_more f i h (kept_of_ok (f i) a b k)

pub each_done : {A : Type 0} (f : ℕ → List Check) (n i : ℕ) (a : A) → i ≡ n → AllKept (each i f) → Ok a ≡ answer (each n f) a
each_done f n i a e h = rw e at (sym (ok_of_kept (each i f) a h))

-- ---- one list after another
pub answer_next : {A B : Type 0} (xs ys : List Check) (a b : A) (d : B) → answer xs a ≡ Ok b → answer (xs ++ ys) d ≡ answer ys d
answer_next xs ys a b d h = answer_past xs ys d (kept_of_ok xs a b h)

-- ---- a fault that a `?` passes on is the answer where the answer is that fault
pub passed_on : {A : Type 0} (r s : Result A Fault) (e : Fault) → IsErrAnd r (λ x. x ≡ e) → s ≡ Err e → r ≡ s
passed_on r s e h q = let p = err_from_is_err_and r h in p.1 ∙ ap Err p.2 ∙ sym q
