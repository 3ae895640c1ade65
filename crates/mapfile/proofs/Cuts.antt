-- A body's records as the loop over them has come to them.
use Rattle.std.proofs.Common.{◌≡◌, ℕ, suc, ◌+◌, ◌-◌, ◌*◌, ◌<◌, ◌≤◌, List, ◌++◌, length, take, drop, Ok, Err, sym, ap, ◌∙◌, subst, mul-le-mul_left, add-one, arith, length-append, length-drop, drop-drop, mul-suc}
use Rattle.std.proofs.Math.Seq.{take-append_seam, drop-append_seam}
use Rattle.mapfile.specs.declared.body.BodyKind.{BodyKind}
use Rattle.mapfile.specs.declared.body.BodyKind.TheVariants.{Places, Links, Signals}
use Rattle.mapfile.specs.declared.body.Part.{Part}
use Rattle.mapfile.specs.declared.counts.Counts.{Counts}
use Rattle.mapfile.specs.declared.fault.Fault.{Fault}
use Rattle.mapfile.specs.Bodies.{Shown, body_of, record_at, key, key_before, record_checks, nth, body_checks}
use Rattle.mapfile.specs.Bytes.{part}
use Rattle.mapfile.specs.Checks.{Check, answer, each, AllKept}
use Rattle.mapfile.specs.Codes.{size}
use Rattle.mapfile.specs.Layout.{start, count}
use Rattle.mapfile.proofs.Lists.{each_on, each_done, each_breach, told_of_ok}

-- the checks of a body's i-th record
abbrev pub checks_at : Shown → Counts → ℕ → List Check
checks_at s n i = nth s.kind s.bytes s.first n i

-- the first i records of a body are kept, and the rest is still to be cut
pub record Checked (s : Shown) (n : Counts) (i before : ℕ) (rest : List ℕ) (cut : ℕ) : Type 0 where
  pub long : length s.bytes ≡ size s.kind * count n s.kind
  pub kept : AllKept (each i (checks_at s n))
  pub last : before ≡ key_before s.kind s.bytes i
  pub within : i ≤ count n s.kind
  pub left : rest ≡ drop (size s.kind * i) s.bytes
  pub whole : cut ≡ size s.kind

-- a part, as the body of a kind
abbrev pub part_shown : BodyKind → Part → Shown
part_shown k p = record { kind = k; first = p.first; bytes = p.bytes.now }

-- a record more lies within the body, or none
more : (k : BodyKind) (i m : ℕ) → size k ≤ size k * m - size k * i → i < m
more Places i m h = omega arith
more Links i m h = omega arith
more Signals i m h = omega arith

none : (k : BodyKind) (i m : ℕ) → i ≤ m → size k * m - size k * i < size k → i ≡ m
none Places i m l h = omega arith
none Links i m l h = omega arith
none Signals i m l h = omega arith

record_start : (k j : BodyKind) (first step i m : ℕ) → step ≡ size j → j ≡ k → m ≡ i → first + step * m ≡ first + size k * i
record_start k j first step i m h e q = rw (h, e, q)

module _ (s : Shown) (n : Counts) (i before : ℕ) (rest : List ℕ) (cut : ℕ) (h : Checked s n i before rest cut) where
  length_left : length rest ≡ size s.kind * count n s.kind - size s.kind * i
  length_left = ap length h.left ∙ length-drop (size s.kind * i) s.bytes ∙ ap (λ m. m - size s.kind * i) h.long

  pub all_kept : length rest < cut → Ok (tt {0}) ≡ answer (body_checks s n) (tt {0})
  all_kept few = each_done (checks_at s n) (count n s.kind) i tt (none s.kind i (count n s.kind) h.within (omega (arith, few, h.whole, length_left))) h.kept

  module _ (x after : List ℕ) (parts : rest ≡ x ++ after) (cut_off : length x ≡ cut) where
    -- what is cut off is the next record
    cut_is : x ≡ record_at s.kind s.bytes i
    cut_is =
        let P : ℕ → Type 0 = λ m. take m (drop (size s.kind * i) s.bytes) ≡ x in
        let Q : List ℕ → Type 0 = λ r. take (length x) r ≡ x in
        sym (subst P (cut_off ∙ h.whole) (subst Q h.left (subst Q (sym parts) (take-append_seam x after))))

    left_next : after ≡ drop (size s.kind * (i + 1)) s.bytes
    left_next =
        let l : length x ≡ size s.kind = cut_off ∙ h.whole in
        let Q : List ℕ → Type 0 = λ r. drop (length x) r ≡ after in
        let d : drop (length x) (drop (size s.kind * i) s.bytes) ≡ after = subst Q h.left (subst Q (sym parts) (drop-append_seam x after)) in
        let g : size s.kind * i + length x ≡ size s.kind * (i + 1) = rw add-one (omega (arith, l, mul-suc (size s.kind) i)) in
        let P : ℕ → Type 0 = λ m. after ≡ drop m s.bytes in
        subst P g (sym d ∙ drop-drop (length x) (size s.kind * i) s.bytes)

    below : i < count n s.kind
    below = more s.kind i (count n s.kind) (omega (arith, length_left, ap length parts, length-append x after, cut_off, h.whole))

    -- the loop counts its records by a step of the record's size
    module _ (j : BodyKind) (step m : ℕ) (sized : step ≡ size j) (same_kind : j ≡ s.kind) (counted : m ≡ i) where
      abbrev at : ℕ
      at = s.first + step * m

      e : at ≡ s.first + size s.kind * i
      e = record_start s.kind j s.first step i m sized same_kind counted

      -- its checks are those of the i-th record
      checks_are : {A : Type 0} (a : A) → answer (record_checks s.kind x at n before) a ≡ answer (checks_at s n i) a
      checks_are a =
          ap (λ m. answer (record_checks s.kind x m n before) a) e
          ∙ ap (λ r. answer (record_checks s.kind r (s.first + size s.kind * i) n before) a) cut_is
          ∙ ap (λ q. answer (record_checks s.kind (record_at s.kind s.bytes i) (s.first + size s.kind * i) n q) a) h.last

      pub first_broken : {A : Type 0} (a : A) (f : Fault) → answer (record_checks s.kind x at n before) a ≡ Err f → answer (body_checks s n) (tt {0}) ≡ Err f
      first_broken a f o = each_breach (checks_at s n) (count n s.kind) i a (tt {0}) f below h.kept (sym (checks_are a) ∙ o)

      pub one_more : (v j cut' : ℕ) → answer (record_checks s.kind x at n before) (key s.kind x) ≡ Ok v → j ≡ i + 1 → cut' ≡ cut → Checked s n j v after cut'
      one_more v j cut' o next same =
          let a : answer (checks_at s n i) (key s.kind x) ≡ Ok v = sym (checks_are (key s.kind x)) ∙ o in
          let P : ℕ → Type 0 = λ m. Checked s n m v after cut' in
          let b = below in
          subst P (sym next) record {
            long = h.long;
            kept = each_on (checks_at s n) i (key s.kind x) v h.kept a;
            last = rw add-one (told_of_ok (checks_at s n i) (key s.kind x) v a ∙ ap (key s.kind) cut_is);
            within = omega arith;
            left = left_next;
            whole = same ∙ h.whole;
          }

-- a part is the body of its kind
pub part_is : (f : List ℕ) (n : Counts) (k j : BodyKind) (p : Part) → j ≡ k → p.first ≡ start n j → p.bytes.now ≡ part f (start n j) (size j * count n j) → part_shown k p ≡ body_of f n k
part_is f n k j p e h q = rw (h, q, e)

-- a record lies within its body
pub record_within : (size same i n all : ℕ) → size ≡ same → all ≡ same * n → i < n → size * i + size ≤ all
record_within size same i n all e f h =
    let m : size * suc i ≤ size * n = mul-le-mul_left {m = suc i} {n = n} size h in
    let a : size * n ≡ same * n = rw e in
    omega (arith, m, mul-suc size i, a, f)
