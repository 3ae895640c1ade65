-- A file's checks, one part after the other.
use Rattle.std.proofs.Common.{◌≡◌, ℕ, ◌+◌, ◌*◌, ◌≤◌, List, ◌++◌, length, Ok, Err, Result, sym, ap, ◌∙◌, subst, arith, length-drop, length-take}
use Rattle.mapfile.specs.declared.body.BodyKind.{BodyKind}
use Rattle.mapfile.specs.declared.body.BodyKind.TheVariants.{Places, Links, Signals}
use Rattle.mapfile.specs.declared.counts.Counts.{Counts}
use Rattle.mapfile.specs.declared.fault.Fault.{Fault}
use Rattle.mapfile.specs.Bodies.{Shown, body_of, body_checks}
use Rattle.mapfile.specs.Bytes.{part}
use Rattle.mapfile.specs.Checks.{Check, answer}
use Rattle.mapfile.specs.Codes.{size}
use Rattle.mapfile.specs.Contents.{contents_checks, length_checks}
use Rattle.mapfile.specs.File.{checks, rest_checks}
use Rattle.mapfile.specs.Layout.{start, count, end, counts}
use Rattle.mapfile.proofs.Lists.{answer_next, answer_stops, err_any, kept_of_ok, ok_of_kept, told_of_ok}

length_part : (f : List ℕ) (at size : ℕ) → at + size ≤ length f → length (part f at size) ≡ size
length_part f at size h = simp (length-take, length-drop) (omega arith)

body_long : (f : List ℕ) (n : Counts) (k : BodyKind) → length f ≡ end n → length (body_of f n k).bytes ≡ size k * count n k
body_long f n Places h = length_part f 26 (4 * n.places) (omega arith)
body_long f n Links h = length_part f (26 + 4 * n.places) (12 * n.links) (omega arith)
body_long f n Signals h = length_part f (26 + 4 * n.places + 12 * n.links) (8 * n.signals) (omega arith)

body_ends : (n : Counts) (k : BodyKind) → start n k + size k * count n k ≤ end n
body_ends n Places = omega arith
body_ends n Links = omega arith
body_ends n Signals = omega arith

-- a body that is handed out is as long as its records, and lies within the file
pub body_fits : (s : Shown) (f : List ℕ) (n : Counts) (k : BodyKind) → s ≡ body_of f n k → length f ≡ end n → end n ≤ 65536 → (length s.bytes ≡ size s.kind * count n s.kind) × (s.first + length s.bytes ≤ 65536)
body_fits s f n k e h few =
    let P : Shown → Type 0 = λ t. (length t.bytes ≡ size t.kind * count n t.kind) × (t.first + length t.bytes ≤ 65536) in
    subst P (sym e) (body_long f n k h, omega (arith, body_long f n k h, body_ends n k))

-- the answer to a body of a file that is read as it stands
pub body_told : {f g : List ℕ} {n m : Counts} {r s : Result (Unit {0}) Fault} (k : BodyKind) → g ≡ f → m ≡ n → r ≡ answer (body_checks (body_of g m k) m) (tt {0}) → r ≡ s → answer (body_checks (body_of f n k) n) (tt {0}) ≡ s
body_told {f} {g} {n} {m} {r} {s} k e h told was =
    let same : answer (body_checks (body_of g m k) m) (tt {0}) ≡ answer (body_checks (body_of f n k) n) (tt {0}) = rw (e, h) in
    sym same ∙ sym told ∙ was

pub contents_stop : (f : List ℕ) (e : Fault) → answer (contents_checks f) (counts f) ≡ Err e → answer (checks f) (counts f) ≡ Err e
unfolding checks
contents_stop f e h = answer_stops (contents_checks f) (rest_checks f (counts f)) (counts f) (counts f) e h

pub past_contents : (f : List ℕ) (n : Counts) → answer (contents_checks f) (counts f) ≡ Ok n → answer (checks f) (counts f) ≡ answer (rest_checks f n) n
unfolding checks
past_contents f n h =
    let e : n ≡ counts f = told_of_ok (contents_checks f) (counts f) n h in
    answer_next (contents_checks f) (rest_checks f (counts f)) (counts f) n (counts f) h ∙ ap (λ m. answer (rest_checks f m) m) (sym e)

module _ (f : List ℕ) (n : Counts) where
  abbrev places : List Check
  places = body_checks (body_of f n Places) n

  abbrev links : List Check
  links = body_checks (body_of f n Links) n

  abbrev signals : List Check
  signals = body_checks (body_of f n Signals) n

  -- what is left to check when the parts before are kept
  at_length : answer (contents_checks f) (counts f) ≡ Ok n → answer (checks f) (counts f) ≡ answer (rest_checks f n) n
  unfolding checks
  at_length c =
      let e : n ≡ counts f = told_of_ok (contents_checks f) (counts f) n c in
      answer_next (contents_checks f) (rest_checks f (counts f)) (counts f) n (counts f) c ∙ ap (λ m. answer (rest_checks f m) m) (sym e)

  at_places : answer (contents_checks f) (counts f) ≡ Ok n → answer (length_checks f n) n ≡ Ok n → answer (checks f) (counts f) ≡ answer (places ++ (links ++ signals)) n
  unfolding rest_checks
  at_places c l = at_length c ∙ answer_next (length_checks f n) (places ++ (links ++ signals)) n n n l

  at_links : answer (contents_checks f) (counts f) ≡ Ok n → answer (length_checks f n) n ≡ Ok n → answer places (tt {0}) ≡ Ok tt → answer (checks f) (counts f) ≡ answer (links ++ signals) n
  at_links c l p = at_places c l ∙ answer_next places (links ++ signals) tt tt n p

  at_signals : answer (contents_checks f) (counts f) ≡ Ok n → answer (length_checks f n) n ≡ Ok n → answer places (tt {0}) ≡ Ok tt → answer links (tt {0}) ≡ Ok tt → answer (checks f) (counts f) ≡ answer signals n
  at_signals c l p k = at_links c l p ∙ answer_next links signals tt tt n k

  -- what is left to check when the part before is kept
  pub past_length : {A : Type 0} (a b : A) → answer (length_checks f n) a ≡ Ok b → answer (rest_checks f n) n ≡ answer (places ++ (links ++ signals)) n
  unfolding rest_checks
  past_length a b h = answer_next (length_checks f n) (places ++ (links ++ signals)) a b n h

  pub past_places : {A : Type 0} (a b : A) → answer places a ≡ Ok b → answer (places ++ (links ++ signals)) n ≡ answer (links ++ signals) n
  past_places a b h = answer_next places (links ++ signals) a b n h

  pub past_links : {A : Type 0} (a b : A) → answer links a ≡ Ok b → answer (links ++ signals) n ≡ answer signals n
  past_links a b h = answer_next links signals a b n h

  pub past_signals : {A : Type 0} (a b : A) → answer signals a ≡ Ok b → answer signals n ≡ Ok n
  past_signals a b h = ok_of_kept signals n (kept_of_ok signals a b h)

  -- the first part with a fault gives the answer
  pub length_stop : (e : Fault) → answer (contents_checks f) (counts f) ≡ Ok n → answer (length_checks f n) n ≡ Err e → answer (checks f) (counts f) ≡ Err e
  unfolding rest_checks
  length_stop e c h = at_length c ∙ answer_stops (length_checks f n) (places ++ (links ++ signals)) n n e h

  pub places_stop : (e : Fault) → answer (contents_checks f) (counts f) ≡ Ok n → answer (length_checks f n) n ≡ Ok n → answer places (tt {0}) ≡ Err e → answer (checks f) (counts f) ≡ Err e
  places_stop e c l h = at_places c l ∙ answer_stops places (links ++ signals) tt n e h

  pub links_stop : (e : Fault) → answer (contents_checks f) (counts f) ≡ Ok n → answer (length_checks f n) n ≡ Ok n → answer places (tt {0}) ≡ Ok tt → answer links (tt {0}) ≡ Err e → answer (checks f) (counts f) ≡ Err e
  links_stop e c l p h = at_links c l p ∙ answer_stops links signals tt n e h

  pub signals_stop : (e : Fault) → answer (contents_checks f) (counts f) ≡ Ok n → answer (length_checks f n) n ≡ Ok n → answer places (tt {0}) ≡ Ok tt → answer links (tt {0}) ≡ Ok tt → answer signals (tt {0}) ≡ Err e → answer (checks f) (counts f) ≡ Err e
  signals_stop e c l p k h = at_signals c l p k ∙ err_any signals tt n e h

  pub all_kept : answer (contents_checks f) (counts f) ≡ Ok n → answer (length_checks f n) n ≡ Ok n → answer places (tt {0}) ≡ Ok tt → answer links (tt {0}) ≡ Ok tt → answer signals (tt {0}) ≡ Ok tt → answer (checks f) (counts f) ≡ Ok n
  all_kept c l p k h = at_signals c l p k ∙ ok_of_kept signals n (kept_of_ok signals tt tt h)
