-- A list with one number more at its end, by its positions.
use Rattle.std.proofs.Common.{◌≡◌, ℕ, ◌≤◌, ◌≢◌, List, [], ◌∷◌, ◌++◌, length, sym, refl, ◌∙◌, arith, ⊎_elim}
use Rattle.std.proofs.Math.ListN.{get_or-eq_default, length-append}
use Rattle.std.proofs.lemmas.Bool.{cases_lt}
use Rattle.std.proofs.lemmas.List.{get_or_append_left, get_or_push}
use Rattle.division.specs.Lists.{at}

pub at_push : (xs : List ℕ) (x : ℕ) → at (xs ++ x ∷ []) (length xs) ≡ x
at_push xs x = get_or_push xs x 0 (length xs) refl

pub at_push_other : (xs : List ℕ) (x q : ℕ) → q ≢ length xs → at (xs ++ x ∷ []) q ≡ at xs q
at_push_other xs x q ne = ⊎_elim (λ lt. get_or_append_left xs (x ∷ []) 0 q lt) beyond (cases_lt q (length xs))
  where
    beyond : length xs ≤ q → at (xs ++ x ∷ []) q ≡ at xs q
    beyond le = get_or-eq_default (xs ++ x ∷ []) 0 (omega (arith, length-append xs (x ∷ []))) ∙ sym (get_or-eq_default xs 0 le)
