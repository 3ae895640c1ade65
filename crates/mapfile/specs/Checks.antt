-- A reading is a list of checks, and its answer the first of them that fails.
use Rattle.std.specs.Prelude.{◌≡◌, ℕ, zero, suc, Bool, true, false, if◌then◌else◌, List, [], ◌∷◌, ◌++◌, Ok, Err, Result}
use Rattle.mapfile.specs.declared.fault.Breach.{Breach}
use Rattle.mapfile.specs.declared.fault.Fault.{Fault}
use Rattle.mapfile.specs.Numbers.{fault}

-- whether a rule is kept, and the fault that is told where it is not
pub record Check : Type 0 where
  pub kept : Bool
  pub told : Fault

abbrev pub check : Breach → ℕ → Bool → Check
check b at k = record { kept = k; told = fault b at }

-- the first fault of a list of checks, or the value that is told where all are kept
abbrev pub answer : {A : Type 0} → List Check → A → Result A Fault
answer [] a = Ok a
answer (c ∷ cs) a = if c.kept then answer cs a else Err c.told

-- the checks of the first `n` of many things, one after the other
abbrev pub each : ℕ → (ℕ → List Check) → List Check
each zero f = []
each (suc n) f = each n f ++ f n

-- every check of a list is kept
abbrev pub AllKept : List Check → Type 0
AllKept [] = Unit {0}
AllKept (c ∷ cs) = (c.kept ≡ true) × AllKept cs

-- `e` is told of a broken check, and every check before it is kept
pub record First (cs : List Check) (e : Fault) : Type 0 where
  pub before : List Check
  pub broken : Check
  pub after : List Check
  pub order : cs ≡ before ++ (broken ∷ after)
  pub fine : AllKept before
  pub breach : broken.kept ≡ false
  pub tells : broken.told ≡ e
