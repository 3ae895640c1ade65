-- Numbers in a line: 1 to 10 decimal digits, up to 4294967295.
use Rattle.std.specs.Prelude.{◌≡◌, ℕ, ◌+◌, ◌-◌, ◌*◌, ◌≤◌, Bool, true, if◌then◌else◌, ◌&&◌, List, [], ◌∷◌, length, Some, None, fold, Option, nat_le}

abbrev pub is_digit : ℕ → Bool
is_digit d = nat_le 48 d && nat_le d 57

abbrev pub digits : List ℕ → Bool
digits [] = true
digits (d ∷ ds) = is_digit d && digits ds

abbrev pub next : ℕ → ℕ → ℕ
next a d = a * 10 + (d - 48)

abbrev pub value : List ℕ → ℕ
value ds = fold next 0 ds

-- `ds` spells the number n
pub record Numeral (ds : List ℕ) (n : ℕ) : Type 0 where
  pub only_digits : digits ds ≡ true
  pub some : 1 ≤ length ds
  pub few : length ds ≤ 10
  pub is : value ds ≡ n
  pub small : n ≤ 4294967295

-- the number that `ds` spells, if it spells one
unfoldable pub number : List ℕ → Option ℕ
number ds =
    if nat_le 1 (length ds) && (nat_le (length ds) 10 && (digits ds && nat_le (value ds) 4294967295)) then Some (value ds) else None
