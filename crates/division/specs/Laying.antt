-- Writing the order list, one structure after the other.
use Rattle.std.specs.Prelude.{◌≡◌, ℕ, ◌+◌, ◌<◌, ◌≤◌}

-- The members but the first stand from a position on; all else is as it was.
pub record Stretched (member : ℕ → ℕ) (len from : ℕ) (was now : ℕ → ℕ) : Type 0 where
  pub members : (q i : ℕ) → 0 < q → q < len → from + q ≡ i + 1 → now i ≡ member q
  pub earlier : (i : ℕ) → i < from → now i ≡ was i
  pub later : (i : ℕ) → from + len ≤ i + 1 → now i ≡ was i
