-- Numbers in a file: unsigned, least byte first.
use Rattle.std.specs.Prelude.{ℕ, ◌+◌, ◌*◌, List, take, drop, slice_index}

abbrev pub byte : List ℕ → ℕ → ℕ
byte s at = slice_index s at

abbrev pub word : List ℕ → ℕ → ℕ
word s at = byte s at + byte s (at + 1) * 256

abbrev pub long : List ℕ → ℕ → ℕ
long s at = byte s at + byte s (at + 1) * 256 + byte s (at + 2) * 65536 + byte s (at + 3) * 16777216

-- the `size` bytes from `at` on
abbrev pub part : List ℕ → ℕ → ℕ → List ℕ
part s at size = take size (drop at s)
