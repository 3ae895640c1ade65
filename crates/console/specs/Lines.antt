-- What a line asks for. Its parts are split by one space: a letter, then numbers.
use Rattle.std.specs.Prelude.{ℕ, ◌+◌, ◌-◌, Bool, if◌then◌else◌, not, ◌&&◌, List, length, take, drop, Some, None, Option, ◌==◌, nat_le, nat_lt, slice_index}
use Rattle.std.specs.List.{prefix_len}
use Rattle.planner.specs.declared.change.Change.{Change}
use Rattle.planner.specs.declared.change.Change.TheVariants.{Place, Lift, Close, Reopen}
use Rattle.console.specs.Numerals.{number}

-- a line as it is read, without the byte 10 that ends it
abbrev pub content : List ℕ → List ℕ
content s = if nat_le 1 (length s) && slice_index s (length s - 1) == 10 then take (length s - 1) s else s

abbrev pub no_space : ℕ → Bool
no_space b = not (b == 32)

-- how many bytes stand before the first space
abbrev pub space : List ℕ → ℕ
space s = prefix_len no_space s

-- a call with two numbers, if both can be read
abbrev pub with_both : (ℕ → ℕ → Change) → Option ℕ → Option ℕ → Option Change
with_both f None n = None
with_both f (Some m) None = None
with_both f (Some m) (Some n) = Some (f m n)

-- two numbers with a space between them
abbrev pub pair_of : List ℕ → Option Change
pair_of s = if nat_lt (space s) (length s) then with_both Place (number (take (space s) s)) (number (drop (space s + 1) s)) else None

-- the letters L, C and R take one number
abbrev pub single : ℕ → Option ℕ → Option Change
single l None = None
single l (Some n) = if l == 76 then Some (Lift n) else if l == 67 then Some (Close n) else if l == 82 then Some (Reopen n) else None

-- the letter P takes two
abbrev pub by_letter : ℕ → List ℕ → Option Change
by_letter l s = if l == 80 then pair_of s else single l (number s)

abbrev pub meaning : List ℕ → Option Change
meaning s = if nat_le 2 (length s) && slice_index s 1 == 32 then by_letter (slice_index s 0) (drop 2 s) else None
