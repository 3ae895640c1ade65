-- The checks of one record. `r` is the record's bytes, `at` its first byte in the file.
use Rattle.std.specs.Prelude.{ℕ, ◌+◌, ◌&&◌, ◌||◌, List, [], ◌∷◌, ◌==◌, nat_le, nat_lt}
use Rattle.mapfile.specs.declared.counts.Counts.{Counts}
use Rattle.mapfile.specs.declared.fault.Breach.TheVariants.{Field}
use Rattle.mapfile.specs.Bytes.{byte, word, long}
use Rattle.mapfile.specs.Checks.{Check, check}

-- a place's site is above `before`, the site before it, 0 at the first
abbrev pub place_checks : List ℕ → ℕ → ℕ → List Check
place_checks r at before = check Field at (nat_lt before (long r 0)) ∷ []

-- a link starts and ends at places and not below `before`, the start of the link before it, 0 at the first
abbrev pub link_checks : List ℕ → ℕ → Counts → ℕ → List Check
link_checks r at n before =
    check Field at (nat_lt (word r 0) n.places && nat_le before (word r 0)) ∷
    check Field (at + 2) (nat_lt (word r 2) n.places) ∷
    check Field (at + 6) (nat_le (byte r 6) 15) ∷
    check Field (at + 7) (byte r 7 == 0) ∷
    check Field (at + 8) (nat_lt (word r 8) n.signals || word r 8 == 65535) ∷
    check Field (at + 10) (nat_le (word r 10) 1000) ∷ []

abbrev pub signal_checks : List ℕ → ℕ → List Check
signal_checks r at =
    check Field at (nat_le 1 (word r 0) && nat_le (word r 0) 2400) ∷
    check Field (at + 2) (nat_lt (word r 2) (word r 0)) ∷
    check Field (at + 4) (nat_le 1 (word r 4) && nat_le (word r 4) (word r 0)) ∷
    check Field (at + 6) (word r 6 == 0) ∷ []
