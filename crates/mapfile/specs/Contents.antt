-- The checks of a file's contents, in reading order.
use Rattle.std.specs.Prelude.{ℕ, ◌+◌, min, ◌&&◌, List, [], ◌∷◌, ◌++◌, length, ◌==◌, nat_le}
use Rattle.mapfile.specs.declared.body.BodyKind.{BodyKind}
use Rattle.mapfile.specs.declared.body.BodyKind.TheVariants.{Places, Links, Signals}
use Rattle.mapfile.specs.declared.counts.Counts.{Counts}
use Rattle.mapfile.specs.declared.fault.Breach.TheVariants.{Short, Edition, Contents, Count, Length}
use Rattle.mapfile.specs.Bytes.{byte, word, long}
use Rattle.mapfile.specs.Checks.{Check, check}
use Rattle.mapfile.specs.Codes.{code, least, most, line}
use Rattle.mapfile.specs.Layout.{start, end, counts}

-- a contents line: kind, zero, count of records, start of the body
abbrev pub line_checks : List ℕ → BodyKind → ℕ → List Check
line_checks f k due =
    check Contents (line k) (byte f (line k) == code k) ∷
    check Contents (line k + 1) (byte f (line k + 1) == 0) ∷
    check Count (line k + 2) (nat_le (least k) (word f (line k + 2)) && nat_le (word f (line k + 2)) (most k)) ∷
    check Contents (line k + 4) (long f (line k + 4) == due) ∷ []

abbrev pub contents_checks : List ℕ → List Check
contents_checks f =
    check Short (min (length f) 26) (nat_le 26 (length f)) ∷
    check Edition 0 (byte f 0 == 1) ∷
    check Contents 1 (byte f 1 == 3) ∷
    (line_checks f Places 26 ++ (line_checks f Links (start (counts f) Links) ++ line_checks f Signals (start (counts f) Signals)))

-- the file ends where the last body ends
abbrev pub length_checks : List ℕ → Counts → List Check
length_checks f n = check Length (min (length f) (end n)) (length f == end n) ∷ []
