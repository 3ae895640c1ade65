-- The three kinds of records: the number of each in the contents, its limits, the size of one record, and its line.
use Rattle.std.specs.Prelude.{ℕ}
use Rattle.mapfile.specs.declared.body.BodyKind.{BodyKind}
use Rattle.mapfile.specs.declared.body.BodyKind.TheVariants.{Places, Links, Signals}

abbrev pub code : BodyKind → ℕ
code Places = 1
code Links = 2
code Signals = 3

abbrev pub least : BodyKind → ℕ
least Places = 1
least Links = 0
least Signals = 0

abbrev pub most : BodyKind → ℕ
most Places = 2048
most Links = 4096
most Signals = 256

abbrev pub size : BodyKind → ℕ
size Places = 4
size Links = 12
size Signals = 8

-- the first byte of a kind's line in the contents
abbrev pub line : BodyKind → ℕ
line Places = 2
line Links = 10
line Signals = 18
