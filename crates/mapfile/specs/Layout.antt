-- Where the bodies lie: each starts where the one before ends.
use Rattle.std.specs.Prelude.{ℕ, ◌+◌, ◌*◌, List}
use Rattle.mapfile.specs.Bytes.{word}
use Rattle.mapfile.specs.declared.body.BodyKind.{BodyKind}
use Rattle.mapfile.specs.declared.body.BodyKind.TheVariants.{Places, Links, Signals}
use Rattle.mapfile.specs.declared.counts.Counts.{Counts}

-- how many records of a kind there are
abbrev pub count : Counts → BodyKind → ℕ
count n Places = n.places
count n Links = n.links
count n Signals = n.signals

-- the byte at which a kind's body starts
abbrev pub start : Counts → BodyKind → ℕ
start n Places = 26
start n Links = 26 + 4 * n.places
start n Signals = 26 + 4 * n.places + 12 * n.links

-- the byte at which the last body ends
abbrev pub end : Counts → ℕ
end n = 26 + 4 * n.places + 12 * n.links + 8 * n.signals

-- the counts that a file's contents name
abbrev pub counts : List ℕ → Counts
counts f = record { places = word f 4; links = word f 12; signals = word f 20 }
