-- The bodies: each is a part of the file, its records one after the other.
use Rattle.std.specs.Prelude.{ℕ, zero, suc, ◌+◌, ◌*◌, List}
use Rattle.mapfile.specs.declared.body.Body.{Body}
use Rattle.mapfile.specs.declared.body.Body.TheVariants as bodies
use Rattle.mapfile.specs.declared.body.BodyKind.{BodyKind}
use Rattle.mapfile.specs.declared.body.BodyKind.TheVariants.{Places, Links, Signals}
use Rattle.mapfile.specs.declared.counts.Counts.{Counts}
use Rattle.mapfile.specs.Bytes.{word, long, part}
use Rattle.mapfile.specs.Checks.{Check, each}
use Rattle.mapfile.specs.Codes.{size}
use Rattle.mapfile.specs.Layout.{start, count}
use Rattle.mapfile.specs.Records.{place_checks, link_checks, signal_checks}

-- what a body shows: its kind, its first byte in the file, its bytes
pub record Shown : Type 0 where
  pub kind : BodyKind
  pub first : ℕ
  pub bytes : List ℕ

abbrev pub shown : Body → Shown
shown (bodies.Places p) = record { kind = Places; first = p.first; bytes = p.bytes.now }
shown (bodies.Links p) = record { kind = Links; first = p.first; bytes = p.bytes.now }
shown (bodies.Signals p) = record { kind = Signals; first = p.first; bytes = p.bytes.now }

-- the body of a kind in a file with the counts n
abbrev pub body_of : List ℕ → Counts → BodyKind → Shown
body_of f n k = record { kind = k; first = start n k; bytes = part f (start n k) (size k * count n k) }

-- the i-th record of a body of a kind
abbrev pub record_at : BodyKind → List ℕ → ℕ → List ℕ
record_at k b i = part b (size k * i) (size k)

-- what the checks of a record need of the one before it: a place's site, the place that a link leaves
abbrev pub key : BodyKind → List ℕ → ℕ
key Places r = long r 0
key Links r = word r 0
key Signals r = 0

-- the key of the record before the i-th, 0 before the first
abbrev pub key_before : BodyKind → List ℕ → ℕ → ℕ
key_before k b zero = 0
key_before k b (suc i) = key k (record_at k b i)

-- the site before the i-th place
abbrev pub site_before : List ℕ → ℕ → ℕ
site_before b i = key_before Places b i

-- the start of the link before the i-th
abbrev pub from_before : List ℕ → ℕ → ℕ
from_before b i = key_before Links b i

-- the checks of one record, from its bytes, its first byte in the file and the key before it
abbrev pub record_checks : BodyKind → List ℕ → ℕ → Counts → ℕ → List Check
record_checks Places r at n before = place_checks r at before
record_checks Links r at n before = link_checks r at n before
record_checks Signals r at n before = signal_checks r at

-- the checks of the i-th record of a body that starts at the byte `first`
abbrev pub nth : BodyKind → List ℕ → ℕ → Counts → ℕ → List Check
nth k b first n i = record_checks k (record_at k b i) (first + size k * i) n (key_before k b i)

-- the checks of a whole body
abbrev pub body_checks : Shown → Counts → List Check
body_checks s n = each (count n s.kind) (nth s.kind s.bytes s.first n)
