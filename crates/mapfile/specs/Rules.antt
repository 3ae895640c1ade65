-- The rules of the format, in words of its records. `f` is a file, `n` the counts of its records.
use Rattle.std.specs.Prelude.{◌≡◌, ℕ, ◌+◌, ◌<◌, ◌≤◌, List, length, ◌≢◌}
use Rattle.mapfile.specs.declared.body.BodyKind.{BodyKind}
use Rattle.mapfile.specs.declared.body.BodyKind.TheVariants.{Places, Links, Signals}
use Rattle.mapfile.specs.declared.counts.Counts.{Counts}
use Rattle.mapfile.specs.Bodies.{body_of, record_at, site_before, from_before}
use Rattle.mapfile.specs.Bytes.{byte, word, long}
use Rattle.mapfile.specs.Codes.{code, least, most, line}
use Rattle.mapfile.specs.Layout.{start, end, counts}

-- the bytes of the i-th record of each kind
abbrev pub place_bytes : List ℕ → Counts → ℕ → List ℕ
place_bytes f n i = record_at Places (body_of f n Places).bytes i

abbrev pub link_bytes : List ℕ → Counts → ℕ → List ℕ
link_bytes f n i = record_at Links (body_of f n Links).bytes i

abbrev pub signal_bytes : List ℕ → Counts → ℕ → List ℕ
signal_bytes f n i = record_at Signals (body_of f n Signals).bytes i

-- no more records than the format's limits
abbrev pub Limited : Counts → Type 0
Limited n = (n.places ≤ 2048) × (n.links ≤ 4096) × (n.signals ≤ 256)

-- the records lie in the file, and are no more than the format's limits
abbrev pub Sized : List ℕ → Counts → Type 0
Sized f n = (length f ≡ end n) × Limited n

-- a site is above the site before it, the first above 0
abbrev pub PlaceRule : List ℕ → Counts → ℕ → Type 0
PlaceRule f n i = site_before (body_of f n Places).bytes i < long (place_bytes f n i) 0

-- a link leaves a place, not below the place that the link before it leaves, and leads to a place; its class is 0 to 15
-- and its zero byte zero
abbrev pub LinkRules : List ℕ → Counts → ℕ → Type 0
LinkRules f n i =
    (word (link_bytes f n i) 0 < n.places) × (from_before (body_of f n Links).bytes i ≤ word (link_bytes f n i) 0) × (word (link_bytes f n i) 2 < n.places)
    × (byte (link_bytes f n i) 6 ≤ 15) × (byte (link_bytes f n i) 7 ≡ 0)

-- its signal exists unless it is 65535, for none, and its grade is 0 to 1000
abbrev pub SignRules : List ℕ → Counts → ℕ → Type 0
SignRules f n i = ((word (link_bytes f n i) 8 ≢ 65535) → word (link_bytes f n i) 8 < n.signals) × (word (link_bytes f n i) 10 ≤ 1000)

-- a signal's cycle is 1 to 2400, its green starts within the cycle and is 1 to the cycle long
abbrev pub SignalRules : List ℕ → Counts → ℕ → Type 0
SignalRules f n i =
    (1 ≤ word (signal_bytes f n i) 0) × (word (signal_bytes f n i) 0 ≤ 2400) × (word (signal_bytes f n i) 2 < word (signal_bytes f n i) 0)
    × (1 ≤ word (signal_bytes f n i) 4) × (word (signal_bytes f n i) 4 ≤ word (signal_bytes f n i) 0)

-- its last two bytes are zero
abbrev pub SpareRule : List ℕ → Counts → ℕ → Type 0
SpareRule f n i = word (signal_bytes f n i) 6 ≡ 0

-- the rules hold of each record
abbrev pub EachPlace : List ℕ → Counts → Type 0
EachPlace f n = (i : ℕ) → i < n.places → PlaceRule f n i

abbrev pub EachLink : List ℕ → Counts → Type 0
EachLink f n = (i : ℕ) → i < n.links → LinkRules f n i

abbrev pub EachSign : List ℕ → Counts → Type 0
EachSign f n = (i : ℕ) → i < n.links → SignRules f n i

abbrev pub EachSignal : List ℕ → Counts → Type 0
EachSignal f n = (i : ℕ) → i < n.signals → SignalRules f n i

abbrev pub EachSpare : List ℕ → Counts → Type 0
EachSpare f n = (i : ℕ) → i < n.signals → SpareRule f n i

-- a line of the contents, of a body that is due at a byte
pub record Line (f : List ℕ) (k : BodyKind) (due : ℕ) : Type 0 where
  pub kind : byte f (line k) ≡ code k
  pub spare : byte f (line k + 1) ≡ 0
  pub enough : least k ≤ word f (line k + 2)
  pub few : word f (line k + 2) ≤ most k
  pub begins : long f (line k + 4) ≡ due

-- a file that keeps every rule
pub record Lawful (f : List ℕ) : Type 0 where
  pub long_enough : 26 ≤ length f
  pub edition : byte f 0 ≡ 1
  pub lines : byte f 1 ≡ 3
  pub places : Line f Places 26
  pub links : Line f Links (start (counts f) Links)
  pub signals : Line f Signals (start (counts f) Signals)
  pub ends : length f ≡ end (counts f)
  pub each_place : EachPlace f (counts f)
  pub each_link : EachLink f (counts f)
  pub each_sign : EachSign f (counts f)
  pub each_signal : EachSignal f (counts f)
  pub each_spare : EachSpare f (counts f)
