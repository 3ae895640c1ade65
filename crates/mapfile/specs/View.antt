-- What a map holds.
use Rattle.std.specs.Prelude.{◌≡◌, ℕ, ◌<◌, if◌then◌else◌, List, Some, None, Option, ◌==◌}
use Rattle.mapfile.specs.declared.link.Link.{Link}
use Rattle.mapfile.specs.declared.map.Map.{Map}
use Rattle.mapfile.specs.declared.signal.Signal.{Signal}
use Rattle.mapfile.specs.Bytes.{byte, word, long}
use Rattle.mapfile.specs.Layout.{counts}
use Rattle.mapfile.specs.Rules.{place_bytes, link_bytes, signal_bytes}

abbrev pub bytes_of : Map → List ℕ
bytes_of m = m.file.now

-- the map holds the records of a file
pub record Holds (m : Map) (f : List ℕ) : Type 0 where
  pub bytes : bytes_of m ≡ f
  pub counted : m.counts ≡ counts f

-- the site of a place
abbrev pub site_of : Map → ℕ → ℕ
site_of m i = long (place_bytes (bytes_of m) m.counts i) 0

-- 65535 stands for no signal
abbrev pub signal_named : ℕ → Option ℕ
signal_named w = if w == 65535 then None else Some w

abbrev pub link_of : (m : Map) (i : ℕ) → i < m.counts.links → Link
link_of m i h = record {
  from = word (link_bytes (bytes_of m) m.counts i) 0;
  to = word (link_bytes (bytes_of m) m.counts i) 2;
  run = word (link_bytes (bytes_of m) m.counts i) 4;
  class = byte (link_bytes (bytes_of m) m.counts i) 6;
  signal = signal_named (word (link_bytes (bytes_of m) m.counts i) 8);
  grade = word (link_bytes (bytes_of m) m.counts i) 10;
  classed = (m.each_link i h).3;
}

abbrev pub signal_of : (m : Map) (i : ℕ) → i < m.counts.signals → Signal
signal_of m i h = record {
  cycle = word (signal_bytes (bytes_of m) m.counts i) 0;
  start = word (signal_bytes (bytes_of m) m.counts i) 2;
  length = word (signal_bytes (bytes_of m) m.counts i) 4;
  lawful = m.each_signal i h;
}
