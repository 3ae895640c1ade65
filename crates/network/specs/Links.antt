-- A list of open links by its positions.
use Rattle.std.specs.Prelude.{ℕ, List, slice_index_or}
use Rattle.network.specs.declared.link.OpenLink.{OpenLink}

-- beyond the last
abbrev pub blank : OpenLink
blank = record { number = 0; tail = 0; head = 0 }

abbrev pub link_at : List OpenLink → ℕ → OpenLink
link_at links i = slice_index_or links i blank
