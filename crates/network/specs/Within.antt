-- Each link of a map leads from a place to a place.
use Rattle.std.specs.Prelude.{ℕ, ◌<◌, List, false, slice_index_or}
use Rattle.network.specs.declared.ends.DrawnLink.{DrawnLink}

-- a table of links by their numbers; beyond the last, a closed one
abbrev pub drawn_at : List DrawnLink → ℕ → DrawnLink
drawn_at drawn k = slice_index_or drawn k (record { tail = 0; head = 0; is_open = false })

abbrev pub Within : ℕ → ℕ → List DrawnLink → Type 0
Within places links drawn = (k : ℕ) → k < links → ((drawn_at drawn k).tail < places) × ((drawn_at drawn k).head < places)
