-- The open links that leave a place: its part of the table. None leave an unknown place.
use Rattle.std.specs.Prelude.{ℕ, ◌+◌, List, [], if◌then◌else◌, nat_lt, slice_index, slice_range}
use Rattle.network.specs.declared.link.OpenLink.{OpenLink}
use Rattle.network.specs.declared.network.Network.{Network}

abbrev pub leaving_of : Network → ℕ → List OpenLink
leaving_of n u = if nat_lt u n.places then slice_range n.links (slice_index n.first u) (slice_index n.first (u + 1)) else []
