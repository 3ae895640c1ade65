-- What every network keeps: the parts of the places follow each other, and each position knows its two places.
use Rattle.std.specs.Prelude.{◌≡◌, ℕ, ◌+◌, ◌<◌, ◌≤◌, List, length, slice_index}
use Rattle.network.specs.declared.link.OpenLink.{OpenLink}
use Rattle.network.specs.Links.{link_at}

-- the first part begins at position 0, and the last ends within the format's limit
abbrev pub Sized : ℕ → List ℕ → List OpenLink → Type 0
Sized places first links = (places ≤ 2048) × (slice_index first 0 ≡ 0) × (slice_index first places ≤ 4096) × (length first ≡ 2049) × (length links ≡ 4096)

-- each part ends where the next begins
abbrev pub Parts : ℕ → List ℕ → Type 0
Parts places first = (p : ℕ) → p < places → slice_index first p ≤ slice_index first (p + 1)

-- each link leads to a place
abbrev pub Ends : ℕ → List ℕ → List OpenLink → Type 0
Ends places first links = (i : ℕ) → i < slice_index first places → (link_at links i).head < places

-- each position lies in the part of the place that its link leaves
abbrev pub Tails : ℕ → List ℕ → List OpenLink → Type 0
Tails places first links =
    (i : ℕ) → i < slice_index first places → ((link_at links i).tail < places) × (slice_index first (link_at links i).tail ≤ i) × (i < slice_index first ((link_at links i).tail + 1))
