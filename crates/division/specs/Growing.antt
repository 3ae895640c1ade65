-- Growing the complete structure of v by counters, one open link after the other.
use Rattle.std.specs.Prelude.{◌≡◌, ℕ, ◌<◌, ◌≤◌, Bool, not, ◌&&◌, ◌≢◌, ◌⊎◌, Decides, ◌==◌, nat_eq}
use Rattle.structures.specs.Graphs.{Graph, Approach}
use Rattle.structures.specs.Computed.{count}
use Rattle.structures.proofs.Held.{Held}

-- How many open links lead to w.
abbrev pub approaches : Graph → ℕ → ℕ
approaches g w = count (λ i. nat_eq (g.head i) w) g.links

-- x is one of the first len members.
abbrev pub Member : (ℕ → ℕ) → ℕ → ℕ → Type 0
Member member len x = (q : ℕ) × (q < len) × (member q ≡ x)

-- Link i leaves one of the first k members.
abbrev pub Before : Graph → (ℕ → ℕ) → ℕ → ℕ → Type 0
Before g member k i = Member member k (g.tail i)

-- For each place the number of links to it that are not yet done.
pub record Pending (g : Graph) (left : ℕ → ℕ) (Done : ℕ → Type 0) : Type 0 where
  pub done : ℕ → Bool
  pub told : (i : ℕ) → i < g.links → Decides (done i) (Done i)
  pub counts : (w : ℕ) → w < g.places → left w ≡ count (λ i. not (done i) && g.head i == w) g.links

-- The members found so far: each held by v and after its approaches; a place whose links are all done has joined.
pub record Growing (g : Graph) (v : ℕ) (member left : ℕ → ℕ) (len : ℕ) (Done : ℕ → Type 0) : Type 0 where
  pub pending : Pending g left Done
  pub known : v < g.places
  pub begun : 0 < len
  pub first : member 0 ≡ v
  pub short : len ≤ g.places
  pub only : (q : ℕ) → q < len → Held g v (member q)
  pub once : (q r : ℕ) → q < len → r < len → member q ≡ member r → q ≡ r
  pub from : (i : ℕ) → i < g.links → Done i → Member member len (g.tail i)
  pub none_left : (q : ℕ) → 0 < q → q < len → left (member q) ≡ 0
  pub after : (q i : ℕ) → 0 < q → q < len → i < g.links → g.head i ≡ member q → Member member q (g.tail i)
  pub joined : (i : ℕ) → i < g.links → g.head i ≢ v → left (g.head i) ≡ 0 → Member member len (g.head i)

-- All that v holds, each once and after its approaches, v first.
pub record Grown (g : Graph) (v : ℕ) (member : ℕ → ℕ) (len : ℕ) : Type 0 where
  pub begun : 0 < len
  pub first : member 0 ≡ v
  pub short : len ≤ g.places
  pub only : (q : ℕ) → q < len → Held g v (member q)
  pub all : (w : ℕ) → Held g v w → Member member len w
  pub once : (q r : ℕ) → q < len → r < len → member q ≡ member r → q ≡ r
  pub after : (q r : ℕ) → q < len → 0 < r → r < len → Approach g (member q) (member r) → q < r

-- Each counter holds the number of links to its place.
abbrev pub Full : Graph → (ℕ → ℕ) → Type 0
Full g left = (w : ℕ) → w < g.places → left w ≡ approaches g w

-- The counters of the places that u's links lead to are put back; each other one is as it was or put back too.
pub record PutBack (g : Graph) (u : ℕ) (full left after : ℕ → ℕ) : Type 0 where
  pub heads : (i : ℕ) → i < g.links → g.tail i ≡ u → after (g.head i) ≡ full (g.head i)
  pub others : (w : ℕ) → (after w ≡ full w) ⊎ (after w ≡ left w)

-- Link i leaves one of the first k members, or member k and stands before position j.
abbrev pub Partly : Graph → (ℕ → ℕ) → ℕ → ℕ → ℕ → Type 0
Partly g member k j i = Before g member k i ⊎ ((g.tail i ≡ member k) × (i < j))

-- v has an approach, and all its approaches are held by v; or no other place holds v and is held by it.
pub record Closed (g : Graph) (v : ℕ) : Type 0 where
  pub approached : (x : ℕ) × Approach g x v
  pub inner : (x : ℕ) → Approach g x v → Held g v x

abbrev pub Alone : Graph → ℕ → Type 0
Alone g v = (m : ℕ) → Held g v m → Held g m v → v ≡ m
