-- Growing from places not yet covered, each call overwriting what it holds, until every place has an owner.
use Rattle.std.specs.Prelude.{◌≡◌, ℕ, ◌<◌, ◌≢◌, List, Option, Some, None, unwrap_or, slice_index_or}
use Rattle.structures.specs.Graphs.{Graph}
use Rattle.structures.proofs.Held.{Held}
use Rattle.structures.proofs.Maximal.{Top}
use Rattle.structures.proofs.Cover.{Covered, Fresh, Owners}
use Rattle.division.specs.declared.cover.Covering.{Covering}
use Rattle.division.specs.Lists.{at}
use Rattle.division.specs.Growing.{Member}
use Rattle.division.specs.Twinned.{Named}
use Rattle.division.specs.Working.{Waiting}

-- The owner of each place; none of a place that no call has covered.
abbrev pub owner_at : List (Option ℕ) → ℕ → Option ℕ
owner_at owners w = slice_index_or owners w None

-- The owner, of a place that has one.
abbrev pub named : (ℕ → Option ℕ) → ℕ → ℕ
named owner w = unwrap_or (owner w) 0

-- The calls so far, latest first: each was made from a place not yet covered, and each covered place has its latest call as its owner.
pub record Called (g : Graph) (owner : ℕ → Option ℕ) : Type 0 where
  pub calls : List ℕ
  pub fresh : Fresh g calls
  pub owners : Owners g calls (named owner)
  pub free : (w : ℕ) → w < g.places → owner w ≡ None → Covered g calls w → ⊥
  pub covered : (w : ℕ) → w < g.places → owner w ≢ None → Covered g calls w

-- The owners with their names and the work list between two calls.
pub record Underway (g : Graph) (covering : Covering) : Type 0 where
  pub called : Called g (owner_at covering.owners)
  pub names : Named g (owner_at covering.owners) (at covering.names) g.places
  pub waiting : Waiting g.places covering.work

-- What is covered stays so.
abbrev pub StillCovered : Graph → (before after : ℕ → Option ℕ) → Type 0
StillCovered g before after = (w : ℕ) → w < g.places → before w ≢ None → after w ≢ None

-- The first len members have v for their owner, all others their old one.
pub record Overwritten (member : ℕ → ℕ) (len v : ℕ) (was now : ℕ → Option ℕ) : Type 0 where
  pub members : (q : ℕ) → q < len → now (member q) ≡ Some v
  pub others : (w : ℕ) → (Member member len w → ⊥) → now w ≡ was w

-- Each place is held by its owner, which holds whatever holds it and is its own owner.
pub record Owned (g : Graph) (owner : ℕ → Option ℕ) : Type 0 where
  pub all : (w : ℕ) → w < g.places → owner w ≡ Some (named owner w)
  pub holds : (w : ℕ) → w < g.places → Held g (named owner w) w
  pub top : (w : ℕ) → w < g.places → Top g (named owner w)
  pub own : (w : ℕ) → w < g.places → owner (named owner w) ≡ owner w
