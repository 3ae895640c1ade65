-- What a planner holds, and what a call makes of it.
use Rattle.std.specs.Prelude.{◌≡◌, Result}
use Rattle.planner.specs.declared.change.Change.{Change}
use Rattle.planner.specs.declared.change.Refusal.{Refusal}
use Rattle.planner.specs.declared.planner.Planner.{Planner}
use Rattle.planner.specs.Book.{Book, after, reply}

abbrev pub book : Planner → Book
book p = record { stations = p.stations; closed = p.closed; solved = p.solved }

-- a call is answered by the book, and writes what the book says; the map stays
pub record Makes (old new : Planner) (c : Change) (answer : Result Unit Refusal) : Type 0 where
  pub reply : answer ≡ reply old.map.counts (book old) c
  pub book : book new ≡ after old.map.counts (book old) c
  pub map : new.map ≡ old.map
