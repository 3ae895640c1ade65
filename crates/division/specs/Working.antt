-- The lists of places to grow from.
use Rattle.std.specs.Prelude.{ℕ, ◌<◌, All}
use Rattle.division.specs.declared.work.Work.{Work}

-- What waits are places.
abbrev pub Waiting : ℕ → Work → Type 0
Waiting places work = All (λ v. v < places) work.places.items
