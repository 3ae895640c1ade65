use Rattle.std.proofs.Common.{◌≡◌, take}
use Rattle.planner.specs.Book.{after_all}
use Rattle.planner.specs.State.{book}
use Rattle.planner.proofs.planner.Planner.make_all.Given as goal

abbrev pub invariant-loop-change : goal.invariant-loop-change
invariant-loop-change l =
    (book l.self ≡ after_all l.initial.self.map.counts (book l.initial.self) (take l.change-index l.changes)) × (l.self.map ≡ l.initial.self.map)
