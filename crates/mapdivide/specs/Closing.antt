-- A line of closed links: a number of a link.
use Rattle.std.specs.Prelude.{ℕ, Bool, true, if◌then◌else◌, List, Some, None, Ok, Err, Option, Result, nat_le, slice_set}
use Rattle.mapfile.specs.declared.counts.Counts.{Counts}
use Rattle.planner.specs.declared.change.Refusal.TheVariants.{UnknownNumber}
use Rattle.console.specs.declared.answer.Denial.{Denial}
use Rattle.console.specs.declared.answer.Denial.TheVariants.{Refused, Unreadable}
use Rattle.console.specs.Numerals.{number}

abbrev pub told : Counts → Option ℕ → Result Unit Denial
told n None = Err Unreadable
told n (Some k) = if nat_le n.links k then Err (Refused UnknownNumber) else Ok tt

abbrev pub answer_to : Counts → List ℕ → Result Unit Denial
answer_to n line = told n (number line)

abbrev pub struck : Counts → Option ℕ → List Bool → List Bool
struck n None closed = closed
struck n (Some k) closed = if nat_le n.links k then closed else slice_set closed k true

abbrev pub closed_after : Counts → List ℕ → List Bool → List Bool
closed_after n line closed = struck n (number line) closed
