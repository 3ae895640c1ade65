-- What a line does: it is read, then its call is made.
use Rattle.std.specs.Prelude.{Some, None, Ok, Err, Option, Result}
use Rattle.mapfile.specs.declared.counts.Counts.{Counts}
use Rattle.planner.specs.declared.change.Change.{Change}
use Rattle.planner.specs.declared.change.Refusal.{Refusal}
use Rattle.planner.specs.Book.{Book, after, reply}
use Rattle.console.specs.declared.answer.Denial.{Denial}
use Rattle.console.specs.declared.answer.Denial.TheVariants.{Refused, Unreadable}

abbrev pub answered : Result Unit Refusal → Result Unit Denial
answered (Ok _) = Ok tt
answered (Err e) = Err (Refused e)

-- the answer to a line that asks for a call, or cannot be read
abbrev pub answer_to : Counts → Book → Option Change → Result Unit Denial
answer_to n b None = Err Unreadable
answer_to n b (Some c) = answered (reply n b c)

-- the book after it
abbrev pub book_after : Counts → Book → Option Change → Book
book_after n b None = b
book_after n b (Some c) = after n b c
