use Rattle.planner.proofs.Kept.{books_sound}
use Rattle.planner.proofs.law.books_stand.Goals as goal

pub returns : goal.returns
returns c = books_sound
