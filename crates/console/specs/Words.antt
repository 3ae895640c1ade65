-- What is printed: each answer's line, without its end.
use Rattle.std.specs.Prelude.{ℕ, List, ◌++◌, codes, decimal, Ok, Err, Result}
use Rattle.mapfile.specs.Numbers as mapfile
use Rattle.mapfile.specs.Words.{fault_words}
use Rattle.planner.specs.Numbers as planner
use Rattle.planner.specs.Words.{refusal_words}
use Rattle.console.specs.declared.answer.Denial.{Denial}
use Rattle.console.specs.declared.answer.Denial.TheVariants.{Refused, Unreadable, BadMap}

abbrev pub denied : Denial → List ℕ
denied (Refused r) = codes "no " ++ (decimal (planner.number r) ++ (codes " " ++ refusal_words r))
denied Unreadable = codes "no 18 line unreadable"
denied (BadMap f) = codes "no " ++ (decimal (mapfile.number f.breach) ++ (codes " " ++ fault_words f))

abbrev pub said : Result Unit Denial → List ℕ
said (Ok _) = codes "ok"
said (Err d) = denied d
