-- All checks of a file, in reading order: contents, length, then the bodies record by record.
use Rattle.std.specs.Prelude.{ℕ, List, ◌++◌}
use Rattle.mapfile.specs.declared.body.BodyKind.TheVariants.{Places, Links, Signals}
use Rattle.mapfile.specs.declared.counts.Counts.{Counts}
use Rattle.mapfile.specs.Bodies.{body_of, body_checks}
use Rattle.mapfile.specs.Checks.{Check}
use Rattle.mapfile.specs.Contents.{contents_checks, length_checks}
use Rattle.mapfile.specs.Layout.{counts}

-- what follows the contents, in a file that names the counts n
unfoldable pub rest_checks : List ℕ → Counts → List Check
rest_checks f n =
    length_checks f n ++ (body_checks (body_of f n Places) n ++ (body_checks (body_of f n Links) n ++ body_checks (body_of f n Signals) n))

unfoldable pub checks : List ℕ → List Check
checks f = contents_checks f ++ rest_checks f (counts f)
