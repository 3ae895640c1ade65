-- The time that a link takes, in tenths of a second: its run and the delay of its turn class.
use Rattle.std.specs.Prelude.{ℕ, ◌+◌, List, [], ◌∷◌, slice_index}
use Rattle.mapfile.specs.declared.link.Link.{Link}

-- the delay of each class, 0 to 15
abbrev pub delays : List ℕ
delays = 0 ∷ 0 ∷ 10 ∷ 15 ∷ 20 ∷ 25 ∷ 30 ∷ 40 ∷ 45 ∷ 50 ∷ 60 ∷ 70 ∷ 80 ∷ 90 ∷ 100 ∷ 120 ∷ []

abbrev pub elapsed_on : Link → ℕ
elapsed_on l = l.run + slice_index delays l.class
