-- How a call is spelt.
use Rattle.std.specs.Prelude.{◌≡◌, ℕ, List, ◌∷◌, ◌++◌, codes}
use Rattle.planner.specs.declared.change.Change.{Change}
use Rattle.planner.specs.declared.change.Change.TheVariants.{Place, Lift, Close, Reopen}
use Rattle.console.specs.Numerals.{Numeral}

-- a word and a number
abbrev pub One : List ℕ → List ℕ → ℕ → Type 0
One word line n = (ds : List ℕ) × (line ≡ word ++ ds) × Numeral ds n

-- a word, a number, a space and a number
abbrev pub Two : List ℕ → List ℕ → ℕ → ℕ → Type 0
Two word line m n = (ds : List ℕ) × (es : List ℕ) × (line ≡ word ++ (ds ++ (32 ∷ es))) × Numeral ds m × Numeral es n

abbrev pub Spells : List ℕ → Change → Type 0
Spells line (Place p t) = Two (codes "P ") line p t
Spells line (Lift p) = One (codes "L ") line p
Spells line (Close k) = One (codes "C ") line k
Spells line (Reopen k) = One (codes "R ") line k
