-- Least costs.
use Rattle.std.specs.Prelude.{◌≡◌, false}
use Rattle.kinds.specs.Meaning.{Meaning}

-- c is had, and nothing had is less.
pub record Least {Cost Step : Type 0} (m : Meaning Cost Step) (Had : Cost → Type 0) (c : Cost) : Type 0 where
  pub had : Had c
  pub none_less : (d : Cost) → Had d → m.less d c ≡ false
