-- The cost of a list of steps, for any kind of cost.
use Rattle.std.specs.Prelude.{◌≡◌, ℕ, false, List, ◌++◌, fold}
use Rattle.kinds.specs.Meaning.{Meaning}

module _ {Cost Step : Type 0} (m : Meaning Cost Step) where
  abbrev pub cost_from : Cost → List Step → Cost
  cost_from c steps = fold m.after c steps

  abbrev pub run_cost : ℕ → List Step → Cost
  run_cost turnout steps = cost_from (m.start turnout) steps

  -- the cost of a run never falls as it grows
  abbrev pub NeverFalls : Type 0
  NeverFalls =
      (c : Cost) (steps more : List Step) → m.is_cost c → m.less (cost_from c (steps ++ more)) (cost_from c steps) ≡ false

  -- of two starts the one not greater stays not greater over the same steps
  abbrev pub StaysInOrder : Type 0
  StaysInOrder =
      (a b : Cost) (steps : List Step)
      → m.is_cost a → m.is_cost b → m.less b a ≡ false → m.less (cost_from b steps) (cost_from a steps) ≡ false
