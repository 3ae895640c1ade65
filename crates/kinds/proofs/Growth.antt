-- What a list of steps does to a cost, for any lawful meaning.
use Rattle.std.proofs.Common.{◌≡◌, false, List, [], ◌∷◌}
use Rattle.kinds.proofs.Order.{not_less_self, not_greater_trans}
use Rattle.kinds.specs.Laws.{Laws}
use Rattle.kinds.specs.Meaning.{Meaning}
use Rattle.kinds.specs.Runs.{cost_from, NeverFalls, StaysInOrder}

module _ {Cost Step : Type 0} (m : Meaning Cost Step) (laws : Laws m) where
  -- steps give costs
  pub cost_from_is_cost : (c : Cost) (steps : List Step) → m.is_cost c → m.is_cost (cost_from m c steps)
  cost_from_is_cost c [] valid = valid
  cost_from_is_cost c (s ∷ steps) valid = cost_from_is_cost (m.after c s) steps (laws.steps c s valid)

  -- a list of steps never lowers a cost
  pub cost_from_no_lower : (c : Cost) (steps : List Step) → m.is_cost c → m.less (cost_from m c steps) c ≡ false
  cost_from_no_lower c [] valid = not_less_self laws c
  cost_from_no_lower c (s ∷ steps) valid =
      not_greater_trans laws c (m.after c s) (cost_from m c (s ∷ steps)) (laws.no_lower c s valid)
      (cost_from_no_lower (m.after c s) steps (laws.steps c s valid))

  pub never_falls : NeverFalls m
  never_falls c [] more valid = cost_from_no_lower c more valid
  never_falls c (s ∷ steps) more valid = never_falls (m.after c s) steps more (laws.steps c s valid)

  pub stays_in_order : StaysInOrder m
  stays_in_order a b [] va vb ab = ab
  stays_in_order a b (s ∷ steps) va vb ab =
      stays_in_order (m.after a s) (m.after b s) steps (laws.steps a s va) (laws.steps b s vb) (laws.in_order a b s va vb ab)
