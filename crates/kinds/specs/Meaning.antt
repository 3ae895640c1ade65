-- What a kind of cost means.
use Rattle.std.specs.Prelude.{ℕ, Bool}
use Rattle.kinds.specs.declared.facts.LinkFacts.{LinkFacts}

pub record Meaning (Cost Step : Type 0) : Type 1 where
  -- is a value of the cost type
  pub is_cost : Cost → Type 0
  -- the cost of setting off after a turnout
  pub start : ℕ → Cost
  -- a link's step
  pub step : LinkFacts → Step
  -- the cost after a step
  pub after : Cost → Step → Cost
  -- the order of costs
  pub less : Cost → Cost → Bool
