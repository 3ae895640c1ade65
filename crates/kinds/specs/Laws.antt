-- What every kind of cost owes, over all its costs and steps.
use Rattle.std.specs.Prelude.{◌≡◌, ℕ, ◌≤◌, true, false}
use Rattle.kinds.specs.Meaning.{Meaning}

pub record Laws {Cost Step : Type 0} (m : Meaning Cost Step) : Type 0 where
  -- the order is total: of two costs at most one is less, and two of which none is less are the same
  pub one_way : (a b : Cost) → m.less a b ≡ true → m.less b a ≡ false
  pub same : (a b : Cost) → m.less a b ≡ false → m.less b a ≡ false → a ≡ b
  pub chain : (a b c : Cost) → m.less a b ≡ true → m.less b c ≡ true → m.less a c ≡ true
  -- a step never lowers a cost
  pub no_lower : (a : Cost) (s : Step) → m.is_cost a → m.less (m.after a s) a ≡ false
  -- of two costs, the one not greater is not greater after the same step
  pub in_order : (a b : Cost) (s : Step) → m.is_cost a → m.is_cost b → m.less b a ≡ false → m.less (m.after b s) (m.after a s) ≡ false
  -- starts and steps give costs
  pub starts : (turnout : ℕ) → turnout ≤ 4294967295 → m.is_cost (m.start turnout)
  pub steps : (a : Cost) (s : Step) → m.is_cost a → m.is_cost (m.after a s)
