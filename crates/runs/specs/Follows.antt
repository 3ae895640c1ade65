-- Following links: one, and those of one place one after the other.
use Rattle.std.specs.Prelude.{◌≡◌, ℕ, ◌<◌, ◌≤◌, Bool, if◌then◌else◌, not, ◌||◌, ◌≢◌, ◌⊎◌}
use Rattle.kinds.specs.Meaning.{Meaning}
use Rattle.runs.specs.Labels.{Sheet, arrived, Meets}
use Rattle.runs.specs.Nets.{Net, Open}
use Rattle.runs.specs.Sweeps.{Lowered}
use Rattle.runs.specs.declared.label.Label.{Label}
use Rattle.structures.specs.Graphs.{Graph}

module _ {Cost Step : Type 0} (m : Meaning Cost Step) where
  -- The label is unreached, or holds more than the cost.
  abbrev pub lowers : Cost → Label Cost → Bool
  lowers cost label = not label.reached || m.less cost label.cost

  -- The label after an arrival at that cost by link k.
  abbrev pub lowered : Cost → ℕ → Label Cost → Label Cost
  lowered cost k label = if lowers cost label then arrived cost k else label

  module _ (net : Net Step) where
    -- From L to M link k was followed, from the cost c at its tail.
    pub record Followed (c : Cost) (k : ℕ) (L M : Sheet Cost) : Type 0 where
      pub head : M (net.graph.head k) ≡ lowered (m.after c (net.step k)) k (L (net.graph.head k))
      pub others : (w : ℕ) → w ≢ net.graph.head k → M w ≡ L w

    -- From L to M the links at the positions from first on, as far as next, of p's part were followed.
    pub record Following (part : ℕ → ℕ) (first : ℕ) (L : Sheet Cost) (p next : ℕ) (M : Sheet Cost) : Type 0 where
      pub met : (i : ℕ) → first ≤ i → i < next → Meets m net M (L p).cost (part i)
      pub change : (w : ℕ) → (M w ≡ L w) ⊎ Lowered m net L p M w

-- At the positions from first to last stand the open links out of p, and no others.
pub record Part (g : Graph) (part : ℕ → ℕ) (first last p : ℕ) : Type 0 where
  pub leaving : (i : ℕ) → first ≤ i → i < last → Open g (part i) × (g.tail (part i) ≡ p)
  pub all_leaving : (k : ℕ) → Open g k → g.tail k ≡ p → (i : ℕ) × (first ≤ i) × (i < last) × (part i ≡ k)
