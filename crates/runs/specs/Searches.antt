-- The search: which sheets the first sweep and the takes lead to.
use Rattle.std.specs.Prelude.{◌≡◌, ℕ, zero, suc, ◌<◌, true}
use Rattle.kinds.specs.Meaning.{Meaning}
use Rattle.runs.specs.Labels.{Sheet, first_label}
use Rattle.runs.specs.Nets.{Net}
use Rattle.runs.specs.Runs.{Everywhere}
use Rattle.runs.specs.Sweeps.{Swept}
use Rattle.runs.specs.Takes.{Cheapest, Listed}

module _ {Cost Step : Type 0} (m : Meaning Cost Step) (net : Net Step) where
  -- From L to M the place p was visited: swept if it is reached and one of those meant, and else passed by.
  pub data Visited (Of : ℕ → Type 0) (p : ℕ) (L M : Sheet Cost) : Type 0 where
    sweep : Of p → (L p).reached ≡ true → Swept m net L p M → Visited Of p L M
    pass : ((L p).reached ≡ true → Of p → ⊥) → M ≡ L → Visited Of p L M

  -- From L to M the places at the first n positions of the order were visited, one after the other.
  abbrev pub Visits : (Of : ℕ → Type 0) (order : ℕ → ℕ) (L : Sheet Cost) (n : ℕ) (M : Sheet Cost) → Type 0
  Visits Of order L zero M = M ≡ L
  Visits Of order L (suc n) N = (M : Sheet Cost) × Visits Of order L n M × Visited Of (order n) M N

  -- `Search trig order count list takes L`: L is the sheet after so many takes, of the triggers that the list begins with.
  pub data Search (trig order : ℕ → ℕ) (count : ℕ) : (list : ℕ → ℕ) (takes : ℕ) (L : Sheet Cost) → Type 0 where
    -- the stations have their starts, and all reached members are swept in their order
    first :
        {list : ℕ → ℕ} {M : Sheet Cost} (L : Sheet Cost)
        → ((p : ℕ) → p < net.graph.places → L p ≡ first_label m (net.station p)) → Visits Everywhere order L count M
        → Search trig order count list zero M
    -- a cheapest trigger is taken: it is swept, and then the reached members of its structure in their order
    take :
        {next : ℕ → ℕ} {takes : ℕ} {N : Sheet Cost} (list : ℕ → ℕ) (t : ℕ) (L M : Sheet Cost)
        → Search trig order count list takes L → Cheapest m net trig (Listed list takes) L t
        → ((i : ℕ) → i < takes → next i ≡ list i) → next takes ≡ t
        → Swept m net L t M → Visits (λ w. trig w ≡ t) order M count N
        → Search trig order count next (suc takes) N
