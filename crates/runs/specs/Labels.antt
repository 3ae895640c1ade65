-- Labels: what a sheet says of each place.
use Rattle.std.specs.Prelude.{◌≡◌, ℕ, true, false, List, Some, None, Option, slice_index_or}
use Rattle.kinds.specs.Meaning.{Meaning}
use Rattle.runs.specs.Nets.{Net}
use Rattle.runs.specs.declared.label.Label.{Label}

-- A sheet, by place.
abbrev pub Sheet : Type 0 → Type 0
Sheet Cost = ℕ → Label Cost

module _ {Cost Step : Type 0} (m : Meaning Cost Step) where
  -- no run reaches the place
  abbrev pub unreached : Label Cost
  unreached = record { reached = false; cost = m.start 0; link = None }

  -- a station's own start
  abbrev pub started : ℕ → Label Cost
  started turnout = record { reached = true; cost = m.start turnout; link = None }

  -- the label before any link is followed
  abbrev pub first_label : Option ℕ → Label Cost
  first_label None = unreached
  first_label (Some turnout) = started turnout

  -- a list of labels, read as a sheet: past its end nothing is reached
  abbrev pub sheet : List (Label Cost) → Sheet Cost
  sheet labels p = slice_index_or labels p unreached

-- reached at a cost by a link
abbrev pub arrived : {Cost : Type 0} → Cost → ℕ → Label Cost
arrived cost k = record { reached = true; cost = cost; link = Some k }

-- Link k is met from the cost c: its head is reached, at no more than the cost after the link's step.
pub record Meets {Cost Step : Type 0} (m : Meaning Cost Step) (net : Net Step) (L : Sheet Cost) (c : Cost) (k : ℕ) : Type 0 where
  pub reached : (L (net.graph.head k)).reached ≡ true
  pub no_more : m.less (m.after c (net.step k)) (L (net.graph.head k)).cost ≡ false
