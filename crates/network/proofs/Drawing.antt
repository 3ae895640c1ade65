-- The first links of a graph are drawn, by number.
use Rattle.std.proofs.Common.{◌≡◌, ℕ, ◌+◌, ◌<◌, ◌≤◌, ◌≢◌, List, length, slice_set, take, false, ⊎_elim, arith, length-set, get_or-set_other, get_or-set_same, get_or-take}
use Rattle.std.proofs.lemmas.Bool.{cases_lt}
use Rattle.structures.specs.Graphs.{Graph}
use Rattle.network.specs.declared.ends.DrawnLink.{DrawnLink}
use Rattle.network.specs.declared.ends.Ends.{Ends}
use Rattle.network.specs.Within.{drawn_at}

-- a link is drawn as link k of a graph
pub record Draws (g : Graph) (k : ℕ) (link : DrawnLink) : Type 0 where
  pub is_open : link.is_open ≡ g.usable k
  pub tail : link.tail ≡ g.tail k
  pub head : link.head ≡ g.head k

pub record Sketch (g : Graph) (n : ℕ) (drawn : List DrawnLink) : Type 0 where
  pub long : length drawn ≡ 4096
  pub each : (k : ℕ) → k < n → Draws g k (drawn_at drawn k)

pub sketch_none : (g : Graph) (drawn : List DrawnLink) → length drawn ≡ 4096 → Sketch g 0 drawn
sketch_none g drawn long = record { long = long; each = λ k h. absurd (omega arith) }

pub sketch_more : (g : Graph) (n : ℕ) (drawn : List DrawnLink) (link : DrawnLink) → Sketch g n drawn → n < 4096 → Draws g n link → Sketch g (n + 1) (slice_set drawn n link)
sketch_more g n drawn link s few d = record { long = simp length-set s.long; each = each }
  where
    each : (k : ℕ) → k < n + 1 → Draws g k (drawn_at (slice_set drawn n link) k)
    each k h =
        ⊎_elim
        (λ (earlier : k < n). let ne : k ≢ n = λ e. omega arith in rw get_or-set_other (s.each k earlier))
        (λ (last : n ≤ k). let same : k ≡ n = omega arith in let l : n < length drawn = omega (arith, s.long, few) in rw (same, get_or-set_same drawn n link _ l) d)
        (cases_lt k n)

-- a link of the part of the table that the links fill
pub drawn_front : (e : Ends) (k : ℕ) → k < e.links → drawn_at (take e.links e.drawn) k ≡ drawn_at e.drawn k
drawn_front e k lt = get_or-take e.links e.drawn k (record { tail = 0; head = 0; is_open = false }) lt
