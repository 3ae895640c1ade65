-- Walks back: there is one at most, it is short, and on a balanced sheet it is a run.
use Rattle.std.proofs.Common.{◌≡◌, ℕ, ◌<◌, true, List, [], ◌∷◌, map, length, Some, None, Option, refl, ap, inl, inr, arith}
use lib.ListN.{length-map}
use Rattle.kinds.specs.Laws.{Laws}
use Rattle.kinds.specs.Meaning.{Meaning}
use Rattle.runs.specs.Labels.{Sheet, Meets}
use Rattle.runs.specs.Nets.{Net, Lawful}
use Rattle.runs.specs.Runs.{Run, start, follow, Everywhere}
use Rattle.runs.specs.Theorems.{Balanced}
use Rattle.runs.specs.Traces.{WalkBack, ends, back, Trace, origin, onward, Traced, Found}
use Rattle.runs.proofs.Sweeps.{trace_reached}
use Rattle.structures.proofs.Lists.{length_once, below, length_below, among_below}
use Rattle.structures.specs.Graphs.{Graph}
use Rattle.structures.specs.Rivals.{Among, Once}

-- Something is not nothing, and is one thing.
some_none : (o : Option ℕ) (k : ℕ) → o ≡ Some k → o ≡ None → ⊥
some_none o k s n = let z : ◌≡◌ {A = ℕ} 0 1 = cc in omega arith

some_one : (o : Option ℕ) (j k : ℕ) → o ≡ Some j → o ≡ Some k → j ≡ k
some_one o j k a b = cc

module _ {Cost : Type 0} {g : Graph} {L : Sheet Cost} where
  pub one_walk : {links others : List ℕ} {p : ℕ} → WalkBack g L links p → WalkBack g L others p → links ≡ others
  one_walk (ends r n) (ends s o) = refl
  one_walk {p = p} (ends r n) (back k s l h w) = absurd (some_none (L p).link k l n)
  one_walk {p = p} (back k r l h w) (ends s n) = absurd (some_none (L p).link k l n)
  one_walk {p = p} (back {links = rest} k r l h w) (back {links = more} j s i e v) =
      let same : j ≡ k = some_one (L p).link j k i l in
      let tails : rest ≡ more = one_walk w (rw same at v) in
      rw (same, tails) refl

  -- One step of the walk.
  pub walk_reached : {links : List ℕ} {p : ℕ} → WalkBack g L links p → (L p).reached ≡ true
  walk_reached (ends r n) = r
  walk_reached (back k r l h w) = r

  pub walk_ends : {links : List ℕ} {p : ℕ} → WalkBack g L links p → (L p).link ≡ None → links ≡ []
  walk_ends w n = one_walk w (ends (walk_reached w) n)

  pub walk_on :
      {links : List ℕ} {p : ℕ} (k : ℕ) → WalkBack g L links p → (L p).link ≡ Some k
      → (rest : List ℕ) × (links ≡ k ∷ rest) × (g.head k ≡ p) × WalkBack g L rest (g.tail k)
  walk_on {p = p} k (ends r n) l = absurd (some_none (L p).link k l n)
  walk_on {p = p} k (back {links = rest} j r i h w) l =
      let same : j ≡ k = some_one (L p).link j k i l in
      (rest, rw same refl, rw same at h, rw same at w)

  -- A walk back through x goes on as a shorter walk back from x.
  pub walk_from :
      {links : List ℕ} {p : ℕ} (x : ℕ) → WalkBack g L links p → Among x (map g.tail links)
      → (rest : List ℕ) × WalkBack g L rest x × (length rest < length links)
  walk_from x (ends r n) a = absurd a
  walk_from x (back {links = rest} k r l h w) (inl e) = (rest, rw e w, omega arith)
  walk_from x (back k r l h w) (inr a) = let s = walk_from x w a in (s.0, s.1, omega (arith, s.2))

  -- So it comes to no place twice.
  pub walk_once : {links : List ℕ} {p : ℕ} → WalkBack g L links p → Once (p ∷ map g.tail links)
  walk_once (ends r n) = (λ a. a, tt)
  walk_once {p = p} (back k r l h w) =
      let whole = back k r l h w in
      (λ a. let s = walk_from p whole a in omega (arith, ap length (one_walk whole s.1), s.2), walk_once w)

module _ {Cost Step : Type 0} {m : Meaning Cost Step} {net : Net Step} (lawful : Lawful net) {L : Sheet Cost} where
  pub trace_walk : {links : List ℕ} {p : ℕ} → Trace m net L links p → WalkBack net.graph L links p
  trace_walk (origin turnout r l s c) = ends r l
  trace_walk (onward k r l o h i t) = back k r l h (trace_walk t)

  pub trace_places : {links : List ℕ} {p : ℕ} → Trace m net L links p → (x : ℕ) → Among x (map net.graph.tail links) → x < net.graph.places
  trace_places (origin turnout r l s c) x a = absurd a
  trace_places (onward k r l o h i t) x (inl e) = rw e (lawful.within k o.known o.usable).0
  trace_places (onward k r l o h i t) x (inr a) = trace_places t x a

  pub trace_short : {links : List ℕ} {p : ℕ} → p < net.graph.places → Trace m net L links p → length links < net.graph.places
  trace_short {links} {p} lt t =
      let n : ℕ = net.graph.places in
      let within : (x : ℕ) → Among x (p ∷ map net.graph.tail links) → Among x (below n) =
      λ x a. among_below n x (elim a [ inl e ↦ rw e lt | inr b ↦ trace_places t x b ]) in
      let fits = length_once (p ∷ map net.graph.tail links) (below n) (walk_once (trace_walk t)) within in
      omega (arith, fits, length-map links net.graph.tail, length_below n)

module _ {Cost Step : Type 0} {m : Meaning Cost Step} (laws : Laws m) {net : Net Step} (lawful : Lawful net) {L : Sheet Cost} (balanced : Balanced m net Everywhere L) where
  pub trace_run : {links : List ℕ} {p : ℕ} → Trace m net L links p → Run m net Everywhere links p (L p).cost
  trace_run (origin turnout r l s c) = start turnout s c
  trace_run {p = p} (onward k r l o h i t) =
      let after : Cost = m.after (L (net.graph.tail k)).cost (net.step k) in
      let meets : Meets m net L (L (net.graph.tail k)).cost k = balanced.met k o tt (trace_reached t) in
      follow k (L (net.graph.tail k)).cost o h tt (laws.same (L p).cost after i (rw h at meets.no_more)) (trace_run t)

  pub found : Traced m net L → (p : ℕ) → p < net.graph.places → (L p).reached ≡ true → Found m net L p
  found traced p lt r =
      let t = traced p lt r in
      record { links = t.0; walk = trace_walk lawful t.1; short = trace_short lawful lt t.1; run = trace_run t.1 }
