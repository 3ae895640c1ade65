-- Two links, or two signals, with the same fields are the same: the rules in their types say nothing more.
use Rattle.std.proofs.Common.{◌≡◌, ℕ, ◌≤◌, Option, ap, ◌∙◌, subst}
use denote.Struct.Props.{props}
use Rattle.mapfile.specs.declared.link.Link.{Link, classed-type}
use Rattle.mapfile.specs.declared.signal.Signal.{Signal, lawful-type}

abbrev signal : (c s l : ℕ) → lawful-type c s l → Signal
signal c s l h = record { cycle = c; start = s; length = l; lawful = h }

one_law : (c s l : ℕ) (h k : lawful-type c s l) → signal c s l h ≡ signal c s l k
one_law c s l h k = let p : IsProp (lawful-type c s l) = hlevel props in ap (λ (x : lawful-type c s l). signal c s l x) (p h k)

pub same_signal : (a b : Signal) → a.cycle ≡ b.cycle → a.start ≡ b.start → a.length ≡ b.length → a ≡ b
same_signal a b e f g =
    subst (λ (c : ℕ). (h : lawful-type c b.start b.length) → a ≡ signal c b.start b.length h) e
    (subst (λ (s : ℕ). (h : lawful-type a.cycle s b.length) → a ≡ signal a.cycle s b.length h) f
    (subst (λ (l : ℕ). (h : lawful-type a.cycle a.start l) → a ≡ signal a.cycle a.start l h) g
    (one_law a.cycle a.start a.length a.lawful)))
    b.lawful

abbrev link : (f t r c : ℕ) (s : Option ℕ) (g : ℕ) → classed-type f t r c s g → Link
link f t r c s g h = record { from = f; to = t; run = r; class = c; signal = s; grade = g; classed = h }

one_class : (f t r c : ℕ) (s : Option ℕ) (g : ℕ) (h k : classed-type f t r c s g) → link f t r c s g h ≡ link f t r c s g k
one_class f t r c s g h k =
    let p : IsProp (classed-type f t r c s g) = hlevel props in ap (λ (x : classed-type f t r c s g). link f t r c s g x) (p h k)

pub same_link : (a b : Link) → a.from ≡ b.from → a.to ≡ b.to → a.run ≡ b.run → a.class ≡ b.class → a.signal ≡ b.signal → a.grade ≡ b.grade → a ≡ b
same_link a b e f g h i j =
    subst (λ (c : ℕ). (k : c ≤ 15) → a ≡ link b.from b.to b.run c b.signal b.grade k) h
    (λ k. one_class a.from a.to a.run a.class a.signal a.grade a.classed k ∙ rest k)
    b.classed
  where
    rest : (k : a.class ≤ 15) → link a.from a.to a.run a.class a.signal a.grade k ≡ link b.from b.to b.run a.class b.signal b.grade k
    rest k = cc
