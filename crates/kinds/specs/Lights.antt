-- Signals: the next green moment, and how it grows with the moment.
use Rattle.std.proofs.Math.Arith.{digits_mod}
use Rattle.std.specs.Prelude.{◌≡◌, ℕ, ◌+◌, ◌-◌, ◌*◌, ◌/◌, ◌%◌, ◌<◌, ◌≤◌, nat_lt}
use Rattle.std.proofs.Common.{⊎_elim, ◌∙◌, ap, div-add-mod', mod-lt, add-mul, add-zero, arith}
use Rattle.kinds.specs.Green.{phase_of, Green, Begun, NextGreen, next_green}
use Rattle.mapfile.specs.declared.signal.Signal.{Signal}
use Rattle.std.proofs.lemmas.Bool.{cases_lt, cond_both, ltb-true, ltb-false}

-- how many cycles, a cycle ahead, lie before x
abbrev pub laps : Signal → ℕ → ℕ
laps s x = (x + (s.cycle - s.start)) / s.cycle

module _ (s : Signal) where
  pub phase_below : (x : ℕ) → phase_of s x < s.cycle
  phase_below x = let h : 0 < s.cycle = omega (arith, s.lawful.0) in mod-lt (x + (s.cycle - s.start)) h

  pub phase_splits : (x : ℕ) → laps s x * s.cycle + phase_of s x ≡ x + (s.cycle - s.start)
  phase_splits x = div-add-mod' (x + (s.cycle - s.start)) s.cycle

  -- a moment that many cycles and r ahead has the phase r
  pub phase_from : (x q r : ℕ) → x + (s.cycle - s.start) ≡ q * s.cycle + r → r < s.cycle → phase_of s x ≡ r
  phase_from x q r e h = ap (λ n. n % s.cycle) e ∙ digits_mod q h

  pub green_is_begun : (x : ℕ) → (Green s x → Begun s x) × (Begun s x → Green s x)
  green_is_begun x = (there, back)
    where
      there : Green s x → Begun s x
      there g =
          let e = phase_splits x in let w = s.lawful.2 in (laps s x, phase_of s x, g, omega arith)

      back : Begun s x → Green s x
      back b =
          let q = b.0 in let d = b.1 in let h : d < s.length = b.2 in let e = b.3 in let w = s.lawful in
          let k : x + (s.cycle - s.start) ≡ q * s.cycle + d = omega arith in
          let j : d < s.cycle = omega arith in
          rw (phase_from x q d k j) h

  -- within the same lap the phase grows with the moment
  pub phase_on : (x d : ℕ) → phase_of s x + d < s.cycle → phase_of s (x + d) ≡ phase_of s x + d
  phase_on x d h = let e = phase_splits x in phase_from (x + d) (laps s x) (phase_of s x + d) (omega arith) h

  -- the rest of the lap leads to the next start
  pub phase_over : (x : ℕ) → phase_of s (x + (s.cycle - phase_of s x)) ≡ 0
  phase_over x =
      let e = phase_splits x in let b = phase_below x in let k = add-mul (laps s x) 1 s.cycle in
      let w = s.lawful.0 in
      phase_from (x + (s.cycle - phase_of s x)) (laps s x + 1) 0 (omega arith) (omega arith)

  -- a green moment is its own next green
  now_green : (x : ℕ) → Green s x → NextGreen s x (x + 0)
  now_green x g =
      rw add-zero (record { green = g; not_before = omega arith; none_between = λ z h k _. omega arith })

  -- from the red, the next start is the next green: until then the phase grows from one that is not below the green length
  later_green : (x : ℕ) → s.length ≤ phase_of s x → NextGreen s x (x + (s.cycle - phase_of s x))
  later_green x red =
      record {
        green = let w = s.lawful.3 in rw (phase_over x) w;
        not_before = omega arith;
        none_between = between;
      }
    where
      between : (z : ℕ) → x ≤ z → z < x + (s.cycle - phase_of s x) → Green s z → ⊥
      between z h k g =
          let b = phase_below x in
          let e : z ≡ x + (z - x) = omega arith in
          let p = phase_on x (z - x) (omega arith) in
          let g' : Green s (x + (z - x)) = rw e at g in
          omega arith

  pub next_green_is_next : (x : ℕ) → NextGreen s x (next_green s x)
  next_green_is_next x =
      cond_both (nat_lt (phase_of s x) s.length) 0 (s.cycle - phase_of s x) (λ w. NextGreen s x (x + w))
      (λ e. now_green x (ltb-true (phase_of s x) s.length e))
      (λ e. later_green x (ltb-false (phase_of s x) s.length e))

-- From the relation alone: the later of two moments has no earlier next green, since the next green of the later one is a green
-- moment not before the earlier one.
pub next_in_order : {s : Signal} {x y x' y' : ℕ} → NextGreen s x y → NextGreen s x' y' → x ≤ x' → y ≤ y'
next_in_order {s} {x} {y} {x'} {y'} n n' h =
    ⊎_elim
    (λ (k : y' < y). absurd (n.none_between y' (omega arith) k n'.green))
    (λ (k : y ≤ y'). k)
    (cases_lt y' y)

-- a moment has one next green
pub next_is_one : {s : Signal} {x y y' : ℕ} → NextGreen s x y → NextGreen s x y' → y ≡ y'
next_is_one {s} {x} {y} {y'} n n' =
    let h : x ≤ x = omega arith in let a = next_in_order n n' h in let b = next_in_order n' n h in omega arith
