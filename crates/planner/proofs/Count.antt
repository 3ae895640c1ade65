-- The number of stations as one place changes.
use Rattle.std.proofs.Common.{◌≡◌, ℕ, zero, suc, ◌+◌, ◌<◌, true, false, cond, List, [], ◌∷◌, length, get_or, set, is_some, Some, None, Option, ap, arith}
use Rattle.mapfile.specs.declared.counts.Counts.{Counts}
use Rattle.planner.specs.declared.planner.Planner.{Planner}
use Rattle.planner.specs.Stations.{stationed}

abbrev one : Option ℕ → ℕ
one s = cond (is_some s) 1 0

pub stationed_set : (ss : List (Option ℕ)) (i : ℕ) (s : Option ℕ) → i < length ss → stationed (set ss i s) + one (get_or ss i None) ≡ stationed ss + one s
stationed_set [] i s h = absurd (omega arith)
stationed_set (x ∷ ss) zero s h = omega arith
stationed_set (x ∷ ss) (suc i) s h = let r = stationed_set ss i s (omega arith) in omega (arith, r)

pub lifted : (ss : List (Option ℕ)) (i n : ℕ) → i < length ss → n ≡ stationed ss → is_some (get_or ss i None) ≡ true → n ≡ stationed (set ss i None) + 1
lifted ss i n h e g = let r : stationed (set ss i None) + cond true 1 0 ≡ stationed ss + 0 = rw g at (stationed_set ss i None h) in omega (arith, r)

pub replaced : (ss : List (Option ℕ)) (i n u : ℕ) → i < length ss → n ≡ stationed ss → is_some (get_or ss i None) ≡ true → n ≡ stationed (set ss i (Some u))
replaced ss i n u h e g = let r : stationed (set ss i (Some u)) + cond true 1 0 ≡ stationed ss + 1 = rw g at (stationed_set ss i (Some u) h) in omega (arith, r)

pub placed : (ss : List (Option ℕ)) (i n u : ℕ) → i < length ss → n ≡ stationed ss → is_some (get_or ss i None) ≡ false → n + 1 ≡ stationed (set ss i (Some u))
placed ss i n u h e g = let r : stationed (set ss i (Some u)) + cond false 1 0 ≡ stationed ss + 1 = rw g at (stationed_set ss i (Some u) h) in omega (arith, r)

-- a place of the map has an entry in the table of stations
pub in_table : (p : Planner) (n : Counts) (i place : ℕ) → n ≡ p.map.counts → (i ≡ place) × (place < n.places) → i < length p.stations
in_table p n i place e h = omega (arith, ap (λ m. m.places) e, h, p.map.sized, p.sized)
