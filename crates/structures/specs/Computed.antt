-- Complete structures and triggers as they are computed, for examples. `held`, `trigger` and `triggers` stay shut unless they are unfolded by name.
use Rattle.std.specs.Prelude.{ℕ, zero, suc, ◌+◌, Bool, true, false, cond, not, ◌&&◌, ◌||◌, List, [], map, ◌==◌, nat_eq, slice_index_or}
use Rattle.std.specs.List.{range_with_len}
use Rattle.structures.specs.Graphs.{Graph}

-- Over the numbers below n: each passes, some passes, how many pass, the lowest that passes (n if none does).
abbrev pub each : (ℕ → Bool) → ℕ → Bool
each P zero = true
each P (suc n) = P n && each P n

abbrev pub some : (ℕ → Bool) → ℕ → Bool
some P zero = false
some P (suc n) = P n || some P n

abbrev pub count : (ℕ → Bool) → ℕ → ℕ
count P zero = 0
count P (suc n) = cond (P n) 1 0 + count P n

abbrev pub lowest : (ℕ → Bool) → ℕ → ℕ
lowest P zero = zero
lowest P (suc n) = cond (P zero) zero (suc (lowest (λ k. P (suc k)) n))

-- Is link k an open link to w?
abbrev pub leads : Graph → ℕ → ℕ → Bool
leads g w k = g.usable k && g.head k == w

-- Does w have an approach, and do all its approaches pass the test?
abbrev pub fed : Graph → (ℕ → Bool) → ℕ → Bool
fed g S w = some (leads g w) g.links && each (λ k. not (leads g w k) || S (g.tail k)) g.links

abbrev pub table : (ℕ → Bool) → ℕ → List Bool
table P n = map P (range_with_len 0 n)

abbrev pub listed : List Bool → ℕ → Bool
listed row w = slice_index_or row w false

-- v and the places fed by a row of places.
abbrev pub next : Graph → ℕ → List Bool → List Bool
next g v row = table (λ w. (w == v) || fed g (listed row) w) g.places

-- The growth from v after a number of rounds.
abbrev pub grown : Graph → ℕ → ℕ → List Bool
grown g v zero = table (λ w. nat_eq w v) g.places
grown g v (suc k) = next g v (grown g v k)

-- The complete structures of all places, each after as many rounds as there are places.
abbrev pub all_grown : Graph → List (List Bool)
all_grown g = map (λ v. grown g v g.places) (range_with_len 0 g.places)

abbrev pub held_in : List (List Bool) → ℕ → ℕ → Bool
held_in rows v w = listed (slice_index_or rows v []) w

-- Is w in the complete structure of v?
unfoldable pub held : Graph → ℕ → ℕ → Bool
held g = held_in (all_grown g)

-- Does t hold every place that holds it?
abbrev pub topmost : ℕ → (ℕ → ℕ → Bool) → ℕ → Bool
topmost n holds t = each (λ x. not (holds x t) || holds t x) n

abbrev pub trigger_in : ℕ → (ℕ → ℕ → Bool) → ℕ → ℕ
trigger_in n holds p = lowest (λ t. holds t p && topmost n holds t) n

abbrev pub triggers_in : ℕ → (ℕ → ℕ → Bool) → ℕ
triggers_in n holds = count (λ p. nat_eq (trigger_in n holds p) p) n

-- The trigger of p's maximal structure.
unfoldable pub trigger : Graph → ℕ → ℕ
trigger g p = trigger_in g.places (held_in (all_grown g)) p

-- How many places are their own trigger.
unfoldable pub triggers : Graph → ℕ
triggers g = triggers_in g.places (held_in (all_grown g))
