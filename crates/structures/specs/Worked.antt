-- Small maps, worked out.
use Rattle.std.specs.Prelude.{◌≡◌, ℕ, Bool, true, false, not, List, [], ◌∷◌, map, ◌==◌, slice_index}
use Rattle.std.specs.List.{range_with_len}
use Rattle.structures.specs.Graphs.{Graph, Within}
use Rattle.structures.specs.Computed.{held, trigger, triggers}

-- Five places; 0 → 1, 0 → 2, 1 → 2, 2 → 3, 3 → 1, 3 → 4.
abbrev pub five : Graph
five = record {
  places = 5;
  links = 6;
  usable = λ _. true;
  tail = λ k. slice_index (0 ∷ 0 ∷ 1 ∷ 2 ∷ 3 ∷ 3 ∷ []) k;
  head = λ k. slice_index (1 ∷ 2 ∷ 2 ∷ 3 ∷ 1 ∷ 4 ∷ []) k;
}

-- The same with its first link closed.
abbrev pub five_closed : Graph
five_closed = record { places = 5; links = 6; usable = λ k. not (k == 0); tail = five.tail; head = five.head }

-- Two places linked both ways.
abbrev pub pair : Graph
pair = record {
  places = 2;
  links = 2;
  usable = λ _. true;
  tail = λ k. slice_index (0 ∷ 1 ∷ []) k;
  head = λ k. slice_index (1 ∷ 0 ∷ []) k;
}

-- For each place in order: is it in the complete structure of v; its trigger.
abbrev pub members : Graph → ℕ → List Bool
members g v = map (held g v) (range_with_len 0 g.places)

abbrev pub trigger_list : Graph → List ℕ
trigger_list g = map (trigger g) (range_with_len 0 g.places)

pub record WorkedExamples : Type 0 where
  pub five_within : Within five
  pub closed_within : Within five_closed
  pub pair_within : Within pair
  pub five_members : members five 2 ≡ false ∷ false ∷ true ∷ true ∷ true ∷ []
  pub five_triggers : trigger_list five ≡ 0 ∷ 1 ∷ 2 ∷ 2 ∷ 2 ∷ []
  pub five_count : triggers five ≡ 3
  pub closed_members : members five_closed 2 ≡ false ∷ true ∷ true ∷ true ∷ true ∷ []
  pub closed_triggers : trigger_list five_closed ≡ 0 ∷ 2 ∷ 2 ∷ 2 ∷ 2 ∷ []
  pub closed_count : triggers five_closed ≡ 2
  pub pair_triggers : trigger_list pair ≡ 0 ∷ 0 ∷ []
  pub pair_count : triggers pair ≡ 1
