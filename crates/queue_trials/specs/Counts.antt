-- A small kind: costs that are pairs of numbers.
use Rattle.std.specs.Prelude.{ℕ, ◌+◌, ◌/◌, ◌%◌, ◌≤◌, if◌then◌else◌, ◌&&◌, ◌||◌, ◌==◌, nat_le, nat_lt}
use Rattle.kinds.specs.Meaning.{Meaning}

abbrev pub stages : Meaning (ℕ × ℕ) ℕ
stages = record {
  is_cost = λ c. (c.0 ≤ 4294967295) × (c.1 ≤ 4294967295);
  start = λ t. (t / 4, t % 4);
  step = λ f. f.link.run;
  after = λ c s. if nat_le (c.0 + s) 4294967295 then (c.0 + s, c.1) else (4294967295, 4294967295);
  less = λ a b. nat_lt a.0 b.0 || a.0 == b.0 && nat_lt a.1 b.1;
}
