-- Running time: how many tenths of a second after the call.
use Rattle.std.specs.Prelude.{ℕ, ◌+◌, ◌≤◌, nat_lt}
use Rattle.kinds.specs.Cut.{top, cut}
use Rattle.kinds.specs.Delays.{elapsed_on}
use Rattle.kinds.specs.Meaning.{Meaning}

abbrev pub running_time : Meaning ℕ ℕ
running_time =
    record {
      is_cost = λ c. c ≤ top;
      start = λ turnout. turnout;
      step = λ facts. elapsed_on facts.link;
      after = λ c e. cut (c + e);
      less = nat_lt;
    }
