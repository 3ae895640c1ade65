use Rattle.std.proofs.Common.{refl}
use Rattle.structures.specs.Computed.{held, trigger, triggers}
use Rattle.structures.specs.Worked.{five, five_closed, pair}
use Rattle.structures.proofs.Tests.{within_from_test}
use Rattle.structures.proofs.example_stands.Goals as goal

pub returns : goal.returns
unfolding held trigger triggers
returns c = record {
  five_within = within_from_test five refl;
  closed_within = within_from_test five_closed refl;
  pair_within = within_from_test pair refl;
  five_members = refl;
  five_triggers = refl;
  five_count = refl;
  closed_members = refl;
  closed_triggers = refl;
  closed_count = refl;
  pair_triggers = refl;
  pair_count = refl;
}
