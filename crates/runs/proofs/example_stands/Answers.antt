use Rattle.std.proofs.Common.{refl}
use Rattle.runs.proofs.Computed.{lawful_listed}
use Rattle.runs.proofs.example_stands.Goals as goal
use Rattle.runs.specs.Nets.{Lawful}
use Rattle.runs.specs.Worked.{stations, net_of_five, sheet_of_five}
use Rattle.structures.proofs.Tests.{within_from_test}
use Rattle.structures.specs.Worked.{five}

pub returns : goal.returns
returns c =
    let lawful : Lawful net_of_five = lawful_listed five net_of_five.step stations (within_from_test five refl) refl in
    record { lawful = lawful; tested = c.tested_stands.ensures net_of_five lawful sheet_of_five refl }
