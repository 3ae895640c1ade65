-- A ring, of the code: the members of a structure, its first member, and where each of them stands.
use Rattle.std.specs.Prelude.{ℕ, List, length}
use Rattle.network.specs.Packed.{graph_of}
use Rattle.division.specs.declared.lowest.Ring.{Ring}
use Rattle.division.specs.Lists.{at}
use Rattle.division.specs.Twinned.{Ringed, ReachFrom}

abbrev pub IsRing : Ring → Type 0
IsRing ring = Ringed (graph_of ring.net.now) ring.u (at ring.members.now) (length ring.members.now) (at ring.spots.now)

-- The members from position q on have their reach.
abbrev pub ReachesFrom : Ring → List ℕ → ℕ → Type 0
ReachesFrom ring far q = ReachFrom (graph_of ring.net.now) ring.u (at ring.members.now) (length ring.members.now) (at ring.spots.now) (at far) q
