-- A map with the steps of its links and the stations that stand at its places.
use Rattle.std.specs.Prelude.{◌≡◌, ℕ, ◌<◌, ◌≤◌, true, Some, Option}
use Rattle.structures.specs.Graphs.{Graph, Within}

pub record Net (Step : Type 0) : Type 0 where
  pub graph : Graph
  -- each link's step
  pub step : ℕ → Step
  -- the turnout of the station at a place, if one stands there
  pub station : ℕ → Option ℕ

-- Link k is open.
pub record Open (g : Graph) (k : ℕ) : Type 0 where
  pub known : k < g.links
  pub usable : g.usable k ≡ true

-- Open links lead from a place to a place, and stations stand at places, with turnouts that a call can give.
pub record Lawful {Step : Type 0} (net : Net Step) : Type 0 where
  pub within : Within net.graph
  pub station_place : (p turnout : ℕ) → net.station p ≡ Some turnout → p < net.graph.places
  pub turnouts : (p turnout : ℕ) → net.station p ≡ Some turnout → turnout ≤ 4294967295
