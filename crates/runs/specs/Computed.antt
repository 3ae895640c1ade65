-- Tests by which a sheet is seen to hold least costs, for examples.
use Rattle.std.specs.Prelude.{ℕ, zero, suc, Bool, true, false, not, ◌&&◌, ◌||◌, List, length, Some, None, Option, ◌==◌, nat_le, nat_lt, slice_index_or}
use Rattle.kinds.specs.Meaning.{Meaning}
use Rattle.runs.specs.Labels.{Sheet}
use Rattle.runs.specs.Nets.{Net}
use Rattle.runs.specs.declared.label.Label.{Label}
use Rattle.structures.specs.Computed.{each}

abbrev pub no_link : Option ℕ → Bool
no_link None = true
no_link (Some k) = false

module _ {Cost Step : Type 0} (m : Meaning Cost Step) where
  abbrev pub no_more : Cost → Cost → Bool
  no_more a b = not (m.less b a)

  abbrev pub same_cost : Cost → Cost → Bool
  same_cost a b = no_more a b && no_more b a

  -- The label is met by its place's station, if there is one.
  abbrev pub station_met : Option ℕ → Label Cost → Bool
  station_met None label = true
  station_met (Some turnout) label = label.reached && no_more label.cost (m.start turnout)

  -- The cost is the station's start.
  abbrev pub starts_at : Option ℕ → Cost → Bool
  starts_at None cost = false
  starts_at (Some turnout) cost = same_cost cost (m.start turnout)

  abbrev pub is_blank : Label Cost → Bool
  is_blank label = same_cost label.cost (m.start 0) && no_link label.link

  module _ (net : Net Step) (L : Sheet Cost) where
    abbrev pub link_met : ℕ → Bool
    link_met k =
        not (net.graph.usable k && (L (net.graph.tail k)).reached)
        || ((L (net.graph.head k)).reached && no_more (L (net.graph.head k)).cost (m.after (L (net.graph.tail k)).cost (net.step k)))

    abbrev pub walks_on : (ℕ → Bool) → ℕ → Option ℕ → Bool
    walks_on on p None = starts_at (net.station p) (L p).cost
    walks_on on p (Some k) =
        (nat_lt k net.graph.links && net.graph.usable k)
        && ((net.graph.head k == p && same_cost (L p).cost (m.after (L (net.graph.tail k)).cost (net.step k))) && on (net.graph.tail k))

    -- The walk back from p ends after fewer links than the bound, each label as its arriving link gives it.
    abbrev pub walks : ℕ → ℕ → Bool
    walks zero p = false
    walks (suc bound) p = (L p).reached && walks_on (walks bound) p (L p).link

    -- Stations and links are met, reached labels have their walks, and the others are blank.
    abbrev pub balanced : Bool
    balanced =
        (each (λ p. station_met (net.station p) (L p)) net.graph.places && each link_met net.graph.links)
        && (each (λ p. not (L p).reached || walks net.graph.places p) net.graph.places
        && each (λ p. (L p).reached || is_blank (L p)) net.graph.places)

-- Stations listed by place: none past the places, and turnouts that a call can give.
abbrev pub turnout_fits : Option ℕ → Bool
turnout_fits None = true
turnout_fits (Some turnout) = nat_le turnout 4294967295

abbrev pub stations_fit : ℕ → List (Option ℕ) → Bool
stations_fit places stations = nat_le (length stations) places && each (λ p. turnout_fits (slice_index_or stations p None)) places
