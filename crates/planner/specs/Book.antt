-- The call book: what a list of calls leaves, drawn from the map's counts and the calls' arguments alone.
use Rattle.std.specs.Prelude.{ℕ, Bool, true, false, if◌then◌else◌, not, ◌&&◌, List, replicate, is_some, Some, None, Ok, Err, fold, Option, Result, nat_le, nat_lt, slice_index_or, slice_set}
use Rattle.mapfile.specs.declared.counts.Counts.{Counts}
use Rattle.planner.specs.declared.change.Change.{Change}
use Rattle.planner.specs.declared.change.Change.TheVariants.{Place, Lift, Close, Reopen}
use Rattle.planner.specs.declared.change.Refusal.{Refusal}
use Rattle.planner.specs.declared.change.Refusal.TheVariants.{UnknownNumber, TurnoutTooLong, StationsFull, AlreadySo}
use Rattle.planner.specs.Stations.{stationed}

-- stations with their turnouts, by place; which links are closed; solved or not
pub record Book : Type 0 where
  pub stations : List (Option ℕ)
  pub closed : List Bool
  pub solved : Bool

-- without stations and closed links, unsolved; the lists are as long as the format's limits
abbrev pub blank : Book
blank = record { stations = replicate 2048 None; closed = replicate 4096 false; solved = false }

abbrev pub has_station : Book → ℕ → Bool
has_station b p = is_some (slice_index_or b.stations p None)

abbrev pub is_closed : Book → ℕ → Bool
is_closed b k = slice_index_or b.closed k false

-- the first of these that applies, tried downwards
abbrev pub refusal : Counts → Book → Change → Option Refusal
refusal n b (Place p t) =
    if nat_le n.places p then Some UnknownNumber else
    if nat_lt 36000 t then Some TurnoutTooLong else
    if not (has_station b p) && nat_le 64 (stationed b.stations) then Some StationsFull else None
refusal n b (Lift p) = if nat_le n.places p then Some UnknownNumber else if has_station b p then None else Some AlreadySo
refusal n b (Close k) = if nat_le n.links k then Some UnknownNumber else if is_closed b k then Some AlreadySo else None
refusal n b (Reopen k) = if nat_le n.links k then Some UnknownNumber else if is_closed b k then None else Some AlreadySo

-- the call that closes a link, or reopens it
abbrev pub closing : Bool → ℕ → Change
closing true k = Close k
closing false k = Reopen k

-- what an accepted change writes
abbrev pub written : Book → Change → Book
written b (Place p t) = record { stations = slice_set b.stations p (Some t); closed = b.closed; solved = false }
written b (Lift p) = record { stations = slice_set b.stations p None; closed = b.closed; solved = false }
written b (Close k) = record { stations = b.stations; closed = slice_set b.closed k true; solved = false }
written b (Reopen k) = record { stations = b.stations; closed = slice_set b.closed k false; solved = false }

-- a refused call leaves the book
abbrev pub unless : Option Refusal → Book → Book → Book
unless None b new = new
unless (Some e) b new = b

abbrev pub after : Counts → Book → Change → Book
after n b c = unless (refusal n b c) b (written b c)

-- the answer of a call
abbrev pub told : Option Refusal → Result Unit Refusal
told None = Ok tt
told (Some e) = Err e

abbrev pub reply : Counts → Book → Change → Result Unit Refusal
reply n b c = told (refusal n b c)

-- the book after a list of calls, the first of them first
abbrev pub after_all : Counts → Book → List Change → Book
after_all n b cs = fold (after n) b cs
