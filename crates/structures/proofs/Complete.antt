-- What a place holds is its complete structure.
use Rattle.std.proofs.Common.{◌≡◌, ℕ, ◌<◌, Decides}
use Rattle.std.proofs.lemmas.Bool.Decides.{same_from_decides}
use Rattle.structures.specs.Graphs.{Graph, Within}
use Rattle.structures.specs.Structures.{PlaceSet, ◌∈◌, Other, Structure, Complete}
use Rattle.structures.specs.Computed.{held}
use Rattle.structures.specs.Theorems.{CompleteOnes}
use Rattle.structures.proofs.Held.{Held, held_self, held_approach, held_before, held_place, held_loopless}
use Rattle.structures.proofs.Growth.{held_decides, round_held, reach_all}

module _ (g : Graph) where
  pub structure_place : (v : ℕ) (S : PlaceSet) → Structure g v S → v < g.places
  structure_place v S s = s.holds_places v s.holds_its_place

  -- All of a structure of v is held by v.
  pub structure_held : (v : ℕ) (S : PlaceSet) → Structure g v S → (w : ℕ) → w ∈ S → Held g v w
  structure_held v S s w inside = round_held g v g.places w
      (reach_all g v (λ x. x ∈ S) s.no_loop s.approached s.from_inside (structure_place v S s) s.holds_places w inside)

module _ (g : Graph) (within : Within g) where
  -- A set that holds exactly what v holds is the complete structure of v.
  pub complete_from : (v : ℕ) (S : PlaceSet) → v < g.places → ((w : ℕ) → Decides (S w) (Held g v w)) → Complete g v S
  complete_from v S lt decides =
      record {
        structure = record {
          holds_its_place = (decides v).1 (held_self g v);
          holds_places = λ w e. held_place g within lt ((decides w).0 e);
          no_loop = λ l. held_loopless g (Other v S) (λ x o. o.1) ((decides l.at).0 l.inside.0) l.inside l.back;
          approached = λ w o. held_approach g ((decides w).0 o.0) o.1;
          from_inside = λ u w o a. (decides u).1 (held_before g ((decides w).0 o.0) o.1 u a);
        };
        greatest = λ R s w e. (decides w).1 (structure_held g v R s w e);
      }

  pub held_complete : (v : ℕ) → v < g.places → Complete g v (held g v)
  held_complete v lt = complete_from v (held g v) lt (λ w. held_decides g within v w lt)

  -- The complete structure of v holds exactly what v holds.
  pub complete_decides : (v : ℕ) (S : PlaceSet) → Complete g v S → (w : ℕ) → Decides (S w) (Held g v w)
  complete_decides v S c w =
      let lt : v < g.places = structure_place g v S c.structure in (
        λ e. structure_held g v S c.structure w e,
        λ h. c.greatest (held g v) (held_complete v lt).structure w ((held_decides g within v w lt).1 h),
      )

  pub complete_same : (v : ℕ) (S R : PlaceSet) → Complete g v S → Complete g v R → (w : ℕ) → S w ≡ R w
  complete_same v S R c d w = same_from_decides (S w) (R w) (complete_decides v S c w) (complete_decides v R d w)

  pub complete_ones : CompleteOnes g
  complete_ones = record { each_place = λ v lt. (held g v, held_complete v lt); one_only = complete_same }
