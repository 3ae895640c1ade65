-- Each trigger is the trigger of some rival entry's place, so the entries are no fewer.
use Rattle.std.proofs.Common.{◌≡◌, ℕ, ◌≤◌, List, map, length, subst, arith}
use lib.ListN.{length-map}
use Rattle.structures.specs.Graphs.{Graph, Within}
use Rattle.structures.specs.Structures.{PlaceSet, Maximal, Trigger}
use Rattle.structures.specs.Rivals.{Among, Entry, Rival}
use Rattle.structures.specs.Computed.{trigger, triggers}
use Rattle.structures.proofs.Lists.{length_once, among_map, chosen, length_chosen}
use Rattle.structures.proofs.Held.{Held}
use Rattle.structures.proofs.Complete.{structure_place, structure_held, complete_decides}
use Rattle.structures.proofs.Triggers.{governs_trigger, complete_top, own_trigger, triggers_count, triggers_listed}

module _ (g : Graph) (within : Within g) where
  -- A place that holds the trigger of a maximal structure lies in it.
  pub holder_trigger : (v t : ℕ) (S : PlaceSet) → Maximal g S → Trigger g S t → Held g v t → trigger g v ≡ t
  holder_trigger v t S m tr h = governs_trigger g within v t
      (record { structure = S; maximal = m; holds = (complete_decides g within t S tr.complete v).1 (complete_top g within S t m tr.complete v h); trigger = tr })

  -- The triggers of the entries' places.
  abbrev entry_triggers : List Entry → List ℕ
  entry_triggers entries = map (λ e. trigger g e.place) entries

  -- The trigger of a maximal structure is that of the place of any entry that holds it.
  entry_trigger : (entries : List Entry) → Rival g entries → (t : ℕ) (S : PlaceSet) → Maximal g S → Trigger g S t → Among t (entry_triggers entries)
  entry_trigger entries rival t S m tr =
      let e = rival.all_held t (structure_place g t S tr.complete.structure) in
      let holds : Held g e.0.place t = structure_held g e.0.place e.0.set (rival.structures e.0 e.1) t e.2 in
      subst (λ x. Among x (entry_triggers entries)) (holder_trigger e.0.place t S m tr holds) (among_map (λ x. trigger g x.place) e.0 entries e.1)

  pub fewest_triggers : (entries : List Entry) → Rival g entries → triggers g ≤ length entries
  fewest_triggers entries rival =
      let ts : List ℕ = chosen (own_trigger g) g.places in
      let fewer : length ts ≤ length (entry_triggers entries) =
      length_once ts (entry_triggers entries) (triggers_listed g within).once
      (λ t a. let s = (triggers_listed g within).triggers t a in entry_trigger entries rival t s.0 s.1 s.2) in
      omega (arith, fewer, length_chosen (own_trigger g) g.places, triggers_count g, length-map entries (λ e. trigger g e.place))
