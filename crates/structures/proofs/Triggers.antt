-- The computed triggers are the triggers of the maximal structures.
use Rattle.std.proofs.Common.{◌≡◌, ℕ, ◌<◌, ◌≤◌, Bool, true, not, ◌&&◌, ◌||◌, eqb, ◌≢◌, List, length, Decides, refl, subst, arith}
use Rattle.std.proofs.lemmas.Bool.{eqb-true, eq-eqb}
use Rattle.std.proofs.lemmas.Bool.Decides.{Decides-and}
use Rattle.structures.specs.Graphs.{Graph, Within, Approach}
use Rattle.structures.specs.Structures.{PlaceSet, Complete, Maximal, Trigger, Governed}
use Rattle.structures.specs.Rivals.{TriggerList}
use Rattle.structures.specs.Computed.{count, held, topmost, trigger, triggers}
use Rattle.structures.specs.Theorems.{ComputedOnes}
use Rattle.structures.proofs.Lists.{length_once, chosen, length_chosen, chosen_only, chosen_all, chosen_once}
use Rattle.structures.proofs.Tests.{decides_implies, each_decides, lowest_passes}
use Rattle.structures.proofs.Held.{Held, held_trans, head_place, holder_place}
use Rattle.structures.proofs.Growth.{held_decides}
use Rattle.structures.proofs.Complete.{structure_place, held_complete, complete_decides}
use Rattle.structures.proofs.Maximal.{Top, Twins, top_meet, top_twin, top_above, twin_complete, complete_twins, maximal_top, top_maximal}

-- t is at the top and holds p.
abbrev pub Candidate : Graph → ℕ → ℕ → Type 0
Candidate g p t = Held g t p × Top g t

-- Is p its own trigger?
abbrev pub own_trigger : Graph → ℕ → Bool
own_trigger g p = eqb (trigger g p) p

pub triggers_count : (g : Graph) → triggers g ≡ count (own_trigger g) g.places
unfolding triggers trigger
triggers_count g = refl

module _ (g : Graph) (within : Within g) where
  pub topmost_decides : (t : ℕ) → t < g.places → Decides (topmost g.places (held g) t) (Top g t)
  topmost_decides t lt =
      let tests : Decides (topmost g.places (held g) t) ((x : ℕ) → x < g.places → held g x t ≡ true → held g t x ≡ true) =
      each_decides (λ x. not (held g x t) || held g t x) (λ x. held g x t ≡ true → held g t x ≡ true) (λ x. decides_implies (held g x t) (held g t x)) g.places in (
        λ e x h.
            let here : x < g.places = holder_place g within lt h in
            (held_decides g within t x lt).0 (tests.0 e x here ((held_decides g within x t here).1 h)),
        λ top. tests.1 (λ x here e. (held_decides g within t x lt).1 (top x ((held_decides g within x t here).0 e))),
      )

  pub candidate_decides : (p t : ℕ) → t < g.places → Decides (held g t p && topmost g.places (held g) t) (Candidate g p t)
  candidate_decides p t lt = Decides-and (held g t p) (topmost g.places (held g) t) (held_decides g within t p lt) (topmost_decides t lt)

  -- The computed trigger is the lowest candidate.
  pub trigger_lowest : (p t : ℕ) → t < g.places → Candidate g p t → trigger g p ≤ t
  unfolding trigger held
  trigger_lowest p t lt c = (lowest_passes (λ x. held g x p && topmost g.places (held g) x) g.places t lt ((candidate_decides p t lt).1 c)).1

  pub trigger_candidate : (p : ℕ) → p < g.places → (trigger g p < g.places) × Candidate g p (trigger g p)
  unfolding trigger held
  trigger_candidate p lt =
      let s = top_above g within p lt in
      let low = lowest_passes (λ x. held g x p && topmost g.places (held g) x) g.places s.0 s.1 ((candidate_decides p s.0 s.1).1 (s.2, s.3)) in
      let here : trigger g p < g.places = omega (arith, low.1, s.1) in
      (here, (candidate_decides p (trigger g p) here).0 low.0)

  pub trigger_governs : (p : ℕ) → p < g.places → Governed g p (trigger g p)
  trigger_governs p lt = record {
    structure = held g t;
    maximal = top_maximal g within t (held g t) whole c.1.1;
    holds = (held_decides g within t p c.0).1 c.1.0;
    trigger = record { complete = whole; lowest = least };
  }
    where
      t : ℕ
      t = trigger g p

      c : (t < g.places) × Candidate g p t
      c = trigger_candidate p lt

      whole : Complete g t (held g t)
      whole = held_complete g within t c.0

      least : (u : ℕ) → Complete g u (held g t) → t ≤ u
      least u d =
          let twins : Twins g t u = complete_twins g within t u (held g t) whole d in
          trigger_lowest p u (structure_place g u (held g t) d.structure) (held_trans g twins.1 c.1.0, top_twin g t u c.1.1 twins.1)

  -- The place of which a maximal structure is the complete one is at the top.
  pub complete_top : (S : PlaceSet) (t : ℕ) → Maximal g S → Complete g t S → Top g t
  complete_top S t m c = top_twin g m.place t (maximal_top g within S m) (complete_twins g within m.place t S m.complete c).1

  pub governs_trigger : (p t : ℕ) → Governed g p t → trigger g p ≡ t
  governs_trigger p t d =
      let S : PlaceSet = d.structure in
      let whole : Complete g t S = d.trigger.complete in
      let lt : p < g.places = whole.structure.holds_places p d.holds in
      let top : Top g t = complete_top S t d.maximal whole in
      let holds : Held g t p = (complete_decides g within t S whole p).0 d.holds in
      let c = trigger_candidate p lt in
      let twins : Twins g t (trigger g p) = top_meet g t (trigger g p) p top c.1.1 holds c.1.0 in
      omega (arith, trigger_lowest p t (structure_place g t S whole.structure) (holds, top), d.trigger.lowest (trigger g p) (twin_complete g within t (trigger g p) S whole twins))

  -- The trigger of a place's trigger is that trigger.
  pub trigger_trigger : (p : ℕ) → p < g.places → trigger g (trigger g p) ≡ trigger g p
  trigger_trigger p lt =
      let d : Governed g p (trigger g p) = trigger_governs p lt in
      governs_trigger (trigger g p) (trigger g p)
      (record { structure = d.structure; maximal = d.maximal; holds = d.trigger.complete.structure.holds_its_place; trigger = d.trigger })

  -- An open link into a place that is no trigger comes from a place with the same trigger.
  pub trigger_approach : (u p : ℕ) → Approach g u p → p ≢ trigger g p → trigger g u ≡ trigger g p
  trigger_approach u p a apart =
      let d : Governed g p (trigger g p) = trigger_governs p (head_place g within u p a) in
      governs_trigger u (trigger g p)
      (record { structure = d.structure; maximal = d.maximal; holds = d.trigger.complete.structure.from_inside u p (d.holds, apart) a; trigger = d.trigger })

  -- The trigger of what a place u at the top holds is the lowest twin of u.
  pub trigger_twin : (u w t : ℕ) → w < g.places → Top g u → Held g u w → Twins g u t → ((x : ℕ) → Twins g u x → t ≤ x) → trigger g w ≡ t
  trigger_twin u w t lt top h twins least =
      let holds : Held g t w = held_trans g twins.1 h in
      let c = trigger_candidate w lt in
      let low : trigger g w ≤ t = trigger_lowest w t (holder_place g within lt holds) (holds, top_twin g u t top twins.1) in
      omega (arith, low, least (trigger g w) (top_meet g u (trigger g w) w top c.1.1 h c.1.0))

  pub triggers_listed : TriggerList g (chosen (own_trigger g) g.places)
  triggers_listed = record {
    once = chosen_once (own_trigger g) g.places;
    triggers = λ t a.
        let k = chosen_only (own_trigger g) g.places t a in
        let d : Governed g t (trigger g t) = trigger_governs t k.0 in
        (d.structure, d.maximal, subst (Trigger g d.structure) (eqb-true (trigger g t) t k.1) d.trigger);
    all_listed = λ t S m tr.
        chosen_all (own_trigger g) g.places t (structure_place g t S tr.complete.structure)
        (eq-eqb (trigger g t) t (governs_trigger t t (record { structure = S; maximal = m; holds = tr.complete.structure.holds_its_place; trigger = tr })));
  }

  -- No list of the triggers is longer than another.
  pub same_triggers : (ts us : List ℕ) → TriggerList g ts → TriggerList g us → length ts ≤ length us
  same_triggers ts us a b = length_once ts us a.once (λ t m. let s = a.triggers t m in b.all_listed t s.0 s.1 s.2)

  pub triggers_counted : (ts : List ℕ) → TriggerList g ts → length ts ≡ triggers g
  triggers_counted ts a =
      let us : List ℕ = chosen (own_trigger g) g.places in
      omega (arith, same_triggers ts us a triggers_listed, same_triggers us ts triggers_listed a, length_chosen (own_trigger g) g.places, triggers_count g)

  pub computed_ones : ComputedOnes g
  computed_ones = record {
    held_complete = held_complete g within;
    trigger_governs = λ p t lt e. subst (Governed g p) e (trigger_governs p lt);
    governs_trigger = governs_trigger;
    counted = triggers_counted;
    countable = (chosen (own_trigger g) g.places, triggers_listed);
  }
