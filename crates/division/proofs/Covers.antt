-- The owners from the first call to the last.
use Rattle.std.proofs.Common.{◌≡◌, ℕ, ◌+◌, ◌<◌, ◌≢◌, ◌⊎◌, List, [], ◌∷◌, length, set, false, is_some, Option, Some, None, unwrap_or, sym, refl, ap, ◌∙◌, subst, inl, inr, arith, get_or-set_other, get_or-set_same}
use Rattle.std.proofs.lemmas.Bool.{cases_eq}
use Rattle.structures.specs.Graphs.{Graph, Within}
use Rattle.structures.specs.Rivals.{Among}
use Rattle.structures.proofs.Held.{Held, held_self, holder_place}
use Rattle.structures.proofs.Maximal.{Top}
use Rattle.structures.proofs.Growth.{held_cases}
use Rattle.structures.proofs.Cover.{Covered, assigned_held, assigned_call, assigned_only, owners_none, owners_call, owners_top}
use Rattle.division.specs.Lists.{at}
use Rattle.division.specs.Growing.{Member, Grown}
use Rattle.division.specs.Twinned.{LowestTwin, Named}
use Rattle.division.specs.Covering.{owner_at, named, Called, StillCovered, Overwritten, Owned}

-- Some owner is not none.
pub some_not_none : {X : Type 0} (o : Option X) (x : X) → o ≡ Some x → o ≢ None
some_not_none o x e f = cc

pub is_none_none : {X : Type 0} (o : Option X) → is_some o ≡ false → o ≡ None
is_none_none None e = refl
is_none_none (Some x) e = absurd cc

pub not_none_some : (o : Option ℕ) → o ≢ None → o ≡ Some (unwrap_or o 0)
not_none_some None ne = absurd (ne refl)
not_none_some (Some x) ne = refl

-- Assigning member by member.
pub overwritten_none : (member : ℕ → ℕ) (v : ℕ) (was : ℕ → Option ℕ) → Overwritten member 0 v was was
overwritten_none member v was = record { members = λ q lt. absurd (omega arith); others = λ w m. refl }

pub overwritten_more : (member : ℕ → ℕ) (k v : ℕ) (was : ℕ → Option ℕ) (owners : List (Option ℕ)) → member k < length owners → Overwritten member k v was (owner_at owners) → Overwritten member (k + 1) v was (owner_at (set owners (member k) (Some v)))
overwritten_more member k v was owners within before = record { members = λ q lt. at_member q lt (cases_eq (member q) (member k)); others = other }
  where
    after : List (Option ℕ)
    after = set owners (member k) (Some v)

    new : owner_at after (member k) ≡ Some v
    new = get_or-set_same owners (member k) (Some v) None within

    at_member : (q : ℕ) → q < k + 1 → (member q ≡ member k) ⊎ (member q ≡ member k → ⊥) → owner_at after (member q) ≡ Some v
    at_member q lt (inl e) = ap (owner_at after) e ∙ new
    at_member q lt (inr ne) = get_or-set_other owners (member k) (member q) (Some v) None ne ∙ before.members q (lower (cases_eq q k))
      where
        lower : (q ≡ k) ⊎ (q ≡ k → ⊥) → q < k
        lower (inl e) = absurd (ne (ap member e))
        lower (inr apart) = omega arith

    other : (w : ℕ) → (Member member (k + 1) w → ⊥) → owner_at after w ≡ was w
    other w none = get_or-set_other owners (member k) w (Some v) None (λ e. none (k, omega arith, sym e)) ∙ before.others w (λ m. none (m.0, omega (arith, m.1), m.2))

module _ (g : Graph) (within : Within g) where
  pub called_none : (owner : ℕ → Option ℕ) → ((w : ℕ) → w < g.places → owner w ≡ None) → Called g owner
  called_none owner free = record {
    calls = [];
    fresh = tt;
    owners = owners_none g (named owner);
    free = λ w here e c. absurd c.1;
    covered = λ w here ne. absurd (ne (free w here));
  }

  pub named_none : (owner : ℕ → Option ℕ) (name : ℕ → ℕ) → ((w : ℕ) → w < g.places → owner w ≡ None) → Named g owner name g.places
  named_none owner name free v here own = absurd (some_not_none (owner v) v own (free v here))

  module _ (v : ℕ) (here : v < g.places) (member : ℕ → ℕ) (len : ℕ) (owner after : ℕ → Option ℕ) (called : Called g owner) (grown : Grown g v member len) (over : Overwritten member len v owner after) where
    now_v : (w : ℕ) → Held g v w → after w ≡ Some v
    now_v w h = let m = grown.all w h in ap after (sym m.2) ∙ over.members m.0 m.1

    as_was : (w : ℕ) → (Held g v w → ⊥) → after w ≡ owner w
    as_was w n = over.others w (λ m. n (subst (Held g v) m.2 (grown.only m.0 m.1)))

    pub called_more : owner v ≡ None → Called g after
    called_more e = record {
      calls = v ∷ called.calls;
      fresh = (here, called.free v here e, called.fresh);
      owners = owners_call g within v called.calls (named owner) (named after) here called.owners (λ w lt h. ap (λ o. unwrap_or o 0) (now_v w h)) (λ w lt n. ap (λ o. unwrap_or o 0) (as_was w n));
      free = λ w lt none c. free w lt none c (held_cases g within v w here) c.1;
      covered = λ w lt some. covered w lt some (held_cases g within v w here);
    }
      where
        free : (w : ℕ) → w < g.places → after w ≡ None → (c : Covered g (v ∷ called.calls) w) → Held g v w ⊎ (Held g v w → ⊥) → Among c.0 (v ∷ called.calls) → ⊥
        free w lt none c (inl h) m = some_not_none (after w) v (now_v w h) none
        free w lt none c (inr n) (inl f) = n (subst (λ x. Held g x w) f c.2)
        free w lt none c (inr n) (inr m) = called.free w lt (sym (as_was w n) ∙ none) (c.0, m, c.2)

        covered : (w : ℕ) → w < g.places → after w ≢ None → Held g v w ⊎ (Held g v w → ⊥) → Covered g (v ∷ called.calls) w
        covered w lt some (inl h) = (v, inl refl, h)
        covered w lt some (inr n) = let c = called.covered w lt (λ f. some (as_was w n ∙ f)) in (c.0, inr c.1, c.2)

    -- v has its name; a member that was its own owner is none any more
    pub called_named : (names : List ℕ) (low : ℕ) → v < length names → LowestTwin g v low → Named g owner (at names) g.places → Named g after (at (set names v low)) g.places
    called_named names low within_names twin before u lt own = go (cases_eq u v)
      where
        go : (u ≡ v) ⊎ (u ≡ v → ⊥) → LowestTwin g u (at (set names v low) u)
        go (inl e) = subst (λ x. LowestTwin g x (at (set names v low) x)) (sym e) (subst (LowestTwin g v) (sym (get_or-set_same names v low 0 within_names)) twin)
        go (inr ne) = subst (LowestTwin g u) (sym (get_or-set_other names v u low 0 ne)) (before u lt (sym (as_was u apart) ∙ own))
          where
            apart : Held g v u → ⊥
            apart h = ne (ap (λ o. unwrap_or o 0) (sym own ∙ now_v u h))

    pub covers_v : after v ≢ None
    covers_v = some_not_none (after v) v (now_v v (held_self g v))

    pub covers_still : StillCovered g owner after
    covers_still w lt some e = go (held_cases g within v w here)
      where
        go : Held g v w ⊎ (Held g v w → ⊥) → ⊥
        go (inl h) = some_not_none (after w) v (now_v w h) e
        go (inr n) = some (sym (as_was w n) ∙ e)

  -- every place has an owner
  pub called_all : (owner : ℕ → Option ℕ) → Called g owner → ((w : ℕ) → w < g.places → owner w ≢ None) → Owned g owner
  called_all owner called all = record {
    all = λ w lt. not_none_some (owner w) (all w lt);
    holds = λ w lt. (tops w lt).0;
    top = λ w lt. (tops w lt).1;
    own = λ w lt.
        let a = called.owners w lt (every w lt) in
        let here = place w lt in
        let b = called.owners (named owner w) here (every (named owner w) here) in
        let e : named owner (named owner w) ≡ named owner w = assigned_only g called.fresh a (named owner (named owner w)) (assigned_call g b) (assigned_held g b) in
        not_none_some (owner (named owner w)) (all (named owner w) here) ∙ ap (λ x. Some x) e ∙ sym (not_none_some (owner w) (all w lt));
  }
    where
      every : (w : ℕ) → w < g.places → Covered g called.calls w
      every w lt = called.covered w lt (all w lt)

      tops : (w : ℕ) → w < g.places → Held g (named owner w) w × Top g (named owner w)
      tops w lt = owners_top g within called.calls (named owner) called.fresh every called.owners w lt

      place : (w : ℕ) → w < g.places → named owner w < g.places
      place w lt = holder_place g within lt (tops w lt).0
