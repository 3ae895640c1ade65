-- Each call keeps what every call book keeps.
use Rattle.std.proofs.Common.{◌≡◌, ℕ, zero, suc, ◌<◌, ◌≤◌, Bool, true, false, List, [], ◌∷◌, length, get_or, set, replicate, is_some, Some, None, Option, sym, refl, ◌∙◌, ⊎_elim, arith, length-set, get_or-set_other, get_or-set_same}
use lib.ListN.{length-replicate}
use Rattle.std.proofs.lemmas.List.{get_or_past}
use Rattle.std.proofs.lemmas.Bool.{cases_eq, cases_lt}
use Rattle.std.proofs.lemmas.Bool.Decides.{nat_tests}
use Rattle.mapfile.specs.declared.counts.Counts.{Counts}
use Rattle.planner.specs.declared.change.Change.{Change}
use Rattle.planner.specs.declared.change.Change.TheVariants.{Place, Lift, Close, Reopen}
use Rattle.planner.specs.declared.change.Refusal.{Refusal}
use Rattle.planner.specs.Book.{Book, blank, has_station, refusal, written, unless, after, after_all}
use Rattle.planner.specs.Sound.{Sound, BooksSound}
use Rattle.planner.specs.Stations.{stationed}
use Rattle.planner.proofs.Count.{lifted, replaced, placed}

module _ (n : Counts) (b : Book) where
  place_known : (p t : ℕ) → refusal n b (Place p t) ≡ None → p < n.places
  place_known p t h = grind (arith, nat_tests)

  place_short : (p t : ℕ) → refusal n b (Place p t) ≡ None → t ≤ 36000
  place_short p t h = grind (arith, nat_tests)

  place_room : (p t : ℕ) → refusal n b (Place p t) ≡ None → has_station b p ≡ false → stationed b.stations < 64
  place_room p t h e = grind (arith, nat_tests)

  lift_known : (p : ℕ) → refusal n b (Lift p) ≡ None → has_station b p ≡ true
  lift_known p h = grind (arith, nat_tests)

  close_known : (k : ℕ) → refusal n b (Close k) ≡ None → k < n.links
  close_known k h = grind (arith, nat_tests)

  module _ (s : Sound n b) (small : n.places ≤ 2048) (fits : n.links ≤ 4096) where
    -- the stations after a write at one place
    others : (p : ℕ) (o : Option ℕ) → p < n.places → ((t : ℕ) → o ≡ Some t → t ≤ 36000) → (q t : ℕ) → get_or (set b.stations p o) q None ≡ Some t → (q < n.places) × (t ≤ 36000)
    others p o lt short q t h = ⊎_elim here there (cases_eq q p)
      where
        here : q ≡ p → (q < n.places) × (t ≤ 36000)
        here e =
            let w : get_or (set b.stations p o) p None ≡ Some t = rw e at h in
            let long : p < length b.stations = omega (arith, s.tables) in
            (omega arith, short t (sym (get_or-set_same b.stations p o None long) ∙ w))

        there : (q ≡ p → ⊥) → (q < n.places) × (t ≤ 36000)
        there ne = s.at_places q t (sym (get_or-set_other b.stations p q o None ne) ∙ h)

    placed_few : (p t : ℕ) → refusal n b (Place p t) ≡ None → p < length b.stations → stationed (set b.stations p (Some t)) ≤ 64
    placed_few p t h lt = go (has_station b p) refl
      where
        go : (k : Bool) → has_station b p ≡ k → stationed (set b.stations p (Some t)) ≤ 64
        go true e = omega (arith, replaced b.stations p (stationed b.stations) t lt refl e, s.few)
        go false e = omega (arith, placed b.stations p (stationed b.stations) t lt refl e, place_room p t h e)

    place_keeps : (p t : ℕ) → refusal n b (Place p t) ≡ None → Sound n (written b (Place p t))
    place_keeps p t h =
        let lt = place_known p t h in
        let long : p < length b.stations = omega (arith, s.tables, lt) in
        record {
          tables = (simp length-set s.tables.0, s.tables.1);
          at_places = others p (Some t) lt (λ u e. let i : t ≡ u = cc in omega (arith, place_short p t h, i));
          few = placed_few p t h long;
          known_links = s.known_links;
          unsolved = refl;
        }

    stood : (p : ℕ) (o : Option ℕ) → get_or b.stations p None ≡ o → is_some o ≡ true → p < n.places
    stood p None e h = cc
    stood p (Some t) e h = (s.at_places p t e).0

    lift_keeps : (p : ℕ) → refusal n b (Lift p) ≡ None → Sound n (written b (Lift p))
    lift_keeps p h =
        let there = lift_known p h in
        let lt = stood p (get_or b.stations p None) refl there in
        let long : p < length b.stations = omega (arith, s.tables, lt) in
        record {
          tables = (simp length-set s.tables.0, s.tables.1);
          at_places = others p None lt (λ u e. cc);
          few = omega (arith, lifted b.stations p (stationed b.stations) long refl there, s.few);
          known_links = s.known_links;
          unsolved = refl;
        }

    links_after : (k : ℕ) (v : Bool) → (v ≡ true → k < n.links) → (j : ℕ) → get_or (set b.closed k v) j false ≡ true → j < n.links
    links_after k v known j h = ⊎_elim here there (cases_eq j k)
      where
        within : k < length b.closed → j ≡ k → j < n.links
        within lt e = let w : get_or (set b.closed k v) k false ≡ true = rw e at h in omega (arith, e, known (sym (get_or-set_same b.closed k v false lt) ∙ w))

        past : length b.closed ≤ k → j ≡ k → j < n.links
        past ge e =
            let w : get_or (set b.closed k v) k false ≡ true = rw e at h in
            let d : get_or (set b.closed k v) k false ≡ false = get_or_past (set b.closed k v) k false (simp length-set ge) in
            cc

        here : j ≡ k → j < n.links
        here e = ⊎_elim (λ lt. within lt e) (λ ge. past ge e) (cases_lt k (length b.closed))

        there : (j ≡ k → ⊥) → j < n.links
        there ne = s.known_links j (sym (get_or-set_other b.closed k j v false ne) ∙ h)

    close_keeps : (k : ℕ) → refusal n b (Close k) ≡ None → Sound n (written b (Close k))
    close_keeps k h = record {
      tables = (s.tables.0, simp length-set s.tables.1);
      at_places = s.at_places;
      few = s.few;
      known_links = links_after k true (λ _. close_known k h);
      unsolved = refl;
    }

    reopen_keeps : (k : ℕ) → Sound n (written b (Reopen k))
    reopen_keeps k = record {
      tables = (s.tables.0, simp length-set s.tables.1);
      at_places = s.at_places;
      few = s.few;
      known_links = links_after k false (λ e. cc);
      unsolved = refl;
    }

    accepted_keeps : (c : Change) → refusal n b c ≡ None → Sound n (written b c)
    accepted_keeps (Place p t) h = place_keeps p t h
    accepted_keeps (Lift p) h = lift_keeps p h
    accepted_keeps (Close k) h = close_keeps k h
    accepted_keeps (Reopen k) h = reopen_keeps k

    after_keeps : (c : Change) → Sound n (after n b c)
    after_keeps c = go (refusal n b c) refl
      where
        go : (o : Option Refusal) → refusal n b c ≡ o → Sound n (unless o b (written b c))
        go None h = accepted_keeps c h
        go (Some e) h = s

-- ---- the blank book
all_same : {A : Type 0} (n i : ℕ) (a : A) → get_or (replicate n a) i a ≡ a
all_same zero i a = refl
all_same (suc n) zero a = refl
all_same (suc n) (suc i) a = all_same n i a

none_stand : (n : ℕ) → stationed (replicate n None) ≡ 0
none_stand zero = refl
none_stand (suc n) = let r = none_stand n in omega (arith, r)

blank_sound : (n : Counts) (places links : ℕ) → places ≡ 2048 → links ≡ 4096 → Sound n (record { stations = replicate places None; closed = replicate links false; solved = false })
blank_sound n places links e f = record {
  tables = (length-replicate places None ∙ e, length-replicate links false ∙ f);
  at_places = λ p t h. let w = all_same {A = Option ℕ} places p None in cc;
  few = omega (arith, none_stand places);
  known_links = λ k h. let w = all_same links k false in cc;
  unsolved = refl;
}

listed_sound : (n : Counts) → n.places ≤ 2048 → n.links ≤ 4096 → (b : Book) → Sound n b → (cs : List Change) → Sound n (after_all n b cs)
listed_sound n small fits b s [] = s
listed_sound n small fits b s (c ∷ cs) = listed_sound n small fits (after n b c) (after_keeps n b s small fits c) cs

pub books_sound : BooksSound
books_sound n small fits cs = listed_sound n small fits blank (blank_sound n 2048 4096 refl refl) cs
