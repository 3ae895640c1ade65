-- Following one link: what is left to count, and who joins.
use Rattle.std.proofs.Common.{◌≡◌, ℕ, suc, ◌+◌, ◌-◌, ◌<◌, ◌≤◌, Bool, true, false, not, ◌&&◌, ◌||◌, eqb, ◌≢◌, ◌⊎◌, sym, refl, ap, ◌∙◌, subst, inl, inr, arith}
use Rattle.std.proofs.lemmas.Bool.{cases_eq, cases_Bool, eq-eqb, ne_eqb, and_from, not_from_false}
use Rattle.std.proofs.lemmas.Bool.Decides.{Decides-or, Decides-eqb, Decides-like}
use Rattle.structures.specs.Graphs.{Graph, Within}
use Rattle.structures.specs.Computed.{count}
use Rattle.structures.proofs.Held.{Held, held_joins, held_place}
use Rattle.division.specs.Growing.{Member, Pending, Growing}
use Rattle.division.proofs.Counts.{count_same, count_more, count_none, count_nothing, or_off, or_on, and_off}
use Rattle.division.proofs.Pigeon.{pigeon}

-- Link i is done too.
abbrev pub Too : (ℕ → Type 0) → ℕ → ℕ → Type 0
Too Done i j = Done j ⊎ (j ≡ i)

module _ (g : Graph) (within : Within g) (all_open : (k : ℕ) → g.usable k ≡ true) (left after : ℕ → ℕ) (Done : ℕ → Type 0) (pending : Pending g left Done)
    (i : ℕ) (lt : i < g.links) (fresh : Done i → ⊥) where
  abbrev done_too : ℕ → Bool
  done_too j = pending.done j || eqb j i

  abbrev to_old : ℕ → ℕ → Bool
  to_old w j = not (pending.done j) && eqb (g.head j) w

  abbrev to_new : ℕ → ℕ → Bool
  to_new w j = not (done_too j) && eqb (g.head j) w

  not_done : pending.done i ≡ false
  not_done = go (cases_Bool (pending.done i))
    where
      go : (pending.done i ≡ true) ⊎ (pending.done i ≡ false) → pending.done i ≡ false
      go (inl e) = absurd (fresh ((pending.told i lt).0 e))
      go (inr e) = e

  elsewhere : (w j : ℕ) → j ≢ i → to_old w j ≡ to_new w j
  elsewhere w j ne = ap (λ b. not b && eqb (g.head j) w) (sym (or_off (pending.done j) (eqb j i) (ne_eqb j i ne)))

  one_less : (w : ℕ) → g.head i ≡ w → count (to_old w) g.links ≡ suc (count (to_new w) g.links)
  one_less w e = count_more (to_old w) (to_new w) g.links i lt
      (and_from (not (pending.done i)) (eqb (g.head i) w) (not_from_false (pending.done i) not_done) (eq-eqb (g.head i) w e))
      (ap (λ b. not b && eqb (g.head i) w) (or_on (pending.done i) (eqb i i) (eq-eqb i i refl)))
      (λ j below ne. elsewhere w j ne)

  same_count : (w : ℕ) → g.head i ≢ w → count (to_old w) g.links ≡ count (to_new w) g.links
  same_count w ne = count_same (to_old w) (to_new w) g.links (λ j below. go j (cases_eq j i))
    where
      go : (j : ℕ) → (j ≡ i) ⊎ (j ≡ i → ⊥) → to_old w j ≡ to_new w j
      go j (inl e) =
          let off : eqb (g.head j) w ≡ false = ne_eqb (g.head j) w (λ f. ne (ap g.head (sym e) ∙ f)) in
          and_off (not (pending.done j)) (eqb (g.head j) w) off ∙ sym (and_off (not (done_too j)) (eqb (g.head j) w) off)
      go j (inr apart) = elsewhere w j apart

  -- The link was counted.
  pub link_counted : 0 < left (g.head i)
  link_counted = omega (arith, pending.counts (g.head i) (within i lt (all_open i)).1, one_less (g.head i) refl)

  module _ (less : after (g.head i) ≡ left (g.head i) - 1) (same : (z : ℕ) → z ≢ g.head i → after z ≡ left z) where
    pub pending_link : Pending g after (Too Done i)
    pending_link = record {
      done = done_too;
      told = λ j below. Decides-or (pending.done j) (eqb j i) (pending.told j below) (Decides-eqb j i);
      counts = λ w here. go w here (cases_eq (g.head i) w);
    }
      where
        go : (w : ℕ) → w < g.places → (g.head i ≡ w) ⊎ (g.head i ≡ w → ⊥) → after w ≡ count (to_new w) g.links
        go w here (inl e) = omega (arith, ap after e, ap left e, less, pending.counts w here, one_less w e)
        go w here (inr ne) = same w (λ e. ne (sym e)) ∙ pending.counts w here ∙ same_count w ne

-- Where nothing is left, every link is done.
pub none_pending : (g : Graph) (left : ℕ → ℕ) (Done : ℕ → Type 0) → Pending g left Done → (w : ℕ) → w < g.places → left w ≡ 0 → (i : ℕ) → i < g.links → g.head i ≡ w → Done i
none_pending g left Done pending w here none i lt e = go (cases_Bool (pending.done i))
  where
    go : (pending.done i ≡ true) ⊎ (pending.done i ≡ false) → Done i
    go (inl d) = (pending.told i lt).0 d
    go (inr n) = absurd (count_none (λ j. not (pending.done j) && eqb (g.head j) w) g.links (sym (pending.counts w here) ∙ none) i lt
        (and_from (not (pending.done i)) (eqb (g.head i) w) (not_from_false (pending.done i) n) (eq-eqb (g.head i) w e)))

-- Where every link is done, nothing is left.
pub all_done : (g : Graph) (left : ℕ → ℕ) (Done : ℕ → Type 0) → Pending g left Done → (w : ℕ) → w < g.places → ((i : ℕ) → i < g.links → g.head i ≡ w → Done i) → left w ≡ 0
all_done g left Done pending w here done = pending.counts w here ∙ count_same (λ j. not (pending.done j) && eqb (g.head j) w) (λ j. false) g.links (λ j lt. go j lt (cases_eq (g.head j) w)) ∙ count_nothing g.links
  where
    go : (j : ℕ) → j < g.links → (g.head j ≡ w) ⊎ (g.head j ≡ w → ⊥) → (not (pending.done j) && eqb (g.head j) w) ≡ false
    go j lt (inl e) = ap (λ b. not b && eqb (g.head j) w) ((pending.told j lt).1 (done j lt e))
    go j lt (inr ne) = and_off (not (pending.done j)) (eqb (g.head j) w) (ne_eqb (g.head j) w ne)

-- Another word for the same links.
pub pending_like : (g : Graph) (left : ℕ → ℕ) (Done Same : ℕ → Type 0) → ((i : ℕ) → i < g.links → (Done i → Same i) × (Same i → Done i)) → Pending g left Done → Pending g left Same
pending_like g left Done Same like pending = record {
  done = pending.done;
  told = λ i lt. Decides-like (pending.done i) (like i lt).0 (like i lt).1 (pending.told i lt);
  counts = pending.counts;
}

pub growing_like : (g : Graph) (v : ℕ) (member left : ℕ → ℕ) (len : ℕ) (Done Same : ℕ → Type 0) → ((i : ℕ) → i < g.links → (Done i → Same i) × (Same i → Done i)) →
    Growing g v member left len Done → Growing g v member left len Same
growing_like g v member left len Done Same like growing = record {
  pending = pending_like g left Done Same like growing.pending;
  known = growing.known;
  begun = growing.begun;
  first = growing.first;
  short = growing.short;
  only = growing.only;
  once = growing.once;
  from = λ i lt d. growing.from i lt ((like i lt).1 d);
  none_left = growing.none_left;
  after = growing.after;
  joined = growing.joined;
}

module _ (g : Graph) (within : Within g) (all_open : (k : ℕ) → g.usable k ≡ true) (v : ℕ) (member left after : ℕ → ℕ) (len : ℕ) (Done : ℕ → Type 0)
    (growing : Growing g v member left len Done) (i : ℕ) (lt : i < g.links) (fresh : Done i → ⊥) (tail : Member member len (g.tail i))
    (less : after (g.head i) ≡ left (g.head i) - 1) (same : (z : ℕ) → z ≢ g.head i → after z ≡ left z) where
  counted : 0 < left (g.head i)
  counted = link_counted g within all_open left after Done growing.pending i lt fresh

  pending : Pending g after (Too Done i)
  pending = pending_link g within all_open left after Done growing.pending i lt fresh less same

  from_too : (j : ℕ) → j < g.links → Too Done i j → Member member len (g.tail j)
  from_too j below (inl d) = growing.from j below d
  from_too j below (inr e) = subst (λ x. Member member len (g.tail x)) (sym e) tail

  -- a member but v has nothing left, so it is not w
  apart : (q : ℕ) → 0 < q → q < len → member q ≢ g.head i
  apart q pos below e = omega (arith, growing.none_left q pos below, ap left e, counted)

  -- w does not join
  pub growing_passes : ((after (g.head i) ≡ 0) → g.head i ≢ v → ⊥) → Growing g v member after len (Too Done i)
  growing_passes stays = record {
    pending = pending;
    known = growing.known;
    begun = growing.begun;
    first = growing.first;
    short = growing.short;
    only = growing.only;
    once = growing.once;
    from = from_too;
    none_left = λ q pos below. same (member q) (apart q pos below) ∙ growing.none_left q pos below;
    after = growing.after;
    joined = λ j below ne none. go j below ne none (cases_eq (g.head j) (g.head i));
  }
    where
      go : (j : ℕ) → j < g.links → g.head j ≢ v → after (g.head j) ≡ 0 → (g.head j ≡ g.head i) ⊎ (g.head j ≡ g.head i → ⊥) → Member member len (g.head j)
      go j below ne none (inl e) = absurd (stays (ap after (sym e) ∙ none) (λ f. ne (e ∙ f)))
      go j below ne none (inr n) = growing.joined j below ne (sym (same (g.head j) n) ∙ none)

  -- w joins
  module _ (none : after (g.head i) ≡ 0) (ne : g.head i ≢ v) where
    new : (q : ℕ) → q < len → member q ≢ g.head i
    new q below e = go (cases_eq q 0)
      where
        go : (q ≡ 0) ⊎ (q ≡ 0 → ⊥) → ⊥
        go (inl z) = ne (sym e ∙ ap member z ∙ growing.first)
        go (inr nz) = apart q (omega arith) below e

    -- each link to w comes from a member
    tails : (j : ℕ) → j < g.links → g.head j ≡ g.head i → Member member len (g.tail j)
    tails j below e = from_too j below (none_pending g after (Too Done i) pending (g.head i) (within i lt (all_open i)).1 none j below e)

    held_new : Held g v (g.head i)
    held_new = held_joins g (g.head i) (g.tail i) (record { link = i; known = lt; is_open = all_open i; from = refl; to = refl })
        (λ x a. let m = tails a.link a.known a.to in subst (Held g v) (m.2 ∙ a.from) (growing.only m.0 m.1))

    module _ (more : ℕ → ℕ) (here : more len ≡ g.head i) (kept : (q : ℕ) → q ≢ len → more q ≡ member q) where
      old : (q : ℕ) → q < len → more q ≡ member q
      old q below = kept q (omega arith)

      still : (x m : ℕ) → m ≤ len → Member member m x → Member more m x
      still x m le s = (s.0, s.1, old s.0 (omega (arith, s.1)) ∙ s.2)

      last : (q : ℕ) → q < len + 1 → (q < len) ⊎ (q ≡ len)
      last q below = go (cases_eq q len)
        where
          go : (q ≡ len) ⊎ (q ≡ len → ⊥) → (q < len) ⊎ (q ≡ len)
          go (inl e) = inr e
          go (inr n) = inl (omega arith)

      wider : (x : ℕ) → Member more len x → Member more (len + 1) x
      wider x s = (s.0, omega (arith, s.1), s.2)

      only_more : (q : ℕ) → q < len + 1 → Held g v (more q)
      only_more q below = go (last q below)
        where
          go : (q < len) ⊎ (q ≡ len) → Held g v (more q)
          go (inl b) = subst (Held g v) (sym (old q b)) (growing.only q b)
          go (inr e) = subst (Held g v) (sym (ap more e ∙ here)) held_new

      once_more : (q r : ℕ) → q < len + 1 → r < len + 1 → more q ≡ more r → q ≡ r
      once_more q r a b e = go (last q a) (last r b)
        where
          go : (q < len) ⊎ (q ≡ len) → (r < len) ⊎ (r ≡ len) → q ≡ r
          go (inl x) (inl y) = growing.once q r x y (sym (old q x) ∙ e ∙ old r y)
          go (inl x) (inr y) = absurd (new q x (sym (old q x) ∙ e ∙ ap more y ∙ here))
          go (inr x) (inl y) = absurd (new r y (sym (old r y) ∙ sym e ∙ ap more x ∙ here))
          go (inr x) (inr y) = x ∙ sym y

      pub growing_joins : Growing g v more after (len + 1) (Too Done i)
      growing_joins = record {
        pending = pending;
        known = growing.known;
        begun = omega arith;
        first = old 0 growing.begun ∙ growing.first;
        short = pigeon more (len + 1) g.places once_more (λ q below. held_place g within growing.known (only_more q below));
        only = only_more;
        once = once_more;
        from = λ j below d. wider (g.tail j) (still (g.tail j) len (omega arith) (from_too j below d));
        none_left = λ q pos below. zero_left q pos (last q below);
        after = λ q j pos below known e. earlier q j pos known e (last q below);
        joined = λ j below apart_v zero. joins j below apart_v zero (cases_eq (g.head j) (g.head i));
      }
        where
          zero_left : (q : ℕ) → 0 < q → (q < len) ⊎ (q ≡ len) → after (more q) ≡ 0
          zero_left q pos (inl b) = ap after (old q b) ∙ same (member q) (apart q pos b) ∙ growing.none_left q pos b
          zero_left q pos (inr e) = ap after (ap more e ∙ here) ∙ none

          earlier : (q j : ℕ) → 0 < q → j < g.links → g.head j ≡ more q → (q < len) ⊎ (q ≡ len) → Member more q (g.tail j)
          earlier q j pos known e (inl b) = still (g.tail j) q (omega arith) (growing.after q j pos b known (e ∙ old q b))
          earlier q j pos known e (inr l) =
              let s = still (g.tail j) len (omega arith) (tails j known (e ∙ ap more l ∙ here)) in
              (s.0, omega (arith, s.1), s.2)

          joins : (j : ℕ) → j < g.links → g.head j ≢ v → after (g.head j) ≡ 0 → (g.head j ≡ g.head i) ⊎ (g.head j ≡ g.head i → ⊥) → Member more (len + 1) (g.head j)
          joins j below apart_v zero (inl e) = (len, omega arith, here ∙ sym e)
          joins j below apart_v zero (inr n) = wider (g.head j) (still (g.head j) len (omega arith) (growing.joined j below apart_v (sym (same (g.head j) n) ∙ zero)))
