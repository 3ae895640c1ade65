-- The list of takes.
use Rattle.std.proofs.Common.{◌≡◌, ℕ, zero, suc, ◌+◌, ◌<◌, ◌≤◌, Bool, true, false, cond, eqb, ◌⊎◌, List, [], ◌∷◌, length, sym, refl, ap, ◌∙◌, inl, inr, ⊎_elim, arith}
use Rattle.kinds.specs.Meaning.{Meaning}
use Rattle.runs.specs.Labels.{Sheet}
use Rattle.runs.specs.Takes.{Listed, TakeList}
use Rattle.std.proofs.lemmas.Bool.{cases_eq, eq-eqb, ne_eqb, cond-true, cond-false}
use Rattle.structures.proofs.Lists.{length_once, chosen, length_chosen, chosen_all}
use Rattle.structures.specs.Computed.{count}
use Rattle.structures.specs.Rivals.{Among, Once}

pub listed_none : (list : ℕ → ℕ) (q : ℕ) → Listed list 0 q → ⊥
listed_none list q l = omega (arith, l.counted)

pub listed_cases : (list : ℕ → ℕ) (n q : ℕ) → Listed list n q ⊎ (Listed list n q → ⊥)
listed_cases list zero q = inr (listed_none list q)
listed_cases list (suc n) q = go (listed_cases list n q) (cases_eq (list n) q)
  where
    go : Listed list n q ⊎ (Listed list n q → ⊥) → (list n ≡ q) ⊎ (list n ≡ q → ⊥) → Listed list (suc n) q ⊎ (Listed list (suc n) q → ⊥)
    go (inl l) d = inl (record { position = l.position; counted = omega (arith, l.counted); stands = l.stands })
    go (inr ne) (inl e) = inl (record { position = n; counted = omega arith; stands = e })
    go (inr ne) (inr other) =
        inr (λ l.
        ⊎_elim
        (λ e. other (ap list (sym e) ∙ l.stands))
        (λ apart. ne (record { position = l.position; counted = omega (arith, l.counted); stands = l.stands }))
        (cases_eq l.position n))

-- One take more: `next` holds what `list` held, and then t.
module _ {list next : ℕ → ℕ} {n t : ℕ} (same : (i : ℕ) → i < n → next i ≡ list i) (last : next n ≡ t) where
  pub listed_grows : (q : ℕ) → Listed list n q → Listed next (n + 1) q
  listed_grows q l = record { position = l.position; counted = omega (arith, l.counted); stands = same l.position l.counted ∙ l.stands }

  pub listed_last : Listed next (n + 1) t
  listed_last = record { position = n; counted = omega arith; stands = last }

  pub listed_split : (q : ℕ) → Listed next (n + 1) q → Listed list n q ⊎ (q ≡ t)
  listed_split q l =
      ⊎_elim
      (λ e. inr (sym l.stands ∙ ap next e ∙ last))
      (λ apart.
      let lt : l.position < n = omega (arith, l.counted) in
      inl (record { position = l.position; counted = lt; stands = sym (same l.position lt) ∙ l.stands }))
      (cases_eq l.position n)

  pub once_on :
      ((i j : ℕ) → i < n → j < n → list i ≡ list j → i ≡ j) → (Listed list n t → ⊥) → (i j : ℕ) → i < n + 1 → j < n + 1 → next i ≡ next j → i ≡ j
  once_on once new i j a b e = go (cases_eq i n) (cases_eq j n)
    where
      twice : (i : ℕ) → i < n → next i ≡ next n → ⊥
      twice i lt e = new (record { position = i; counted = lt; stands = sym (same i lt) ∙ e ∙ last })

      go : (i ≡ n) ⊎ (i ≡ n → ⊥) → (j ≡ n) ⊎ (j ≡ n → ⊥) → i ≡ j
      go (inl x) (inl y) = x ∙ sym y
      go (inl x) (inr y) = absurd (twice j (omega arith) (sym e ∙ ap next x))
      go (inr x) (inl y) = absurd (twice i (omega arith) (e ∙ ap next y))
      go (inr x) (inr y) =
          let u : i < n = omega arith in
          let v : j < n = omega arith in
          once i j u v (sym (same i u) ∙ e ∙ same j v)

  pub takes_on :
      {Cost Step : Type 0} {m : Meaning Cost Step} {L : Sheet Cost} → TakeList m L list n → (Listed list n t → ⊥)
      → ((q : ℕ) → Listed list n q → m.less (L t).cost (L q).cost ≡ false) → TakeList m L next (n + 1)
  takes_on {m = m} {L = L} takes new rises = record {
    once = once_on takes.once new;
    rising = λ i j before b. rising i j before b (cases_eq j n);
  }
    where
      rising : (i j : ℕ) → i < j → j < n + 1 → (j ≡ n) ⊎ (j ≡ n → ⊥) → m.less (L (next j)).cost (L (next i)).cost ≡ false
      rising i j before b (inl y) =
          let u : i < n = omega arith in
          rw (ap next y ∙ last, same i u) (rises (list i) (record { position = i; counted = u; stands = refl }))
      rising i j before b (inr y) =
          let u : i < n = omega arith in
          let v : j < n = omega arith in
          rw (same i u, same j v) (takes.rising i j before v)

pub takes_start : {Cost Step : Type 0} {m : Meaning Cost Step} {L : Sheet Cost} {list : ℕ → ℕ} → TakeList m L list 0
takes_start = record { once = λ i j a b e. absurd (omega arith); rising = λ i j before b. absurd (omega arith) }

-- The labels of taken triggers are kept, and so is the order of the takes.
pub takes_kept :
    {Cost Step : Type 0} {m : Meaning Cost Step} {L M : Sheet Cost} {list : ℕ → ℕ} {n : ℕ}
    → TakeList m L list n → ((q : ℕ) → Listed list n q → M q ≡ L q) → TakeList m M list n
takes_kept {L = L} {M} {list} takes kept = record {
  once = takes.once;
  rising = λ i j before b.
      let x : M (list i) ≡ L (list i) = kept (list i) (record { position = i; counted = omega arith; stands = refl }) in
      let y : M (list j) ≡ L (list j) = kept (list j) (record { position = j; counted = b; stands = refl }) in
      rw (x, y) (takes.rising i j before b);
}

-- The first n entries, the last first.
abbrev front : (ℕ → ℕ) → ℕ → List ℕ
front list zero = []
front list (suc n) = list n ∷ front list n

front_length : (list : ℕ → ℕ) (n : ℕ) → length (front list n) ≡ n
front_length list zero = refl
front_length list (suc n) = ap suc (front_length list n)

front_listed : (list : ℕ → ℕ) (n q : ℕ) → Among q (front list n) → Listed list n q
front_listed list zero q a = absurd a
front_listed list (suc n) q (inl e) = record { position = n; counted = omega arith; stands = sym e }
front_listed list (suc n) q (inr a) = let l = front_listed list n q a in record { position = l.position; counted = omega (arith, l.counted); stands = l.stands }

front_once : (list : ℕ → ℕ) (n : ℕ) → ((i j : ℕ) → i < n → j < n → list i ≡ list j → i ≡ j) → Once (front list n)
front_once list zero once = tt
front_once list (suc n) once = (
  λ a. let l = front_listed list n (list n) a in omega (arith, l.counted, once l.position n (omega (arith, l.counted)) (omega arith) l.stands),
  front_once list n (λ i j a b. once i j (omega arith) (omega arith)),
)

-- A list of distinct places that pass a test is no longer than there are such places.
pub takes_fit :
    (P : ℕ → Bool) (list : ℕ → ℕ) (n places : ℕ) → ((i j : ℕ) → i < n → j < n → list i ≡ list j → i ≡ j)
    → ((q : ℕ) → Listed list n q → (q < places) × (P q ≡ true)) → n ≤ count P places
takes_fit P list n places once each =
    let fits = length_once (front list n) (chosen P places) (front_once list n once) (λ q a. let h = each q (front_listed list n q a) in chosen_all P places q h.0 h.1) in
    omega (arith, fits, front_length list n, length_chosen P places)

-- So there is room for one more that passes and is not in the list.
pub takes_room :
    (P : ℕ → Bool) (list : ℕ → ℕ) (n places w : ℕ) → ((i j : ℕ) → i < n → j < n → list i ≡ list j → i ≡ j)
    → ((q : ℕ) → Listed list n q → (q < places) × (P q ≡ true)) → w < places → P w ≡ true → (Listed list n w → ⊥) → n < count P places
takes_room P list n places w once each lt pass new =
    let fits = takes_fit P next (n + 1) places (once_on same last once new) (λ q l. ⊎_elim (each q) (λ e. rw e (lt, pass)) (listed_split same last q l)) in
    omega (arith, fits)
  where
    next : ℕ → ℕ
    next i = cond (eqb i n) w (list i)

    same : (i : ℕ) → i < n → next i ≡ list i
    same i l = cond-false (eqb i n) w (list i) (ne_eqb i n (λ e. omega arith))

    last : next n ≡ w
    last = cond-true (eqb n n) w (list n) (eq-eqb n n refl)
