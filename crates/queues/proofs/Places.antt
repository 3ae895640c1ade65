-- Places of items: where a number stands, and what a change of places leaves.
use Rattle.std.proofs.Common.{◌≡◌, ℕ, zero, suc, ◌+◌, ◌<◌, cond, eqb, ◌≢◌, ◌⊎◌, None, sym, refl, ap, ◌∙◌, inl, inr, add-one, arith}
use Rattle.std.proofs.lemmas.Bool.Decides.{nat_tests}
use Rattle.std.proofs.lemmas.Bool.{cases_eq, cond-true, cond-false, eq-eqb, ne_eqb}
use Rattle.queues.specs.declared.entry.Item.{Item}
use Rattle.queues.specs.Cells.{seek, Nowhere}
use Rattle.queues.specs.State.{put}

module _ {Cost : Type 0} where
  abbrev pub Once : (ℕ → Item Cost) → ℕ → Type 0
  Once f len = (j k : ℕ) → j < len → k < len → (f j).number ≡ (f k).number → j ≡ k

  abbrev pub Here : (ℕ → Item Cost) → ℕ → ℕ → Type 0
  Here f n len = (k : ℕ) × (k < len) × ((f k).number ≡ n)

  pub look : (f : ℕ → Item Cost) (n len : ℕ) → Here f n len ⊎ Nowhere f n len
  look f n zero = inr (λ k h e. omega arith)
  look f n (suc len) = go (cases_eq (f len).number n) (look f n len)
    where
      go : ((f len).number ≡ n) ⊎ ((f len).number ≡ n → ⊥) → Here f n len ⊎ Nowhere f n len → Here f n (suc len) ⊎ Nowhere f n (suc len)
      go (inl e) r = inl (len, omega arith, e)
      go (inr d) (inl h) = inl (h.0, omega (arith, h.1), h.2)
      go (inr d) (inr u) = inr (λ k h e. at_end k h e (cases_eq k len))
        where
          at_end : (k : ℕ) → k < suc len → (f k).number ≡ n → (k ≡ len) ⊎ (k ≡ len → ⊥) → ⊥
          at_end k h e (inl s) = d (ap (λ x. (f x).number) (sym s) ∙ e)
          at_end k h e (inr o) = u k (omega arith) e

  pub seek_none : (f : ℕ → Item Cost) (n len : ℕ) → Nowhere f n len → seek f n len ≡ None
  seek_none f n zero u = refl
  seek_none f n (suc len) u =
      cond-false (eqb n (f len).number) _ _ (ne_eqb n (f len).number (λ e. u len (omega arith) (sym e))) ∙ seek_none f n len (λ k h e. u k (omega arith) e)

  pub seek_at : (f : ℕ → Item Cost) (n len k : ℕ) → Once f len → k < len → (f k).number ≡ n → seek f n len ≡ (f k).cost
  seek_at f n zero k once h e = absurd (omega arith)
  seek_at f n (suc len) k once h e = go (cases_eq k len) (λ (l : k < len). seek_at f n len k (λ i j a b. once i j (omega arith) (omega arith)) l e)
    where
      go : (k ≡ len) ⊎ (k ≡ len → ⊥) → (k < len → seek f n len ≡ (f k).cost) → seek f n (suc len) ≡ (f k).cost
      go (inl s) more = cond-true (eqb n (f len).number) _ _ (eq-eqb n (f len).number (sym e ∙ ap (λ x. (f x).number) s)) ∙ ap (λ x. (f x).cost) (sym s)
      go (inr o) more = cond-false (eqb n (f len).number) _ _ (ne_eqb n (f len).number (λ d. o (once k len h (omega arith) (e ∙ d)))) ∙ more (omega arith)

  -- items that agree below `len`
  pub seek_like : (f g : ℕ → Item Cost) (n len : ℕ) → ((k : ℕ) → k < len → g k ≡ f k) → seek g n len ≡ seek f n len
  seek_like f g n zero same = refl
  seek_like f g n (suc len) same =
      let e = same len (omega arith) in
      let r = seek_like f g n len (λ k h. same k (omega arith)) in
      ap (λ x. cond (eqb n x.number) x.cost (seek g n len)) e ∙ ap (λ x. cond (eqb n (f len).number) (f len).cost x) r

  -- one item more, at the end
  module _ (f g : ℕ → Item Cost) (len : ℕ) (same : (k : ℕ) → k < len → g k ≡ f k) where
    pub seek_more : (n : ℕ) → seek g n (len + 1) ≡ put (λ x. seek f x len) (g len).number (g len).cost n
    seek_more n = rw add-one (ap (λ x. cond (eqb n (g len).number) (g len).cost x) (seek_like f g n len same))

    pub once_more : Once f len → Nowhere f (g len).number len → Once g (len + 1)
    once_more once new j k a b e = go (cases_eq j len) (cases_eq k len)
      where
        go : (j ≡ len) ⊎ (j ≡ len → ⊥) → (k ≡ len) ⊎ (k ≡ len → ⊥) → j ≡ k
        go (inl p) (inl q) = p ∙ sym q
        go (inl p) (inr q) = absurd (new k (omega arith) (ap (λ (x : Item Cost). x.number) (sym (same k (omega arith))) ∙ sym e ∙ ap (λ x. (g x).number) p))
        go (inr p) (inl q) = absurd (new j (omega arith) (ap (λ (x : Item Cost). x.number) (sym (same j (omega arith))) ∙ e ∙ ap (λ x. (g x).number) q))
        go (inr p) (inr q) = once j k (omega arith) (omega arith) (ap (λ (x : Item Cost). x.number) (sym (same j (omega arith))) ∙ e ∙ ap (λ (x : Item Cost). x.number) (same k (omega arith)))

  -- another cost at place i
  module _ (f g : ℕ → Item Cost) (len i : ℕ) (within : i < len) (once : Once f len) (number : (g i).number ≡ (f i).number) (same : (k : ℕ) → k ≢ i → g k ≡ f k) where
    numbers : (k : ℕ) → (g k).number ≡ (f k).number
    numbers k = go (cases_eq k i)
      where
        go : (k ≡ i) ⊎ (k ≡ i → ⊥) → (g k).number ≡ (f k).number
        go (inl e) = ap (λ x. (g x).number) e ∙ number ∙ ap (λ x. (f x).number) (sym e)
        go (inr d) = ap (λ (x : Item Cost). x.number) (same k d)

    pub once_recost : Once g len
    once_recost j k a b e = once j k a b (sym (numbers j) ∙ e ∙ numbers k)

    pub seek_recost : (n : ℕ) → seek g n len ≡ put (λ x. seek f x len) (f i).number (g i).cost n
    seek_recost n = go (cases_eq n (f i).number)
      where
        other : (n ≡ (f i).number → ⊥) → Here f n len ⊎ Nowhere f n len → seek g n len ≡ seek f n len
        other d (inl h) =
            let apart : h.0 ≢ i = λ e. d (sym h.2 ∙ ap (λ x. (f x).number) e) in
            seek_at g n len h.0 once_recost h.1 (numbers h.0 ∙ h.2) ∙ ap (λ (x : Item Cost). x.cost) (same h.0 apart) ∙ sym (seek_at f n len h.0 once h.1 h.2)
        other d (inr u) = seek_none g n len (λ k l e. u k l (sym (numbers k) ∙ e)) ∙ sym (seek_none f n len u)

        go : (n ≡ (f i).number) ⊎ (n ≡ (f i).number → ⊥) → seek g n len ≡ put (λ x. seek f x len) (f i).number (g i).cost n
        go (inl e) = seek_at g n len i once_recost within (number ∙ sym e) ∙ sym (cond-true (eqb n (f i).number) _ _ (eq-eqb n (f i).number e))
        go (inr d) = other d (look f n len) ∙ sym (cond-false (eqb n (f i).number) _ _ (ne_eqb n (f i).number d))

  -- the last item in the place of the one at i
  module _ (f g : ℕ → Item Cost) (len i : ℕ) (within : i < len + 1) (once : Once f (len + 1)) (filled : i < len → g i ≡ f len) (same : (k : ℕ) → k < len → k ≢ i → g k ≡ f k) where
    -- where the item now at k stood
    from : ℕ → ℕ
    from k = cond (eqb k i) len k

    was : (k : ℕ) → k < len → (from k < len + 1) × (from k ≢ i) × (g k ≡ f (from k))
    unfolding from
    was k l = go (cases_eq k i)
      where
        go : (k ≡ i) ⊎ (k ≡ i → ⊥) → (cond (eqb k i) len k < len + 1) × (cond (eqb k i) len k ≢ i) × (g k ≡ f (cond (eqb k i) len k))
        go (inl e) = let t = eq-eqb k i e in rw t (omega arith, (λ d. omega arith), ap g e ∙ filled (omega arith))
        go (inr d) = let t = ne_eqb k i d in rw t (omega arith, d, same k l d)

    came : (k : ℕ) → k < len + 1 → k ≢ i → (j : ℕ) × (j < len) × (g j ≡ f k)
    came k l d = go (cases_eq k len)
      where
        go : (k ≡ len) ⊎ (k ≡ len → ⊥) → (j : ℕ) × (j < len) × (g j ≡ f k)
        go (inl e) = (i, omega arith, filled (omega arith) ∙ ap f (sym e))
        go (inr o) = (k, omega arith, same k (omega arith) d)

    apart : (j k : ℕ) → from j ≡ from k → j < len → k < len → j ≡ k
    unfolding from
    apart j k e a b = grind (arith, nat_tests)

    pub once_less : Once g len
    once_less j k a b e =
        apart j k (once (from j) (from k) (was j a).0 (was k b).0 (ap (λ (x : Item Cost). x.number) (sym (was j a).2) ∙ e ∙ ap (λ (x : Item Cost). x.number) (was k b).2)) a b

    pub seek_less : (n : ℕ) → seek g n len ≡ put (λ x. seek f x (len + 1)) (f i).number None n
    seek_less n = go (cases_eq n (f i).number)
      where
        other : (n ≡ (f i).number → ⊥) → Here f n (len + 1) ⊎ Nowhere f n (len + 1) → seek g n len ≡ seek f n (len + 1)
        other d (inl h) =
            let c = came h.0 h.1 (λ e. d (sym h.2 ∙ ap (λ x. (f x).number) e)) in
            seek_at g n len c.0 once_less c.1 (ap (λ (x : Item Cost). x.number) c.2 ∙ h.2) ∙ ap (λ (x : Item Cost). x.cost) c.2 ∙ sym (seek_at f n (len + 1) h.0 once h.1 h.2)
        other d (inr u) = seek_none g n len (λ k l e. u (from k) (was k l).0 (ap (λ (x : Item Cost). x.number) (sym (was k l).2) ∙ e)) ∙ sym (seek_none f n (len + 1) u)

        go : (n ≡ (f i).number) ⊎ (n ≡ (f i).number → ⊥) → seek g n len ≡ put (λ x. seek f x (len + 1)) (f i).number None n
        go (inl e) =
            seek_none g n len (λ k l q. (was k l).1 (once (from k) i (was k l).0 within (ap (λ (x : Item Cost). x.number) (sym (was k l).2) ∙ q ∙ e)))
            ∙ sym (cond-true (eqb n (f i).number) _ _ (eq-eqb n (f i).number e))
        go (inr d) = other d (look f n (len + 1)) ∙ sym (cond-false (eqb n (f i).number) _ _ (ne_eqb n (f i).number d))

  -- two items exchanged
  module _ (f g : ℕ → Item Cost) (len i p : ℕ) (i_in : i < len) (p_in : p < len) (at_i : g i ≡ f p) (at_p : g p ≡ f i) (same : (k : ℕ) → k ≢ i → k ≢ p → g k ≡ f k) where
    other_of : ℕ → ℕ
    other_of k = cond (eqb k i) p (cond (eqb k p) i k)

    other_in : (k : ℕ) → k < len → other_of k < len
    unfolding other_of
    other_in k l = grind (arith, nat_tests)

    other_apart : (j k : ℕ) → other_of j ≡ other_of k → j ≡ k
    unfolding other_of
    other_apart j k e = grind (arith, nat_tests)

    swapped : (k : ℕ) → g k ≡ f (other_of k)
    unfolding other_of
    swapped k = go (cases_eq k i) (cases_eq k p)
      where
        go : (k ≡ i) ⊎ (k ≡ i → ⊥) → (k ≡ p) ⊎ (k ≡ p → ⊥) → g k ≡ f (cond (eqb k i) p (cond (eqb k p) i k))
        go (inl e) q = let t = eq-eqb k i e in rw t (ap g e ∙ at_i)
        go (inr d) (inl e) = let t = ne_eqb k i d in let u = eq-eqb k p e in rw (t, u) (ap g e ∙ at_p)
        go (inr d) (inr o) = let t = ne_eqb k i d in let u = ne_eqb k p o in rw (t, u) (same k d o)

    swapped_back : (k : ℕ) → g (other_of k) ≡ f k
    unfolding other_of
    swapped_back k = swapped (other_of k) ∙ ap f (twice k)
      where
        twice : (k : ℕ) → other_of (other_of k) ≡ k
        twice k = grind (arith, nat_tests)

    pub once_swap : Once f len → Once g len
    once_swap once j k a b e =
        other_apart j k (once (other_of j) (other_of k) (other_in j a) (other_in k b) (ap (λ (x : Item Cost). x.number) (sym (swapped j)) ∙ e ∙ ap (λ (x : Item Cost). x.number) (swapped k)))

    pub seek_swap : Once f len → (n : ℕ) → seek g n len ≡ seek f n len
    seek_swap once n = go (look f n len)
      where
        go : Here f n len ⊎ Nowhere f n len → seek g n len ≡ seek f n len
        go (inl h) =
            seek_at g n len (other_of h.0) (once_swap once) (other_in h.0 h.1) (ap (λ (x : Item Cost). x.number) (swapped_back h.0) ∙ h.2)
            ∙ ap (λ (x : Item Cost). x.cost) (swapped_back h.0) ∙ sym (seek_at f n len h.0 once h.1 h.2)
        go (inr u) = seek_none g n len (λ k l e. u (other_of k) (other_in k l) (ap (λ (x : Item Cost). x.number) (sym (swapped k)) ∙ e)) ∙ sym (seek_none f n len u)
