-- Which places of u's complete structure have the same complete structure, told by an order of its places.
use Rattle.std.proofs.Common.{◌≡◌, ℕ, ◌<◌, ◌≤◌, ◌≢◌, ◌⊎◌, sym, refl, ap, ◌∙◌, subst, inl, inr, arith}
use Rattle.std.proofs.lemmas.Bool.{cases_eq, cases_lt}
use Rattle.structures.specs.Graphs.{Graph, Approach}
use Rattle.structures.proofs.Held.{Held, root, fed, held_self, held_trans, held_approach, held_before, held_avoids, held_joins}

module _ (g : Graph) where
  -- A place with no approach has no twin, and neither has one that is approached from outside its structure.
  pub twin_bare : {u m : ℕ} → ((x : ℕ) → Approach g x u → ⊥) → Held g m u → u ≡ m
  twin_bare none (root e) = e
  twin_bare none (fed x a all) = absurd (none x a)

  pub twin_outside : {u m : ℕ} (x : ℕ) → Approach g x u → (Held g u x → ⊥) → Held g u m → Held g m u → u ≡ m
  twin_outside x a outside h (root e) = e
  twin_outside x a outside h (fed y b all) = absurd (outside (held_trans g h (all x a)))

-- A chain of open links from x back to u, with u at its end only.
pub data Back (g : Graph) (u : ℕ) : ℕ → Type 0 where
  home : {x : ℕ} → Approach g x u → Back g u x
  on : {x : ℕ} (w : ℕ) → Approach g x w → w ≢ u → Back g u w → Back g u x

-- The places that u holds, each after its approaches, u first; u is approached, and only from among them.
pub record Ordered (g : Graph) (u : ℕ) (at : ℕ → ℕ) : Type 0 where
  pub first : at u ≡ 0
  pub after : (x w : ℕ) → Held g u w → w ≢ u → Approach g x w → at x < at w
  pub apart : (x y : ℕ) → Held g u x → Held g u y → at x ≡ at y → x ≡ y
  pub approached : (x : ℕ) × Approach g x u
  pub inner : (x : ℕ) → Approach g x u → Held g u x

-- A chain from w on, on a way back to u.
data Trail (g : Graph) (u w : ℕ) : ℕ → Type 0 where
  start : {y : ℕ} → y ≡ w → Trail g u w y
  next : {y : ℕ} (x : ℕ) → Trail g u w x → Approach g x y → y ≢ u → Back g u y → Trail g u w y

-- From x an open link leads past position k on a way back to u.
abbrev pub Past : Graph → ℕ → (ℕ → ℕ) → ℕ → ℕ → Type 0
Past g u at k x = (w : ℕ) × Approach g x w × ((w ≡ u) ⊎ (Back g u w × (k < at w)))

module _ (g : Graph) (u : ℕ) (at : ℕ → ℕ) (ordered : Ordered g u at) where
  -- A chain back to u stays among what u holds.
  pub back_held : {x : ℕ} → Back g u x → Held g u x
  back_held {x} (home a) = ordered.inner x a
  back_held {x} (on w a ne b) = held_before g (back_held b) ne x a

  module _ (m k : ℕ) (held : Held g u m) (here : at m ≡ k) (later : 0 < k) where
    module _ (none : (x : ℕ) → Held g u x → at x < k → Past g u at k x → ⊥) where
      -- Everything from k on that leads back to u is held by m.
      from_here : (y : ℕ) → Held g u y → Back g u y → k ≤ at y → Held g m y
      from_here y (root e) b le = absurd (omega (arith, ap at e, ordered.first))
      from_here y (fed x a all) b le = go (cases_eq (at y) k) (λ z c. from_here z (all z c))
        where
          ne : y ≢ u
          ne e = omega (arith, ap at e, ordered.first)

          go : (at y ≡ k) ⊎ (at y ≡ k → ⊥) → ((z : ℕ) → Approach g z y → Back g u z → k ≤ at z → Held g m z) → Held g m y
          go (inl e) back = root (ordered.apart y m (fed x a all) held (e ∙ sym here))
          go (inr n) back = fed x a (λ z c. near z c (cases_lt (at z) k))
            where
              near : (z : ℕ) → Approach g z y → (at z < k) ⊎ (k ≤ at z) → Held g m z
              near z c (inl lt) = absurd (none z (all z c) lt (y, c, inr (b, omega arith)))
              near z c (inr le') = back z c (on y c ne b) le'

      -- If nothing before m leads past it, m holds u.
      pub twin_yes : Held g m u
      twin_yes = held_joins g u ordered.approached.0 ordered.approached.1 (λ x a. near x a (cases_lt (at x) k))
        where
          near : (x : ℕ) → Approach g x u → (at x < k) ⊎ (k ≤ at x) → Held g m x
          near x a (inl lt) = absurd (none x (ordered.inner x a) lt (u, a, inl refl))
          near x a (inr le) = from_here x (ordered.inner x a) (home a) le

    -- The places before m, with some beyond it.
    abbrev Around : (ℕ → Type 0) → ℕ → Type 0
    Around Beyond y = (Held g u y × (at y < k)) ⊎ Beyond y

    -- A way from u back to u that does not meet m keeps u from being held by m.
    avoided : (Beyond : ℕ → Type 0) → ((y : ℕ) → Beyond y → k < at y) → ((y : ℕ) → Beyond y → (z : ℕ) × Around Beyond z × Approach g z y) →
        ((z : ℕ) × Around Beyond z × Approach g z u) → Held g m u → ⊥
    avoided Beyond far back last h = held_avoids g (Around Beyond) clear from h (inl (held_self g u, omega (arith, ordered.first)))
      where
        clear : (y : ℕ) → Around Beyond y → y ≢ m
        clear y (inl b) e = omega (arith, ap at e, b.1)
        clear y (inr t) e = omega (arith, ap at e, far y t)

        from : (y : ℕ) → Around Beyond y → (z : ℕ) × Around Beyond z × Approach g z y
        from y (inl b) = go (cases_eq y u)
          where
            go : (y ≡ u) ⊎ (y ≡ u → ⊥) → (z : ℕ) × Around Beyond z × Approach g z y
            go (inl e) = subst (λ x. (z : ℕ) × Around Beyond z × Approach g z x) (sym e) last
            go (inr ne) =
                let a = held_approach g b.0 ne in
                (a.0, inl (held_before g b.0 ne a.0 a.1, omega (arith, b.1, ordered.after a.0 y b.0 ne a.1)), a.1)
        from y (inr t) = back y t

    -- If something before m leads past it, m does not hold u.
    pub twin_no : (x : ℕ) → Held g u x → at x < k → Past g u at k x → Held g m u → ⊥
    twin_no x h lt (w, a, inl e) =
        avoided (λ _. ⊥) (λ y t. absurd t) (λ y t. absurd t) (x, inl (h, lt), subst (Approach g x) e a)
    twin_no x h lt (w, a, inr beyond) = avoided (Trail g u w) far back (end beyond.0 (start refl))
      where
        far : (y : ℕ) → Trail g u w y → k < at y
        far y (start e) = omega (arith, ap at e, beyond.1)
        far y (next z t c ne b) = omega (arith, far z t, ordered.after z y (back_held b) ne c)

        back : (y : ℕ) → Trail g u w y → (z : ℕ) × Around (Trail g u w) z × Approach g z y
        back y (start e) = (x, inl (h, lt), subst (Approach g x) (sym e) a)
        back y (next z t c ne b) = (z, inr t, c)

        end : {y : ℕ} → Back g u y → Trail g u w y → (z : ℕ) × Around (Trail g u w) z × Approach g z u
        end {y} (home c) t = (y, inr t, c)
        end {y} (on z c ne b) t = end b (next y t c ne b)
