-- What one written entry leaves of a list.
use Rattle.std.proofs.Common.{◌≡◌, ℕ, ◌<◌, ◌≤◌, ◌≢◌, ◌⊎◌, List, length, get_or, set, Option, sym, ap, ◌∙◌, inl, inr}
use Rattle.std.proofs.lemmas.List.{get_or-set_same, get_or-set_other, length-set, get_or_default, get_or_past}
use Rattle.std.proofs.lemmas.Bool.{cases_eq}
use Rattle.queues.specs.declared.entry.Entry.{Entry}
use Rattle.queues.specs.Cells.{entry, blank, Refloored}

module _ {Cost : Type 0} where
  pub entry_here : (cells : List (Entry Cost)) (i : ℕ) (e : Entry Cost) → i < length cells → entry (set cells i e) i ≡ e
  entry_here cells i e h = get_or-set_same cells i e blank h

  pub entry_there : (cells : List (Entry Cost)) (i : ℕ) (e : Entry Cost) (k : ℕ) → k ≢ i → entry (set cells i e) k ≡ entry cells k
  entry_there cells i e k d = get_or-set_other cells i k e blank d

  -- a part of the entries that the written one has as before
  pub entry_keeps : {B : Type 0} (part : Entry Cost → B) (cells : List (Entry Cost)) (i : ℕ) (e : Entry Cost) → i < length cells → part e ≡ part (entry cells i) → (k : ℕ) → part (entry (set cells i e) k) ≡ part (entry cells k)
  entry_keeps part cells i e h same k = go (cases_eq k i)
    where
      go : (k ≡ i) ⊎ (k ≡ i → ⊥) → part (entry (set cells i e) k) ≡ part (entry cells k)
      go (inl q) = ap (λ x. part (entry (set cells i e) x)) q ∙ ap part (entry_here cells i e h) ∙ same ∙ ap (λ x. part (entry cells x)) (sym q)
      go (inr d) = ap part (entry_there cells i e k d)

  -- a read entry is the list's
  pub entry_read : (cells : List (Entry Cost)) (i : ℕ) (x : Entry Cost) → i < length cells → x ≡ get_or cells i x → x ≡ entry cells i
  entry_read cells i x h e = e ∙ get_or_default cells i x blank h

  pub entry_past : (cells : List (Entry Cost)) (i : ℕ) → length cells ≤ i → entry cells i ≡ blank
  entry_past cells i h = get_or_past cells i blank h

  pub refloored : (cells : List (Entry Cost)) (d : Entry Cost) (floor : Option Cost) → 0 < length cells → Refloored cells (set cells 0 record { item = (get_or cells 0 d).item; floor = floor; slot = (get_or cells 0 d).slot }) floor
  refloored cells d floor h =
      let e : Entry Cost = record { item = (get_or cells 0 d).item; floor = floor; slot = (get_or cells 0 d).slot } in
      let same : get_or cells 0 d ≡ entry cells 0 = get_or_default cells 0 d blank h in
      record {
        length_same = length-set cells 0 e;
        items = entry_keeps (λ (x : Entry Cost). x.item) cells 0 e h (ap (λ (x : Entry Cost). x.item) same);
        slots = entry_keeps (λ (x : Entry Cost). x.slot) cells 0 e h (ap (λ (x : Entry Cost). x.slot) same);
        floor_set = λ _. ap (λ (x : Entry Cost). x.floor) (entry_here cells 0 e h);
      }
