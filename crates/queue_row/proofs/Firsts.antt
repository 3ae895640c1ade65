-- The first to leave among the items read so far.
use Rattle.std.proofs.Common.{◌≡◌, ℕ, ◌+◌, ◌<◌, Bool, true, false, below_more}
use Rattle.kinds.specs.Meaning.{Meaning}
use Rattle.kinds.specs.Laws.{Laws}
use Rattle.queues.specs.declared.entry.Item.{Item}
use Rattle.queues.specs.Order.{before}
use Rattle.queues.proofs.Orders.{before_self, before_one_way, before_up}

-- none of the first n items comes before the one at `best`
abbrev pub First : {C : Type 0} → (C → C → Bool) → (ℕ → Item C) → ℕ → ℕ → Type 0
First less items best n = (k : ℕ) → k < n → before less (items k) (items best) ≡ false

module _ {C Step : Type 0} {m : Meaning C Step} (laws : Laws m) (items : ℕ → Item C) where
  pub first_stays : (best n : ℕ) → First m.less items best n → before m.less (items n) (items best) ≡ false → First m.less items best (n + 1)
  first_stays best n first later = below_more (λ k. before m.less (items k) (items best) ≡ false) n first later

  pub first_moves : (best n : ℕ) → First m.less items best n → before m.less (items n) (items best) ≡ true → First m.less items n (n + 1)
  first_moves best n first sooner =
      below_more (λ k. before m.less (items k) (items n) ≡ false) n
      (λ k h. before_up laws (items k) (items best) (items n) (first k h) (before_one_way laws (items n) (items best) sooner)) (before_self laws (items n))
