-- The order of costs, for any lawful meaning. That a is not greater than b is said `m.less b a ≡ false`.
use Rattle.std.proofs.Common.{◌≡◌, true, false, ⊎_elim}
use Rattle.kinds.specs.Laws.{Laws}
use Rattle.kinds.specs.Meaning.{Meaning}
use Rattle.std.proofs.lemmas.Bool.{cases_Bool, both_ways}
use Rattle.std.specs.Cmp.{IsStrictWeakOrder}

module _ {Cost Step : Type 0} {m : Meaning Cost Step} (laws : Laws m) where
  -- no cost is less than itself
  pub not_less_self : (a : Cost) → m.less a a ≡ false
  not_less_self a = ⊎_elim (laws.one_way a a) (λ h. h) (cases_Bool (m.less a a))

  -- less, then not greater
  pub less_then_not_greater : (a b c : Cost) → m.less a b ≡ true → m.less c b ≡ false → m.less a c ≡ true
  less_then_not_greater a b c ab bc =
      ⊎_elim (λ b<c. laws.chain a b c ab b<c) (λ b≮c. let e = laws.same b c b≮c bc in rw (← e) ab) (cases_Bool (m.less b c))

  -- not greater, then less
  pub not_greater_then_less : (a b c : Cost) → m.less b a ≡ false → m.less b c ≡ true → m.less a c ≡ true
  not_greater_then_less a b c ab bc =
      ⊎_elim (λ a<b. laws.chain a b c a<b bc) (λ a≮b. let e = laws.same a b a≮b ab in rw e bc) (cases_Bool (m.less a b))

  -- not greater, then not greater
  pub not_greater_trans : (a b c : Cost) → m.less b a ≡ false → m.less c b ≡ false → m.less c a ≡ false
  not_greater_trans a b c ab bc =
      ⊎_elim
      (λ c<a. absurd (both_ways (m.less c b) bc (less_then_not_greater c a b c<a ab)))
      (λ h. h)
      (cases_Bool (m.less c a))

  -- the order as the library's lemmas on least elements take it
  pub ranks : IsStrictWeakOrder m.less
  ranks = record { one_way = laws.one_way; chain = λ a b c ab bc. not_greater_trans c b a bc ab }
