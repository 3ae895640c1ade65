-- The clock: its laws rest on the next green as a relation.
use Rattle.std.proofs.Common.{arith}
use Rattle.std.specs.Prelude.{ℕ, ◌+◌, ◌≤◌, Some, None, Option, refl}
use Rattle.kinds.specs.Lights.{next_green_is_next, next_in_order}
use Rattle.kinds.specs.Clock.{Free, waited, clock, EachArrives}
use Rattle.kinds.specs.Laws.{Laws}
use Rattle.mapfile.specs.declared.signal.Signal.{Signal}
use Rattle.std.proofs.lemmas.Bool.{ltb-true, ltb-false, lt-ltb, le-ltb}

waited_is_free : (o : Option Signal) (x : ℕ) → Free o x (waited o x)
waited_is_free None x = refl
waited_is_free (Some s) x = next_green_is_next s x

pub each_arrives : EachArrives
each_arrives c s = (waited s.signal (c + s.elapsed), waited_is_free s.signal (c + s.elapsed), refl)

pub waited_not_before : (o : Option Signal) (x : ℕ) → x ≤ waited o x
waited_not_before None x = omega arith
waited_not_before (Some s) x = (next_green_is_next s x).not_before

waited_in_order : (o : Option Signal) (x y : ℕ) → x ≤ y → waited o x ≤ waited o y
waited_in_order None x y h = h
waited_in_order (Some s) x y h = next_in_order (next_green_is_next s x) (next_green_is_next s y) h

pub clock_laws : Laws clock
clock_laws =
    record {
      one_way = λ a b h. le-ltb b a (omega (arith, ltb-true a b h));
      same = λ a b h k. omega (arith, ltb-false a b h, ltb-false b a k);
      chain = λ a b c h k. lt-ltb a c (omega (arith, ltb-true a b h, ltb-true b c k));
      no_lower =
          λ a s valid. le-ltb (clock.after a s) a (omega (arith, waited_not_before s.signal (a + s.elapsed)));
      in_order =
          λ a b s va vb h.
          let ab : a + s.elapsed ≤ b + s.elapsed = omega (arith, ltb-false b a h) in
          le-ltb (clock.after b s) (clock.after a s) (omega (arith, waited_in_order s.signal _ _ ab));
      starts = λ turnout h. h;
      steps = λ a s valid. omega arith;
    }
