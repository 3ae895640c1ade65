use Rattle.std.proofs.Common.{◌≡◌, ℕ, ◌+◌, ◌*◌, ◌≤◌, length, get_or, true, sym, ap, ◌∙◌, arith}
use Rattle.std.proofs.lemmas.Bool.Decides.{nat_tests}
use Rattle.std.proofs.lemmas.Grind.{common_steps}
use Rattle.console.specs.Numerals.{digits, value, number}
use Rattle.console.proofs.DigitByDigit.{digit_is, digits_more, value_more, power_more, none_broken, value_read, whole}
use Rattle.console.proofs.numeral.number.Goals as goal

pub returns-then-not-contains : goal.returns-then-not-contains
unfolding number
returns-then-not-contains c = let n = c.new.ensures in let w = c.if-not-contains.ensures.cases in grind (arith, nat_tests, common_steps)

pub returns-then-not-is_ascii_digit : goal.returns-then-not-is_ascii_digit
returns-then-not-is_ascii_digit c = none_broken c.args.digits.now c.loop-digit.digit-index c.loop-digit-test.true (let w = c.if-not-is_ascii_digit.ensures.cases in λ h. grind (arith, w))

pub loop-digit-preserved : goal.loop-digit-preserved
loop-digit-preserved c =
    let ds = c.args.digits.now in
    let i = c.loop-digit.digit-index in
    let d = c.if-not-is_ascii_digit.ensures.cases in
    let lt = c.loop-digit-test.true in
    let sum = λ (m : ℕ). c.loop-digit.value * 10 + m in (
      digits_more ds i lt c.loop-digit.invariant.0 (digit_is (get_or ds i 0) d.0 d.1),
      ap sum c.from.ensures ∙ value_more ds i c.loop-digit.value lt c.loop-digit.invariant.1,
      rw c.from.ensures (power_more c.loop-digit.value (get_or ds i 0) i c.loop-digit.invariant.2 d.1),
    )

pub returns : goal.returns
returns c =
    let ds = c.args.digits.now in
    let w = whole ds c.loop-digit.digit-index c.loop-digit-test.false in
    let size = c.new.ensures in
    let some : 1 ≤ length ds = grind (arith, nat_tests, c.if-not-contains.ensures.cases) in
    let few : length ds ≤ 10 = grind (arith, nat_tests, c.if-not-contains.ensures.cases) in
    let e : digits ds ≡ true = sym (ap digits w) ∙ c.loop-digit.invariant.0 in
    c.ok.ensures.value ∙ value_read c.try_from.result ds c.loop-digit.value some few e (c.loop-digit.invariant.1 ∙ ap value w) c.try_from.ensures
