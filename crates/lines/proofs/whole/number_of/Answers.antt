-- `lines::whole::number_of` meets its contract: the number so far, with the digits from here on behind it, is the whole number. Of k digits it is
-- below 10^k, so that one digit more fits.
use Rattle.std.proofs.Common.{refl, sym, ◌∙◌, ◌-◌, ◌≤◌, ◌<◌, arith, length, get_or, add-one}
use Rattle.lines.specs.Bytes.{digit0}
use Rattle.lines.proofs.WholeLaws.{all_digits, digit_first, digits_rest, number_at, number_end, digit_bounds, grown, room_for_digit, some_power}
use Rattle.lines.proofs.whole.number_of.Goals as goal

pub loop-digit-init : goal.loop-digit-init
loop-digit-init c = record { same = refl; digits = all_digits c.args.digits.now c.requires; small = some_power 0 }

pub overflow_mul-number : goal.overflow_mul-number
overflow_mul-number c =
    let loop = c.loop-digit in
    omega (arith, room_for_digit c.args.digits.now loop.digit-index loop.number c.requires (omega arith) loop.invariant.small)

pub overflow_sub-digit : goal.overflow_sub-digit
overflow_sub-digit c =
    let loop = c.loop-digit in
    let digits = c.args.digits.now in
    (digit_bounds (get_or digits loop.digit-index 0) (digit_first digits loop.digit-index (omega arith) loop.invariant.digits)).0

pub overflow_add-number : goal.overflow_add-number
overflow_add-number c =
    let loop = c.loop-digit in
    let digits = c.args.digits.now in
    let bounds = digit_bounds (get_or digits loop.digit-index 0) (digit_first digits loop.digit-index (omega arith) loop.invariant.digits) in
    omega (arith, room_for_digit digits loop.digit-index loop.number c.requires (omega arith) loop.invariant.small, c.from.ensures, bounds.1)

pub loop-digit-preserved : goal.loop-digit-preserved
loop-digit-preserved c =
    let loop = c.loop-digit in
    let digits = c.args.digits.now in
    let within : loop.digit-index < length digits = omega arith in
    let bounds = digit_bounds (get_or digits loop.digit-index 0) (digit_first digits loop.digit-index within loop.invariant.digits) in
    let digit : get_or digits loop.digit-index 0 - digit0 ≤ 9 = omega (arith, bounds.1) in
    record {
      same = rw c.from.ensures (sym (number_at digits loop.digit-index loop.number within) ∙ loop.invariant.same);
      digits = digits_rest digits loop.digit-index within loop.invariant.digits;
      small = rw (c.from.ensures, add-one) (grown loop.digit-index loop.number _ loop.invariant.small digit);
    }

pub returns : goal.returns
returns c =
    let loop = c.loop-digit in
    sym (sym loop.invariant.same ∙ number_end c.args.digits.now loop.digit-index loop.number (omega arith))
