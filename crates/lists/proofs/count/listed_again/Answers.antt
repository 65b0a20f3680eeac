-- `lists::count::listed_again` meets its contract. Each early answer is one test of the rule that fails; the last line is the test on the whole
-- degree, written as a sum. Both powers of two are at most 2^12, so that the sum does not overflow.
use mathlib.Core.Path.{◌≡◌, ap, ap₂, sym, ◌∙◌}
use mathlib.Core.Bool.{true}
use mathlib.Core.Logic.{⊎_elim}
use Prim.Native.Nat.{ℕ, ◌+◌, ◌^◌, ◌<◌}
use native.Mathlib.Omega.{arith}
use borrow.Author.Tests.{ltb-true, ltb-false}
use lib.Dec.{ltb}
use Rattle.number.specs.Bits.{bit_len}
use Rattle.number.proofs.Bits.{len_max, power_range}
use Rattle.lists.proofs.ListedAgain.{not_leading, constant, least_split, none_smaller, by_whole}
use Rattle.lists.proofs.count.listed_again.Goals as goal

pub returns-then-not-leading : goal.returns-then-not-leading
returns-then-not-leading c =
    let whole = c.args.whole in
    let split = c.args.split in
    let leading = c.args.leading in
    let degree = c.args.degree in
    ⊎_elim
    (λ low. sym (not_leading leading whole degree split low))
    (⊎_elim (λ none. sym (constant leading whole degree split (omega (arith, ltb-true))))
    (λ least. sym (least_split leading whole degree split (omega (arith, ltb-true)))))
    c.then-not-leading.either

pub returns-then-split-smaller_split : goal.returns-then-split-smaller_split
returns-then-split-smaller_split c =
    let asked = c.smaller_split in
    sym (none_smaller c.args.leading c.args.whole c.args.degree c.args.split (omega arith))

pub power_of_two-requires : goal.power_of_two-requires
power_of_two-requires c =
    omega (arith, len_max c.args.whole 12 (omega (arith, c.requires.whole_limit)))

pub overflow_add-result : goal.overflow_add-result
overflow_add-result c =
    let range = power_range (omega (arith, c.requires.split_limit)) c.power_of_two-2.ensures in
    omega (arith, c.requires.whole_limit)

pub returns : goal.returns
returns c =
    let whole = c.args.whole in
    let split = c.args.split in
    let power : c.power_of_two.result ≡ 2 ^ bit_len whole =
    c.power_of_two.ensures ∙ ap (λ (k : ℕ). 2 ^ k) c.bit_len.ensures in
    let asked = c.smaller_split in
    let leads : c.args.leading ≡ true = c.if-not-leading.false in
    let some : 0 < c.args.degree = omega (arith, ltb-false) in
    let above : 1 < split = omega (arith, ltb-false) in
    let decides = by_whole c.args.leading whole c.args.degree split c.requires.positive leads some above (omega arith) in
    ap₂ (λ (a b : ℕ). ltb a (whole + b)) power c.power_of_two-2.ensures ∙ sym decides
