-- `lines::whole::value_of` meets its contract: the digits behind the minus, if there is one, say a number below 10^18, which gets its sign.
use Rattle.std.proofs.Common.{ap, ap₂, ◌∙◌}
use Rattle.number.proofs.Signed.{back}
use Rattle.lines.specs.Whole.{is_number, number_of, unsigned, with_sign, is_whole, value_of}
use Rattle.lines.proofs.WholeLaws.{number_small}
use Rattle.lines.proofs.whole.value_of.Goals as goal

pub number_of-number-requires : goal.number_of-number-requires
unfolding is_whole
number_of-number-requires c = ap is_number c.unsigned.ensures ∙ c.requires

pub with_sign-requires : goal.with_sign-requires
unfolding is_whole
with_sign-requires c = rw (c.number_of-number.ensures, c.unsigned.ensures) (number_small (unsigned c.args.field.now) c.requires)

pub returns : goal.returns
unfolding value_of
returns c =
    back c.with_sign.type_inv c.with_sign.ensures
    ∙ ap₂ with_sign c.is_minus-minus.ensures (c.number_of-number.ensures ∙ ap number_of c.unsigned.ensures)
