-- `lines::whole::is_number` meets its contract: it tests how many bytes there are, and then whether each is a digit.
use Rattle.std.proofs.Common.{sym, ◌∙◌, rules, tests}
use Rattle.std.specs.Char.{is_ascii_digit}
use Rattle.std.proofs.lemmas.Iterator.{YieldsList-from_slice}
use Rattle.std.proofs.lemmas.Iterator.Search.{all_from_yields_List}
use Rattle.lines.proofs.WholeLaws.{digits_all, wrong_length, right_length}
use Rattle.lines.proofs.whole.is_number.Goals as goal

pub returns-then-may_have : goal.returns-then-may_have
returns-then-may_have c =
    let bytes = c.args.bytes.now in
    all_from_yields_List is_ascii_digit _ _ _ c.all.ensures.ran (YieldsList-from_slice bytes cc) (λ x b q k. search (rules, tests))
    ∙ digits_all bytes
    ∙ right_length bytes (sym c.may_have.ensures ∙ c.if-may_have.true)

pub returns-else-may_have : goal.returns-else-may_have
returns-else-may_have c = c.if-may_have.false ∙ wrong_length c.args.bytes.now (sym c.may_have.ensures ∙ c.if-may_have.false)
