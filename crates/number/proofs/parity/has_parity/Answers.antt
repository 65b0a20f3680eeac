-- `number::parity::has_parity` meets its contract: the definition tests the coefficients in their order, each with its place, as the chain does.
use mathlib.Core.Path.{◌∙◌}
use mathlib.Core.Bool.{◌||◌}
use borrow.Author.Rules.{rules}
use borrow.Author.Tests.{tests}
use Rattle.std.proofs.lemmas.Iterator.{YieldsList-from_slice}
use Rattle.std.proofs.lemmas.Iterator.Consumers.{YieldsList-from_enumerate}
use Rattle.std.proofs.lemmas.Iterator.Search.{all_from_yields_List}
use Rattle.algebra.specs.Allowed.{allows}
use Rattle.number.proofs.ParityLoops.{all_places}
use Rattle.number.proofs.parity.has_parity.Goals as goal

pub returns : goal.returns
returns g c =
    let n = g.C.Coefficient.numbers in
    all_from_yields_List (λ p. allows c.args.parity p.0 || n.is_zero p.1) _ _ _ c.all.ensures.ran
    (YieldsList-from_enumerate (YieldsList-from_slice c.args.c.now cc) cc) (λ x b q k. search (rules, tests))
    ∙ all_places n c.args.parity 0 c.args.c.now
