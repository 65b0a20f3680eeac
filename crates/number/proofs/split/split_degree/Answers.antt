-- `number::split::split_degree` meets its contract. Its test is that of refusal 9, and the parts of an index that passes it are those of `parts_of`.
use mathlib.Core.Path.{sym}
use mathlib.Core.Logic.{⊎_elim}
use native.Mathlib.Omega.{arith}
use borrow.Author.Tests.{ltb-true}
use Rattle.number.proofs.SplitParts.{split_below, split_above}
use Rattle.number.proofs.split.split_degree.Goals as goal

pub returns-then-n-lt2 : goal.returns-then-n-lt2
returns-then-n-lt2 c =
    let n = c.args.n in
    ⊎_elim (λ low. sym (split_below n (omega arith))) (λ high. sym (split_above n (omega (arith, ltb-true)))) c.then-n-lt2.either
