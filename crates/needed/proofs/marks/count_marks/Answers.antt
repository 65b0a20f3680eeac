-- `needed::marks::count_marks` meets its contract. A mark adds 1 and any other place 0, so the sum counts the marks.
-- It fits, since it is at most the number of places.
use mathlib.Core.Bool.{Bool, cond}
use native.Mathlib.Omega.{arith}
use lib.ListN.{take, length-take}
use Rattle.std.proofs.Common.{rules}
use Rattle.std.proofs.lemmas.Iterator.{YieldsList-from_slice, YieldsList-from_map}
use Rattle.std.proofs.lemmas.Iterator.Consumers.{fits_by_from_yields_list}
use Rattle.needed.proofs.PlaceLaws.{count_true, count_most}
use Rattle.needed.proofs.marks.count_marks.Goals as goal

pub sum-requires-clause-fits : goal.sum-requires-clause-fits
sum-requires-clause-fits c =
    let first = take c.args.places c.args.marks in
    fits_by_from_yields_list (λ (mark : Bool). cond mark 1 0) first c.map.result _
    (YieldsList-from_map _ (λ (mark : Bool). cond mark 1 0) (YieldsList-from_slice first cc) c.map.ensures.closure (λ x r q k. search rules))
    (omega (arith, count_true first, count_most first, length-take c.args.places c.args.marks))
