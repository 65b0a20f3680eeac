-- `conversion::whole::is_whole` meets its contract: it makes the definition's test of each coefficient, with its place.
use mathlib.Core.Path.{◌≡◌, refl, ap, ◌∙◌}
use mathlib.Core.Bool.{Bool, ◌&&◌}
use mathlib.Core.List.{List, [], ◌∷◌}
use Prim.Native.Nat.{ℕ, ◌+◌, ◌%◌}
use native.Mathlib.Numerals.{add-one}
use lib.Dec.{eqb}
use lib.IntN.{ℤ, nat_abs}
use Rattle.std.proofs.Common.{rules}
use Rattle.std.proofs.lemmas.Iterator.{YieldsList-from_slice}
use Rattle.std.proofs.lemmas.Iterator.Consumers.{YieldsList-from_enumerate}
use Rattle.std.proofs.lemmas.Iterator.Search.{all_from_yields_List}
use Rattle.std.specs.List.{list_all, enumerate_from}
use Rattle.algebra.specs.declared.Basis.{Basis}
use Rattle.bases.specs.Rows.{denominator}
use Rattle.bases.specs.Convert.{whole_from}
use Rattle.conversion.proofs.whole.is_whole.Goals as goal

abbrev test : Basis → ℕ × ℤ → Bool
test to p = eqb (nat_abs p.1 % denominator to p.0) 0

all_whole : (to : Basis) (n : ℕ) (c : List ℤ) → list_all (test to) (enumerate_from n c) ≡ whole_from to n c
unfolding whole_from
all_whole to n [] = refl
all_whole to n (z ∷ c) = ap (λ (b : Bool). test to (n, z) && b) (all_whole to (n + 1) c ∙ rw add-one)

pub returns : goal.returns
returns c =
    let items = YieldsList-from_enumerate (YieldsList-from_slice c.args.c.now cc) cc in
    let tested = all_from_yields_List (test c.args.to) _ _ c.all.result c.all.ensures.ran items (λ p b f called. search rules) in
    tested ∙ all_whole c.args.to 0 c.args.c.now
