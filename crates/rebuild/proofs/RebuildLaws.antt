-- Rebuilding takes back arranging, and arranging takes back rebuilding. By induction over a sound tree.
use mathlib.Core.Path.{◌≡◌, refl, sym, ◌∙◌, ap, ap₂}
use mathlib.Core.Bool.{true}
use mathlib.Core.List.{List, ◌++◌}
use mathlib.Core.Option.{some, some-injective}
use Prim.Native.Nat.{ℕ, ◌+◌, ◌<◌, ◌^◌}
use native.Mathlib.Omega.{arith}
use lib.IntN.{ℤ}
use lib.ListN.{length, take, drop, take-append-drop, length-append, length-drop}
use lib.Seq.{take_at, drop_at, length-take-le}
use Rattle.algebra.specs.Operations.{whole_ops}
use Rattle.algebra.specs.Cut.{cut_at}
use Rattle.algebra.specs.Magnitude.{sum_abs}
use Rattle.algebra.specs.declared.Basis.{Basis}
use Rattle.number.specs.Options.{◌then◌}
use Rattle.number.specs.inside.Room.{SumByLengthTo53}
use Rattle.number.proofs.Options.{then_some}
use Rattle.lists.specs.Tree.{Tree, leaf, cut}
use Rattle.lists.specs.Arrange.{arranged}
use Rattle.lists.specs.TreeFacts.{Sound}
use Rattle.lists.proofs.Arranging.{low_size, high_size}
use Rattle.number.specs.inside.Laws.{lists_low, lists_high}
use Rattle.lists.proofs.SumByLength.{sum_by_length_sum}
use Rattle.lists.proofs.Lists.{length_arranged}
use Rattle.rebuild.specs.Undo.{fits_i64, every, undone}
use Rattle.rebuild.specs.Rebuild.{rebuilt}
use Rattle.rebuild.proofs.UndoLaws.{undone_facts, undo_cut, cut_undone, length_undone}

-- the lists of coefficients with room to double give these again
pub rebuilt_arranged : (basis : Basis) (base : ℕ) (tree : Tree) (c : List ℤ) → Sound base tree (length c) → SumByLengthTo53 c
    → rebuilt basis tree (arranged whole_ops basis tree c) ≡ some c
unfolding rebuilt arranged
rebuilt_arranged basis base leaf c sound room = refl
rebuilt_arranged basis base (cut p low high) c sound room =
    let c₁ = cut_at whole_ops basis p c in
    let under : p < length c = sound.under in
    let low_is = low_size whole_ops basis p c under in
    let low_sound : Sound base low (length (take p c₁)) = rw low_is sound.low in
    let high_sound : Sound base high (length (drop p c₁)) = rw (high_size whole_ops basis p c under) sound.high in
    let long : length (arranged whole_ops basis low (take p c₁)) ≡ p = length_arranged whole_ops basis base low (take p c₁) low_sound ∙ low_is in
    let small : sum_abs c < 2 ^ 63 = omega (arith, sum_by_length_sum c room) in
    rw (
      take_at (arranged whole_ops basis low (take p c₁)) (arranged whole_ops basis high (drop p c₁)) p long,
      drop_at (arranged whole_ops basis low (take p c₁)) (arranged whole_ops basis high (drop p c₁)) p long,
      rebuilt_arranged basis base low (take p c₁) low_sound (lists_low basis p c (omega arith) room),
      rebuilt_arranged basis base high (drop p c₁) high_sound (lists_high basis p c (omega arith) sound.half room),
    )
    (undo_cut basis p c (omega arith) small)

-- the two parts of what was rebuilt at a cut
pub record Parts (basis : Basis) (low high : Tree) (first then_on c : List ℤ) : Type 0 where
  pub r : List ℤ
  pub q : List ℤ
  pub low_is : rebuilt basis low first ≡ some r
  pub high_is : rebuilt basis high then_on ≡ some q
  pub joined : undone basis r q ≡ some c

parts_of_lem : (basis : Basis) (low high : Tree) (first then_on c : List ℤ)
    → (rebuilt basis low first then λ r. rebuilt basis high then_on then λ q. undone basis r q) ≡ some c → Parts basis low high first then_on c
parts_of_lem basis low high first then_on c is =
    let lower = then_some (rebuilt basis low first) _ c is in
    let higher = then_some (rebuilt basis high then_on) _ c lower.next in
    record { r = lower.value; q = higher.value; low_is = lower.is; high_is = higher.is; joined = higher.next }

-- as many coefficients as places
pub length_rebuilt : (basis : Basis) (tree : Tree) (l c : List ℤ) → rebuilt basis tree l ≡ some c → length c ≡ length l
unfolding rebuilt
length_rebuilt basis leaf l c is = ap length (sym (some-injective l c is))
length_rebuilt basis (cut p low high) l c is =
    let parts = parts_of_lem basis low high (take p l) (drop p l) c is in
    length_undone basis parts.r parts.q c parts.joined
    ∙ ap₂ ◌+◌ (length_rebuilt basis low (take p l) parts.r parts.low_is) (length_rebuilt basis high (drop p l) parts.q parts.high_is)
    ∙ sym (length-append (take p l) (drop p l))
    ∙ ap length (take-append-drop p l)

-- the rebuilt coefficients have these lists
pub arranged_rebuilt : (basis : Basis) (base : ℕ) (tree : Tree) (l c : List ℤ) → Sound base tree (length l) → rebuilt basis tree l ≡ some c
    → arranged whole_ops basis tree c ≡ l
unfolding rebuilt arranged
arranged_rebuilt basis base leaf l c sound is = sym (some-injective l c is)
arranged_rebuilt basis base (cut p low high) l c sound is =
    let parts = parts_of_lem basis low high (take p l) (drop p l) c is in
    let under : p < length l = sound.under in
    let first_size : length (take p l) ≡ p = length-take-le p l (omega arith) in
    let long : length parts.r ≡ p = length_rebuilt basis low (take p l) parts.r parts.low_is ∙ first_size in
    let cuts : cut_at whole_ops basis p c ≡ parts.r ++ parts.q = cut_undone basis p parts.r parts.q c long parts.joined in
    rw (cuts, take_at parts.r parts.q p long, drop_at parts.r parts.q p long)
    (ap₂ ◌++◌
    (arranged_rebuilt basis base low (take p l) parts.r (rw first_size sound.low) parts.low_is)
    (arranged_rebuilt basis base high (drop p l) parts.q (rw (length-drop p l) sound.high) parts.high_is)
    ∙ take-append-drop p l)

-- what is rebuilt of numbers that an i64 holds, an i64 holds
pub rebuilt_fits : (basis : Basis) (tree : Tree) (l c : List ℤ) → every fits_i64 l ≡ true → rebuilt basis tree l ≡ some c → every fits_i64 c ≡ true
unfolding rebuilt
rebuilt_fits basis leaf l c fits is = ap (every fits_i64) (sym (some-injective l c is)) ∙ fits
rebuilt_fits basis (cut p low high) l c fits is =
    let parts = parts_of_lem basis low high (take p l) (drop p l) c is in
    (undone_facts basis parts.r parts.q c parts.joined).fits
