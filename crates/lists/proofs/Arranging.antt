-- What a listing leaves, of one list and of a cut from its parts'; over any operations.
use mathlib.Core.Path.{◌≡◌, refl, ap, ap₂, ◌∙◌}
use mathlib.Core.Bool.{Bool}
use mathlib.Core.List.{List, [], ◌∷◌, ◌++◌}
use Prim.Native.Nat.{ℕ, suc, ◌+◌, ◌-◌, ◌^◌, ◌≤◌, ◌<◌}
use native.Mathlib.Omega.{arith}
use lib.ListN.{length, take, drop, set, length-append, length-drop}
use lib.Pow.{pow_pos}
use lib.Seq.{sets, length-take-le}
use Rattle.algebra.specs.Operations.{Operations}
use Rattle.algebra.specs.Cut.{cut_at}
use Rattle.algebra.specs.declared.Basis.{Basis}
use Rattle.algebra.proofs.CutPlaces.{cut_length}
use Rattle.number.specs.Bits.{top_power}
use Rattle.number.proofs.Bits.{top_power_lem}
use Rattle.lists.specs.Tree.{Tree, leaf, cut, tree_of}
use Rattle.lists.specs.Arrange.{arranged, leaves_of, ends_of}
use Rattle.lists.specs.inside.Listing.{InPlace}
use Rattle.lists.proofs.TreeRule.{tree_holds}

-- there are as many boundaries as lists
pub length_ends : (tree : Tree) (at n : ℕ) → length (ends_of tree at n) ≡ leaves_of tree
unfolding ends_of leaves_of
length_ends leaf at n = refl
length_ends (cut p low high) at n = rw length-append (ap₂ ◌+◌ (length_ends low at p) (length_ends high (at + p) (n - p)))

pub some_leaves : (tree : Tree) → 0 < leaves_of tree
unfolding leaves_of
some_leaves leaf = omega arith
some_leaves (cut p low high) = omega (arith, some_leaves low)

-- no more lists than coefficients
pub leaves_most : (leading : Bool) (whole degree split : ℕ) → leaves_of (tree_of leading whole degree split) ≤ suc degree
unfolding leaves_of
leaves_most leading whole =
    tree_holds whole (λ leading degree split tree. leaves_of tree ≤ suc degree) (λ leading degree split below. omega arith)
    (λ leading degree split tree leads again most. most) both_parts leading
  where
    both_parts : (leading : Bool) (degree split : ℕ) (low high : Tree) → 2 ^ split ≤ degree → leaves_of low ≤ suc (top_power degree - 1)
        → leaves_of high ≤ suc (degree - top_power degree) → leaves_of (cut (top_power degree) low high) ≤ suc degree
    both_parts leading degree split low high above low_most high_most =
        let bounds = top_power_lem degree (omega (arith, pow_pos split)) in
        omega arith

-- the lengths of the two parts of a cut
module _ {A : Type 0} (𝓞 : Operations A) (basis : Basis) (p : ℕ) (c : List A) (under : p < length c) where
  pub low_size : length (take p (cut_at 𝓞 basis p c)) ≡ p
  low_size = length-take-le p (cut_at 𝓞 basis p c) (omega (arith, cut_length 𝓞 p c (omega arith) basis))

  pub high_size : length (drop p (cut_at 𝓞 basis p c)) ≡ length c - p
  high_size = length-drop p (cut_at 𝓞 basis p c) ∙ ap (λ (k : ℕ). k - p) (cut_length 𝓞 p c (omega arith) basis)

-- values set behind values set
pub sets_append : (b xs ys : List ℕ) (n m : ℕ) → m ≡ n + length xs → sets (sets b n xs) m ys ≡ sets b n (xs ++ ys)
sets_append b [] ys n m behind = ap (λ (k : ℕ). sets b k ys) (omega arith)
sets_append b (x ∷ xs) ys n m behind = sets_append (set b n x) xs ys (suc n) m (omega arith)

module _ {A : Type 0} {𝓞 : Operations A} {basis : Basis} where
  pub place_leaf : {at n : ℕ} {b : List ℕ} (c : List A) → InPlace 𝓞 basis leaf at n c b (n + 1) c (set b n (at + length c))
  unfolding arranged ends_of leaves_of
  place_leaf c = record { coefficients = refl; boundaries = refl; count = refl }

  -- low is listed first, and high behind it
  pub place_cut : {low high : Tree} {at n : ℕ} {b b₁ b₂ : List ℕ} {c y z : List A} {m r : ℕ} (p : ℕ)
      → length (take p (cut_at 𝓞 basis p c)) ≡ p → length (drop p (cut_at 𝓞 basis p c)) ≡ length c - p
      → InPlace 𝓞 basis low at n (take p (cut_at 𝓞 basis p c)) b m y b₁
      → InPlace 𝓞 basis high (at + p) m (drop p (cut_at 𝓞 basis p c)) b₁ r z b₂
      → InPlace 𝓞 basis (cut p low high) at n c b r (y ++ z) b₂
  unfolding arranged ends_of leaves_of
  place_cut {low} {high} {at} {n} {b} {b₁} {b₂} {c} {y} {z} {m} {r} p low_size high_size first then = record {
    coefficients = ap₂ ◌++◌ first.coefficients then.coefficients;
    boundaries =
        then.boundaries
        ∙ rw (first.boundaries, low_size, high_size, first.count)
        (sets_append b (ends_of low at p) (ends_of high (at + p) (length c - p)) n (n + leaves_of low) (omega (arith, length_ends low at p)));
    count = omega (arith, first.count, then.count);
  }
