-- A map that keeps every cut keeps the arrangement, by recursion on the tree: what stands after the cut is kept, so both its parts are.
use mathlib.Core.Path.{◌≡◌, refl, ap₂}
use mathlib.Core.List.{List, ◌++◌, map, map-append}
use Prim.Native.Nat.{ℕ}
use lib.ListN.{take, drop, take-append-drop}
use Rattle.algebra.specs.Operations.{Operations}
use Rattle.algebra.specs.Cut.{cut_at}
use Rattle.algebra.specs.CutKept.{KeepsCuts}
use Rattle.algebra.specs.Each.{Each}
use Rattle.algebra.specs.declared.Basis.{Basis}
use Rattle.algebra.proofs.CutKept.{cut_kept}
use Rattle.algebra.proofs.Each.{each_any, each_append}
use Rattle.algebra.proofs.Maps.{map_take, map_drop}
use Rattle.lists.specs.Tree.{Tree, leaf, cut}
use Rattle.lists.specs.Arrange.{arranged}
use Rattle.lists.specs.ArrangedKept.{EachMade, ArrangedKept}

-- ---- each number that arranging makes

module _ {A : Type 0} (P : A → Type 0) (𝓞 : Operations A) (basis : Basis) where
  -- what every number has
  pub made_any : ((a : A) → P a) → (tree : Tree) (c : List A) → EachMade P 𝓞 basis tree c
  made_any any leaf c = each_any P any c
  made_any any (cut p low high) c = record {
    given = each_any P any c;
    low = made_any any low (take p (cut_at 𝓞 basis p c));
    high = made_any any high (drop p (cut_at 𝓞 basis p c));
  }

  -- those that it is given
  each_given : (tree : Tree) (c : List A) → EachMade P 𝓞 basis tree c → Each P c
  each_given leaf c made = made
  each_given (cut p low high) c made = made.given

  -- those that stand after a cut
  each_cut : (p : ℕ) (low high : Tree) (c : List A) → EachMade P 𝓞 basis (cut p low high) c → Each P (cut_at 𝓞 basis p c)
  each_cut p low high c made =
      let c₁ = cut_at 𝓞 basis p c in
      rw (take-append-drop p c₁) at (each_append P (take p c₁) (drop p c₁) (each_given low (take p c₁) made.low) (each_given high (drop p c₁) made.high))

  -- those of the lists
  pub each_arranged : (tree : Tree) (c : List A) → EachMade P 𝓞 basis tree c → Each P (arranged 𝓞 basis tree c)
  unfolding arranged
  each_arranged leaf c made = made
  each_arranged (cut p low high) c made =
      let c₁ = cut_at 𝓞 basis p c in
      each_append P (arranged 𝓞 basis low (take p c₁)) (arranged 𝓞 basis high (drop p c₁)) (each_arranged low (take p c₁) made.low)
      (each_arranged high (drop p c₁) made.high)

-- ---- the map

module _ {A B : Type 0} (P : A → Type 0) (𝓞 : Operations A) (𝓟 : Operations B) (φ : A → B) (keeps : KeepsCuts P 𝓞 𝓟 φ) (basis : Basis) where
  kept : (tree : Tree) (c : List A) → EachMade P 𝓞 basis tree c → arranged 𝓟 basis tree (map φ c) ≡ map φ (arranged 𝓞 basis tree c)
  unfolding arranged
  kept leaf c made = refl
  kept (cut p low high) c made =
      let c₁ = cut_at 𝓞 basis p c in
      rw (
        cut_kept A B P 𝓞 𝓟 φ keeps basis p c made.given (each_cut P 𝓞 basis p low high c made),
        map_take φ p c₁,
        map_drop φ p c₁,
        map-append,
      )
      (ap₂ ◌++◌ (kept low (take p c₁) made.low) (kept high (drop p c₁) made.high))

pub arranged_kept : (A B : Type 0) → ArrangedKept A B
arranged_kept A B P 𝓞 𝓟 φ keeps basis tree c made = kept P 𝓞 𝓟 φ keeps basis tree c made
