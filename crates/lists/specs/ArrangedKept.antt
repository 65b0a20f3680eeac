-- A map that keeps every cut keeps every arrangement: it may be applied to the coefficients or to their lists.
use Rattle.std.specs.Prelude.{◌≡◌, List, map, take, drop}
use Rattle.algebra.specs.Operations.{Operations}
use Rattle.algebra.specs.Cut.{cut_at}
use Rattle.algebra.specs.CutKept.{KeepsCuts}
use Rattle.algebra.specs.Each.{Each}
use Rattle.algebra.specs.declared.Basis.{Basis}
use Rattle.lists.specs.Tree.{Tree, leaf, cut}
use Rattle.lists.specs.Arrange.{arranged}

-- each number that arranging makes has P: those that it is given, and at a cut those of both parts
abbrev pub EachMade : {A : Type 0} → (P : A → Type 0) → Operations A → Basis → Tree → List A → Type 0
EachMade P 𝓞 basis leaf c = Each P c
EachMade P 𝓞 basis (cut p low high) c = record {
  given : Each P c;
  low : EachMade P 𝓞 basis low (take p (cut_at 𝓞 basis p c));
  high : EachMade P 𝓞 basis high (drop p (cut_at 𝓞 basis p c));
}

-- by any tree, if the map keeps the cuts of numbers that have P, and each number made has it
abbrev pub ArrangedKept : (A B : Type 0) → Type 1
ArrangedKept A B = (P : A → Type 0) (𝓞 : Operations A) (𝓟 : Operations B) (φ : A → B) → KeepsCuts P 𝓞 𝓟 φ → (basis : Basis) (tree : Tree)
    (c : List A) → EachMade P 𝓞 basis tree c → arranged 𝓟 basis tree (map φ c) ≡ map φ (arranged 𝓞 basis tree c)
