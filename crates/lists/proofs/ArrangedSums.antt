-- Sums and multiples are arranged to sums and multiples: these are maps that keep every cut, of any numbers (algebra/proofs/PolynomialSum). The plan tree
-- goes by the length, so a sum is cut as both its parts are.
use mathlib.Core.Path.{◌≡◌, ap, sym, ◌∙◌}
use mathlib.Core.List.{List, map}
use Prim.Native.Nat.{ℕ, ◌-◌}
use lib.IntN.{ℤ, ◌*ℤ◌}
use lib.ListN.{length, length-map}
use Rattle.algebra.specs.Operations.{Operations, whole_ops}
use Rattle.algebra.specs.Ring.{Ring}
use Rattle.algebra.specs.CutKept.{KeepsCuts}
use Rattle.algebra.specs.PolynomialSum.{sum_of, multiple_of}
use Rattle.algebra.specs.declared.Basis.{Basis}
use Rattle.algebra.specs.declared.Parity.{Parity}
use Rattle.algebra.proofs.Integers.{integers}
use Rattle.algebra.proofs.PolynomialSum.{Any, pairs, first, second, total, first_cuts, second_cuts, total_cuts, multiple_cuts}
use Rattle.algebra.proofs.PolynomialSum.{sum_by_pairs, length_sum}
use Rattle.number.specs.Tests.{degree_of}
use Rattle.counts.specs.declared.choice.SplitStrategy.{SplitStrategy}
use Rattle.lists.specs.Tree.{Tree, plan_tree}
use Rattle.lists.specs.Arrange.{arranged}
use Rattle.lists.specs.ArrangedSums.{ArrangedSums}
use Rattle.lists.proofs.ArrangedKept.{made_any, arranged_kept}

any_kept : {A B : Type 0} (𝓞 : Operations A) (𝓟 : Operations B) (φ : A → B) → KeepsCuts Any 𝓞 𝓟 φ → (basis : Basis) (tree : Tree) (c : List A)
    → arranged 𝓟 basis tree (map φ c) ≡ map φ (arranged 𝓞 basis tree c)
any_kept {A} {B} 𝓞 𝓟 φ keeps basis tree c = arranged_kept A B Any 𝓞 𝓟 φ keeps basis tree c (made_any Any 𝓞 basis (λ a. tt) tree c)

pub arranged_sums : {A : Type 0} (𝓡 : Ring A) → ArrangedSums 𝓡
arranged_sums 𝓡 = record {
  sums = λ basis tree.
      sum_by_pairs 𝓡 (arranged 𝓡.ops basis tree) (arranged (pairs 𝓡) basis tree)
      (any_kept (pairs 𝓡) 𝓡.ops (first 𝓡) (first_cuts 𝓡) basis tree)
      (any_kept (pairs 𝓡) 𝓡.ops (second 𝓡) (second_cuts 𝓡) basis tree)
      (any_kept (pairs 𝓡) 𝓡.ops (total 𝓡) (total_cuts 𝓡) basis tree);
  multiples = λ basis tree k. any_kept 𝓡.ops 𝓡.ops (𝓡.ops.mul k) (multiple_cuts 𝓡 k) basis tree;
}

-- ---- by the plan tree

module _ (strategy : SplitStrategy) (parity : Parity) (basis : Basis) where
  -- whole coefficients by the tree of their own degree
  abbrev pub listed : List ℤ → List ℤ
  listed c = arranged whole_ops basis (plan_tree strategy parity basis (degree_of c)) c

  -- by the tree of any polynomial of their length
  listed_by : (c d : List ℤ) → length d ≡ length c → listed d ≡ arranged whole_ops basis (plan_tree strategy parity basis (degree_of c)) d
  listed_by c d same = ap (λ (n : ℕ). arranged whole_ops basis (plan_tree strategy parity basis (n - 1)) d) same

  pub listed_sum : (c d : List ℤ) → length c ≡ length d → listed (sum_of whole_ops c d) ≡ sum_of whole_ops (listed c) (listed d)
  listed_sum c d same =
      listed_by c (sum_of whole_ops c d) (length_sum integers c d same)
      ∙ (arranged_sums integers).sums basis (plan_tree strategy parity basis (degree_of c)) c d same
      ∙ ap (sum_of whole_ops (listed c)) (sym (listed_by c d (sym same)))

  pub listed_multiple : (k : ℤ) (c : List ℤ) → listed (multiple_of whole_ops k c) ≡ multiple_of whole_ops k (listed c)
  listed_multiple k c =
      listed_by c (multiple_of whole_ops k c) (length-map c (λ (a : ℤ). k *ℤ a))
      ∙ (arranged_sums integers).multiples basis (plan_tree strategy parity basis (degree_of c)) k c
