-- Members and heads that are read in turn.
use mathlib.Core.Path.{◌≡◌, refl, sym, ◌∙◌, ap}
use mathlib.Core.Bool.{false}
use mathlib.Core.List.{List, [], ◌∷◌, ◌++◌, append_assoc}
use Prim.Native.Nat.{ℕ, zero, suc, ◌+◌, ◌-◌, ◌<◌}
use native.Mathlib.Omega.{arith}
use lib.Ieee.{nan}
use lib.ListN.{length, get_or, set, drop, replicate}
use lib.Seq.{drop-cons, set_at}
use Rattle.algebra.specs.Each.{Each}
use Rattle.algebra.specs.declared.Basis.TheVariants.{Monomial}
use Rattle.algebra.specs.declared.Parity.TheVariants.{Full}
use Rattle.algebra.specs.declared.PolynomialInputTransform.TheVariants.{Identity}
use Rattle.counts.specs.declared.choice.SplitStrategy.TheVariants.{MinDepth}
use Rattle.walk.specs.declared.plan.Head.{Head}
use Rattle.plan.specs.PlanHead.{no_head}
use Rattle.sets.specs.SetPlan.{member_limit, with_zero_heads}
use Rattle.sets.specs.declared.member.Member.{Member}

-- ---- what a read past the end of an array would give: no read of ours is past it

abbrev pub no_member : Member
no_member = record { strategy = MinDepth; parity = Full; basis = Monomial; fold = false; a = nan; b = nan; count = 0 }

abbrev pub any_head : Head
any_head = record {
  basis = Monomial;
  parity = Full;
  strategy = MinDepth;
  transform = Identity;
  degree = 0;
  base = 0;
  ct = 0;
  pt = 0;
  depth = 0;
  coefficients = 0;
  lists = 0;
  steps = 0;
  interval = record { a = nan; b = nan; u = nan; w = nan };
}

-- ---- one place after another

module _ {X : Type 0} (d : X) where
  -- from place i on: that element, and those behind it
  pub from_place : (i : ℕ) (xs : List X) → i < length xs → drop i xs ≡ get_or xs i d ∷ drop (i + 1) xs
  from_place i xs inside = let one : suc i ≡ i + 1 = omega arith in drop-cons xs i d inside ∙ ap (λ (k : ℕ). get_or xs i d ∷ drop k xs) one

  -- what holds of each element holds of element i
  pub each_at : (P : X → Type 0) (i : ℕ) (xs : List X) → i < length xs → Each P xs → P (get_or xs i d)
  each_at P i [] inside each = absurd (omega arith)
  each_at P zero (x ∷ xs) inside each = each.0
  each_at P (suc i) (x ∷ xs) inside each = each_at P i xs (omega arith) each.1

-- ---- an array that is filled from the front

pub zeros_more : (heads : List Head) (head : Head) → length heads < member_limit
    → set (with_zero_heads heads) (length heads) head ≡ with_zero_heads (heads ++ (head ∷ []))
zeros_more heads head below =
    let left = member_limit - (length heads + 1) in
    let size : member_limit - length heads ≡ suc left = omega arith in
    ap (λ (k : ℕ). set (heads ++ replicate k no_head) (length heads) head) size
    ∙ set_at heads no_head (replicate left no_head) head (length heads) refl
    ∙ sym (append_assoc heads (head ∷ []) (replicate left no_head))
    ∙ ap (λ (k : ℕ). (heads ++ (head ∷ [])) ++ replicate k no_head) (longer heads)
  where
    longer : (xs : List Head) → member_limit - (length xs + 1) ≡ member_limit - length (xs ++ (head ∷ []))
    longer xs = omega (arith, length_more xs)
      where
        length_more : (ys : List Head) → length (ys ++ (head ∷ [])) ≡ length ys + 1
        length_more [] = refl
        length_more (y ∷ ys) = omega (arith, length_more ys)
