-- The range of every chosen split: MinDepth's by its list of cases, MinMult's by its search.
use mathlib.Core.Path.{◌≡◌, refl}
use mathlib.Core.Bool.{Bool, true, false, cond, ◌&&◌}
use mathlib.Core.List.{List, [], ◌∷◌}
use Prim.Native.Nat.{ℕ, zero, suc, ◌≤◌, ◌<◌}
use native.Mathlib.Omega.{arith}
use lib.Dec.{leb, eqb}
use borrow.Author.Tests.{eqb-true, leb-true}
use Rattle.algebra.specs.declared.Basis.{Basis}
use Rattle.algebra.specs.declared.Parity.{Parity}
use Rattle.number.specs.Bits.{bit_len}
use Rattle.number.specs.Limits.{plan_limit}
use Rattle.number.specs.inside.Between.{Between}
use Rattle.counts.specs.Pair.{pair_at}
use Rattle.counts.specs.MinDepth.{min_depth_cases, split_beside, min_depth}
use Rattle.counts.specs.Choice.{split_for, counts_of}
use Rattle.counts.specs.declared.choice.SplitStrategy.{SplitStrategy}
use Rattle.counts.specs.declared.choice.SplitStrategy.TheVariants.{MinDepth, MinMult}
use Rattle.number.proofs.Bits.{some_digit, few_digits}
use Rattle.number.proofs.BothHold.{and_left, and_right}
use Rattle.counts.proofs.MinMultLaws.{mult_range}

-- ---- MinDepth's choice

-- a list of cases in which every split is from 1 to the bit length that it stands beside
in_range : List (ℕ × ℕ) → Bool
in_range [] = true
in_range ((listed, split) ∷ cases) = (leb 1 split && leb split listed) && in_range cases

beside_range : (bits : ℕ) (cases : List (ℕ × ℕ)) → 1 ≤ bits → in_range cases ≡ true → Between 1 (split_beside bits cases) bits
unfolding in_range
beside_range bits [] from ranged = record { from = from; to = omega arith }
beside_range bits ((listed, split) ∷ cases) from ranged =
    by_test (eqb bits listed) refl (beside_range bits cases from (and_right (leb 1 split && leb split listed) (in_range cases) ranged))
  where
    by_test : (test : Bool) → eqb bits listed ≡ test → Between 1 (split_beside bits cases) bits
        → Between 1 (cond test split (split_beside bits cases)) bits
    by_test true is_listed others =
        let both = and_left (leb 1 split && leb split listed) (in_range cases) ranged in
        let least = leb-true _ _ (and_left (leb 1 split) (leb split listed) both) in
        let most = leb-true _ _ (and_right (leb 1 split) (leb split listed) both) in
        record { from = least; to = rw (eqb-true bits listed is_listed) most }
    by_test false other others = others

pub depth_range : (bits : ℕ) → 1 ≤ bits → Between 1 (min_depth bits) bits
unfolding min_depth in_range
depth_range bits from = beside_range bits min_depth_cases from refl

-- ---- every choice

pub split_range : (strategy : SplitStrategy) (parity : Parity) (basis : Basis) (degree : ℕ) → Between 1 degree plan_limit
    → Between 1 (split_for strategy parity basis degree) 12
unfolding split_for
split_range MinDepth parity basis degree range =
    let half = depth_range (bit_len degree) (some_digit degree range.from) in
    let digits = few_digits degree range.to in
    record { from = half.from; to = omega arith }
split_range MinMult parity basis degree range = mult_range parity basis degree range.to

-- from degree 1 on the counts are the pair at the chosen split
pub counts_from_one : (strategy : SplitStrategy) (parity : Parity) (basis : Basis) (degree : ℕ) → 0 < degree
    → counts_of strategy parity basis degree ≡ pair_at parity basis degree (split_for strategy parity basis degree)
unfolding counts_of
counts_from_one strategy parity basis zero positive = absurd (omega arith)
counts_from_one strategy parity basis (suc d) positive = refl
