-- The fold calls (docs/RULES.md, "Folding" and "Refusals"): their tests in order, their answer, and what they leave in the buffer.
use Rattle.std.specs.Prelude.{◌≡◌, List, [], ◌∷◌, ◌++◌, ℕ, Result, length}
use Rattle.std.proofs.lemmas.List.Edits.{sets}
use Rattle.algebra.specs.EnumNumbers.{transform_number}
use Rattle.algebra.specs.Fold.{fold}
use Rattle.algebra.specs.Transform.{transform_of}
use Rattle.algebra.specs.declared.Basis.{Basis}
use Rattle.algebra.specs.declared.Parity.{Parity}
use Rattle.algebra.specs.declared.Parity.TheVariants.{Full}
use Rattle.algebra.specs.declared.PolynomialInputTransform.{PolynomialInputTransform}
use Rattle.algebra.specs.declared.PolynomialInputTransform.TheVariants.{Identity}
use Rattle.number.specs.Limits.{plan_limit}
use Rattle.number.specs.Numbers.{Numbers}
use Rattle.number.specs.Refusal.{Test, first_refusal, unless_refused}
use Rattle.number.specs.Tests.{degree_of, too_high, folding_tests, too_large, no_room}
use Rattle.number.specs.Refused.{numbered}
use Rattle.number.specs.declared.fold.Fold.{Fold}
use Rattle.number.specs.declared.refusal.Refusal.{Refusal}

-- the call's answer in numbers: its refusal, or 0 with the transform, the result's parity and the number of coefficients written
pub record Folded : Type 0 where
  pub refusal : ℕ
  pub transform : PolynomialInputTransform
  pub parity : Parity
  pub count : ℕ

-- after a refusal zero in every other field, and the first transform and parity
abbrev pub no_fold : (refusal : ℕ) → Folded
no_fold refusal = record { refusal = refusal; transform = Identity; parity = Full; count = 0 }

-- what a result says of the answer
abbrev pub folded_in : Result Fold Refusal → Folded
folded_in = numbered (λ (f : Fold). record { refusal = 0; transform = f.transform; parity = f.parity; count = f.count }) no_fold

module _ {A : Type 0} (numbers : Numbers A) (parity : Parity) (basis : Basis) (c out : List A) where
  -- the folded coefficients
  abbrev pub folded : List A
  folded = fold numbers.ops parity basis c

  -- 2, 5, 6, 4, 3, and 21 for a buffer without a place for each coefficient of the fold
  abbrev pub fold_tests : List Test
  fold_tests = too_high plan_limit (degree_of c) ∷ (folding_tests numbers parity c ++ (too_large numbers c ∷ no_room (length out) (length folded) ∷ []))

  unfoldable pub fold_refusal : ℕ
  fold_refusal = first_refusal fold_tests

  -- the answer: the result has parity Full
  unfoldable pub fold_answer : Folded
  fold_answer =
      unless_refused fold_refusal (record { refusal = 0; transform = transform_of parity basis; parity = Full; count = length folded }) (no_fold fold_refusal)

  -- the buffer: the fold in its first places, and the places beyond unchanged; after a refusal all of it unchanged
  unfoldable pub fold_buffer : List A
  fold_buffer = unless_refused fold_refusal (sets out 0 folded) out

  -- what a call says, and what it leaves in the buffer
  pub record FoldCall (r : Folded) (left : List A) : Type 0 where
    pub answer : r ≡ fold_answer
    pub transform : transform_number r.transform ≡ unless_refused fold_refusal (transform_number (transform_of parity basis)) 0
    pub buffer : left ≡ fold_buffer
