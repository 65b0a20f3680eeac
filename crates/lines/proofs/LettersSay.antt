-- The tables of letters hold what they should: by computing.
use mathlib.Core.Path.{◌≡◌, refl}
use mathlib.Core.Bool.{Bool, true, false, cond, ◌||◌}
use mathlib.Core.List.{[], ◌∷◌}
use Prim.Native.Nat.{ℕ}
use lib.Dec.{eqb}
use Rattle.std.proofs.Common.{Some, None}
use Rattle.std.specs.Option.{unwrap_or}
use Rattle.lines.specs.Letters.{Letters, is_letter, says}
use Rattle.lines.specs.inside.Reading.{said}
use Rattle.lines.specs.LettersSay.{LettersSay}

pub letters_say : LettersSay
letters_say = record {
  basis_numbers = refl;
  parity_numbers = refl;
  strategy_numbers = refl;
  basis_read = refl;
  parity_read = refl;
  strategy_read = refl;
  fold_read = refl;
}

-- what a letter says, or, of any other byte, what it says otherwise
pub said_or : {X : Type 0} (otherwise : X) (rows : Letters X) (b : ℕ) → unwrap_or (said otherwise rows b) otherwise ≡ says otherwise rows b
said_or otherwise [] b = refl
said_or otherwise (row ∷ rows) b = by_first (eqb b row.0) (said_or otherwise rows b)
  where
    by_first : (t : Bool) → unwrap_or (said otherwise rows b) otherwise ≡ says otherwise rows b
        → unwrap_or (cond (t || is_letter rows b) (Some (cond t row.1 (says otherwise rows b))) None) otherwise ≡ cond t row.1 (says otherwise rows b)
    by_first true e = refl
    by_first false e = e
