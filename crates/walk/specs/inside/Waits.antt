-- How the program has the waiting values: in an array, the first of them up to a count.
use Rattle.std.specs.Prelude.{◌≡◌, refl, List, [], ◌∷◌, ℕ, zero, suc, get_or, length}
use Rattle.std.proofs.Common.{ap}

-- the first k values, the last one first
unfoldable pub last_first : List ℕ → (k : ℕ) → List ℕ
last_first values zero = []
last_first values (suc k) = get_or values k 0 ∷ last_first values k

-- of so many
pub length_last_first : (values : List ℕ) (k : ℕ) → length (last_first values k) ≡ k
unfolding last_first
length_last_first values zero = refl
length_last_first values (suc k) = ap suc (length_last_first values k)

-- the waiting values, the last one first, and all places of the array, also those behind them
pub record Stack : Type 0 where
  pub list : List ℕ
  pub places : List ℕ
