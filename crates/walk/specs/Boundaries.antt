-- A plan's lists stand one after another among the coefficients: boundary i is the first place after list i.
use Rattle.std.specs.Prelude.{Bool, true, ◌&&◌, List, [], ◌∷◌, ℕ, zero, suc, ◌-◌, leb, ltb, ℤ, length, take, drop, get_or}
use Rattle.std.proofs.Math.Option.{some}
use Rattle.number.specs.Options.{when}
use Rattle.walk.specs.State.{Lists}

-- the boundaries rise strictly from a place, and pass no other
unfoldable pub rises : (from most : ℕ) → List ℕ → Bool
rises from most [] = true
rises from most (bound ∷ bounds) = ltb from bound && (leb bound most && rises bound most bounds)

-- where list i ends, and where it starts
abbrev pub end_of : (bounds : List ℕ) (i : ℕ) → ℕ
end_of bounds i = get_or bounds i 0

abbrev pub start_of : (bounds : List ℕ) (i : ℕ) → ℕ
start_of bounds zero = 0
start_of bounds (suc i) = end_of bounds i

-- what stands between
abbrev pub part_of : List ℤ → (bounds : List ℕ) (i : ℕ) → List ℤ
part_of c bounds i = take (end_of bounds i - start_of bounds i) (drop (start_of bounds i) c)

-- list i, if there is one
unfoldable pub list_at : List ℤ → (bounds : List ℕ) → Lists
list_at c bounds i = when (ltb i (length bounds)) (some (part_of c bounds i))
