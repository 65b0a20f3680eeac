-- The needed powers worked out: a list of marks, of which place n is true where power n is needed, swept from high to low.
use Rattle.std.specs.Prelude.{◌≡◌, Bool, true, false, cond, List, [], ◌∷◌, ◌++◌, ℕ, zero, suc, ◌+◌, ◌-◌, ◌^◌, max, ltb, length, get_or, set, replicate}
use Rattle.algebra.specs.declared.Basis.{Basis}
use Rattle.algebra.specs.declared.Basis.TheVariants.{Monomial, Chebyshev}
use Rattle.algebra.specs.declared.Parity.{Parity}
use Rattle.number.specs.Split.{parts_of}
use Rattle.number.specs.Bits.{top_power}
use Rattle.needed.specs.Needed.{baby_limit}
use Rattle.needed.specs.NeededList.{is_target}

-- power n is marked
abbrev pub Marked : List Bool → (n : ℕ) → Type 0
Marked marks n = get_or marks n false ≡ true

-- the greatest place that may be needed at once
abbrev pub greatest_target : (degree split : ℕ) → ℕ
greatest_target degree split = max (top_power degree) (baby_limit degree split - 1)

-- f first, f (first + 1), .., as many as the last argument says
unfoldable pub places : (f : ℕ → Bool) → (first count : ℕ) → List Bool
places f first zero = []
places f first (suc count) = f first ∷ places f (suc first) count

-- a mark at n, if n is above 1
unfoldable pub mark_at : (n : ℕ) → List Bool → List Bool
mark_at n marks = cond (ltb 1 n) (set marks n true) marks

-- in Chebyshev a mark at the distance of the parts of n
unfoldable pub mark_apart : Basis → (n : ℕ) → List Bool → List Bool
mark_apart Monomial n marks = marks
mark_apart Chebyshev n marks = mark_at (parts_of n).distance marks

-- and marks at the parts
unfoldable pub mark_parts : Basis → (n : ℕ) → List Bool → List Bool
mark_parts basis n marks = mark_at (parts_of n).b (mark_at (parts_of n).a (mark_apart basis n marks))

-- one place of the sweep: where n is marked, so are its parts
unfoldable pub sweep_at : Basis → (n : ℕ) → List Bool → List Bool
sweep_at basis n marks = cond (get_or marks n false) (mark_parts basis n marks) marks

-- the sweep from n down to 2
unfoldable pub sweep_from : Basis → (n : ℕ) → List Bool → List Bool
sweep_from basis zero marks = marks
sweep_from basis (suc zero) marks = marks
sweep_from basis (suc (suc n)) marks = sweep_from basis (suc n) (sweep_at basis (suc (suc n)) marks)

-- the marks of the powers needed at once, up to the greatest
unfoldable pub target_marks : Parity → (degree split : ℕ) → List Bool
target_marks parity degree split = places (is_target parity (top_power degree) (baby_limit degree split)) 0 (greatest_target degree split + 1)

-- the marks of all needed powers
unfoldable pub needed_marks : Parity → Basis → (degree split : ℕ) → List Bool
needed_marks parity basis degree split = sweep_from basis (greatest_target degree split) (target_marks parity degree split)

-- the marked places, rising; the first argument is the place of the list's first mark
unfoldable pub marked_from : (first : ℕ) → List Bool → List ℕ
marked_from first [] = []
marked_from first (true ∷ marks) = first ∷ marked_from (suc first) marks
marked_from first (false ∷ marks) = marked_from (suc first) marks

-- 2^k, 2^(k+1), .., as many as the last argument says
unfoldable pub two_powers : (k count : ℕ) → List ℕ
two_powers k zero = []
two_powers k (suc count) = 2 ^ k ∷ two_powers (suc k) count

-- how many are marked
unfoldable pub count_marks : List Bool → ℕ
count_marks [] = 0
count_marks (mark ∷ marks) = cond mark 1 0 + count_marks marks

-- a list of marks among as many places as an array has: no mark beyond the list
unfoldable pub padded : (size : ℕ) → List Bool → List Bool
padded size marks = marks ++ replicate (size - length marks) false
