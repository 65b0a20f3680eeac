-- Places filled one by one, and places without marks at the end: these change neither the sweep nor the count.
use mathlib.Core.Path.{◌≡◌, refl, ap, sym, ◌∙◌}
use mathlib.Core.Bool.{Bool, true, false, cond}
use mathlib.Core.List.{List, [], ◌∷◌, ◌++◌, append_assoc}
use Prim.Native.Nat.{ℕ, zero, suc, ◌+◌, ◌-◌, ◌≤◌, ◌<◌}
use native.Mathlib.Decide.{dec_lt}
use native.Mathlib.Numerals.{add-one}
use native.Mathlib.Omega.{arith}
use lib.Dec.{ltb}
use lib.ListN.{length, get_or, set, replicate, take, get_or-append, get_or-eq_default}
use Rattle.std.specs.List.{count_by}
use Rattle.std.proofs.lemmas.List.Recursion.{is_sum_by}
use lib.Seq.{set-append_left, set_at, take_at, take-nil}
use Rattle.algebra.specs.declared.Basis.{Basis}
use Rattle.algebra.specs.declared.Basis.TheVariants.{Monomial, Chebyshev}
use Rattle.number.specs.Split.{parts_of}
use Rattle.needed.specs.inside.Marks.{Marked, places, padded, mark_at, mark_apart, mark_parts, sweep_at, sweep_from, count_marks}
use Rattle.number.proofs.SplitParts.{parted}
use Rattle.needed.proofs.Flags.{by_test}
use Rattle.needed.proofs.MarkLaws.{mark_length, apart_length, place_marked, place_unmarked}
use Rattle.needed.proofs.SweepLaws.{sweep_length}

-- ---- places

module _ (f : ℕ → Bool) where
  pub places_length : (i n : ℕ) → length (places f i n) ≡ n
  unfolding places
  places_length i zero = refl
  places_length i (suc n) = ap suc (places_length (suc i) n)

  places_from : (i n k : ℕ) → k < n → get_or (places f i n) k false ≡ f (i + k)
  unfolding places
  places_from i zero k inside = absurd (omega arith)
  places_from i (suc n) zero inside = ap f (omega arith)
  places_from i (suc n) (suc k) inside = places_from (suc i) n k (omega arith) ∙ ap f (omega arith)

  pub place_at : (n k : ℕ) → k < n → get_or (places f 0 n) k false ≡ f k
  place_at n k inside = places_from 0 n k inside ∙ ap f (omega arith)

  places_last : (i n : ℕ) → places f i (suc n) ≡ places f i n ++ (f (i + n) ∷ [])
  unfolding places
  places_last i zero = let same : i + 0 ≡ i = omega arith in rw same
  places_last i (suc n) = let same : i + suc n ≡ suc i + n = omega arith in rw same (ap (f i ∷◌) (places_last (suc i) n))

  place_last : (n : ℕ) → places f 0 (suc n) ≡ places f 0 n ++ (f n ∷ [])
  place_last n = let same : 0 + n ≡ n = omega arith in rw same at (places_last 0 n)

  -- the first i places are filled, and the rest has no mark
  unfoldable pub filled : ℕ → ℕ → List Bool
  filled size i = places f 0 i ++ replicate (size - i) false

  pub fill_start : (size : ℕ) → replicate size false ≡ filled size 0
  unfolding filled places
  fill_start size = let none : size - 0 ≡ size = omega arith in rw none

  pub fill_step : (size i : ℕ) {v : Bool} → i < size → v ≡ f i → set (filled size i) i v ≡ filled size (i + 1)
  unfolding filled
  fill_step size i {v} inside is =
      let one_more : size - i ≡ suc (size - (i + 1)) = omega arith in
      let rest = replicate (size - (i + 1)) false in
      rw one_more
      (set_at (places f 0 i) false rest v i (places_length 0 i)
      ∙ sym (rw (add-one, place_last i, is) (append_assoc (places f 0 i) (f i ∷ []) (replicate (size - suc i) false))))

  pub fill_end : (size i : ℕ) → filled size i ≡ padded size (places f 0 i)
  unfolding filled padded
  fill_end size i = rw (places_length 0 i)

-- ---- places without marks at the end

none_at : (j i : ℕ) → get_or (replicate j false) i false ≡ false
none_at zero i = refl
none_at (suc j) zero = refl
none_at (suc j) (suc i) = none_at j i

none_past : (marks : List Bool) (j n : ℕ) → length marks ≤ n → get_or (marks ++ replicate j false) n false ≡ false
none_past [] j n past = none_at j n
none_past (x ∷ marks) j zero past = absurd (omega arith)
none_past (x ∷ marks) j (suc n) past = none_past marks j n (omega arith)

mark_pad : (i : ℕ) (marks rest : List Bool) → i < length marks → mark_at i (marks ++ rest) ≡ mark_at i marks ++ rest
unfolding mark_at
mark_pad i marks rest inside =
    by_test (λ (b : Bool). cond b (set (marks ++ rest) i true) (marks ++ rest) ≡ cond b (set marks i true) marks ++ rest) (ltb 1 i)
    (λ is. set-append_left marks rest i true inside)
    (λ is. refl)

apart_pad : (basis : Basis) (n : ℕ) (marks rest : List Bool) → 2 ≤ n → n < length marks
    → mark_apart basis n (marks ++ rest) ≡ mark_apart basis n marks ++ rest
unfolding mark_apart
apart_pad Monomial n marks rest from_two inside = refl
apart_pad Chebyshev n marks rest from_two inside =
    let two = parted n from_two in
    mark_pad (parts_of n).distance marks rest (omega arith)

parts_pad : (basis : Basis) (n : ℕ) (marks rest : List Bool) → 2 ≤ n → n < length marks
    → mark_parts basis n (marks ++ rest) ≡ mark_parts basis n marks ++ rest
unfolding mark_parts
parts_pad basis n marks rest from_two inside =
    let two = parted n from_two in
    let one_made = mark_apart basis n marks in
    let two_made = mark_at (parts_of n).a one_made in
    let same_length = apart_length n marks basis in
    let same_length' = mark_length (parts_of n).a one_made in
    ap (λ (x : List Bool). mark_at (parts_of n).b (mark_at (parts_of n).a x)) (apart_pad basis n marks rest from_two inside)
    ∙ ap (mark_at (parts_of n).b) (mark_pad (parts_of n).a one_made rest (omega arith))
    ∙ mark_pad (parts_of n).b two_made rest (omega arith)

-- a place past the end does nothing
place_past : (basis : Basis) (n : ℕ) (marks : List Bool) → length marks ≤ n → sweep_at basis n marks ≡ marks
place_past basis n marks past = place_unmarked basis n marks (get_or-eq_default marks false past)

place_pad : (basis : Basis) (n : ℕ) (marks : List Bool) (j : ℕ) → 2 ≤ n
    → sweep_at basis n (marks ++ replicate j false) ≡ sweep_at basis n marks ++ replicate j false
place_pad basis n marks j from_two = by_place (dec_lt n (length marks))
  where
    rest : List Bool
    rest = replicate j false

    by_mark : n < length marks → (mark : Bool) → get_or marks n false ≡ mark → sweep_at basis n (marks ++ rest) ≡ sweep_at basis n marks ++ rest
    by_mark inside true is =
        place_marked basis n (marks ++ rest) (get_or-append marks rest false n inside ∙ is)
        ∙ parts_pad basis n marks rest from_two inside
        ∙ ap (◌++ rest) (sym (place_marked basis n marks is))
    by_mark inside false is =
        place_unmarked basis n (marks ++ rest) (get_or-append marks rest false n inside ∙ is) ∙ ap (◌++ rest) (sym (place_unmarked basis n marks is))

    by_place : Dec (n < length marks) → sweep_at basis n (marks ++ rest) ≡ sweep_at basis n marks ++ rest
    by_place (yes inside) = by_mark inside (get_or marks n false) refl
    by_place (no past) =
        place_unmarked basis n (marks ++ rest) (none_past marks j n (omega arith)) ∙ ap (◌++ rest) (sym (place_past basis n marks (omega arith)))

sweep_pad : (basis : Basis) (n : ℕ) (marks : List Bool) (j : ℕ)
    → sweep_from basis n (marks ++ replicate j false) ≡ sweep_from basis n marks ++ replicate j false
unfolding sweep_from
sweep_pad basis zero marks j = refl
sweep_pad basis (suc zero) marks j = refl
sweep_pad basis (suc (suc n)) marks j =
    ap (sweep_from basis (suc n)) (place_pad basis (suc (suc n)) marks j (omega arith)) ∙ sweep_pad basis (suc n) (sweep_at basis (suc (suc n)) marks) j

-- the sweep of padded marks
pub sweep_padded : (basis : Basis) (n size : ℕ) (marks : List Bool) → sweep_from basis n (padded size marks) ≡ padded size (sweep_from basis n marks)
unfolding padded
sweep_padded basis n size marks = rw (sweep_length basis n marks) (sweep_pad basis n marks (size - length marks))

-- the first places of padded marks
pub take_padded : (size n : ℕ) (marks : List Bool) → length marks ≡ n → take n (padded size marks) ≡ marks
unfolding padded
take_padded size n marks whole = take_at marks (replicate (size - length marks) false) n whole

-- ---- counts

pub count_most : (marks : List Bool) → count_marks marks ≤ length marks
unfolding count_marks
count_most [] = omega arith
count_most (true ∷ marks) = omega (arith, count_most marks)
count_most (false ∷ marks) = omega (arith, count_most marks)

pub count_none : (marks : List Bool) → count_marks (take 0 marks) ≡ 0
unfolding count_marks
count_none marks = refl

-- the first places have no more marks than all
pub count_take : (n : ℕ) (marks : List Bool) → count_marks (take n marks) ≤ count_marks marks
unfolding count_marks
count_take zero marks = omega arith
count_take (suc n) [] = omega arith
count_take (suc n) (mark ∷ marks) = omega (arith, count_take n marks)

-- one place more, past the end too
pub count_place : (marks : List Bool) (n : ℕ) → count_marks (take (suc n) marks) ≡ count_marks (take n marks) + cond (get_or marks n false) 1 0
unfolding count_marks
count_place [] n = rw (take-nil {A = Bool} n)
count_place (mark ∷ marks) zero = omega arith
count_place (mark ∷ marks) (suc n) = omega (arith, count_place marks n)

pub count_marked : (marks : List Bool) (n : ℕ) → Marked marks n → count_marks (take (suc n) marks) ≡ count_marks (take n marks) + 1
count_marked marks n marked = count_place marks n ∙ ap (λ (b : Bool). count_marks (take n marks) + cond b 1 0) marked

pub count_step : (marks : List Bool) (n : ℕ) → count_marks (take (n + 1) marks) ≡ count_marks (take n marks) + cond (get_or marks n false) 1 0
count_step marks n = rw add-one (count_place marks n)

-- the count is std's count of the marks that are true
pub count_true : (marks : List Bool) → count_by (λ (mark : Bool). mark) marks ≡ count_marks marks
unfolding count_marks
count_true marks = sym (is_sum_by count_marks (λ (mark : Bool). cond mark 1 0) refl (λ mark rest. refl) marks)
