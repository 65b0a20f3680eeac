-- The undoing of a Chebyshev cut, one coefficient of the high part at a time. It is a cut with other operations: low gains half of what high has,
-- and high is halved.
use mathlib.Core.Path.{◌≡◌, refl, ap, ap₂, sym, ◌∙◌}
use mathlib.Core.Bool.{Bool, true, false, ◌&&◌, and_assoc, and-true}
use mathlib.Core.List.{List, [], ◌∷◌, ◌++◌, map, reverse}
use mathlib.Core.Option.{some}
use Prim.Native.Nat.{ℕ, suc, ◌+◌, ◌-◌, ◌≤◌, ◌<◌, ◌^◌}
use native.Mathlib.Omega.{arith}
use borrow.Author.Tests.{lt-ltb, ltb-true}
use lib.IntN.{ℤ, pos, neg_ℤ, ◌+ℤ◌}
use lib.ListN.{length, take, drop, get_or, set, length-reverse, length-drop, drop_of_length-le}
use lib.Seq.{drop-cons, length-take-le}
use lib.Signed.{mag}
use mir.Syntax.{w64}
use mir.Val.{SFits, to_z, of_z}
use Rattle.algebra.specs.Operations.{Operations}
use Rattle.algebra.specs.Cut.{differences, doubled, lowered, cut_at}
use Rattle.algebra.specs.declared.Basis.TheVariants.{Chebyshev}
use Rattle.number.proofs.BothHold.{and_right}
use Rattle.number.proofs.Cutting.{cut_to, low_value, high_value, pair_low, pair_high, turn_stored}
use Rattle.number.proofs.Signed.{back}
use Rattle.number.specs.Options.{when}
use Rattle.rebuild.specs.Undo.{half, is_even, fits_i64, every, sums, halved, raised, before_cut, can_undo, undone}
use Rattle.rebuild.proofs.Machine.{half_mag, half_near, fits_not}
use Rattle.rebuild.proofs.Every.{every_append, every_at, every_reverse, every_take, every_drop, halved_fits}
use Rattle.rebuild.proofs.UndoLaws.{behind}

-- the operations of an undoing
abbrev pub undoing : Operations ℤ
undoing = record { zero = pos 0; one = pos 1; add = ◌+ℤ◌; sub = λ x q. x +ℤ half q; mul = λ x q. half q; neg = neg_ℤ }

sums_halves : (xs qs : List ℤ) → sums xs (map half qs) ≡ differences undoing xs qs
unfolding sums differences
sums_halves [] qs = refl
sums_halves (x ∷ xs) [] = refl
sums_halves (x ∷ xs) (q ∷ qs) = ap ((x +ℤ half q) ∷◌) (sums_halves xs qs)

halved_is : (xs : List ℤ) → halved xs ≡ doubled undoing xs
unfolding halved doubled
halved_is [] = refl
halved_is (x ∷ xs) = refl

tail_halved : (xs : List ℤ) → drop 1 (halved xs) ≡ map half (drop 1 xs)
unfolding halved
tail_halved [] = refl
tail_halved (x ∷ xs) = refl

-- what the loop's turns leave is what was cut
before_is : (p : ℕ) (c : List ℤ) → before_cut Chebyshev (take p c) (drop p c) ≡ cut_at undoing Chebyshev p c
unfolding before_cut raised cut_at lowered
before_is p c =
    ap₂ (λ (xs ys : List ℤ). reverse xs ++ ys)
    (ap (sums (reverse (take p c))) (tail_halved (drop p c) ∙ ap (map half) (behind p c)) ∙ sums_halves (reverse (take p c)) (drop (suc p) c))
    (halved_is (drop p c))

-- ---- the tests that the loop makes: each doubled coefficient q is even, and an i64 holds the number at its place with half of it

unfoldable pub passes : List ℤ → List ℤ → Bool
passes [] [] = true
passes [] (q ∷ qs) = is_even q && passes [] qs
passes (x ∷ xs) [] = true
passes (x ∷ xs) (q ∷ qs) = is_even q && (fits_i64 (x +ℤ half q) && passes xs qs)

-- in another order
and_turn : (a b c d : Bool) → (a && (b && (c && d))) ≡ ((a && c) && (b && d))
and_turn true true c d = refl
and_turn true false true d = refl
and_turn true false false d = refl
and_turn false b c d = refl

passes_all : (xs qs : List ℤ) → every fits_i64 xs ≡ true → passes xs qs ≡ (every is_even qs && every fits_i64 (sums xs (map half qs)))
unfolding passes every sums
passes_all [] [] fits = refl
passes_all [] (q ∷ qs) fits = ap (is_even q &&◌) (passes_all [] qs fits) ∙ sym (and_assoc (is_even q) (every is_even qs) true)
passes_all (x ∷ xs) [] fits = sym fits
passes_all (x ∷ xs) (q ∷ qs) fits =
    ap (λ (b : Bool). is_even q && (fits_i64 (x +ℤ half q) && b)) (passes_all xs qs (and_right (fits_i64 x) (every fits_i64 xs) fits))
    ∙ and_turn (is_even q) (fits_i64 (x +ℤ half q)) (every is_even qs) (every fits_i64 (sums xs (map half qs)))

-- of numbers that fit they say whether the cut can be undone: halves fit, and what gains nothing is as it came
can_is : (low high : List ℤ) → every fits_i64 low ≡ true → every fits_i64 high ≡ true
    → can_undo Chebyshev low high ≡ passes (reverse low) (drop 1 high)
unfolding can_undo before_cut raised
can_is low high s t =
    let top = halved high in
    let gained = sums (reverse low) (drop 1 top) in
    sym (passes_all (reverse low) (drop 1 high) (every_reverse fits_i64 low ∙ s)
    ∙ ap (λ (l : List ℤ). every is_even (drop 1 high) && every fits_i64 (sums (reverse low) l)) (sym (tail_halved high))
    ∙ ap (every is_even (drop 1 high) &&◌)
    (sym (and-true (every fits_i64 gained))
    ∙ ap₂ ◌&&◌ (sym (every_reverse fits_i64 gained)) (sym (halved_fits high t))
    ∙ sym (every_append fits_i64 (reverse gained) top)))

-- ---- the tests that are left after m turns

module _ (p : ℕ) (c : List ℤ) where
  unfoldable pub rest : ℕ → Bool
  rest m = passes (drop m (reverse (take p c))) (drop m (drop (suc p) c))

  pub rest_all : every fits_i64 c ≡ true → can_undo Chebyshev (take p c) (drop p c) ≡ rest 0
  unfolding rest
  rest_all fits =
      can_is (take p c) (drop p c) (every_take fits_i64 p c fits) (every_drop fits_i64 p c fits) ∙ ap (passes (reverse (take p c))) (behind p c)

  none_left : (xs : List ℤ) → passes xs [] ≡ true
  unfolding passes
  none_left [] = refl
  none_left (x ∷ xs) = refl

  rest_none : (m : ℕ) → length c ≤ suc (p + m) → rest m ≡ true
  unfolding rest
  rest_none m all =
      let ended : length (drop (suc p) c) ≤ m = omega (arith, length-drop (suc p) c) in
      rw (drop_of_length-le (drop (suc p) c) ended) (none_left (drop m (reverse (take p c))))

  passes_cons : (x q : ℤ) (xs qs : List ℤ) → passes (x ∷ xs) (q ∷ qs) ≡ (is_even q && (fits_i64 (x +ℤ half q) && passes xs qs))
  unfolding passes
  passes_cons x q xs qs = refl

  rest_step : (m k i : ℕ) → k + suc m ≡ p → i ≡ suc (p + m) → i < length c
      → rest m ≡ (is_even (get_or c i (pos 0)) && (fits_i64 (get_or c k (pos 0) +ℤ half (get_or c i (pos 0))) && rest (suc m)))
  unfolding rest
  rest_step m k i low high within =
      let near : m < length (reverse (take p c)) = omega (arith, length-reverse (take p c), length-take-le p c (omega arith)) in
      let far : m < length (drop (suc p) c) = omega (arith, length-drop (suc p) c) in
      rw (
        drop-cons (reverse (take p c)) m (pos 0) near,
        drop-cons (drop (suc p) c) m (pos 0) far,
        low_value undoing p c (pos 0) (omega arith) m k i low high within,
        high_value undoing p c (pos 0) (omega arith) m k i low high within,
      )
      (passes_cons (get_or c k (pos 0)) (get_or c i (pos 0)) _ _)

-- ---- the loop at its turn j, where the turns below j left c of c₀

pub record Turn (p j : ℕ) (c₀ c : List ℤ) : Type 0 where
  pub inside : p < length c₀
  pub half_way : length c₀ ≤ p + p
  pub fits : every fits_i64 c₀ ≡ true
  pub started : 0 < j
  pub test : j < length c₀ - p
  pub before : c ≡ cut_to undoing p c₀ (pos 0) (j - 1)
  pub passed : can_undo Chebyshev (take p c₀) (drop p c₀) ≡ rest p c₀ (j - 1)

module _ {p j : ℕ} {c₀ c : List ℤ} (t : Turn p j c₀ c) where
  -- low and high of the turn, as they came
  abbrev pub low : ℤ
  low = get_or c₀ (p - j) (pos 0)

  abbrev pub high : ℤ
  high = get_or c₀ (p + j) (pos 0)

  -- they are still so
  turn_low : get_or c (p - j) (pos 0) ≡ low
  turn_low = let test = t.test in pair_low undoing (pos 0) p j c₀ c t.inside t.half_way t.started t.before j (p - j) (omega arith) t.test (omega arith)

  turn_high : get_or c (p + j) (pos 0) ≡ high
  turn_high = pair_high undoing (pos 0) p j c₀ c t.inside t.half_way t.started t.before j (p + j) (omega arith) t.test refl

  low_fits : mag low < 2 ^ 63
  low_fits = ltb-true (mag low) (2 ^ 63) (every_at fits_i64 c₀ (p - j) t.fits (omega (arith, t.inside)))

  high_fits : mag high < 2 ^ 63
  high_fits = ltb-true (mag high) (2 ^ 63) (every_at fits_i64 c₀ (p + j) t.fits (omega (arith, t.test)))

  -- the machine reads and halves them so
  pub read_low : to_z w64 (of_z w64 (get_or c (p - j) (pos 0))) ≡ low
  read_low = back (rw turn_low low_fits) turn_low

  pub read_high : to_z w64 (of_z w64 (get_or c (p + j) (pos 0))) ≡ high
  read_high = back (rw turn_high high_fits) turn_high

  pub read_half : to_z w64 (of_z w64 (half (to_z w64 (of_z w64 (get_or c (p + j) (pos 0)))))) ≡ half high
  read_half = rw read_high (back (omega (arith, half_mag high, high_fits)) refl)

  pub near_half : mag (to_z w64 (of_z w64 (half (to_z w64 (of_z w64 (get_or c (p + j) (pos 0))))))) < 2 ^ 62
  near_half = rw read_half (half_near high high_fits)

  -- what it adds
  abbrev pub sum : ℤ
  sum = to_z w64 (of_z w64 (get_or c (p - j) (pos 0))) +ℤ to_z w64 (of_z w64 (half (to_z w64 (of_z w64 (get_or c (p + j) (pos 0))))))

  sum_is : sum ≡ low +ℤ half high
  sum_is = ap₂ ◌+ℤ◌ read_low read_half

  step : rest p c₀ (j - 1) ≡ (is_even high && (fits_i64 (low +ℤ half high) && rest p c₀ (suc (j - 1))))
  step = rest_step p c₀ (j - 1) (p - j) (p + j) (omega (arith, t.half_way, t.test, t.started)) (omega (arith, t.started)) (omega (arith, t.test))

  -- the ways out of the turn
  pub way_odd : is_even high ≡ false → undone Chebyshev (take p c₀) (drop p c₀) ≡ when false (some c)
  unfolding undone
  way_odd odd = rw (t.passed, step, odd)

  module _ (even : is_even high ≡ true) where
    pub way_beyond : (SFits w64 sum → ⊥) → undone Chebyshev (take p c₀) (drop p c₀) ≡ when false (some c)
    unfolding undone
    way_beyond beyond = rw (t.passed, step, even, ap fits_i64 (sym sum_is) ∙ fits_not sum beyond)

    pub way_on : SFits w64 sum → can_undo Chebyshev (take p c₀) (drop p c₀) ≡ rest p c₀ (j + 1 - 1)
    way_on fits =
        let next : suc (j - 1) ≡ j + 1 - 1 = omega (arith, t.started) in
        t.passed ∙ rw (step, even, ap fits_i64 (sym sum_is) ∙ lt-ltb (mag sum) (2 ^ 63) fits.sfits) (ap (rest p c₀) next)

  -- and what it writes is one turn more
  pub turn_written : {y : ℤ} → SFits w64 sum → y ≡ sum
      → set (set c (p - j) (to_z w64 (of_z w64 y))) (p + j) (to_z w64 (of_z w64 (half (to_z w64 (of_z w64 (get_or c (p + j) (pos 0)))))))
      ≡ cut_to undoing p c₀ (pos 0) (j + 1 - 1)
  turn_written fits y_is =
      let next : j ≡ j + 1 - 1 = omega arith in
      turn_stored undoing (pos 0) p j c₀ c t.inside t.half_way t.started t.before t.test
      (back (rw y_is fits.sfits) (y_is ∙ sum_is) ∙ ap₂ (λ (r q : ℤ). r +ℤ half q) (sym turn_low) (sym turn_high)) (read_half ∙ ap half (sym turn_high))
      ∙ ap (cut_to undoing p c₀ (pos 0)) next

-- ---- the loop at its end

pub way_end : (p j : ℕ) (c₀ : List ℤ) {c : List ℤ} → can_undo Chebyshev (take p c₀) (drop p c₀) ≡ rest p c₀ (j - 1) → 0 < j → length c₀ ≤ p + j
    → c ≡ cut_at undoing Chebyshev p c₀ → undone Chebyshev (take p c₀) (drop p c₀) ≡ when true (some c)
unfolding undone
way_end p j c₀ passed started all c_is = rw (passed, rest_none p c₀ (j - 1) (omega arith), before_is p c₀, c_is)
