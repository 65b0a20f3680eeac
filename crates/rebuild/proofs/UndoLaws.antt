-- A cut and its undoing: each takes back the other.
use mathlib.Core.Path.{◌≡◌, refl, sym, ◌∙◌, ap, ap₂}
use mathlib.Core.Bool.{true, ◌&&◌}
use mathlib.Core.List.{List, [], ◌∷◌, ◌++◌, map, reverse, reverse-reverse}
use mathlib.Core.Option.{some}
use Prim.Native.Nat.{ℕ, suc, ◌+◌, ◌≤◌, ◌<◌, ◌^◌}
use native.Mathlib.Numerals.{add-one}
use lib.IntN.{ℤ}
use lib.ListN.{length, take, drop, take-append-drop, length-append, length-reverse, length-map}
use lib.Seq.{take_at, drop_at, drop-drop}
use Rattle.algebra.specs.Operations.{whole_ops, double}
use Rattle.algebra.specs.Cut.{differences, doubled, lowered, cut_at}
use Rattle.algebra.specs.Magnitude.{sum_abs}
use Rattle.algebra.specs.declared.Basis.{Basis}
use Rattle.algebra.specs.declared.Basis.TheVariants.{Monomial, Chebyshev}
use Rattle.algebra.proofs.Integers.{integers}
use Rattle.algebra.proofs.Solve.{◌:=◌, ◌:+◌, ◌:-◌, ring}
use Rattle.algebra.proofs.CutPlaces.{cut_low, cut_high}
use Rattle.number.proofs.BothHold.{and_left, and_right}
use Rattle.number.proofs.Options.{same_some, when_some, when_holds}
use Rattle.rebuild.specs.Undo.{half, is_even, fits_i64, every, sums, halved, raised, before_cut, doubled_in, can_undo, undone}
use Rattle.rebuild.proofs.Halves.{double_even, half_double, double_half}
use Rattle.rebuild.proofs.Every.{and_both, every_none, every_small}

-- ---- place by place

-- what is taken and given again
sums_differences : (xs ys : List ℤ) → sums (differences whole_ops xs ys) ys ≡ xs
unfolding sums differences
sums_differences [] ys = refl
sums_differences (x ∷ xs) [] = refl
sums_differences (x ∷ xs) (y ∷ ys) = ap₂ ◌∷◌ (ring integers (x ∷ y ∷ []) (λ x y. (x :- y) :+ y := x) refl) (sums_differences xs ys)

-- what is given and taken again
differences_sums : (xs ys : List ℤ) → differences whole_ops (sums xs ys) ys ≡ xs
unfolding sums differences
differences_sums [] ys = refl
differences_sums (x ∷ xs) [] = refl
differences_sums (x ∷ xs) (y ∷ ys) = ap₂ ◌∷◌ (ring integers (x ∷ y ∷ []) (λ x y. (x :+ y) :- y := x) refl) (differences_sums xs ys)

length_sums : (xs ys : List ℤ) → length (sums xs ys) ≡ length xs
unfolding sums
length_sums [] ys = refl
length_sums (x ∷ xs) [] = refl
length_sums (x ∷ xs) (y ∷ ys) = ap suc (length_sums xs ys)

length_raised : (low top : List ℤ) → length (raised low top) ≡ length low
unfolding raised
length_raised low top = rw (length-reverse, length_sums, length-reverse)

length_halved : (xs : List ℤ) → length (halved xs) ≡ length xs
unfolding halved
length_halved [] = refl
length_halved (x ∷ xs) = ap suc (length-map xs half)

halves_doubles : (xs : List ℤ) → map half (map (double whole_ops) xs) ≡ xs
halves_doubles [] = refl
halves_doubles (x ∷ xs) = ap₂ ◌∷◌ (half_double x) (halves_doubles xs)

halved_doubled : (xs : List ℤ) → halved (doubled whole_ops xs) ≡ xs
unfolding halved doubled
halved_doubled [] = refl
halved_doubled (x ∷ xs) = ap (x ∷◌) (halves_doubles xs)

doubles_even : (xs : List ℤ) → every is_even (map (double whole_ops) xs) ≡ true
unfolding every
doubles_even [] = refl
doubles_even (x ∷ xs) = and_both (double_even x) (doubles_even xs)

doubles_halves : (xs : List ℤ) → every is_even xs ≡ true → map (double whole_ops) (map half xs) ≡ xs
unfolding every
doubles_halves [] even = refl
doubles_halves (x ∷ xs) even =
    ap₂ ◌∷◌ (double_half x (and_left (is_even x) (every is_even xs) even)) (doubles_halves xs (and_right (is_even x) (every is_even xs) even))

doubled_halved : (xs : List ℤ) → every is_even (drop 1 xs) ≡ true → doubled whole_ops (halved xs) ≡ xs
unfolding halved doubled
doubled_halved [] even = refl
doubled_halved (x ∷ xs) even = ap (x ∷◌) (doubles_halves xs even)

-- ---- a cut, undone

pub behind : (p : ℕ) (c : List ℤ) → drop 1 (drop p c) ≡ drop (suc p) c
behind p c = rw (drop-drop, add-one)

raised_lowered : (p : ℕ) (c : List ℤ) → raised (lowered whole_ops p c) (drop p c) ≡ take p c
unfolding raised lowered
raised_lowered p c =
    let near = reverse (take p c) in
    let far = drop (suc p) c in
    ap₂ (λ (xs ys : List ℤ). reverse (sums xs ys)) (reverse-reverse (differences whole_ops near far)) (behind p c)
    ∙ ap reverse (sums_differences near far)
    ∙ reverse-reverse (take p c)

cut_same : (p : ℕ) (c : List ℤ) → cut_at whole_ops Monomial p c ≡ c
unfolding cut_at
cut_same p c = refl

before_cut_lem : (basis : Basis) (p : ℕ) (c : List ℤ) → p ≤ length c
    → before_cut basis (take p (cut_at whole_ops basis p c)) (drop p (cut_at whole_ops basis p c)) ≡ c
unfolding before_cut
before_cut_lem Monomial p c under = take-append-drop p (cut_at whole_ops Monomial p c) ∙ cut_same p c
before_cut_lem Chebyshev p c under =
    rw (cut_low whole_ops p c under, cut_high whole_ops p c under, halved_doubled (drop p c), raised_lowered p c) (take-append-drop p c)

tail_doubled : (xs : List ℤ) → drop 1 (doubled whole_ops xs) ≡ map (double whole_ops) (drop 1 xs)
unfolding doubled
tail_doubled [] = refl
tail_doubled (x ∷ xs) = refl

cut_even : (basis : Basis) (p : ℕ) (c : List ℤ) → p ≤ length c → every is_even (doubled_in basis (drop p (cut_at whole_ops basis p c))) ≡ true
cut_even Monomial p c under = every_none is_even
cut_even Chebyshev p c under = rw (cut_high whole_ops p c under, tail_doubled (drop p c)) (doubles_even (drop 1 (drop p c)))

-- a cut of numbers that fit can be undone
pub undo_cut : (basis : Basis) (p : ℕ) (c : List ℤ) → p ≤ length c → sum_abs c < 2 ^ 63
    → undone basis (take p (cut_at whole_ops basis p c)) (drop p (cut_at whole_ops basis p c)) ≡ some c
unfolding undone can_undo
undo_cut basis p c under small = rw (cut_even basis p c under, before_cut_lem basis p c under, every_small c small)

-- and in the Monomial basis any two parts of numbers that fit
pub undo_monomial : (p : ℕ) (c : List ℤ) → every fits_i64 c ≡ true → undone Monomial (take p c) (drop p c) ≡ some c
unfolding undone can_undo before_cut
undo_monomial p c fits = rw (every_none is_even, take-append-drop p c, fits)

-- ---- an undoing, cut

turned : (low top : List ℤ) → reverse (raised low top) ≡ sums (reverse low) (drop 1 top)
unfolding raised
turned low top = reverse-reverse (sums (reverse low) (drop 1 top))

lowered_raised : (low top : List ℤ) (p : ℕ) → length low ≡ p → lowered whole_ops p (raised low top ++ top) ≡ low
unfolding lowered
lowered_raised low top p size =
    let long : length (raised low top) ≡ p = length_raised low top ∙ size in
    let first : take p (raised low top ++ top) ≡ raised low top = take_at (raised low top) top p long in
    let past : drop (suc p) (raised low top ++ top) ≡ drop 1 top =
    sym (behind p (raised low top ++ top)) ∙ ap (drop 1) (drop_at (raised low top) top p long) in
    rw (first, past)
    (ap (λ (xs : List ℤ). reverse (differences whole_ops xs (drop 1 top))) (turned low top)
    ∙ ap reverse (differences_sums (reverse low) (drop 1 top))
    ∙ reverse-reverse low)

length_before : (basis : Basis) (low high : List ℤ) → length (before_cut basis low high) ≡ length low + length high
unfolding before_cut
length_before Monomial low high = length-append low high
length_before Chebyshev low high = rw (length-append, length_raised, length_halved)

cut_before : (basis : Basis) (p : ℕ) (low high : List ℤ) → length low ≡ p → every is_even (doubled_in basis high) ≡ true
    → cut_at whole_ops basis p (before_cut basis low high) ≡ low ++ high
unfolding before_cut cut_at
cut_before Monomial p low high size even = refl
cut_before Chebyshev p low high size even =
    ap₂ ◌++◌ (lowered_raised low (halved high) p size)
    (ap (doubled whole_ops) (drop_at (raised low (halved high)) (halved high) p (length_raised low (halved high) ∙ size)) ∙ doubled_halved high even)

-- what an undoing gives
pub record Undone (basis : Basis) (low high c : List ℤ) : Type 0 where
  pub is : before_cut basis low high ≡ c
  pub even : every is_even (doubled_in basis high) ≡ true
  pub fits : every fits_i64 c ≡ true

pub undone_facts : (basis : Basis) (low high c : List ℤ) → undone basis low high ≡ some c → Undone basis low high c
unfolding undone can_undo
undone_facts basis low high c there =
    let evens = every is_even (doubled_in basis high) in
    let held = every fits_i64 (before_cut basis low high) in
    let can = when_holds (evens && held) (some (before_cut basis low high)) c there in
    let is = same_some (when_some (evens && held) (some (before_cut basis low high)) c there) in
    record { is = is; even = and_left evens held can; fits = ap (every fits_i64) (sym is) ∙ and_right evens held can }

pub length_undone : (basis : Basis) (low high c : List ℤ) → undone basis low high ≡ some c → length c ≡ length low + length high
length_undone basis low high c is = ap length (sym (undone_facts basis low high c is).is) ∙ length_before basis low high

-- cut again it gives low and high
pub cut_undone : (basis : Basis) (p : ℕ) (low high c : List ℤ) → length low ≡ p → undone basis low high ≡ some c
    → cut_at whole_ops basis p c ≡ low ++ high
cut_undone basis p low high c size is =
    let facts = undone_facts basis low high c is in
    ap (cut_at whole_ops basis p) (sym facts.is) ∙ cut_before basis p low high size facts.even
