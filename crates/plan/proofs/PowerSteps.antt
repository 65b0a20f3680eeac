-- The power steps of the marks passed, mark by mark; behind the last needed power no mark follows.
use mathlib.Core.Path.{◌≡◌, refl, ap, sym, ◌∙◌}
use mathlib.Core.Bool.{Bool, true, false, cond, false≢true}
use mathlib.Core.List.{List, [], ◌∷◌, ◌++◌, map, map-append, append-nil}
use Prim.Native.Nat.{ℕ, zero, suc, ◌+◌, ◌-◌, ◌*◌, ◌≤◌, ◌<◌}
use native.Mathlib.Decide.{dec_lt}
use native.Mathlib.Omega.{arith}
use lib.ListN.{length, take, get_or, replicate, length-append, length-map, length-replicate}
use lib.Seq.{sets, take-suc, take_all, length-take-le}
use Rattle.algebra.specs.declared.Basis.{Basis}
use Rattle.algebra.specs.declared.Parity.{Parity}
use Rattle.std.proofs.lemmas.List.{get_or-take}
use Rattle.algebra.proofs.Lists.{get_d_take_past}
use Rattle.number.specs.Limits.{count_limit}
use Rattle.needed.specs.NeededList.{needed_list, needed_count}
use Rattle.needed.specs.inside.Marks.{Marked, marked_from, count_marks, padded, needed_marks}
use Rattle.needed.specs.inside.Planned.{Planned}
use Rattle.needed.proofs.PlaceLaws.{count_none, count_take, count_step}
use Rattle.needed.proofs.MarkedPowers.{marked_count, marked_list, needed_counted}
use Rattle.needed.proofs.NeededMarks.{needed_length, greatest_within_lem, marked_needed}
use Rattle.needed.proofs.Promises.{needed_powers}
use Rattle.lists.proofs.Arranging.{sets_append}
use Rattle.walk.specs.WalksHeld.{flat}
use Rattle.walk.proofs.FlatSteps.{flat_append, flat_length}
use Rattle.plan.specs.PlanSteps.{make_step, power_steps}
use Rattle.plan.specs.inside.Writing.{PowerFits, PowerPut, MarksFit, MarksPut, PowersPut, mark_numbers}

-- ---- the marked places of joined marks

marked_append : (i : ℕ) (xs ys : List Bool) → marked_from i (xs ++ ys) ≡ marked_from i xs ++ marked_from (i + length xs) ys
unfolding marked_from
marked_append i [] ys = ap (λ (k : ℕ). marked_from k ys) (omega arith)
marked_append i (true ∷ xs) ys =
    let shift : suc i + length xs ≡ i + suc (length xs) = omega arith in
    ap (i ∷◌) (marked_append (suc i) xs ys ∙ ap (λ (k : ℕ). marked_from (suc i) xs ++ marked_from k ys) shift)
marked_append i (false ∷ xs) ys =
    let shift : suc i + length xs ≡ i + suc (length xs) = omega arith in
    marked_append (suc i) xs ys ∙ ap (λ (k : ℕ). marked_from (suc i) xs ++ marked_from k ys) shift

none_marked : (i k : ℕ) → marked_from i (replicate k false) ≡ []
unfolding marked_from
none_marked i zero = refl
none_marked i (suc k) = none_marked (suc i) k

none_taken : (i n k : ℕ) → marked_from i (take n (replicate k false)) ≡ []
unfolding marked_from
none_taken i zero k = refl
none_taken i (suc n) zero = refl
none_taken i (suc n) (suc k) = none_taken (suc i) n k

-- the first places hold all marks if they reach past the last
marked_past : (i n : ℕ) (marks : List Bool) (k : ℕ) → length marks ≤ n → marked_from i (take n (marks ++ replicate k false)) ≡ marked_from i marks
unfolding marked_from
marked_past i n [] k past = none_taken i n k
marked_past i zero (mark ∷ marks) k past = absurd (omega arith)
marked_past i (suc n) (true ∷ marks) k past = ap (i ∷◌) (marked_past (suc i) n marks k (omega arith))
marked_past i (suc n) (false ∷ marks) k past = marked_past (suc i) n marks k (omega arith)

one_marked : (n : ℕ) (mark : Bool) → marked_from n (mark ∷ []) ≡ cond mark (n ∷ []) []
unfolding marked_from
one_marked n true = refl
one_marked n false = refl

padded_marked : (size : ℕ) (marks : List Bool) → marked_from 0 (padded size marks) ≡ marked_from 0 marks
unfolding padded
padded_marked size marks =
    marked_append 0 marks (replicate (size - length marks) false)
    ∙ ap (marked_from 0 marks ++◌) (none_marked (0 + length marks) (size - length marks))
    ∙ append-nil (marked_from 0 marks)

padded_count : (size : ℕ) (marks : List Bool) → count_marks (padded size marks) ≡ count_marks marks
padded_count size marks =
    marked_count 0 (padded size marks) ∙ ap length (padded_marked size marks) ∙ sym (marked_count 0 marks)

get_d_false : (k n : ℕ) → get_or (replicate k false) n false ≡ false
get_d_false zero n = refl
get_d_false (suc k) zero = refl
get_d_false (suc k) (suc n) = get_d_false k n

padded_at : (marks more : List Bool) (n : ℕ) → ((j : ℕ) → get_or more j false ≡ false) → Marked (marks ++ more) n → Marked marks n
padded_at [] more n none marked =
    let same : true ≡ false = sym marked ∙ none n in
    let clash : ◌≡◌ {A = ℕ} 0 1 = cc in
    absurd (omega arith)
padded_at (mark ∷ marks) more zero none marked = marked
padded_at (mark ∷ marks) more (suc n) none marked = padded_at marks more n none marked

-- ---- one mark more

-- the steps of the first n marks stand in the buffer
pub record Upto (marks : List Bool) (n step : ℕ) (b₀ b : List ℕ) : Type 0 where
  pub count : step ≡ count_marks (take n marks)
  pub numbers : b ≡ sets b₀ 0 (flat (map make_step (marked_from 0 (take n marks))))

pub upto_none : (marks : List Bool) (b : List ℕ) → Upto marks 0 0 b b
unfolding marked_from flat
upto_none marks b = record { count = sym (count_none marks); numbers = refl }

one_step : (mark : Bool) (n : ℕ) → flat (map make_step (cond mark (n ∷ []) [])) ≡ mark_numbers mark n
unfolding flat
one_step true n = refl
one_step false n = refl

pub upto_more : {marks : List Bool} {n step step' : ℕ} {b₀ b b' : List ℕ} → Upto marks n step b₀ b → n < length marks
    → PowerPut (get_or marks n false) n step b step' b' → Upto marks (n + 1) step' b₀ b'
upto_more {marks} {n} {step} {step'} {b₀} {b} {b'} upto inside put = record {
  count = put.next ∙ ap (◌+ cond (get_or marks n false) 1 0) upto.count ∙ sym (count_step marks n);
  numbers =
      put.numbers
      ∙ ap (λ (l : List ℕ). sets l (4 * step) (mark_numbers (get_or marks n false) n)) upto.numbers
      ∙ sets_append b₀ (flat (map make_step (marked_from 0 (take n marks)))) (mark_numbers (get_or marks n false) n) 0 (4 * step) place
      ∙ ap (sets b₀ 0) (sym whole);
}
  where
    place : 4 * step ≡ 0 + length (flat (map make_step (marked_from 0 (take n marks))))
    place =
        let size = flat_length (map make_step (marked_from 0 (take n marks))) in
        let same = length-map (marked_from 0 (take n marks)) make_step in
        let counted = marked_count 0 (take n marks) in
        omega (arith, upto.count)

    one_more : n + 1 ≡ suc n
    one_more = omega arith

    passed : marked_from 0 (take (n + 1) marks) ≡ marked_from 0 (take n marks) ++ cond (get_or marks n false) (n ∷ []) []
    passed =
        ap (λ (k : ℕ). marked_from 0 (take k marks)) one_more
        ∙ ap (marked_from 0) (take-suc marks n false inside)
        ∙ marked_append 0 (take n marks) (get_or marks n false ∷ [])
        ∙ ap (λ (k : ℕ). marked_from 0 (take n marks) ++ marked_from k (get_or marks n false ∷ [])) (omega (arith, length-take-le n marks (omega arith)))
        ∙ ap (marked_from 0 (take n marks) ++◌) (one_marked n (get_or marks n false))

    whole : flat (map make_step (marked_from 0 (take (n + 1) marks)))
        ≡ flat (map make_step (marked_from 0 (take n marks))) ++ mark_numbers (get_or marks n false) n
    whole =
        ap (λ (l : List ℕ). flat (map make_step l)) passed
        ∙ ap flat (map-append make_step (marked_from 0 (take n marks)) (cond (get_or marks n false) (n ∷ []) []))
        ∙ flat_append (map make_step (marked_from 0 (take n marks))) (map make_step (cond (get_or marks n false) (n ∷ []) []))
        ∙ ap (flat (map make_step (marked_from 0 (take n marks))) ++◌) (one_step (get_or marks n false) n)

-- the next mark has its places
pub mark_fits : {marks : List Bool} {n step : ℕ} {b₀ b : List ℕ} → MarksFit marks b₀ → Upto marks n step b₀ b → n < length marks
    → length b ≡ length b₀ → PowerFits (get_or marks n false) n step b
mark_fits {marks} {n} fits upto inside same =
    let step = count_step marks n in
    let most = count_take (n + 1) marks in
    record { limit = omega (arith, fits.size); from_two = fits.from_two n; places = omega (arith, upto.count, fits.places) }

-- past the last mark all steps stand in the buffer
pub marks_put : {marks : List Bool} {n step : ℕ} {b₀ b : List ℕ} → Upto marks n step b₀ b → length marks ≤ n → MarksPut marks b₀ step b
marks_put {marks} {n} upto past =
    let all = take_all n marks past in
    record { numbers = rw all at upto.numbers; next = rw all at upto.count }

-- ---- the first marks

-- a mark among the first is a mark of all
pub marked_taken : (k : ℕ) (marks : List Bool) (n : ℕ) → Marked (take k marks) n → Marked marks n
marked_taken k marks n marked = by (dec_lt n k)
  where
    by : Dec (n < k) → Marked marks n
    by (yes below) = sym (get_or-take k marks n false below) ∙ marked
    by (no past) = absurd (false≢true (sym (get_d_take_past k marks n false (omega arith)) ∙ marked))

-- ---- the marks of the needed powers, among as many places as an array has

module _ (parity : Parity) (basis : Basis) (degree split size : ℕ) {marks : List Bool}
    (marks_are : marks ≡ padded size (needed_marks parity basis degree split)) where
  -- a needed power is at least 2
  marked_from_two : (n : ℕ) → Marked marks n → 2 ≤ n
  unfolding padded
  marked_from_two n marked =
      let known = needed_marks parity basis degree split in
      let at_n : Marked (known ++ replicate (size - length known) false) n = rw marks_are at marked in
      (needed_powers parity basis degree split).from_two n
      ((marked_needed parity basis degree split n).0
      (padded_at known (replicate (size - length known) false) n (get_d_false (size - length known)) at_n))

  marks_count : count_marks marks ≡ needed_count parity basis degree split
  marks_count = ap count_marks marks_are ∙ padded_count size (needed_marks parity basis degree split) ∙ needed_counted parity basis degree split

  pub marks_length : Planned degree split → degree < size → length marks ≡ size
  unfolding padded
  marks_length planned within =
      let known = needed_marks parity basis degree split in
      let counted = needed_length parity basis degree split in
      let most = greatest_within_lem degree split planned.degrees.from in
      ap length marks_are
      ∙ length-append known (replicate (size - length known) false)
      ∙ omega (arith, length-replicate (size - length known) false)

  -- the steps of the first marks have their places
  pub marks_fit : (k : ℕ) {b : List ℕ} → length (take k marks) ≤ count_limit → 4 * needed_count parity basis degree split ≤ length b
      → MarksFit (take k marks) b
  marks_fit k size room =
      let most = count_take k marks in
      let counted = marks_count in
      record { size = size; from_two = λ n marked. marked_from_two n (marked_taken k marks n marked); places = omega arith }

  -- past the degree all marks are passed
  all_passed : {n : ℕ} → 0 < degree → degree < n → marked_from 0 (take n marks) ≡ needed_list parity basis degree split
  unfolding padded
  all_passed {n} positive past =
      let known = needed_marks parity basis degree split in
      let counted = needed_length parity basis degree split in
      let most = greatest_within_lem degree split positive in
      ap (λ (l : List Bool). marked_from 0 (take n l)) marks_are
      ∙ marked_past 0 n known (size - length known) (omega arith)
      ∙ marked_list parity basis degree split

  pub powers_put : (k : ℕ) {r : ℕ} {b₀ b : List ℕ} → MarksPut (take k marks) b₀ r b → 0 < degree → degree < k → PowersPut parity basis degree split b₀ r b
  unfolding power_steps needed_count
  powers_put k {r} {b₀} {b} put positive past =
      let all = all_passed positive past in
      record {
        numbers = put.numbers ∙ ap (λ (l : List ℕ). sets b₀ 0 (flat (map make_step l))) all;
        next = put.next ∙ marked_count 0 (take k marks) ∙ ap length all;
      }
