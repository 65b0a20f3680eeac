-- How long lines are: a letter and a line feed, and for each field a tab and its digits, at most 20 of a number of 64 bits, and its sign.
use mathlib.Core.Bool.{Bool, true, false, cond}
use mathlib.Core.List.{List, [], ◌∷◌, map}
use Prim.Native.Nat.{ℕ, zero, suc, ◌+◌, ◌*◌, ◌<◌, ◌≤◌, ◌^◌}
use native.Mathlib.Omega.{arith}
use lib.Dec.{eqb}
use lib.IntN.{ℤ, pos}
use lib.ListN.{length, get_or, length-append}
use Rattle.algebra.specs.EnumNumbers.{transform_number}
use Rattle.algebra.specs.declared.PolynomialInputTransform.{PolynomialInputTransform}
use Rattle.algebra.specs.declared.PolynomialInputTransform.TheVariants.{Identity, Square, SquareTimesInput, ChebyshevT2, ChebyshevT2TimesInput}
use Rattle.number.specs.Exact.{Within}
use Rattle.number.proofs.Within.{within_at}
use Rattle.walk.specs.declared.plan.Head.{Head}
use Rattle.walk.specs.declared.plan.Step.{Step}
use Rattle.lines.specs.Bytes.{line_feed, letter_b, letter_g, letter_h, letter_l, letter_p, letter_q, letter_r}
use Rattle.texts.specs.Decimal.{decimal, signed_decimal}
use Rattle.texts.specs.Text.{fields_text, line_text, numbers_line, list_line}
use Rattle.texts.specs.PlanText.{head_line, step_line}
use Rattle.texts.specs.LineLengths.{HeadFits, LineLengths}
use Rattle.texts.proofs.DecimalLaws.{decimal_few, signed_few}
use Rattle.texts.proofs.TextLaws.{fields_few}

line_length : (letter : ℕ) (fields : List (List ℕ)) → length (line_text letter fields) ≤ length (fields_text fields) + 2
unfolding line_text
line_length letter fields = omega (arith, length-append (fields_text fields) (line_feed ∷ []))

-- ---- lines of numbers of at most d + 1 digits

data Below (limit : ℕ) : List ℕ → Type 0 where
  none : Below limit []
  one : {n : ℕ} {ns : List ℕ} → n < limit → Below limit ns → Below limit (n ∷ ns)

below_at : (limit : ℕ) {ns : List ℕ} → Below limit ns → (i : ℕ) → i < length ns → get_or ns i 0 < limit
below_at limit none i g = absurd (omega arith)
below_at limit (one h f) zero g = h
below_at limit (one h f) (suc i) g = below_at limit f i (omega arith)

numbers_few : (d letter : ℕ) (ns : List ℕ) → Below (10 ^ suc d) ns → length (numbers_line letter ns) ≤ length ns * suc (suc d) + 2
numbers_few d letter ns f =
    let few = fields_few decimal (suc d) 0 ns (λ i g. decimal_few d (get_or ns i 0) (below_at (10 ^ suc d) f i g)) in
    omega (arith, line_length letter (map decimal ns))

-- three numbers, or one
step_few : (d : ℕ) (step : Step) → step.x < 10 ^ suc d → step.y < 10 ^ suc d → step.z < 10 ^ suc d → length (step_line step) ≤ 3 * suc (suc d) + 2
step_few d step x y z =
    by_kind (eqb step.kind 1) (eqb step.kind 2) (eqb step.kind 3) (step.x ∷ step.y ∷ step.z ∷ []) (step.x ∷ [])
    (numbers_few d letter_p (step.x ∷ step.y ∷ step.z ∷ []) (one x (one y (one z none))))
    (λ letter. let short = numbers_few d letter (step.x ∷ []) (one x none) in omega arith)
  where
    by_kind : (p q r : Bool) (three single : List ℕ) → length (numbers_line letter_p three) ≤ 3 * suc (suc d) + 2
        → ((letter : ℕ) → length (numbers_line letter single) ≤ 3 * suc (suc d) + 2)
        → length (cond p (numbers_line letter_p three)
        (cond q (numbers_line letter_b single) (cond r (numbers_line letter_g single) (numbers_line letter_q single)))) ≤ 3 * suc (suc d) + 2
    by_kind true q r three single h g = h
    by_kind false true r three single h g = g letter_b
    by_kind false false true three single h g = g letter_g
    by_kind false false false three single h g = g letter_q

-- a number of 64 bits has at most 20
in_64_bits : {n : ℕ} → n < 2 ^ 64 → n < 10 ^ 20
in_64_bits h = omega arith

transform_few : (transform : PolynomialInputTransform) → transform_number transform < 10 ^ 20
transform_few Identity = omega arith
transform_few Square = omega arith
transform_few SquareTimesInput = omega arith
transform_few ChebyshevT2 = omega arith
transform_few ChebyshevT2TimesInput = omega arith

head_few : (head : Head) → HeadFits head → length (head_line head) ≤ 128
head_few head f =
    numbers_few 19 letter_h _
    (one (in_64_bits f.degree)
    (one (in_64_bits f.base)
    (one (transform_few head.transform)
    (one (in_64_bits f.ct) (one (in_64_bits f.pt) (one (in_64_bits f.depth) none))))))

-- ---- lines of lists

list_fits : (c : List ℤ) → Within (2 ^ 63) c → length (list_line c) ≤ length c * 22 + 2
list_fits c w =
    let few = fields_few signed_decimal 21 (pos 0) c (λ i h. signed_few 19 (get_or c i (pos 0)) (omega (arith, within_at (2 ^ 63) c w i))) in
    omega (arith, line_length letter_l (map signed_decimal c))

pub line_lengths : LineLengths
line_lengths = record {
  lists = list_fits;
  short_lists = λ c w h. omega (arith, list_fits c w);
  heads = head_few;
  steps = λ step f. let few = step_few 19 step (in_64_bits f.x) (in_64_bits f.y) (in_64_bits f.z) in omega arith;
  small_steps = λ step x y z. step_few 3 step (omega arith) (omega arith) (omega arith);
  refusals = λ refusal h. let few = numbers_few 19 letter_r (refusal ∷ []) (one (in_64_bits h) none) in omega arith;
}
