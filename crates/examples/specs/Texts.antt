-- Plans and refusals as text, in bytes of ASCII: 9 is the tab, 10 the line feed, 45 the minus, 48 to 57 the digits, 66, 71, 72, 76, 80, 81, 82 the
-- letters B, G, H, L, P, Q, R. Each is proved by computing; `negsuc n` is -(n + 1).
use Rattle.std.specs.Prelude.{◌≡◌, refl, List, [], ◌∷◌, map, ℕ, ℤ, pos, negsuc}
use Rattle.algebra.specs.declared.Basis.TheVariants.{Monomial}
use Rattle.algebra.specs.declared.Parity.TheVariants.{Full}
use Rattle.algebra.specs.declared.PolynomialInputTransform.{PolynomialInputTransform}
use Rattle.algebra.specs.declared.PolynomialInputTransform.TheVariants.{Identity, ChebyshevT2TimesInput}
use Rattle.counts.specs.declared.choice.SplitStrategy.TheVariants.{MinDepth}
use Rattle.lists.specs.Lists.{joined}
use Rattle.walk.specs.Lent.{steps_from}
use Rattle.number.specs.Interval.{no_interval}
use Rattle.walk.specs.declared.plan.Head.{Head}
use Rattle.texts.specs.Decimal.{digits_within, decimal, signed_decimal}
use Rattle.texts.specs.Text.{fields_text, line_text, list_line, refusal_line}
use Rattle.texts.specs.PlanText.{head_line, step_line, lines_of, parts_from, plan_lines, plan_text}

-- ---- numbers

-- "0", "10", "4095"
pub nought : decimal 0 ≡ 48 ∷ []
unfolding decimal
nought = refl

pub ten : decimal 10 ≡ 49 ∷ 48 ∷ []
unfolding decimal digits_within
ten = refl

pub greatest_degree : decimal 4095 ≡ 52 ∷ 48 ∷ 57 ∷ 53 ∷ []
unfolding decimal digits_within
greatest_degree = refl

-- the least i64, "-9223372036854775808"
pub least : signed_decimal (negsuc 9223372036854775807)
    ≡ 45 ∷ 57 ∷ 50 ∷ 50 ∷ 51 ∷ 51 ∷ 55 ∷ 50 ∷ 48 ∷ 51 ∷ 54 ∷ 56 ∷ 53 ∷ 52 ∷ 55 ∷ 55 ∷ 53 ∷ 56 ∷ 48 ∷ 56 ∷ []
unfolding digits_within decimal signed_decimal
least = refl

-- "L -5 0 1024"
pub signs : list_line (negsuc 4 ∷ pos 0 ∷ pos 1024 ∷ []) ≡ 76 ∷ 9 ∷ 45 ∷ 53 ∷ 9 ∷ 48 ∷ 9 ∷ 49 ∷ 48 ∷ 50 ∷ 52 ∷ 10 ∷ []
unfolding digits_within decimal signed_decimal fields_text line_text
signs = refl

-- ---- a refusal: "R 12"

pub twelve : refusal_line 12 ≡ 82 ∷ 9 ∷ 49 ∷ 50 ∷ 10 ∷ []
unfolding digits_within decimal fields_text line_text
twelve = refl

-- ---- the plan of nine lines of docs/RULES.md, `M F D N 1 2 3 4 5`

abbrev head_with : PolynomialInputTransform → (lists steps : ℕ) → Head
head_with transform lists steps = record {
  basis = Monomial;
  parity = Full;
  strategy = MinDepth;
  transform = transform;
  degree = 4;
  base = 4;
  ct = 3;
  pt = 4;
  depth = 3;
  coefficients = 5;
  lists = lists;
  steps = steps;
  interval = no_interval;
}

-- steps 1 2 1 1, 1 3 1 2, 1 4 2 2, 2 0 0 0, 2 1 0 0, 4 4 0 0; behind them, as behind the coefficients and boundaries, anything
abbrev nine_steps : List ℕ
nine_steps = 1 ∷ 2 ∷ 1 ∷ 1 ∷ 1 ∷ 3 ∷ 1 ∷ 2 ∷ 1 ∷ 4 ∷ 2 ∷ 2 ∷ 2 ∷ 0 ∷ 0 ∷ 0 ∷ 2 ∷ 1 ∷ 0 ∷ 0 ∷ 4 ∷ 4 ∷ 0 ∷ 0 ∷ 1 ∷ 1 ∷ 1 ∷ 1 ∷ 7 ∷ []

abbrev nine_coefficients : List ℤ
nine_coefficients = map pos (1 ∷ 2 ∷ 3 ∷ 4 ∷ 5 ∷ 6 ∷ 7 ∷ [])

abbrev nine_bounds : List ℕ
nine_bounds = 4 ∷ 5 ∷ 9 ∷ []

-- "H 4 4 0 3 4 3", "L 1 2 3 4", "L 5", "P 2 1 1", "P 3 1 2", "P 4 2 2", "B 0", "B 1", "Q 4"
pub nine : plan_lines (head_with Identity 2 6) nine_coefficients nine_bounds nine_steps
    ≡ (72 ∷ 9 ∷ 52 ∷ 9 ∷ 52 ∷ 9 ∷ 48 ∷ 9 ∷ 51 ∷ 9 ∷ 52 ∷ 9 ∷ 51 ∷ 10 ∷ [])
    ∷ (76 ∷ 9 ∷ 49 ∷ 9 ∷ 50 ∷ 9 ∷ 51 ∷ 9 ∷ 52 ∷ 10 ∷ [])
    ∷ (76 ∷ 9 ∷ 53 ∷ 10 ∷ [])
    ∷ (80 ∷ 9 ∷ 50 ∷ 9 ∷ 49 ∷ 9 ∷ 49 ∷ 10 ∷ [])
    ∷ (80 ∷ 9 ∷ 51 ∷ 9 ∷ 49 ∷ 9 ∷ 50 ∷ 10 ∷ [])
    ∷ (80 ∷ 9 ∷ 52 ∷ 9 ∷ 50 ∷ 9 ∷ 50 ∷ 10 ∷ [])
    ∷ (66 ∷ 9 ∷ 48 ∷ 10 ∷ [])
    ∷ (66 ∷ 9 ∷ 49 ∷ 10 ∷ [])
    ∷ (81 ∷ 9 ∷ 52 ∷ 10 ∷ [])
    ∷ []
unfolding digits_within decimal signed_decimal fields_text line_text steps_from parts_from lines_of
nine = refl

-- a head that counts no list and no step: its text is one line
pub only_head : plan_text (head_with Identity 0 0) nine_coefficients nine_bounds nine_steps
    ≡ 72 ∷ 9 ∷ 52 ∷ 9 ∷ 52 ∷ 9 ∷ 48 ∷ 9 ∷ 51 ∷ 9 ∷ 52 ∷ 9 ∷ 51 ∷ 10 ∷ []
unfolding digits_within decimal signed_decimal fields_text line_text steps_from parts_from lines_of joined
only_head = refl

-- ---- single lines

-- "H .. 4 ..": the transform by its number
pub folded : head_line (head_with ChebyshevT2TimesInput 2 6)
    ≡ 72 ∷ 9 ∷ 52 ∷ 9 ∷ 52 ∷ 9 ∷ 52 ∷ 9 ∷ 51 ∷ 9 ∷ 52 ∷ 9 ∷ 51 ∷ 10 ∷ []
unfolding digits_within decimal fields_text line_text
folded = refl

-- "G 64", a combine of kind 3
pub combine : step_line (record { kind = 3; x = 64; y = 0; z = 0 }) ≡ 71 ∷ 9 ∷ 54 ∷ 52 ∷ 10 ∷ []
unfolding digits_within decimal fields_text line_text
combine = refl
