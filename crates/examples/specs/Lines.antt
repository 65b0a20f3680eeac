-- Worked examples of lines (docs/RULES.md, "Lines of planlines"): what lines in the form say, and each edge of the form. A space below stands
-- for a tab, and `negsuc n` is -(n + 1).
use Rattle.std.specs.Prelude.{◌≡◌, refl, true, false, List, [], ◌∷◌, ℕ, ◌+◌, ℤ, pos, negsuc, length}
use Rattle.algebra.specs.declared.Basis.TheVariants.{Monomial, Chebyshev}
use Rattle.algebra.specs.declared.Parity.TheVariants.{Full, Odd}
use Rattle.counts.specs.declared.choice.SplitStrategy.TheVariants.{MinDepth, MinMult}
use Rattle.number.specs.Refusal.{unless_refused}
use Rattle.lines.specs.Bytes.{tab, minus, digit0, letter_c, letter_d, letter_f, letter_m, letter_n, letter_o, letter_y}
use Rattle.lines.specs.Fields.{fields}
use Rattle.lines.specs.Whole.{are_digits, is_number, number_from, is_whole, value_of}
use Rattle.lines.specs.Line.{are_settings, are_whole, is_line, basis_in, parity_in, strategy_in, fold_in, coefficients_in}
use Rattle.lines.specs.ReadLine.{line_refusal, no_line, line_answer, line_buffer}

-- a decimal digit as a byte
abbrev digit : ℕ → ℕ
digit n = digit0 + n

-- `M F D N`, and what follows
abbrev opening : List ℕ → List ℕ
opening rest = letter_m ∷ tab ∷ letter_f ∷ tab ∷ letter_d ∷ tab ∷ letter_n ∷ rest

-- 18 nines, and what follows
abbrev nines : List ℕ → List ℕ
nines rest =
    digit 9 ∷ digit 9 ∷ digit 9 ∷ digit 9 ∷ digit 9 ∷ digit 9 ∷ digit 9 ∷ digit 9 ∷ digit 9
    ∷ digit 9 ∷ digit 9 ∷ digit 9 ∷ digit 9 ∷ digit 9 ∷ digit 9 ∷ digit 9 ∷ digit 9 ∷ digit 9 ∷ rest

-- ---- lines in the form

-- `M F D N 1 -2 30`
abbrev three : List ℕ
three = opening (tab ∷ digit 1 ∷ tab ∷ minus ∷ digit 2 ∷ tab ∷ digit 3 ∷ digit 0 ∷ [])

pub three_read : line_answer three ≡ record { refusal = 0; basis = Monomial; parity = Full; strategy = MinDepth; fold = false; count = 3 }
unfolding line_answer line_refusal unless_refused is_line fields are_settings are_whole is_whole is_number are_digits basis_in parity_in strategy_in fold_in
    coefficients_in
three_read = refl

pub three_coefficients : coefficients_in three ≡ pos 1 ∷ negsuc 1 ∷ pos 30 ∷ []
unfolding coefficients_in fields value_of number_from
three_coefficients = refl

-- in a buffer of four places, and of two, which holds the first two
pub three_in_four : line_buffer three (pos 7 ∷ pos 7 ∷ pos 7 ∷ pos 7 ∷ []) ≡ pos 1 ∷ negsuc 1 ∷ pos 30 ∷ pos 7 ∷ []
unfolding line_buffer line_refusal unless_refused is_line fields are_settings are_whole is_whole is_number are_digits coefficients_in value_of number_from
three_in_four = refl

pub three_in_two : line_buffer three (pos 7 ∷ pos 7 ∷ []) ≡ pos 1 ∷ negsuc 1 ∷ []
unfolding line_buffer line_refusal unless_refused is_line fields are_settings are_whole is_whole is_number are_digits coefficients_in value_of number_from
three_in_two = refl

-- `C O M Y`, without a coefficient
pub no_coefficient : line_answer (letter_c ∷ tab ∷ letter_o ∷ tab ∷ letter_m ∷ tab ∷ letter_y ∷ [])
    ≡ record { refusal = 0; basis = Chebyshev; parity = Odd; strategy = MinMult; fold = true; count = 0 }
unfolding line_answer line_refusal unless_refused is_line fields are_settings are_whole basis_in parity_in strategy_in fold_in coefficients_in
no_coefficient = refl

-- `-0`, `-007` and 18 digits
pub minus_zero_lem : coefficients_in (opening (tab ∷ minus ∷ digit 0 ∷ [])) ≡ pos 0 ∷ []
unfolding coefficients_in fields value_of number_from
minus_zero_lem = refl

pub minus_seven : coefficients_in (opening (tab ∷ minus ∷ digit 0 ∷ digit 0 ∷ digit 7 ∷ [])) ≡ negsuc 6 ∷ []
unfolding coefficients_in fields value_of number_from
minus_seven = refl

pub eighteen_digits : coefficients_in (opening (tab ∷ nines [])) ≡ pos 999999999999999999 ∷ []
unfolding coefficients_in fields value_of number_from
eighteen_digits = refl

pub zeros_in_form : is_line (opening (tab ∷ minus ∷ digit 0 ∷ tab ∷ nines [])) ≡ true
unfolding is_line fields are_settings are_whole is_whole is_number are_digits
zeros_in_form = refl

-- ---- the edges of the form

-- the empty line: the whole answer, and the buffer as it was
pub empty_refused : line_answer [] ≡ no_line 12
unfolding line_answer line_refusal unless_refused is_line fields are_settings
empty_refused = refl

pub empty_leaves : (buffer : List ℤ) → line_buffer [] buffer ≡ buffer
unfolding line_buffer line_refusal unless_refused is_line fields are_settings
empty_leaves buffer = refl

-- 65,536 bytes
pub too_long : (line : List ℕ) → length line ≡ 65536 → is_line line ≡ false
unfolding is_line
too_long line long = rw long

-- three fields, and an empty field among the letters
pub three_fields : is_line (letter_m ∷ tab ∷ letter_f ∷ tab ∷ letter_d ∷ []) ≡ false
unfolding is_line fields are_settings
three_fields = refl

pub no_letter : is_line (letter_m ∷ tab ∷ tab ∷ letter_d ∷ tab ∷ letter_n ∷ []) ≡ false
unfolding is_line fields are_settings
no_letter = refl

-- a trailing tab
pub trailing_tab : is_line (opening (tab ∷ [])) ≡ false
unfolding is_line fields are_settings are_whole is_whole is_number
trailing_tab = refl

pub tab_behind_a_number : is_line (opening (tab ∷ digit 1 ∷ tab ∷ [])) ≡ false
unfolding is_line fields are_settings are_whole is_whole is_number are_digits
tab_behind_a_number = refl

-- 19 digits, with a minus too
pub nineteen_digits : is_line (opening (tab ∷ nines (digit 9 ∷ []))) ≡ false
unfolding is_line fields are_settings are_whole is_whole is_number
nineteen_digits = refl

pub minus_nineteen_digits : is_line (opening (tab ∷ minus ∷ nines (digit 9 ∷ []))) ≡ false
unfolding is_line fields are_settings are_whole is_whole is_number
minus_nineteen_digits = refl

-- `-`, `--1` and `+1`
pub minus_alone : is_line (opening (tab ∷ minus ∷ [])) ≡ false
unfolding is_line fields are_settings are_whole is_whole is_number
minus_alone = refl

pub two_minuses : is_line (opening (tab ∷ minus ∷ minus ∷ digit 1 ∷ [])) ≡ false
unfolding is_line fields are_settings are_whole is_whole is_number are_digits
two_minuses = refl

pub plus_one_lem : is_line (opening (tab ∷ 43 ∷ digit 1 ∷ [])) ≡ false
unfolding is_line fields are_settings are_whole is_whole is_number are_digits
plus_one_lem = refl

-- a carriage return at the end, behind a number and behind the letters
pub return_behind_a_number : is_line (opening (tab ∷ digit 1 ∷ 13 ∷ [])) ≡ false
unfolding is_line fields are_settings are_whole is_whole is_number are_digits
return_behind_a_number = refl

pub return_behind_letters : is_line (opening (13 ∷ [])) ≡ false
unfolding is_line fields are_settings
return_behind_letters = refl

-- a space in the place of a tab
pub space : is_line (opening (32 ∷ digit 1 ∷ [])) ≡ false
unfolding is_line fields are_settings
space = refl

-- byte 0 and byte 255, as a letter and in a number
pub zero_as_letter : is_line (0 ∷ tab ∷ letter_f ∷ tab ∷ letter_d ∷ tab ∷ letter_n ∷ []) ≡ false
unfolding is_line fields are_settings
zero_as_letter = refl

pub zero_in_number : is_line (opening (tab ∷ digit 1 ∷ 0 ∷ [])) ≡ false
unfolding is_line fields are_settings are_whole is_whole is_number are_digits
zero_in_number = refl

pub last_byte_as_letter : is_line (255 ∷ tab ∷ letter_f ∷ tab ∷ letter_d ∷ tab ∷ letter_n ∷ []) ≡ false
unfolding is_line fields are_settings
last_byte_as_letter = refl

pub last_byte_in_number : is_line (opening (tab ∷ 255 ∷ [])) ≡ false
unfolding is_line fields are_settings are_whole is_whole is_number are_digits
last_byte_in_number = refl

-- a lower-case `m`, and `M` twice in a field
pub lower_case : is_line (109 ∷ tab ∷ letter_f ∷ tab ∷ letter_d ∷ tab ∷ letter_n ∷ []) ≡ false
unfolding is_line fields are_settings
lower_case = refl

pub two_letters : is_line (letter_m ∷ letter_m ∷ tab ∷ letter_f ∷ tab ∷ letter_d ∷ tab ∷ letter_n ∷ []) ≡ false
unfolding is_line fields are_settings
two_letters = refl

-- a bad field behind a good one: the whole line is tested
pub bad_behind_good : is_line (opening (tab ∷ digit 1 ∷ tab ∷ letter_m ∷ [])) ≡ false
unfolding is_line fields are_settings are_whole is_whole is_number are_digits
bad_behind_good = refl
