-- Worked examples of answers (docs/RULES.md, "Lines of planlines"): lines, their text, and the lines of an input. Bytes are in ASCII, as in specs/Texts.
-- Each is proved by computing.
use Rattle.std.specs.Prelude.{◌≡◌, refl, List, [], ◌∷◌, ℕ}
use Rattle.algebra.specs.Allowed.{allows}
use Rattle.algebra.specs.Cut.{cut_at}
use Rattle.algebra.specs.Magnitude.{sum_abs}
use Rattle.number.specs.Bits.{digits, bit_len, top_power, power_below, is_power_of_two}
use Rattle.number.specs.Parity.{has_parity_from}
use Rattle.number.specs.Refusal.{unless_refused}
use Rattle.number.specs.Split.{parts_of}
use Rattle.needed.specs.NeededList.{is_target, is_part, is_part_of_one, listed_down, needed_list}
use Rattle.counts.specs.PlainCount.{allowed_to}
use Rattle.counts.specs.MinDepth.{a_exceeds_b, min_depth}
use Rattle.counts.specs.Choice.{split_for}
use Rattle.counts.specs.Depth.{depth_of}
use Rattle.lists.specs.Tree.{listed_again, tree_in, tree_of}
use Rattle.lists.specs.Arrange.{leaves_of, lengths_of}
use Rattle.lists.specs.Lists.{lists_of, joined}
use Rattle.plan.specs.PlanSteps.{power_steps, last_length, last_plain, combine_kind, tree_steps, list_steps, steps_at}
use Rattle.plan.specs.Reported.{of_kind, allowed_in, reported}
use Rattle.plan.specs.PlanHead.{head_of}
use Rattle.lines.specs.Fields.{fields}
use Rattle.lines.specs.Whole.{are_digits, is_number, number_from, is_whole, value_of}
use Rattle.lines.specs.Line.{are_settings, are_whole, is_line, basis_in, parity_in, strategy_in, fold_in, coefficients_in}
use Rattle.texts.specs.Decimal.{digits_within, decimal, signed_decimal}
use Rattle.texts.specs.Text.{fields_text, line_text}
use Rattle.texts.specs.PlanText.{lines_of}
use Rattle.answers.specs.Answer.{answer_refusal, planned_lines, answer_lines, answer_text}
use Rattle.answers.specs.Input.{ended, unended, last_line, lines_in}

-- ---- lines and their answers

-- `M F D N`, and what follows
abbrev opening : List ℕ → List ℕ
opening rest = 77 ∷ 9 ∷ 70 ∷ 9 ∷ 68 ∷ 9 ∷ 78 ∷ rest

-- the nine lines of `M F D N 1 2 3 4 5`: "H 4 4 0 3 4 3", "L 1 2 3 4", "L 5", "P 2 1 1", "P 3 1 2", "P 4 2 2", "B 0", "B 1", "Q 4"
pub nine_lines : answer_lines (opening (9 ∷ 49 ∷ 9 ∷ 50 ∷ 9 ∷ 51 ∷ 9 ∷ 52 ∷ 9 ∷ 53 ∷ []))
    ≡ (72 ∷ 9 ∷ 52 ∷ 9 ∷ 52 ∷ 9 ∷ 48 ∷ 9 ∷ 51 ∷ 9 ∷ 52 ∷ 9 ∷ 51 ∷ 10 ∷ [])
    ∷ (76 ∷ 9 ∷ 49 ∷ 9 ∷ 50 ∷ 9 ∷ 51 ∷ 9 ∷ 52 ∷ 10 ∷ [])
    ∷ (76 ∷ 9 ∷ 53 ∷ 10 ∷ [])
    ∷ (80 ∷ 9 ∷ 50 ∷ 9 ∷ 49 ∷ 9 ∷ 49 ∷ 10 ∷ [])
    ∷ (80 ∷ 9 ∷ 51 ∷ 9 ∷ 49 ∷ 9 ∷ 50 ∷ 10 ∷ [])
    ∷ (80 ∷ 9 ∷ 52 ∷ 9 ∷ 50 ∷ 9 ∷ 50 ∷ 10 ∷ [])
    ∷ (66 ∷ 9 ∷ 48 ∷ 10 ∷ [])
    ∷ (66 ∷ 9 ∷ 49 ∷ 10 ∷ [])
    ∷ (81 ∷ 9 ∷ 52 ∷ 10 ∷ [])
    ∷ []
unfolding answer_lines answer_refusal planned_lines unless_refused lines_of is_line fields are_settings are_whole is_whole is_number are_digits basis_in
    parity_in strategy_in fold_in coefficients_in value_of number_from sum_abs has_parity_from head_of reported allowed_in of_kind steps_at list_steps
    tree_steps combine_kind last_plain last_length power_steps leaves_of lengths_of tree_of tree_in listed_again split_for min_depth a_exceeds_b depth_of
    allowed_to needed_list listed_down is_part_of_one is_part is_target allows top_power parts_of power_below is_power_of_two bit_len digits cut_at lists_of
    digits_within decimal signed_decimal fields_text line_text
nine_lines = refl

-- the empty line, and a tab behind the last field: "R 12"
pub empty_line : answer_text [] ≡ 82 ∷ 9 ∷ 49 ∷ 50 ∷ 10 ∷ []
unfolding answer_text answer_lines answer_refusal unless_refused is_line fields are_settings digits_within decimal fields_text line_text joined
empty_line = refl

pub trailing_tab : answer_text (opening (9 ∷ 49 ∷ 9 ∷ 50 ∷ 9 ∷ [])) ≡ 82 ∷ 9 ∷ 49 ∷ 50 ∷ 10 ∷ []
unfolding answer_text answer_lines answer_refusal unless_refused is_line fields are_settings are_whole is_whole is_number are_digits digits_within decimal
    fields_text line_text joined
trailing_tab = refl

-- no coefficient: "R 1", and not 12
pub no_coefficient : answer_text (opening []) ≡ 82 ∷ 9 ∷ 49 ∷ 10 ∷ []
unfolding answer_text answer_lines answer_refusal unless_refused is_line fields are_settings are_whole fold_in parity_in coefficients_in digits_within decimal
    fields_text line_text joined
no_coefficient = refl

-- ---- the lines of an input

-- no byte is no line, and nothing behind the last line feed is no line
pub no_line_lem : lines_in [] ≡ []
unfolding lines_in ended unended last_line
no_line_lem = refl

pub one_line : lines_in (65 ∷ 10 ∷ []) ≡ (65 ∷ []) ∷ []
unfolding lines_in ended unended last_line
one_line = refl

-- a line feed alone ends an empty line, and the last line may lack its line feed
pub three_lines : lines_in (65 ∷ 10 ∷ 10 ∷ 66 ∷ []) ≡ (65 ∷ []) ∷ [] ∷ (66 ∷ []) ∷ []
unfolding lines_in ended unended last_line
three_lines = refl
