-- No answer is longer than its limit. A plan's head has at most 128 bytes; its lists have at most 22 for each of at most 4,096 coefficients, and 2 for
-- each list; each of its at most 12,287 steps has at most 17: 307,311 in all. A refusal is one line of at most 128.
use mathlib.Core.Path.{◌≡◌, refl, ap, sym, ◌∙◌}
use mathlib.Core.Bool.{Bool, true, false}
use mathlib.Core.List.{List, [], ◌∷◌, ◌++◌, map, append-nil}
use Prim.Native.Nat.{ℕ, suc, ◌+◌, ◌*◌, ◌^◌, ◌<◌, ◌≤◌}
use native.Mathlib.Decide.{ℕ_discrete}
use native.Mathlib.Omega.{arith}
use borrow.Author.Tests.{le-leb}
use lib.Ieee.{Float}
use lib.IntN.{ℤ}
use lib.ListN.{length, get_or, length-append}
use Rattle.algebra.specs.Magnitude.{sum_abs}
use Rattle.algebra.specs.declared.Basis.{Basis}
use Rattle.algebra.specs.declared.Parity.{Parity}
use Rattle.algebra.proofs.Each.{each_left, each_right}
use Rattle.number.specs.Limits.{count_limit, sum_limit}
use Rattle.number.specs.Exact.{To53, AllTo53}
use Rattle.number.proofs.Bits.{power_range}
use Rattle.number.proofs.Within.{within_each, within_at}
use Rattle.counts.specs.Choice.{split_for}
use Rattle.counts.specs.declared.choice.SplitStrategy.{SplitStrategy}
use Rattle.counts.proofs.DepthLaws.{depth_bounds}
use Rattle.lists.specs.Tree.{relists}
use Rattle.lists.specs.Lists.{joined}
use Rattle.lists.proofs.Promises.{lists_to_53, folded_lists_to_53}
use Rattle.walk.specs.WalksHeld.{flat}
use Rattle.walk.specs.declared.plan.Step.{Step}
use Rattle.plan.specs.Reported.{reported}
use Rattle.plan.specs.PlanHead.{head_of}
use Rattle.plan.specs.PlanCall.{planned_parity, planned_transform, Accepted, planned_degree, head_for, coefficients_for}
use Rattle.plan.proofs.StepCounts.{steps_counted}
use Rattle.plan.proofs.HeadCounts.{cost_most}
use Rattle.lines.specs.Line.{basis_in, parity_in, strategy_in, fold_in, coefficients_in}
use Rattle.texts.specs.Text.{list_line}
use Rattle.texts.specs.PlanText.{head_line, step_line, lines_of}
use Rattle.texts.specs.LineLengths.{HeadFits}
use Rattle.texts.proofs.LineLengths.{line_lengths}
use Rattle.demands.specs.Right.{lists_for, steps_for}
use Rattle.demands.proofs.Accepts.{covered_accepted, plannable}
use Rattle.demands.proofs.Right.{from_one, ordered, coefficients_length}
use Rattle.demands.proofs.Fits.{plans_fit, small_at}
use Rattle.answers.specs.Limits.{text_limit}
use Rattle.answers.specs.LineInterval.{minus_one, plus_one}
use Rattle.answers.specs.Answer.{answer_refusal, planned_lines, answer_text}
use Rattle.answers.specs.Input.{last_line, answers_text}
use Rattle.answers.specs.Turns.{end_text}
use Rattle.answers.specs.TextFits.{TextFits}
use Rattle.answers.proofs.Rooms.{degree_range, counts_range, coefficients_most, lists_most, steps_most}
use Rattle.answers.proofs.AnswerCases.{line_accepted, refusal_most, text_planned, text_refused}

-- ---- lines one after another

joined_length : (xs ys : List (List ℕ)) → length (joined (xs ++ ys)) ≡ length (joined xs) + length (joined ys)
unfolding joined
joined_length [] ys = omega arith
joined_length (x ∷ xs) ys = omega (arith, length-append x (joined (xs ++ ys)), length-append x (joined xs), joined_length xs ys)

-- of lists whose numbers are at most 2^53
list_lines : (lists : List (List ℤ)) → AllTo53 (joined lists)
    → length (joined (map list_line lists)) ≤ 22 * length (joined lists) + 2 * length lists
unfolding joined
list_lines [] small = omega arith
list_lines (list ∷ lists) small =
    let here = each_left To53 list (joined lists) small in
    let line = line_lengths.lists list (within_each (2 ^ 63) list (λ i. omega (arith, within_at (2 ^ 53) list here i))) in
    let rest = list_lines lists (each_right To53 list (joined lists) small) in
    omega (arith, length-append (list_line list) (joined (map list_line lists)), length-append list (joined lists))

-- of steps whose numbers are at most 4,096
step_lines : (steps : List Step) → ((i : ℕ) → get_or (flat steps) i 0 ≤ count_limit) → length (joined (map step_line steps)) ≤ 17 * length steps
unfolding joined flat
step_lines [] small = omega arith
step_lines (step ∷ steps) small =
    let line = line_lengths.small_steps step (small 1) (small 2) (small 3) in
    let rest = step_lines steps (λ i. small (suc (suc (suc (suc i))))) in
    omega (arith, length-append (step_line step) (joined (map step_line steps)))

-- ---- a plan

-- the coefficients in their places
coefficients_small : (strategy : SplitStrategy) (parity : Parity) (basis : Basis) (folded : Bool) (c : List ℤ) → Accepted folded parity c
    → AllTo53 (coefficients_for strategy parity basis folded c)
coefficients_small strategy parity basis true c accepted =
    let covered = (covered_accepted true parity c).0 accepted in
    let several = (plannable true parity basis c accepted).several in
    folded_lists_to_53 (relists strategy) parity basis _ _ c (le-leb (sum_abs c) sum_limit covered.magnitudes) (omega arith)
    covered.degree_to (from_one strategy parity basis true c accepted)
coefficients_small strategy parity basis false c accepted =
    let covered = (covered_accepted false parity c).0 accepted in
    let several = (plannable false parity basis c accepted).several in
    lists_to_53 (relists strategy) basis _ _ c (le-leb (sum_abs c) sum_limit covered.magnitudes) (omega arith)
    covered.degree_to (from_one strategy parity basis false c accepted)

module _ (strategy : SplitStrategy) (parity : Parity) (basis : Basis) (folded : Bool) (c : List ℤ) (accepted : Accepted folded parity c) where
  abbrev degree : ℕ
  degree = planned_degree strategy parity basis folded c

  abbrev split : ℕ
  split = split_for strategy (planned_parity folded parity) basis degree

  abbrev lists : List (List ℤ)
  lists = lists_for strategy parity basis folded c

  abbrev steps : List Step
  steps = steps_for strategy parity basis folded c

  pub lists_small : AllTo53 (joined lists)
  lists_small = rw (ordered strategy parity basis folded c accepted).places at (coefficients_small strategy parity basis folded c accepted)

  module _ (a b : Float) where
    head_fits : HeadFits (head_for strategy parity basis folded c a b)
    unfolding head_of reported
    head_fits =
        let range = degree_range strategy parity basis folded c accepted in
        let counts = counts_range strategy parity basis folded c accepted in
        let counted = steps_counted (relists strategy) (planned_parity folded parity) basis degree split in
        let base = power_range {k = split} (omega (arith, counts.split.to)) refl in
        let depth = depth_bounds strategy degree (record { from = range.from; to = omega (arith, range.to) }) in
        let cost = cost_most (planned_transform folded parity basis) in
        record {
          degree = omega (arith, range.to);
          base = omega (arith, base.most);
          ct = omega (arith, counted.encrypted, counts.powers, counts.at_most);
          pt = omega (arith, counted.encrypted, counts.powers, counts.at_most);
          depth = omega (arith, depth.to);
        }

    lists_fit : length (joined (map list_line lists)) ≤ 24 * 4096
    unfolding head_of
    lists_fit =
        let order = ordered strategy parity basis folded c accepted in
        let places : length (joined lists) ≡ (head_for strategy parity basis folded c a b).coefficients =
        ap length (sym order.places) ∙ coefficients_length strategy parity basis folded c accepted a b in
        let count : (head_for strategy parity basis folded c a b).lists ≡ length lists = order.count in
        omega (
          arith,
          list_lines lists lists_small,
          coefficients_most strategy parity basis folded c accepted a b,
          lists_most strategy parity basis folded c accepted a b,
        )

    steps_fit : length (joined (map step_line steps)) ≤ 17 * 12287
    unfolding head_of
    steps_fit =
        let numbers = (plans_fit strategy parity basis folded c accepted).numbers in
        omega (arith, step_lines steps (λ i. small_at (flat steps) i numbers), steps_most strategy parity basis folded c accepted a b)

    pub plan_fits : length (joined (lines_of (head_for strategy parity basis folded c a b) lists steps)) ≤ text_limit
    unfolding lines_of joined
    plan_fits =
        let head = line_lengths.heads (head_for strategy parity basis folded c a b) head_fits in
        omega (
          arith,
          lists_fit,
          steps_fit,
          length-append (head_line (head_for strategy parity basis folded c a b)) (joined (map list_line lists ++ map step_line steps)),
          joined_length (map list_line lists) (map step_line steps),
        )

-- ---- an answer

planned_fits : (line : List ℕ) → answer_refusal line ≡ 0 → length (answer_text line) ≤ text_limit
unfolding planned_lines
planned_fits line none =
    rw (text_planned line none)
    (plan_fits (strategy_in line) (parity_in line) (basis_in line) (fold_in line) (coefficients_in line) (line_accepted line none) minus_one plus_one)

refused_fits : (line : List ℕ) → 0 < answer_refusal line → length (answer_text line) ≤ text_limit
refused_fits line some =
    let short = line_lengths.refusals (answer_refusal line) (omega (arith, refusal_most line)) in
    rw (text_refused line some) (omega arith)

pub text_fits : TextFits
text_fits line = by_refusal (ℕ_discrete (answer_refusal line) 0)
  where
    by_refusal : Dec (answer_refusal line ≡ 0) → length (answer_text line) ≤ text_limit
    by_refusal (yes none) = planned_fits line none
    by_refusal (no refused) = refused_fits line (omega arith)

-- and none at the input's end
pub end_fits : (held : List ℕ) → length (end_text held) ≤ text_limit
unfolding answers_text last_line joined
end_fits [] = omega arith
end_fits (b ∷ bs) = omega (arith, text_fits (b ∷ bs), ap (λ (t : List ℕ). length t) (append-nil (answer_text (b ∷ bs))))
