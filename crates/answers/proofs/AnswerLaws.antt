-- What the plan call answers with the rooms and the interval of answers, and what a line says: the text that is put of each is that of the answer. With
-- these the plan call refuses only its polynomial. A line with more coefficients than are kept has too many for a plan, and so have those that are kept.
use mathlib.Core.Path.{◌≡◌, refl, ap, sym, ◌∙◌}
use mathlib.Core.Bool.{Bool, true, false}
use mathlib.Core.List.{List, append-nil}
use Prim.Native.Nat.{ℕ, zero, suc, ◌+◌, ◌-◌, ◌<◌, ◌≤◌, ◌^◌}
use native.Mathlib.Omega.{arith}
use borrow.Author.Tests.{lt-ltb, leb-true, leb-false}
use lib.Dec.{leb}
use lib.IntN.{ℤ}
use lib.ListN.{length, take, drop, length-append, length-take}
use Rattle.algebra.specs.declared.Basis.{Basis}
use Rattle.algebra.specs.declared.Parity.{Parity}
use Rattle.number.specs.Limits.{plan_limit}
use Rattle.number.specs.Tests.{degree_of}
use Rattle.number.specs.Refusal.{first_refusal, unless_refused}
use Rattle.number.proofs.FirstRefusal.{first_kept, refusal_of, when_refused, when_accepted}
use Rattle.counts.specs.declared.choice.SplitStrategy.{SplitStrategy}
use Rattle.lists.specs.Lists.{joined}
use Rattle.plan.specs.PlanCall.{input_tests, Accepted, early_tests, head_for, plan_refusal, plan_answer, PlanCall, Planned}
use Rattle.plan.proofs.PlanTests.{early_kept}
use Rattle.lines.specs.Line.{is_line, basis_in, parity_in, strategy_in, fold_in, coefficients_in}
use Rattle.lines.specs.ReadLine.{Line, line_refusal, line_answer, line_buffer, ReadLine}
use Rattle.lines.proofs.BufferHolds.{buffers_hold}
use Rattle.texts.specs.Text.{refusal_line}
use Rattle.texts.specs.PlanText.{lines_of, plan_text}
use Rattle.texts.proofs.HeldText.{held_text}
use Rattle.texts.proofs.PartLaws.{from_first}
use Rattle.demands.specs.Accepts.{BringsPlan}
use Rattle.demands.specs.Right.{lists_for, steps_for}
use Rattle.demands.proofs.Refusals.{plan_made_lem}
use Rattle.demands.proofs.Right.{plans_right, holds}
use Rattle.answers.specs.Limits.{coefficient_room}
use Rattle.answers.specs.LineInterval.{minus_one, plus_one}
use Rattle.answers.specs.Answer.{answer_refusal, planned_lines, answer_lines, answer_text}
use Rattle.answers.specs.inside.Rooms.{PlanRoom}
use Rattle.answers.specs.inside.TextFor.{text_for}
use Rattle.answers.proofs.AnswerCases.{text_refused}
use Rattle.answers.proofs.LineInterval.{ones_ordered}
use Rattle.answers.proofs.Rooms.{rooms_enough}
use Rattle.answers.proofs.TextFits.{plan_fits}

-- ---- the text for a polynomial

module _ (strategy : SplitStrategy) (parity : Parity) (basis : Basis) (folded : Bool) (c : List ℤ) where
  for_planned : Accepted folded parity c
      → text_for strategy parity basis folded c
      ≡ joined
      (lines_of (head_for strategy parity basis folded c minus_one plus_one) (lists_for strategy parity basis folded c)
      (steps_for strategy parity basis folded c))
  unfolding text_for
  for_planned accepted = ap joined (sym (when_accepted _ _ accepted))

  for_refused : {k : ℕ} → k ≡ first_refusal (input_tests folded parity c) → 0 < k → refusal_line k ≡ text_for strategy parity basis folded c
  unfolding text_for joined
  for_refused is some =
      ap refusal_line is
      ∙ sym (append-nil (refusal_line (first_refusal (input_tests folded parity c))))
      ∙ ap joined (when_refused (first_refusal (input_tests folded parity c)) _ _ (omega arith))

  module _ {planned : List ℤ} {bounds steps : List ℕ} {at : ℕ} (room : PlanRoom planned bounds steps at) {r : Planned} {planned' : List ℤ}
      {bounds' steps' : List ℕ} (call : PlanCall strategy parity basis folded c minus_one plus_one planned bounds steps r planned' bounds' steps') where
    -- the rooms are long enough, and the bounds are in order, so that only the polynomial is refused
    brings : Accepted folded parity c → BringsPlan strategy parity basis folded c minus_one plus_one planned bounds steps
    brings accepted =
        rooms_enough strategy parity basis folded c minus_one plus_one planned bounds steps accepted ones_ordered room.planned_long
        room.bounds_long room.steps_long

    by_input : (k : ℕ) → first_refusal (input_tests folded parity c) ≡ k
        → plan_refusal strategy parity basis folded c minus_one plus_one planned bounds steps ≡ first_refusal (input_tests folded parity c)
    unfolding plan_refusal
    by_input zero none =
        plan_made_lem strategy parity basis folded c minus_one plus_one planned bounds steps (brings none) ∙ sym none
    by_input (suc k) some =
        let kept = early_kept folded parity c minus_one plus_one (omega arith) in
        first_kept (early_tests folded parity c minus_one plus_one) _ (omega arith) ∙ kept

    refusal_is : r.refusal ≡ first_refusal (input_tests folded parity c)
    unfolding plan_answer
    refusal_is =
        ap (λ (p : Planned). p.refusal) call.answer
        ∙ refusal_of _ _ _ (λ (p : Planned). p.refusal) refl refl
        ∙ by_input (first_refusal (input_tests folded parity c)) refl

    pub refused_text : 0 < r.refusal → refusal_line r.refusal ≡ text_for strategy parity basis folded c
    refused_text some = for_refused refusal_is some

    module _ (none : r.refusal ≤ 0) where
      accepted : Accepted folded parity c
      accepted = sym refusal_is ∙ omega arith

      pub planned_text : plan_text r.head planned' bounds' steps' ≡ text_for strategy parity basis folded c
      planned_text =
          let right = plans_right strategy parity basis folded c minus_one plus_one planned bounds steps r planned' bounds' steps' (brings accepted) call in
          ap (λ (p : Planned). plan_text p.head planned' bounds' steps') right.answer
          ∙ ap joined
          (held_text (head_for strategy parity basis folded c minus_one plus_one) planned' bounds' steps' (lists_for strategy parity basis folded c)
          (steps_for strategy parity basis folded c)
          (holds strategy parity basis folded c accepted minus_one plus_one planned' bounds' steps' right.stored))
          ∙ sym (for_planned accepted)

      -- its end is within 64 bits
      pub planned_ends : at + length (plan_text r.head planned' bounds' steps') < 2 ^ 63
      planned_ends =
          let fits = plan_fits strategy parity basis folded c accepted minus_one plus_one in
          omega (arith, room.place, ap (λ (t : List ℕ). length t) (planned_text ∙ for_planned accepted))

-- ---- the text for a line

-- a line without the form
not_line : (line : List ℕ) → is_line line ≡ false → answer_refusal line ≡ 12
unfolding answer_refusal
not_line line other = rw other

-- a line in the form: the text for what it says
in_form : (line : List ℕ) → is_line line ≡ true
    → text_for (strategy_in line) (parity_in line) (basis_in line) (fold_in line) (coefficients_in line) ≡ answer_text line
unfolding text_for answer_text answer_lines answer_refusal planned_lines
in_form line form = rw form

-- more coefficients than a plan can have
too_many : (folded : Bool) (parity : Parity) (c : List ℤ) → plan_limit + 1 < length c → first_refusal (input_tests folded parity c) ≡ 2
too_many folded parity c many = rw (lt-ltb plan_limit (degree_of c) (omega arith))

-- what is kept of a line's coefficients, where not all are
kept_many : (line : List ℕ) (buffer : List ℤ) → is_line line ≡ true → length buffer < length (coefficients_in line)
    → length buffer ≤ length (take (length (coefficients_in line)) (line_buffer line buffer))
kept_many line buffer form many =
    let c = coefficients_in line in
    let all = (buffers_hold line buffer form).all in
    omega (
      arith,
      length-take (length c) (line_buffer line buffer),
      ap (λ (l : List ℤ). length l) all,
      length-append (take (length buffer) c) (drop (length c) buffer),
      length-take (length buffer) c,
    )

module _ (line : List ℕ) (buffer : List ℤ) (room : coefficient_room ≤ length buffer) (form : is_line line ≡ true) where
  abbrev kept : List ℤ
  kept = take (length (coefficients_in line)) (line_buffer line buffer)

  -- with room for one more than a plan can have, the text is that of the whole line
  by_count : (t : Bool) → leb (length (coefficients_in line)) (length buffer) ≡ t
      → text_for (strategy_in line) (parity_in line) (basis_in line) (fold_in line) kept
      ≡ text_for (strategy_in line) (parity_in line) (basis_in line) (fold_in line) (coefficients_in line)
  by_count true h =
      ap (text_for (strategy_in line) (parity_in line) (basis_in line) (fold_in line))
      ((buffers_hold line buffer form).back (leb-true (length (coefficients_in line)) (length buffer) h))
  by_count false h =
      let many : length buffer < length (coefficients_in line) = leb-false (length (coefficients_in line)) (length buffer) h in
      let kept_refused = too_many (fold_in line) (parity_in line) kept (omega (arith, kept_many line buffer form many)) in
      let all_refused = too_many (fold_in line) (parity_in line) (coefficients_in line) (omega arith) in
      sym (for_refused (strategy_in line) (parity_in line) (basis_in line) (fold_in line) kept {k = 2} (sym kept_refused) (omega arith))
      ∙ for_refused (strategy_in line) (parity_in line) (basis_in line) (fold_in line) (coefficients_in line) {k = 2} (sym all_refused) (omega arith)

  kept_text : text_for (strategy_in line) (parity_in line) (basis_in line) (fold_in line) kept ≡ answer_text line
  kept_text = by_count (leb (length (coefficients_in line)) (length buffer)) refl ∙ in_form line form

module _ {line : List ℕ} {buffer buffer' : List ℤ} {r : Line} (room : coefficient_room ≤ length buffer) (read : ReadLine line buffer r buffer') where
  -- the refusal of the form
  form_refused : (t : Bool) → is_line line ≡ t → 0 < r.refusal → refusal_line r.refusal ≡ answer_text line
  unfolding line_answer line_refusal unless_refused
  form_refused true form some =
      let none : r.refusal ≡ 0 = ap (λ (l : Line). l.refusal) read.answer ∙ rw form in
      absurd (omega arith)
  form_refused false form some =
      let twelve : answer_refusal line ≡ 12 = not_line line form in
      let said : r.refusal ≡ 12 = ap (λ (l : Line). l.refusal) read.answer ∙ rw form in
      ap refusal_line (said ∙ sym twelve) ∙ sym (text_refused line (omega arith))

  pub line_refused : 0 < r.refusal → refusal_line r.refusal ≡ answer_text line
  line_refused some = form_refused (is_line line) refl some

  -- and otherwise what the line says
  said : (t : Bool) → is_line line ≡ t → r.refusal ≤ 0
      → text_for r.strategy r.parity r.basis r.fold (take (r.count - 0) (drop 0 buffer')) ≡ answer_text line
  unfolding line_answer line_refusal unless_refused
  said true form none =
      let is : r ≡ record {
        refusal = 0;
        basis = basis_in line;
        parity = parity_in line;
        strategy = strategy_in line;
        fold = fold_in line;
        count = length (coefficients_in line);
      } = read.answer ∙ rw form in
      ap (λ (l : Line). text_for l.strategy l.parity l.basis l.fold (take (l.count - 0) (drop 0 buffer'))) is
      ∙ ap (text_for (strategy_in line) (parity_in line) (basis_in line) (fold_in line))
      (from_first buffer' (length (coefficients_in line)) ∙ ap (take (length (coefficients_in line))) read.coefficients)
      ∙ kept_text line buffer room form
  said false form none =
      let some : r.refusal ≡ 12 = ap (λ (l : Line). l.refusal) read.answer ∙ rw form in
      absurd (omega arith)

  pub line_said : r.refusal ≤ 0 → text_for r.strategy r.parity r.basis r.fold (take (r.count - 0) (drop 0 buffer')) ≡ answer_text line
  line_said none = said (is_line line) refl none
