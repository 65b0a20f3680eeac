-- The text for a polynomial with its settings: that of its plan, or the line of the refusal.
use Rattle.std.specs.Prelude.{Bool, List, [], ◌∷◌, ℕ, ℤ}
use Rattle.algebra.specs.declared.Basis.{Basis}
use Rattle.algebra.specs.declared.Parity.{Parity}
use Rattle.number.specs.Refusal.{first_refusal, unless_refused}
use Rattle.counts.specs.declared.choice.SplitStrategy.{SplitStrategy}
use Rattle.lists.specs.Lists.{joined}
use Rattle.plan.specs.PlanCall.{input_tests, head_for}
use Rattle.texts.specs.Text.{refusal_line}
use Rattle.texts.specs.PlanText.{lines_of}
use Rattle.demands.specs.Right.{lists_for, steps_for}
use Rattle.answers.specs.LineInterval.{minus_one, plus_one}

unfoldable pub text_for : SplitStrategy → Parity → Basis → (folded : Bool) → List ℤ → List ℕ
text_for strategy parity basis folded c =
    joined
    (unless_refused (first_refusal (input_tests folded parity c))
    (lines_of (head_for strategy parity basis folded c minus_one plus_one) (lists_for strategy parity basis folded c)
    (steps_for strategy parity basis folded c))
    (refusal_line (first_refusal (input_tests folded parity c)) ∷ []))
