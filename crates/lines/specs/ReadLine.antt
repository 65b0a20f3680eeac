-- The call that reads a line (docs/RULES.md, "Lines of planlines" and "Refusals"): its test, its answer, and what it leaves in the buffer.
use Rattle.std.specs.Prelude.{◌≡◌, Bool, Result, false, not, List, [], ◌∷◌, ℕ, ℤ, length}
use Rattle.std.proofs.lemmas.List.Edits.{sets}
use Rattle.algebra.specs.declared.Basis.{Basis}
use Rattle.algebra.specs.declared.Parity.{Parity}
use Rattle.counts.specs.declared.choice.SplitStrategy.{SplitStrategy}
use Rattle.algebra.specs.declared.Basis.TheVariants.{Monomial}
use Rattle.algebra.specs.declared.Parity.TheVariants.{Full}
use Rattle.counts.specs.declared.choice.SplitStrategy.TheVariants.{MinDepth}
use Rattle.number.specs.Refusal.{Test, first_refusal, unless_refused}
use Rattle.number.specs.Refused.{numbered}
use Rattle.number.specs.declared.refusal.Refusal.{Refusal}
use Rattle.lines.specs.Line.{is_line, basis_in, parity_in, strategy_in, fold_in, coefficients_in}
use Rattle.lines.specs.declared.read.Line as read

-- 12: a line that doesn't have the form
abbrev pub bad_line : List ℕ → Test
bad_line line = (not (is_line line), 12)

unfoldable pub line_refusal : List ℕ → ℕ
line_refusal line = first_refusal (bad_line line ∷ [])

-- the answer in numbers: 0 or the refusal, what the letters say, and how many coefficients there are
pub record Line : Type 0 where
  pub refusal : ℕ
  pub basis : Basis
  pub parity : Parity
  pub strategy : SplitStrategy
  pub fold : Bool
  pub count : ℕ

-- after a refusal zero in every other field, and the first value of each kind
abbrev pub no_line : (refusal : ℕ) → Line
no_line refusal = record { refusal = refusal; basis = Monomial; parity = Full; strategy = MinDepth; fold = false; count = 0 }

-- what a result says of it
abbrev pub line_in : Result read.Line Refusal → Line
line_in = numbered
    (λ (l : read.Line). record {
      refusal = 0;
      basis = l.settings.basis;
      parity = l.settings.parity;
      strategy = l.settings.strategy;
      fold = l.fold;
      count = l.count;
    })
    no_line

-- the answer: the settings, and how many coefficients the line has
unfoldable pub line_answer : List ℕ → Line
line_answer line =
    unless_refused (line_refusal line)
    (record {
      refusal = 0;
      basis = basis_in line;
      parity = parity_in line;
      strategy = strategy_in line;
      fold = fold_in line;
      count = length (coefficients_in line);
    })
    (no_line (line_refusal line))

-- the buffer: the coefficients in its first places, as many as it holds, and the places beyond unchanged; after a refusal all of it unchanged
unfoldable pub line_buffer : List ℕ → List ℤ → List ℤ
line_buffer line buffer = unless_refused (line_refusal line) (sets buffer 0 (coefficients_in line)) buffer

-- what a call says, and what it leaves in the buffer
pub record ReadLine (line : List ℕ) (buffer : List ℤ) (r : Line) (buffer' : List ℤ) : Type 0 where
  pub answer : r ≡ line_answer line
  pub coefficients : buffer' ≡ line_buffer line buffer
