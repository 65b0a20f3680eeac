-- What the functions that read a line ask of one another.
use Rattle.std.specs.Prelude.{◌≡◌, true, false, cond, List, ℕ, ℤ, length, drop, Ok, Option, Some, None, MatchOption}
use Rattle.algebra.specs.declared.Basis.TheVariants.{Monomial}
use Rattle.algebra.specs.declared.Parity.TheVariants.{Full}
use Rattle.counts.specs.declared.choice.SplitStrategy.TheVariants.{MinDepth}
use Rattle.lines.specs.Letters.{Letters, bases, parities, strategies, folds, is_letter, says}
use Rattle.lines.specs.Fields.{first}
use Rattle.lines.specs.Line.{are_whole, is_line}
use Rattle.lines.specs.ReadLine.{line_in, line_answer, line_buffer}
use Rattle.lines.specs.inside.FieldsLeft.{letter_in}
use Rattle.lines.specs.declared.read.Opening.{Opening}
use Rattle.lines.specs.declared.read.Line.{Line}

-- what a byte says, if it is one of the letters
abbrev pub said : {X : Type 0} → (otherwise : X) → Letters X → ℕ → Option X
said otherwise rows b = cond (is_letter rows b) (Some (says otherwise rows b)) None

-- what comes of a value, if there is one
abbrev pub bind : {A B : Type 0} → Option A → (A → Option B) → Option B
bind None next = None
bind (Some a) next = next a

-- what a field's one byte says
abbrev pub said_in : {X : Type 0} → (otherwise : X) → Letters X → List ℕ → Option X
said_in otherwise rows field = bind (letter_in field) (said otherwise rows)

-- what the first four fields say, a letter each
abbrev pub opening_of : List (List ℕ) → Option Opening
opening_of fs =
    bind (said_in Monomial bases (first fs)) (λ basis.
    bind (said_in Full parities (first (drop 1 fs))) (λ parity.
    bind (said_in MinDepth strategies (first (drop 1 (drop 1 fs)))) (λ strategy.
    bind (said_in false folds (first (drop 1 (drop 1 (drop 1 fs))))) (λ fold.
    Some (record { settings = record { strategy = strategy; parity = parity; basis = basis }; fold = fold })))))

-- how many fields there are, if all are whole numbers
abbrev pub counted : List (List ℕ) → Option ℕ
counted fs = cond (are_whole fs) (Some (length fs)) None

-- a line in the form, and the coefficients in the buffer; no other line is read, and the buffer is as it was
pub record InForm (line : List ℕ) (buffer : List ℤ) (r : Line) (buffer' : List ℤ) : Type 0 where
  pub form : is_line line ≡ true
  pub answer : line_in (Ok r) ≡ line_answer line
  pub coefficients : buffer' ≡ line_buffer line buffer

pub record OutOfForm (line : List ℕ) (buffer buffer' : List ℤ) : Type 0 where
  pub form : is_line line ≡ false
  pub same : buffer' ≡ buffer

abbrev pub ReadForm : (line : List ℕ) (buffer : List ℤ) → Option Line → (buffer' : List ℤ) → Type 0
ReadForm line buffer r buffer' = MatchOption r (OutOfForm line buffer buffer') (λ l. InForm line buffer l buffer')
