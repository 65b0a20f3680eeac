-- Laws of reading a line: what the first four fields say, the form's tests in their order, and the answer.
use mathlib.Core.Path.{◌≡◌, refl, ap, sym, ◌∙◌}
use mathlib.Core.Bool.{Bool, true, false, cond, ◌&&◌}
use mathlib.Core.List.{List, [], ◌∷◌, map}
use Prim.Native.Nat.{ℕ, suc, ◌<◌, ◌≤◌}
use native.Mathlib.Omega.{arith}
use borrow.Author.Tests.{le-leb, lt-leb}
use lib.Dec.{eqb}
use lib.IntN.{ℤ}
use lib.ListN.{length, get_or, drop, length-map, length-drop}
use lib.Seq.{sets, get_or-drop, drop-drop}
use Rattle.std.proofs.Common.{Option, Some, None}
use Rattle.std.specs.Option.{ok_or}
use Rattle.number.specs.declared.refusal.Refusal.TheVariants.{LineMalformed}
use Rattle.algebra.specs.declared.Basis.TheVariants.{Monomial}
use Rattle.algebra.specs.declared.Parity.TheVariants.{Full}
use Rattle.counts.specs.declared.choice.SplitStrategy.TheVariants.{MinDepth}
use Rattle.number.specs.Refusal.{unless_refused}
use Rattle.number.proofs.BothHold.{and_left, and_right}
use Rattle.lines.specs.Bytes.{tab}
use Rattle.lines.specs.Limits.{line_limit}
use Rattle.lines.specs.Fields.{first, front, fields}
use Rattle.lines.specs.Whole.{is_whole, value_of}
use Rattle.lines.specs.Letters.{Letters, bases, parities, strategies, folds, is_letter, says}
use Rattle.lines.specs.Line.{only_byte, letter_at, number_fields, are_settings, are_whole, is_line, basis_in, parity_in, strategy_in, fold_in, coefficients_in}
use Rattle.lines.specs.ReadLine.{line_refusal, line_in, line_answer, line_buffer, ReadLine}
use Rattle.lines.specs.inside.Reading.{bind, said, said_in, opening_of, counted, InForm, OutOfForm, ReadForm}
use Rattle.lines.specs.declared.read.Opening.{Opening}
use Rattle.lines.specs.declared.read.Line.{Line}

-- ---- four letters

-- 0 is no letter, so a field's one byte says what its only byte says
said_by : {X : Type 0} (otherwise : X) (rows : Letters X) → is_letter rows 0 ≡ false → (field : List ℕ)
    → said_in otherwise rows field ≡ said otherwise rows (only_byte field)
said_by otherwise rows none [] = rw none refl
said_by otherwise rows none (b ∷ []) = refl
said_by otherwise rows none (b ∷ c ∷ bs) = rw none refl

-- four tests one after another, and all of them at once
tested : {A B C D X : Type 0} (make : A → B → C → D → X) (t u v w : Bool) (a : A) (b : B) (c : C) (d : D)
    → bind (cond t (Some a) None) (λ a. bind (cond u (Some b) None) (λ b. bind (cond v (Some c) None) (λ c. bind (cond w (Some d) None) (λ d. Some (make a b c d)))))
    ≡ cond (t && u && v && w) (Some (make a b c d)) None
tested make true true true true a b c d = refl
tested make true true true false a b c d = refl
tested make true true false w a b c d = refl
tested make true false v w a b c d = refl
tested make false u v w a b c d = refl

abbrev opening_by : (basis parity strategy fold : ℕ) → Opening
opening_by b p s f = record {
  settings = record { strategy = says MinDepth strategies s; parity = says Full parities p; basis = says Monomial bases b };
  fold = says false folds f;
}

-- field n, behind n others
at_zero : (fs : List (List ℕ)) → first fs ≡ get_or fs 0 []
at_zero fs = refl

at_one : (fs : List (List ℕ)) → first (drop 1 fs) ≡ get_or fs 1 []
at_one fs = get_or-drop 1 fs 0 []

at_two : (fs : List (List ℕ)) → first (drop 1 (drop 1 fs)) ≡ get_or fs 2 []
at_two fs = ap first (drop-drop 1 1 fs) ∙ get_or-drop 2 fs 0 []

at_three : (fs : List (List ℕ)) → first (drop 1 (drop 1 (drop 1 fs))) ≡ get_or fs 3 []
at_three fs = ap (λ (gs : List (List ℕ)). first (drop 1 gs)) (drop-drop 1 1 fs) ∙ ap first (drop-drop 1 2 fs) ∙ get_or-drop 3 fs 0 []

opening_is : (line : List ℕ) → let letter = letter_at line in opening_of (fields line)
    ≡ cond (are_settings (letter 0) (letter 1) (letter 2) (letter 3)) (Some (opening_by (letter 0) (letter 1) (letter 2) (letter 3))) None
unfolding are_settings
opening_is line =
    let fs = fields line in
    rw (
      at_three fs,
      at_two fs,
      at_one fs,
      said_by Monomial bases refl (get_or fs 0 []),
      said_by Full parities refl (get_or fs 1 []),
      said_by MinDepth strategies refl (get_or fs 2 []),
      said_by false folds refl (get_or fs 3 []),
    )
    (tested (λ b p s f. record { settings = record { strategy = s; parity = p; basis = b }; fold = f }) _ _ _ _ _ _ _ _)

-- what a test answered
none_given : {X : Type 0} (t : Bool) (x : X) → cond t (Some x) None ≡ None → t ≡ false
none_given true x e = grind arith
none_given false x e = refl

some_given : {X : Type 0} (t : Bool) (x y : X) → cond t (Some x) None ≡ Some y → (t ≡ true) × (x ≡ y)
some_given true x y e = grind arith
some_given false x y e = grind arith

-- ---- the numbers

front_length : (t : Bool) (b : ℕ) (fs : List (List ℕ)) (n : ℕ) → length fs ≤ n → length (front t b fs) ≤ suc n
front_length true b fs n few = omega arith
front_length false b fs n few = omega (arith, length-drop 1 fs)

fields_few : (line : List ℕ) → length (fields line) ≤ suc (length line)
unfolding fields
fields_few [] = omega arith
fields_few (b ∷ bs) = front_length (eqb b tab) b (fields bs) (suc (length bs)) (fields_few bs)

pub numbers_few : (line : List ℕ) → length line ≤ line_limit → length (number_fields line) ≤ 65536
numbers_few line few = omega (arith, length-drop 4 (fields line), fields_few line)

pub first_whole : (f : List ℕ) (fs : List (List ℕ)) {t : Bool} → is_whole f ≡ t → are_whole (f ∷ fs) ≡ (t && are_whole fs)
unfolding are_whole
first_whole f fs e = rw e refl

-- if all are whole numbers, so is the first, and so are the others
module _ (f : List ℕ) (fs : List (List ℕ)) (all : are_whole (f ∷ fs) ≡ true) where
  pub whole_first : is_whole f ≡ true
  unfolding are_whole
  whole_first = and_left (is_whole f) (are_whole fs) all

  pub whole_rest : are_whole fs ≡ true
  unfolding are_whole
  whole_rest = and_right (is_whole f) (are_whole fs) all

pub counted_none : (fs : List (List ℕ)) → are_whole fs ≡ false → None ≡ counted fs
counted_none fs e = rw e refl

pub counted_all : (fs : List (List ℕ)) (n : ℕ) → are_whole fs ≡ true → length fs ≡ n → Some n ≡ counted fs
counted_all fs n e counts = rw (e, counts) refl

-- ---- the form

module _ (line : List ℕ) (buffer : List ℤ) where
  pub too_long : line_limit < length line → OutOfForm line buffer buffer
  unfolding is_line
  too_long h = record { form = rw (lt-leb (length line) line_limit h) refl; same = refl }

  module _ (few : length line ≤ line_limit) where
    form : is_line line ≡ (are_settings (letter_at line 0) (letter_at line 1) (letter_at line 2) (letter_at line 3) && are_whole (number_fields line))
    unfolding is_line
    form = rw (le-leb (length line) line_limit few) refl

    pub no_opening : opening_of (fields line) ≡ None → OutOfForm line buffer buffer
    no_opening none = record { form = form ∙ rw (none_given _ _ (sym (opening_is line) ∙ none)) refl; same = refl }

    module _ {o : Opening} (opened : opening_of (fields line) ≡ Some o) where
      pub not_counted : counted (number_fields line) ≡ None → OutOfForm line buffer buffer
      not_counted none = record {
        form = form ∙ rw ((some_given _ _ _ (sym (opening_is line) ∙ opened)).0, none_given _ _ none) refl;
        same = refl;
      }

      pub read : {count : ℕ} {buffer' : List ℤ} → counted (number_fields line) ≡ Some count → buffer' ≡ sets buffer 0 (map value_of (number_fields line))
          → InForm line buffer
          (record { settings = o.settings; fold = o.fold; count = count }) buffer'
      unfolding line_refusal line_answer line_buffer unless_refused basis_in parity_in strategy_in fold_in coefficients_in
      read {count} {buffer'} some written =
          let settings = some_given _ _ _ (sym (opening_is line) ∙ opened) in
          let numbers = some_given _ _ _ some in
          let in_form : is_line line ≡ true = form ∙ rw (settings.0, numbers.0) refl in
          record {
            form = in_form;
            answer = rw (in_form, sym settings.1, sym numbers.1, length-map (number_fields line) value_of) refl;
            coefficients = written ∙ rw in_form refl;
          }

-- ---- the answer

pub read_or_refused : {line : List ℕ} {buffer buffer' : List ℤ} (r : Option Line) → ReadForm line buffer r buffer'
    → ReadLine line buffer (line_in (ok_or r LineMalformed)) buffer'
unfolding line_refusal line_answer line_buffer unless_refused
read_or_refused None out = record { answer = rw out.form refl; coefficients = out.same ∙ rw out.form refl }
read_or_refused (Some r) in_form = record { answer = in_form.answer; coefficients = in_form.coefficients }
