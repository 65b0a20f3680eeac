-- Fields put one after another: the first of those that are left, then the others; and how long they are. By recursion on the list.
use mathlib.Core.Path.{◌≡◌, refl, ap, sym, ◌∙◌}
use mathlib.Core.List.{List, [], ◌∷◌, ◌++◌, map}
use Prim.Native.Nat.{ℕ, suc, ◌+◌, ◌*◌, ◌<◌, ◌≤◌}
use native.Mathlib.Nat.{suc-mul}
use native.Mathlib.Numerals.{add-one}
use native.Mathlib.Omega.{arith}
use lib.ListN.{length, get_or, drop, length-append, drop_of_length-le}
use lib.Seq.{sets, drop-cons}
use Rattle.lists.proofs.Arranging.{sets_append}
use Rattle.lines.specs.Bytes.{tab, line_feed}
use Rattle.texts.specs.Text.{fields_text, line_text}
use Rattle.texts.specs.Put.{Put}
use Rattle.texts.specs.inside.EndsIn64Bits.{EndsIn64Bits}
use Rattle.texts.proofs.PutLaws.{put_length, ends_same, ends_first}

module _ {A : Type 0} (text : A → List ℕ) where
  -- the fields of the elements from a place on
  abbrev pub rest_of : List A → ℕ → List ℕ
  rest_of xs i = fields_text (map text (drop i xs))

  pub rest_step : (xs : List A) (i : ℕ) (d : A) → i < length xs → rest_of xs i ≡ (tab ∷ text (get_or xs i d)) ++ rest_of xs (i + 1)
  unfolding fields_text
  rest_step xs i d h = rw (add-one, drop-cons xs i d h)

  pub rest_end : (xs : List A) (i : ℕ) → length xs ≤ i → rest_of xs i ≡ []
  unfolding fields_text
  rest_end xs i h = rw (drop_of_length-le xs h)

  -- fields of at most m bytes
  pub fields_few : (m : ℕ) (d : A) (xs : List A) → ((i : ℕ) → i < length xs → length (text (get_or xs i d)) ≤ m)
      → length (fields_text (map text xs)) ≤ length xs * suc m
  unfolding fields_text
  fields_few m d [] h = omega arith
  fields_few m d (x ∷ xs) h =
      let one : length (text x) ≤ m = h 0 (omega arith) in
      let rest = fields_few m d xs (λ i g. h (suc i) (omega arith)) in
      omega (arith, length-append (tab ∷ text x) (fields_text (map text xs)), suc-mul (length xs) (suc m))

-- ---- the loop that puts fields

-- those before element i are put, and what those from i on put behind them makes up the whole
pub record FieldsSoFar {A : Type 0} (text : A → List ℕ) (xs : List A) (from : ℕ) (first out : List ℕ) (at i : ℕ) : Type 0 where
  pub within : i ≤ length xs
  pub long : length out ≡ length first
  pub written : sets out at (rest_of text xs i) ≡ sets first from (fields_text (map text xs))
  pub place : at + length (rest_of text xs i) ≡ from + length (fields_text (map text xs))

module _ {A : Type 0} (text : A → List ℕ) (xs : List A) (from : ℕ) where
  module _ {first out : List ℕ} {at i : ℕ} (done : FieldsSoFar text xs from first out at i) where
    -- the next field ends where the whole does, or before
    pub field_ends : (d : A) → i < length xs → EndsIn64Bits from (fields_text (map text xs)) → EndsIn64Bits at (tab ∷ text (get_or xs i d))
    field_ends d h ends =
        let here : EndsIn64Bits at (rest_of text xs i) = omega (arith, done.place) in
        ends_first at (tab ∷ text (get_or xs i d)) (rest_of text xs (i + 1)) (ends_same at (rest_step text xs i d h) here)

    pub fields_more : (d : A) {left : List ℕ} {r : ℕ} → i < length xs → Put out at (tab ∷ text (get_or xs i d)) left r
        → FieldsSoFar text xs from first left r (i + 1)
    fields_more d {left} {r} h put =
        let field = tab ∷ text (get_or xs i d) in
        let step = rest_step text xs i d h in
        record {
          within = omega arith;
          long = put_length put ∙ done.long;
          written = (λ j. sets (put.buffer j) (put.next j) (rest_of text xs (i + 1)))
              ∙ sets_append out field (rest_of text xs (i + 1)) at (at + length field) refl
              ∙ ap (λ (t : List ℕ). sets out at t) (sym step) ∙ done.written;
          place = omega (
            arith,
            put.next,
            done.place,
            ap (λ (t : List ℕ). length t) step,
            length-append field (rest_of text xs (i + 1)),
          );
        }

    pub fields_end : length xs ≤ i → Put first from (fields_text (map text xs)) out at
    fields_end h =
        let none = rest_end text xs i h in
        record { buffer = rw none at done.written; next = omega (arith, done.place, ap (λ (t : List ℕ). length t) none) }

-- ---- a line: its letter, its fields, its line feed
pub line_parts : (letter : ℕ) (ts : List (List ℕ)) → (letter ∷ []) ++ (fields_text ts ++ (line_feed ∷ [])) ≡ line_text letter ts
unfolding line_text
line_parts letter ts = refl
