-- Each line has one line feed, at its end: a letter, a tab, a minus and the digits are other bytes, and a line has no more than these in front of it.
use mathlib.Core.Path.{◌≡◌, refl, ap}
use mathlib.Core.Bool.{Bool, true, false, cond}
use mathlib.Core.List.{List, [], ◌∷◌, ◌++◌, map}
use Prim.Native.Nat.{ℕ, zero, suc, ◌+◌, ◌/◌, ◌%◌, ◌<◌}
use native.Mathlib.Omega.{arith}
use lib.Dec.{eqb}
use lib.IntN.{ℤ, pos, negsuc}
use lib.ListN.{length, get_or}
use Rattle.algebra.specs.EnumNumbers.{transform_number}
use Rattle.walk.specs.declared.plan.Head.{Head}
use Rattle.walk.specs.declared.plan.Step.{Step}
use Rattle.lines.specs.Bytes.{tab, line_feed, minus, digit0, letter_b, letter_g, letter_h, letter_l, letter_p, letter_q, letter_r}
use Rattle.texts.specs.Decimal.{digits_within, decimal, signed_decimal}
use Rattle.texts.specs.Text.{fields_text, line_text, numbers_line, list_line}
use Rattle.texts.specs.PlanText.{head_line, step_line, lines_of}
use Rattle.texts.specs.TextIsLines.{IsLine, TextIsLines}

-- ---- bytes without a line feed

data NoFeed : List ℕ → Type 0 where
  none : NoFeed []
  more : {b : ℕ} {bs : List ℕ} → (b ≡ line_feed → ⊥) → NoFeed bs → NoFeed (b ∷ bs)

both : {xs ys : List ℕ} → NoFeed xs → NoFeed ys → NoFeed (xs ++ ys)
both none q = q
both (more h p) q = more h (both p q)

digits_no_feed : (k n : ℕ) → NoFeed (digits_within k n)
unfolding digits_within
digits_no_feed zero n = none
digits_no_feed (suc k) zero = none
digits_no_feed (suc k) (suc n) =
    both (digits_no_feed k (suc n / 10)) (more (λ (e : digit0 + suc n % 10 ≡ line_feed). omega arith) none)

decimal_no_feed : (n : ℕ) → NoFeed (decimal n)
unfolding decimal
decimal_no_feed zero = more (λ (e : digit0 ≡ line_feed). omega arith) none
decimal_no_feed (suc n) = digits_no_feed (suc n) (suc n)

signed_no_feed : (z : ℤ) → NoFeed (signed_decimal z)
unfolding signed_decimal
signed_no_feed (pos n) = decimal_no_feed n
signed_no_feed (negsuc n) = more (λ (e : minus ≡ line_feed). omega arith) (decimal_no_feed (suc n))

fields_no_feed : {A : Type 0} (text : A → List ℕ) → ((x : A) → NoFeed (text x)) → (xs : List A) → NoFeed (fields_text (map text xs))
unfolding fields_text
fields_no_feed text h [] = none
fields_no_feed text h (x ∷ xs) = more (λ (e : tab ≡ line_feed). omega arith) (both (h x) (fields_no_feed text h xs))

-- ---- a line

only_last : {xs : List ℕ} → NoFeed xs → (i : ℕ) → i < length (xs ++ (line_feed ∷ [])) → get_or (xs ++ (line_feed ∷ [])) i 0 ≡ line_feed
    → suc i ≡ length (xs ++ (line_feed ∷ []))
only_last none zero h e = refl
only_last none (suc i) h e = absurd (omega arith)
only_last (more g p) zero h e = absurd (g e)
only_last (more g p) (suc i) h e = ap suc (only_last p i (omega arith) e)

line_is : (letter : ℕ) (fields : List (List ℕ)) → (letter ≡ line_feed → ⊥) → NoFeed (fields_text fields) → IsLine (line_text letter fields)
unfolding line_text
line_is letter fields h p = record { content = letter ∷ fields_text fields; ends = refl; only = only_last (more h p) }

numbers_are : (letter : ℕ) (ns : List ℕ) → (letter ≡ line_feed → ⊥) → IsLine (numbers_line letter ns)
numbers_are letter ns h = line_is letter (map decimal ns) h (fields_no_feed decimal decimal_no_feed ns)

list_is : (c : List ℤ) → IsLine (list_line c)
list_is c = line_is letter_l (map signed_decimal c) (λ (e : letter_l ≡ line_feed). omega arith) (fields_no_feed signed_decimal signed_no_feed c)

head_is : (head : Head) → IsLine (head_line head)
head_is head =
    numbers_are letter_h (head.degree ∷ head.base ∷ transform_number head.transform ∷ head.ct ∷ head.pt ∷ head.depth ∷ [])
    (λ (e : letter_h ≡ line_feed). omega arith)

step_is : (step : Step) → IsLine (step_line step)
step_is step = by_kind (eqb step.kind 1) (eqb step.kind 2) (eqb step.kind 3) (step.x ∷ step.y ∷ step.z ∷ []) (step.x ∷ [])
  where
    by_kind : (p q r : Bool) (three one : List ℕ)
        → IsLine (cond p (numbers_line letter_p three) (cond q (numbers_line letter_b one) (cond r (numbers_line letter_g one) (numbers_line letter_q one))))
    by_kind true q r three one = numbers_are letter_p three (λ (e : letter_p ≡ line_feed). omega arith)
    by_kind false true r three one = numbers_are letter_b one (λ (e : letter_b ≡ line_feed). omega arith)
    by_kind false false true three one = numbers_are letter_g one (λ (e : letter_g ≡ line_feed). omega arith)
    by_kind false false false three one = numbers_are letter_q one (λ (e : letter_q ≡ line_feed). omega arith)

-- ---- the lines of a plan

data Lines : List (List ℕ) → Type 0 where
  none : Lines []
  more : {line : List ℕ} {lines : List (List ℕ)} → IsLine line → Lines lines → Lines (line ∷ lines)

lines_with : {A : Type 0} (line : A → List ℕ) → ((x : A) → IsLine (line x)) → (xs : List A) {lines : List (List ℕ)} → Lines lines
    → Lines (map line xs ++ lines)
lines_with line h [] after = after
lines_with line h (x ∷ xs) after = more (h x) (lines_with line h xs after)

steps_are : (steps : List Step) → Lines (map step_line steps)
steps_are [] = none
steps_are (step ∷ steps) = more (step_is step) (steps_are steps)

line_at : {lines : List (List ℕ)} → Lines lines → (k : ℕ) → k < length lines → IsLine (get_or lines k [])
line_at none k h = absurd (omega arith)
line_at (more p rest) zero h = p
line_at (more p rest) (suc k) h = line_at rest k (omega arith)

lines_are : (head : Head) (lists : List (List ℤ)) (steps : List Step) → Lines (lines_of head lists steps)
unfolding lines_of
lines_are head lists steps = more (head_is head) (lines_with list_line list_is lists (steps_are steps))

pub text_is_lines : TextIsLines
text_is_lines = record {
  plans = λ head lists steps. line_at (lines_are head lists steps);
  refusals = λ refusal. numbers_are letter_r (refusal ∷ []) (λ (e : letter_r ≡ line_feed). omega arith);
}
