-- Loops that fill a buffer from the front, of any element type.
-- In the first form F is what the loop makes of the places from i on, and `take i out ++ F (drop i out)` stays as it was.
-- In the second the loop writes the list F, and the buffer is F up to i and the old list from there.
use mathlib.Core.Path.{◌≡◌, sym, ap, ap₂, ◌∙◌}
use mathlib.Core.List.{List, [], ◌∷◌, ◌++◌, append_assoc, append-nil}
use Prim.Native.Nat.{ℕ, suc, ◌+◌, ◌<◌, ◌≤◌}
use native.Mathlib.Nat.{add-zero, lt-suc_self}
use native.Mathlib.Numerals.{add-one}
use native.Mathlib.Omega.{arith}
use lib.ListN.{length, get_or, take, drop, set, length-append, length-drop, drop_of_length-le}
use lib.Seq.{append_snoc, drop-cons, drop-set-lt, get_or-drop, length-take-le, set_at, sets, sets-eq, take_all, take-length, take-suc, take-suc-set}
use Rattle.algebra.proofs.Lists.{get_d_right}

module _ {A : Type 0} where
  -- one turn of the loop: v is written at i, and G is what the loop makes of the places behind
  pub place_step : (F G : List A → List A) (out : List A) (i : ℕ) (v d : A) → i < length out → F (get_or out i d ∷ drop (suc i) out) ≡ v ∷ G (drop (suc i) out)
      → take (i + 1) (set out i v) ++ G (drop (i + 1) (set out i v)) ≡ take i out ++ F (drop i out)
  place_step F G out i v d h e =
      ap (λ (k : ℕ). take k (set out i v) ++ G (drop k (set out i v))) (add-one i)
      ∙ (λ j. take-suc-set out i v h j ++ G (drop-set-lt (suc i) out i v (lt-suc_self i) j))
      ∙ append_assoc (take i out) (v ∷ []) (G (drop (suc i) out))
      ∙ ap (λ (l : List A). take i out ++ l) (sym (ap F (drop-cons out i d h) ∙ e))

  -- the end of the loop: nothing is left to make
  pub place_end : (F : List A → List A) (out : List A) (i : ℕ) → length out ≤ i → F [] ≡ [] → take i out ++ F (drop i out) ≡ out
  place_end F out i h e = (λ j. take_all i out h j ++ (ap F (drop_of_length-le out h) ∙ e) j) ∙ append-nil out

module _ {A : Type 0} (F out : List A) where
  -- F up to i, and the old list from there
  abbrev pub copied : ℕ → List A
  copied i = take i F ++ drop i out

  -- the buffer keeps its length
  pub copy_length : (i : ℕ) → i ≤ length F → length F ≤ length out → length (copied i) ≡ length out
  copy_length i h k = length-append (take i F) (drop i out) ∙ omega (arith, length-take-le i F h, length-drop i out)

  -- one turn of the loop: the element of F at i is written there
  pub copy_step : (i : ℕ) (d v : A) → i < length F → length F ≤ length out → v ≡ get_or F i d → set (copied i) i v ≡ copied (i + 1)
  copy_step i d v h k e =
      ap (λ (x : A). set (copied i) i x) e
      ∙ ap (λ (l : List A). set (take i F ++ l) i (get_or F i d)) (drop-cons out i d (omega arith))
      ∙ set_at (take i F) (get_or out i d) (drop (suc i) out) (get_or F i d) i (length-take-le i F (omega arith))
      ∙ sym (append_snoc (take i F) (get_or F i d) (drop (suc i) out))
      ∙ ap (λ (l : List A). l ++ drop (suc i) out) (sym (take-suc F i d h))
      ∙ ap copied (sym (add-one i))

  -- the end of the loop: F stands at the front
  pub copy_end : (i : ℕ) → i ≡ length F → length F ≤ length out → copied i ≡ sets out 0 F
  copy_end i e k =
      let z : 0 + length F ≡ length F = omega arith in
      ap copied e
      ∙ ap (λ (l : List A). l ++ drop (length F) out) (take-length F)
      ∙ sym (sets-eq F out 0 (omega arith) ∙ ap (λ (n : ℕ). F ++ drop n out) z)

  -- ahead of the loop the old list stands
  pub copy_ahead : (i : ℕ) (d : A) → i ≤ length F → get_or (copied i) i d ≡ get_or out i d
  copy_ahead i d h =
      get_d_right (take i F) (drop i out) 0 i d (omega (arith, length-take-le i F h))
      ∙ get_or-drop i out 0 d
      ∙ ap (λ (k : ℕ). get_or out k d) (add-zero i)

  -- where F is as long as the old list, F is all that is left
  pub copy_all : (i : ℕ) → i ≡ length F → length F ≡ length out → copied i ≡ F
  copy_all i e k =
      ap copied e
      ∙ ap₂ ◌++◌ (take-length F) (drop_of_length-le out {i = length F} (omega arith))
      ∙ append-nil F
