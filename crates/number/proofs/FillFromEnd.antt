-- A loop that writes the list F into the first places of a buffer from the end on; algebra's Filling has those that go from the front.
use mathlib.Core.Path.{◌≡◌, ap, sym, ◌∙◌}
use mathlib.Core.List.{List, ◌∷◌, ◌++◌}
use Prim.Native.Nat.{ℕ, suc, ◌+◌, ◌≤◌, ◌<◌}
use native.Mathlib.Omega.{arith}
use lib.ListN.{length, get_or, take, drop, set, length-append, length-drop, take-append-drop, get_or-append}
use lib.Seq.{sets, sets-eq, length-sets, length-take-le, take-suc, drop-cons, set_at, append_snoc, drop-append_seam}

module _ {A : Type 0} (F out : List A) where
  -- what was there up to i, and what is to be there from i on
  abbrev pub filled_from : ℕ → List A
  filled_from i = take i out ++ drop i (sets out 0 F)

module _ {A : Type 0} (F out : List A) (room : length F ≤ length out) where
  sets_is : sets out 0 F ≡ F ++ drop (length F) out
  sets_is = let z : 0 + length F ≡ length F = omega arith in sets-eq F out 0 (omega arith) ∙ ap (λ (n : ℕ). F ++ drop n out) z

  -- the buffer keeps its length
  pub filled_length : (i : ℕ) → i ≤ length out → length (filled_from F out i) ≡ length out
  filled_length i h =
      length-append (take i out) (drop i (sets out 0 F))
      ∙ omega (arith, length-take-le i out h, length-drop i (sets out 0 F), length-sets out 0 F)

  -- the start of the loop: nothing is written
  pub filled_none : (i : ℕ) → i ≡ length F → filled_from F out i ≡ out
  filled_none i e =
      ap (filled_from F out) e
      ∙ ap (λ (l : List A). take (length F) out ++ drop (length F) l) sets_is
      ∙ ap (take (length F) out ++◌) (drop-append_seam F (drop (length F) out))
      ∙ take-append-drop (length F) out

  -- one turn of the loop: the element of F at i is written there
  pub filled_step : (n i : ℕ) (d v : A) → n ≡ suc i → i < length F → v ≡ get_or F i d → set (filled_from F out n) i v ≡ filled_from F out i
  filled_step n i d v en h ev =
      let G = sets out 0 F in
      let inside : i < length G = omega (arith, length-sets out 0 F) in
      let same : get_or G i d ≡ get_or F i d = ap (λ (l : List A). get_or l i d) sets_is ∙ get_or-append F (drop (length F) out) d i h in
      ap (λ (k : ℕ). set (filled_from F out k) i v) en
      ∙ ap (λ (l : List A). set (l ++ drop (suc i) G) i v) (take-suc out i d (omega arith))
      ∙ ap (λ (l : List A). set l i v) (append_snoc (take i out) (get_or out i d) (drop (suc i) G))
      ∙ set_at (take i out) (get_or out i d) (drop (suc i) G) v i (length-take-le i out (omega arith))
      ∙ ap (λ (x : A). take i out ++ x ∷ drop (suc i) G) (ev ∙ sym same)
      ∙ ap (take i out ++◌) (sym (drop-cons G i d inside))
