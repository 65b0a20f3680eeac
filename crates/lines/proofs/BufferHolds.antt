-- A run of stores from the first place on: by recursion on the buffer and the values, since a store behind the first place leaves the first.
use mathlib.Core.Path.{◌≡◌, refl, ap, ◌∙◌}
use mathlib.Core.List.{List, [], ◌∷◌, ◌++◌}
use Prim.Native.Nat.{ℕ, suc, ◌≤◌}
use native.Mathlib.Omega.{arith}
use lib.ListN.{length, take, drop, set}
use lib.Seq.{sets}
use Rattle.number.specs.Refusal.{unless_refused}
use Rattle.lines.specs.Line.{coefficients_in}
use Rattle.lines.specs.ReadLine.{line_refusal, line_buffer}
use Rattle.lines.specs.BufferHolds.{BuffersHold}

module _ {A : Type 0} where
  -- stores into no place, and stores behind the first
  stores_none : (i : ℕ) (vs : List A) → sets [] i vs ≡ []
  stores_none i [] = refl
  stores_none i (v ∷ vs) = stores_none (suc i) vs

  stores_behind : (x : A) (l : List A) (i : ℕ) (vs : List A) → sets (x ∷ l) (suc i) vs ≡ x ∷ sets l i vs
  stores_behind x l i [] = refl
  stores_behind x l i (v ∷ vs) = stores_behind x (set l i v) (suc i) vs

  stores : (l vs : List A) → sets l 0 vs ≡ take (length l) vs ++ drop (length vs) l
  stores [] [] = refl
  stores [] (v ∷ vs) = stores_none 1 vs
  stores (x ∷ l) [] = refl
  stores (x ∷ l) (v ∷ vs) = stores_behind v l 0 vs ∙ ap (λ (r : List A). v ∷ r) (stores l vs)

  pub stores_back : (l vs : List A) → length vs ≤ length l → take (length vs) (sets l 0 vs) ≡ vs
  stores_back l [] fits = refl
  stores_back [] (v ∷ vs) fits = absurd (omega arith)
  stores_back (x ∷ l) (v ∷ vs) fits = rw (stores_behind v l 0 vs) (ap (λ (r : List A). v ∷ r) (stores_back l vs (omega arith)))

pub buffers_hold : BuffersHold
unfolding line_refusal line_buffer unless_refused
buffers_hold line buffer form = record {
  all = rw form (stores buffer (coefficients_in line));
  back = λ fits. rw form (stores_back buffer (coefficients_in line) fits);
}
