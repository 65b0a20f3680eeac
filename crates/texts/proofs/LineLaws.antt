-- The lines of a plan by their number: the head's is line 0, the lists' follow it, and the steps' follow those. By recursion on the counts.
use mathlib.Core.Path.{◌≡◌, refl, ap, sym, ◌∙◌}
use mathlib.Core.List.{List, [], ◌∷◌, ◌++◌, map}
use Prim.Native.Nat.{ℕ, zero, suc, ◌+◌, ◌-◌, ◌/◌, ◌<◌, ◌≤◌, min}
use native.Mathlib.Omega.{arith}
use lib.IntN.{ℤ}
use lib.ListN.{length, get_or, length-append, length-take, get_or-append, get_or-eq_default}
use lib.Seq.{get_or-take}
use Rattle.algebra.proofs.Lists.{get_d_right}
use Rattle.walk.specs.Boundaries.{part_of}
use Rattle.walk.specs.Lent.{step_at, steps_from, lent_steps}
use Rattle.walk.specs.declared.plan.Head.{Head}
use Rattle.walk.specs.declared.plan.Step.{Step}
use Rattle.texts.specs.Text.{list_line}
use Rattle.texts.specs.PlanText.{head_line, step_line, lines_of, parts_from, lists_in, shown_steps}

-- ---- the lists and the steps, one for each number

parts_length : (c : List ℤ) (bounds : List ℕ) (i n : ℕ) → length (parts_from c bounds i n) ≡ n
unfolding parts_from
parts_length c bounds i zero = refl
parts_length c bounds i (suc n) = ap suc (parts_length c bounds (suc i) n)

parts_at : (c : List ℤ) (bounds : List ℕ) (i n j k : ℕ) → j < n → k ≡ i + j → get_or (parts_from c bounds i n) j [] ≡ part_of c bounds k
unfolding parts_from
parts_at c bounds i zero j k h e = absurd (omega arith)
parts_at c bounds i (suc n) zero k h e = let same : i ≡ k = omega arith in ap (part_of c bounds) same
parts_at c bounds i (suc n) (suc j) k h e = parts_at c bounds (suc i) n j k (omega arith) (omega arith)

steps_length : (buffer : List ℕ) (i n : ℕ) → length (steps_from buffer i n) ≡ n
unfolding steps_from
steps_length buffer i zero = refl
steps_length buffer i (suc n) = ap suc (steps_length buffer (suc i) n)

steps_at_lem : (buffer : List ℕ) (d : Step) (i n j k : ℕ) → j < n → k ≡ i + j → get_or (steps_from buffer i n) j d ≡ step_at buffer k
unfolding steps_from
steps_at_lem buffer d i zero j k h e = absurd (omega arith)
steps_at_lem buffer d i (suc n) zero k h e = let same : i ≡ k = omega arith in ap (step_at buffer) same
steps_at_lem buffer d i (suc n) (suc j) k h e = steps_at_lem buffer d (suc i) n j k (omega arith) (omega arith)

-- a list taken line by line
module _ {A : Type 0} (line : A → List ℕ) where
  map_length : (xs : List A) → length (map line xs) ≡ length xs
  map_length [] = refl
  map_length (x ∷ xs) = ap suc (map_length xs)

  map_at : (xs : List A) (d : A) (i : ℕ) → i < length xs → get_or (map line xs) i [] ≡ line (get_or xs i d)
  map_at [] d i h = absurd (omega arith)
  map_at (x ∷ xs) d zero h = refl
  map_at (x ∷ xs) d (suc i) h = map_at xs d i (omega arith)

-- a line that is neither the head's nor a list's
pub behind_lists : (k lists : ℕ) → (k ≡ 0 → ⊥) → lists ≤ k - 1 → k ≡ suc (lists + (k - 1 - lists))
behind_lists zero lists h g = absurd (h refl)
behind_lists (suc k) lists h g = omega arith

-- ---- line k

shown_length : (head : Head) (steps : List ℕ) → length (shown_steps head steps) ≡ min (length steps / 4) head.steps
shown_length head steps =
    length-take (length steps / 4) (lent_steps head steps) ∙ ap (min (length steps / 4)) (steps_length steps 0 head.steps)

module _ (head : Head) (c : List ℤ) (bounds steps : List ℕ) where
  abbrev lines : List (List ℕ)
  lines = lines_of head (lists_in c bounds) (shown_steps head steps)

  lists_length : length (map list_line (lists_in c bounds)) ≡ length bounds
  lists_length = map_length list_line (lists_in c bounds) ∙ parts_length c bounds 0 (length bounds)

  pub lines_length : length lines ≡ length bounds + min (length steps / 4) head.steps + 1
  unfolding lines_of
  lines_length =
      let both = length-append (map list_line (lists_in c bounds)) (map step_line (shown_steps head steps)) in
      omega (arith, lists_length, map_length step_line (shown_steps head steps), shown_length head steps)

  module _ (k : ℕ) where
    pub first_line : k ≡ 0 → head_line head ≡ get_or lines k []
    unfolding lines_of
    first_line e = rw e

    behind : (i : ℕ) → k ≡ suc i → get_or lines k [] ≡ get_or (map list_line (lists_in c bounds) ++ map step_line (shown_steps head steps)) i []
    unfolding lines_of
    behind i e = rw e

    pub list_line_at : (i : ℕ) → k ≡ suc i → i < length bounds → list_line (part_of c bounds i) ≡ get_or lines k []
    list_line_at i e h =
        let there : i < length (map list_line (lists_in c bounds)) = omega (arith, lists_length) in
        let in_lists : i < length (lists_in c bounds) = omega (arith, parts_length c bounds 0 (length bounds)) in
        sym (behind i e
        ∙ get_or-append (map list_line (lists_in c bounds)) (map step_line (shown_steps head steps)) [] i there
        ∙ map_at list_line (lists_in c bounds) [] i in_lists
        ∙ ap list_line (parts_at c bounds 0 (length bounds) i i h (omega arith)))

    steps_behind : (j : ℕ) → k ≡ suc (length bounds + j) → get_or lines k [] ≡ get_or (map step_line (shown_steps head steps)) j []
    steps_behind j e =
        behind (length bounds + j) e
        ∙ get_d_right (map list_line (lists_in c bounds)) (map step_line (shown_steps head steps)) j (length bounds + j) [] (omega (arith, lists_length))

    pub step_line_at : (j n : ℕ) → k ≡ suc (length bounds + j) → n ≡ min (length steps / 4) head.steps → j < n
        → step_line (step_at steps j) ≡ get_or lines k []
    step_line_at j n e count h =
        let d = step_at steps 0 in
        let there : j < length (shown_steps head steps) = omega (arith, shown_length head steps) in
        sym (steps_behind j e
        ∙ map_at step_line (shown_steps head steps) d j there
        ∙ ap step_line (get_or-take (length steps / 4) (lent_steps head steps) j d (omega arith)
        ∙ steps_at_lem steps d 0 head.steps j j (omega arith) (omega arith)))

    pub no_line_at : (j n : ℕ) → k ≡ suc (length bounds + j) → n ≡ min (length steps / 4) head.steps → n ≤ j → get_or lines k [] ≡ []
    no_line_at j n e count h =
        steps_behind j e
        ∙ get_or-eq_default (map step_line (shown_steps head steps)) []
        (omega (arith, map_length step_line (shown_steps head steps), shown_length head steps))
