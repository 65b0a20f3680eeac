-- A plan's buffers hold its lists and steps: what the walk reads of them, place by place, are these lists and steps, and all tests of the head pass.
use mathlib.Core.Path.{◌≡◌, refl, sym, ◌∙◌, ap, ap₂, fun_ext}
use mathlib.Core.List.{List, [], ◌∷◌, ◌++◌, append_assoc}
use mathlib.Core.Bool.{true}
use mathlib.Core.Option.{some}
use Prim.Native.Nat.{ℕ, zero, suc, ◌+◌, ◌-◌, ◌/◌, ◌≤◌, ◌<◌}
use native.Mathlib.Decide.{dec_lt}
use native.Mathlib.Omega.{arith}
use borrow.Author.Tests.{lt-ltb, le-ltb, le-leb}
use lib.IntN.{ℤ}
use lib.ListN.{length, take, drop, get_or, length-append}
use lib.Seq.{take_at, drop_at}
use Rattle.walk.specs.Boundaries.{rises, part_of, list_at}
use Rattle.walk.specs.Lent.{steps_from, lent_steps, lent_walk}
use Rattle.lists.specs.Lists.{joined, ends_from}
use Rattle.walk.specs.WalksHeld.{flat, Filled, more, numbered, Holds, WalksHeld}
use Rattle.walk.specs.declared.plan.Head.{Head}
use Rattle.walk.specs.declared.plan.Step.{Step}
use Rattle.walk.proofs.BoundaryLaws.{before}
use Rattle.walk.proofs.FlatSteps.{flat_steps, flat_length}

module _ {A : Type 0} where
  pub ends_length : (at : ℕ) (lists : List (List A)) → length (ends_from at lists) ≡ length lists
  unfolding ends_from
  ends_length at [] = refl
  ends_length at (list ∷ lists) = ap suc (ends_length (at + length list) lists)

  -- the boundaries rise
  ends_rise : (at most : ℕ) (lists : List (List A)) → Filled lists → at + length (joined lists) ≤ most → rises at most (ends_from at lists) ≡ true
  unfolding rises ends_from joined
  ends_rise at most [] filled h = refl
  ends_rise at most (list ∷ lists) (more here filled) h =
      let whole = length-append list (joined lists) in
      rw (lt-ltb at (at + length list) (omega arith), le-leb (at + length list) most (omega arith))
      (ends_rise (at + length list) most lists filled (omega arith))

  -- list i stands between its boundaries
  stands : (ahead : List A) (at : ℕ) (lists : List (List A)) (i : ℕ) → length ahead ≡ at → i < length lists
      → take (get_or (ends_from at lists) i 0 - before at (ends_from at lists) i) (drop (before at (ends_from at lists) i) (ahead ++ joined lists))
      ≡ get_or lists i []
  unfolding ends_from joined
  stands ahead at [] i e h = absurd (omega arith)
  stands ahead at (list ∷ lists) zero e h =
      let size : at + length list - at ≡ length list = omega arith in
      rw (size, drop_at ahead (list ++ joined lists) at e) (take_at list (joined lists) (length list) refl)
  stands ahead at (list ∷ lists) (suc zero) e h =
      ap (λ (l : List A). take (get_or (ends_from (at + length list) lists) 0 0 - (at + length list)) (drop (at + length list) l))
      (sym (append_assoc ahead list (joined lists)))
      ∙ stands (ahead ++ list) (at + length list) lists zero (omega (arith, length-append ahead list)) (omega arith)
  stands ahead at (list ∷ lists) (suc (suc i)) e h =
      ap (λ (l : List A). take (get_or (ends_from (at + length list) lists) (suc i) 0 - get_or (ends_from (at + length list) lists) i 0)
      (drop (get_or (ends_from (at + length list) lists) i 0) l)) (sym (append_assoc ahead list (joined lists)))
      ∙ stands (ahead ++ list) (at + length list) lists (suc i) (omega (arith, length-append ahead list)) (omega arith)

-- the lists of whole numbers
module _ (lists : List (List ℤ)) where
  part_stands : (i : ℕ) → i < length lists → part_of (joined lists) (ends_from 0 lists) i ≡ get_or lists i []
  part_stands zero h = stands [] 0 lists zero refl h
  part_stands (suc i) h = stands [] 0 lists (suc i) refl h

  lists_stand : list_at (joined lists) (ends_from 0 lists) ≡ numbered lists
  unfolding list_at
  lists_stand = fun_ext (λ i. at i (dec_lt i (length lists)))
    where
      at : (i : ℕ) → Dec (i < length lists) → list_at (joined lists) (ends_from 0 lists) i ≡ numbered lists i
      at i (yes h) = rw (ends_length 0 lists, lt-ltb i (length lists) h) (ap some (part_stands i h))
      at i (no h) = rw (ends_length 0 lists, le-ltb i (length lists) (omega arith))

-- what the head counts of the buffers is the plan
module _ {head : Head} {coefficients : List ℤ} {bounds steps : List ℕ} {lists : List (List ℤ)} {planned : List Step}
    (held : Holds head coefficients bounds steps lists planned) where
  pub coefficients_held : take head.coefficients coefficients ≡ joined lists
  coefficients_held =
      ap (take head.coefficients) held.coefficients_are
      ∙ take_at (joined lists) held.more_coefficients head.coefficients (sym held.coefficient_count_lem)

  pub bounds_held : take head.lists bounds ≡ ends_from 0 lists
  bounds_held =
      ap (take head.lists) held.bounds_are
      ∙ take_at (ends_from 0 lists) held.more_bounds head.lists (ends_length 0 lists ∙ sym held.list_count_lem)

  pub steps_held : lent_steps head steps ≡ planned
  steps_held = ap₂ (λ l n. steps_from l 0 n) held.steps_are held.step_count_lem ∙ flat_steps planned held.more_steps

  pub steps_fit : head.steps ≤ length steps / 4
  steps_fit =
      let size : length steps ≡ length (flat planned) + length held.more_steps = ap length held.steps_are
      ∙ length-append (flat planned) held.more_steps in
      omega (arith, held.step_count_lem, flat_length planned)

-- the walk of buffers that hold a plan
pub walks_held : (A : Type 0) → WalksHeld A
unfolding lent_walk
walks_held A 𝓡 head coefficients bounds steps lists planned point held =
    let c_length : length coefficients ≡ length (joined lists) + length held.more_coefficients = ap length held.coefficients_are
    ∙ length-append (joined lists) held.more_coefficients in
    let b_length : length bounds ≡ length (ends_from 0 lists) + length held.more_bounds = ap length held.bounds_are
    ∙ length-append (ends_from 0 lists) held.more_bounds in
    let c_fit : head.coefficients ≤ length coefficients = omega (arith, held.coefficient_count_lem) in
    let b_fit : head.lists ≤ length bounds = omega (arith, held.list_count_lem, ends_length 0 lists) in
    let rise : rises 0 head.coefficients (ends_from 0 lists) ≡ true = ends_rise 0 head.coefficients lists held.filled
    (omega (arith, held.coefficient_count_lem)) in
    rw (
      le-leb head.coefficients (length coefficients) c_fit,
      le-leb head.lists (length bounds) b_fit,
      le-leb head.steps (length steps / 4) (steps_fit held),
      bounds_held held,
      rise,
      coefficients_held held,
      steps_held held,
      lists_stand lists,
    )
