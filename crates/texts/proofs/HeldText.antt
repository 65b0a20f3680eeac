-- Buffers that hold a plan show its lists and steps: the lists stand one after another between the boundaries, the steps take four numbers each.
-- By recursion on the lists.
use mathlib.Core.Path.{◌≡◌, refl, ap, ap₂, sym, ◌∙◌}
use mathlib.Core.List.{List, [], ◌∷◌, ◌++◌, append_assoc}
use Prim.Native.Nat.{ℕ, suc, ◌+◌, ◌-◌, ◌/◌, ◌≤◌}
use native.Mathlib.Omega.{arith}
use lib.IntN.{ℤ}
use lib.ListN.{length, get_or, take, drop, length-append}
use lib.Seq.{take_all, take_at, drop_at, drop-drop, get_or-drop}
use Rattle.lists.specs.Lists.{joined, ends_from}
use Rattle.walk.specs.Boundaries.{start_of, end_of}
use Rattle.walk.proofs.WalksHeld.{ends_length, coefficients_held, bounds_held, steps_held, steps_fit}
use Rattle.texts.specs.PlanText.{lines_of, parts_from, lists_in}
use Rattle.texts.specs.HeldText.{HeldText}

-- ---- the lists

-- what stands between two places behind `ahead`
between : (ahead list after : List ℤ) (s e : ℕ) → s ≡ length ahead → e ≡ length ahead + length list
    → take (e - s) (drop s (ahead ++ (list ++ after))) ≡ list
between ahead list after s e starts ends =
    let size : e - s ≡ length list = omega arith in
    rw (size, drop_at ahead (list ++ after) s (sym starts)) (take_at list after (length list) refl)

-- the lists from i on, behind those before them
parts_held : (bounds : List ℕ) (ahead : List ℤ) (lists : List (List ℤ)) (i : ℕ) → start_of bounds i ≡ length ahead
    → drop i bounds ≡ ends_from (length ahead) lists → parts_from (ahead ++ joined lists) bounds i (length lists) ≡ lists
unfolding parts_from joined ends_from
parts_held bounds ahead [] i starts ends = refl
parts_held bounds ahead (list ∷ lists) i starts ends =
    let whole : length ahead + length list ≡ length (ahead ++ list) = sym (length-append ahead list) in
    let place : i + 0 ≡ i = omega arith in
    let next : i + 1 ≡ suc i = omega arith in
    let end : end_of bounds i ≡ length ahead + length list =
    ap (λ (n : ℕ). get_or bounds n 0) (sym place) ∙ sym (get_or-drop i bounds 0 0) ∙ ap (λ (l : List ℕ). get_or l 0 0) ends in
    let later : drop (suc i) bounds ≡ ends_from (length (ahead ++ list)) lists =
    ap (λ (n : ℕ). drop n bounds) (sym next) ∙ sym (drop-drop 1 i bounds) ∙ ap (drop 1) ends ∙ ap (λ (n : ℕ). ends_from n lists) whole in
    ap₂ ◌∷◌ (between ahead list (joined lists) (start_of bounds i) (end_of bounds i) starts end)
    (ap (λ (c : List ℤ). parts_from c bounds (suc i) (length lists)) (sym (append_assoc ahead list (joined lists)))
    ∙ parts_held bounds (ahead ++ list) lists (suc i) (end ∙ whole) later)

lists_held : (lists : List (List ℤ)) → lists_in (joined lists) (ends_from 0 lists) ≡ lists
lists_held lists =
    ap (parts_from (joined lists) (ends_from 0 lists) 0) (ends_length 0 lists) ∙ parts_held (ends_from 0 lists) [] lists 0 refl refl

-- ---- the text

pub held_text : HeldText
held_text head coefficients bounds steps lists planned held =
    let all : length planned ≤ length steps / 4 = omega (arith, held.step_count_lem, steps_fit held) in
    ap₂ (lines_of head) (ap₂ lists_in (coefficients_held held) (bounds_held held) ∙ lists_held lists)
    (ap (take (length steps / 4)) (steps_held held) ∙ take_all (length steps / 4) planned all)
