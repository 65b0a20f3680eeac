-- A plan as text (docs/RULES.md, "Lines of planlines"): H with the head's numbers, L for each list, then the steps in order.
use Rattle.std.specs.Prelude.{cond, List, [], ◌∷◌, ◌++◌, map, ℕ, zero, suc, ◌/◌, eqb, ℤ, length, take}
use Rattle.algebra.specs.EnumNumbers.{transform_number}
use Rattle.lists.specs.Lists.{joined}
use Rattle.walk.specs.Boundaries.{part_of}
use Rattle.walk.specs.Lent.{lent_steps}
use Rattle.walk.specs.declared.plan.Head.{Head}
use Rattle.walk.specs.declared.plan.Step.{Step}
use Rattle.lines.specs.Bytes.{letter_b, letter_g, letter_h, letter_p, letter_q}
use Rattle.texts.specs.Text.{numbers_line, list_line}

-- H: degree, base, the transform's number, ct-ct, pt-ct, depth
abbrev pub head_line : Head → List ℕ
head_line head =
    numbers_line letter_h (head.degree ∷ head.base ∷ transform_number head.transform ∷ head.ct ∷ head.pt ∷ head.depth ∷ [])

-- by kind: P n a b for 1, B list for 2, G power for 3, Q power for 4. A plan has no other kind; one would be shown by Q too.
abbrev pub step_line : Step → List ℕ
step_line step =
    cond (eqb step.kind 1) (numbers_line letter_p (step.x ∷ step.y ∷ step.z ∷ []))
    (cond (eqb step.kind 2) (numbers_line letter_b (step.x ∷ []))
    (cond (eqb step.kind 3) (numbers_line letter_g (step.x ∷ [])) (numbers_line letter_q (step.x ∷ []))))

-- the lines of a head, lists and steps
unfoldable pub lines_of : Head → (lists : List (List ℤ)) (steps : List Step) → List (List ℕ)
lines_of head lists steps = head_line head ∷ (map list_line lists ++ map step_line steps)

-- the lists i, i + 1, .., n of them, each between its boundaries
unfoldable pub parts_from : List ℤ → (bounds : List ℕ) (i n : ℕ) → List (List ℤ)
parts_from c bounds i zero = []
parts_from c bounds i (suc n) = part_of c bounds i ∷ parts_from c bounds (suc i) n

-- a list for each boundary
abbrev pub lists_in : List ℤ → (bounds : List ℕ) → List (List ℤ)
lists_in c bounds = parts_from c bounds 0 (length bounds)

-- the lists and steps that a head counts, as far as the buffers have them
abbrev pub shown_lists : Head → (coefficients : List ℤ) (bounds : List ℕ) → List (List ℤ)
shown_lists head coefficients bounds = lists_in (take head.coefficients coefficients) (take head.lists bounds)

abbrev pub shown_steps : Head → (steps : List ℕ) → List Step
shown_steps head steps = take (length steps / 4) (lent_steps head steps)

-- the lines of a plan, and its text
abbrev pub plan_lines : Head → (coefficients : List ℤ) (bounds steps : List ℕ) → List (List ℕ)
plan_lines head coefficients bounds steps = lines_of head (shown_lists head coefficients bounds) (shown_steps head steps)

abbrev pub plan_text : Head → (coefficients : List ℤ) (bounds steps : List ℕ) → List ℕ
plan_text head coefficients bounds steps = joined (plan_lines head coefficients bounds steps)
