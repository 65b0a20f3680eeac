-- Tests of one thing after another: all pass exactly if those of each do, else the first thing whose tests do not pass decides; and their numbers are
-- those of each, in order.
use mathlib.Core.Path.{◌≡◌, refl, sym, ◌∙◌, ap}
use mathlib.Core.Logic.{⊎_elim}
use mathlib.Core.List.Memᴰ
use mathlib.Core.List.{List, [], ◌∷◌, ◌++◌, map, map-append, Memᴰ}
use Prim.Native.Nat.{ℕ, ◌<◌}
use Rattle.number.specs.Refusal.{Test, first_refusal, Numbered}
use Rattle.number.proofs.FirstRefusal.{numbered_append, first_kept, first_of_more, first_passed, NumbersTo, numbers_append}
use Rattle.lists.specs.Lists.{joined}
use Rattle.demands.specs.Total.{numbers_of}
use Rattle.demands.proofs.Parts.{part_of}

module _ {X : Type 0} (tests : X → List Test) where
  pub joined_numbers : (xs : List X) → numbers_of (joined (map tests xs)) ≡ joined (map (λ (x : X). numbers_of (tests x)) xs)
  unfolding joined
  joined_numbers [] = refl
  joined_numbers (x ∷ xs) =
      map-append (λ (test : Test). test.1) (tests x) (joined (map tests xs)) ∙ ap (numbers_of (tests x) ++◌) (joined_numbers xs)

  pub joined_to : (most : ℕ) → ((x : X) → NumbersTo most (tests x)) → (xs : List X) → NumbersTo most (joined (map tests xs))
  unfolding joined
  joined_to most each [] = tt
  joined_to most each (x ∷ xs) = numbers_append most (tests x) (joined (map tests xs)) (each x) (joined_to most each xs)

  module _ (numbered : (x : X) → Numbered (tests x)) where
    pub joined_numbered : (xs : List X) → Numbered (joined (map tests xs))
    unfolding joined
    joined_numbered [] = tt
    joined_numbered (x ∷ xs) = numbered_append (tests x) (joined (map tests xs)) (numbered x) (joined_numbered xs)

    pub each_passes : (xs : List X) → first_refusal (joined (map tests xs)) ≡ 0 → (x : X) → Memᴰ x xs → first_refusal (tests x) ≡ 0
    unfolding joined
    each_passes [] pass x member = absurd (Memᴰ.not-nil member)
    each_passes (first ∷ xs) pass x member =
        let here = first_passed (tests first) (joined (map tests xs)) (numbered first) pass in
        let rest = sym (first_of_more (tests first) (joined (map tests xs)) (numbered first) here) ∙ pass in
        ⊎_elim (λ (e : x ≡ first). ap (λ (one : X). first_refusal (tests one)) e ∙ here)
        (λ (later : Memᴰ x xs). each_passes xs rest x later) (Memᴰ.cases_cons member)

    pub all_pass : (xs : List X) → ((x : X) → Memᴰ x xs → first_refusal (tests x) ≡ 0) → first_refusal (joined (map tests xs)) ≡ 0
    unfolding joined
    all_pass [] each = refl
    all_pass (first ∷ xs) each =
        first_of_more (tests first) (joined (map tests xs)) (numbered first) (each first (Memᴰ.head refl))
        ∙ all_pass xs (λ x member. each x (Memᴰ.tail member))

    -- the first that does not pass decides
    pub first_refused : (before after : List X) (x : X) → ((one : X) → Memᴰ one before → first_refusal (tests one) ≡ 0) → 0 < first_refusal (tests x)
        → first_refusal (joined (map tests (before ++ (x ∷ after)))) ≡ first_refusal (tests x)
    first_refused before after x pass some =
        ap first_refusal (part_of tests before after x)
        ∙ first_of_more (joined (map tests before)) (tests x ++ joined (map tests after)) (joined_numbered before) (all_pass before pass)
        ∙ first_kept (tests x) (joined (map tests after)) some
