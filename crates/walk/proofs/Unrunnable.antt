-- The walk has no value exactly if one of the reasons holds: test by test, kind by kind, step after step.
use mathlib.Core.Path.{◌≡◌, refl, ◌∙◌, ap}
use mathlib.Core.Bool.{Bool, true, false, not, ◌&&◌, ◌||◌}
use mathlib.Core.List.{List, [], ◌∷◌}
use mathlib.Core.Option.{Option, some, none}
use Prim.Native.Nat.{ℕ, suc, ◌/◌, ◌<◌}
use native.Mathlib.Decide.{dec_lt}
use native.Mathlib.Omega.{arith}
use borrow.Author.Tests.{lt-ltb, le-ltb, le-leb, lt-leb, ne_eqb}
use lib.Dec.{leb, ltb}
use lib.IntN.{ℤ}
use lib.ListN.{length}
use Rattle.algebra.specs.Allowed.{allows}
use Rattle.algebra.specs.declared.Basis.{Basis}
use Rattle.algebra.specs.declared.Basis.TheVariants.{Monomial, Chebyshev}
use Rattle.algebra.specs.declared.Parity.{Parity}
use Rattle.number.specs.Limits.{plan_limit}
use Rattle.number.specs.Split.{split_of}
use Rattle.number.specs.Options.{◌then◌, missing}
use Rattle.number.proofs.Options.{then_assoc, missing_then, missing_when}
use Rattle.walk.specs.Limits.{waiting_limit}
use Rattle.walk.specs.Kinds.{Kind, make, load, combine, unknown, kind_of}
use Rattle.walk.specs.Rules.{Rules}
use Rattle.walk.specs.State.{Powers, Lists, State}
use Rattle.walk.specs.Make.{is_split, is_makeable, power_from, make_of}
use Rattle.walk.specs.Load.{push_of, placed_if, add_place, sum_from, load_of}
use Rattle.walk.specs.Combine.{join_of, combine_of}
use Rattle.walk.specs.Walk.{one_left, unused_zero, act_of, step_of, run_of, first_state, walk_of}
use Rattle.walk.specs.Lent.{lent_steps, lent_lists, counts_fit, bounds_rise, lent_walk}
use Rattle.walk.specs.Uses.{parts_used, used_if, places_used, list_uses, uses_by}
use Rattle.walk.specs.Unrunnable.{any_holds, any_missing, fails_at, end_reason, reasons_by, stops, unrunnable, RefusedForReasons}
use Rattle.walk.specs.declared.plan.Step.{Step}

-- ---- tests

not_leb : (a b : ℕ) → not (leb a b) ≡ ltb b a
not_leb a b = by (dec_lt b a)
  where
    by : Dec (b < a) → not (leb a b) ≡ ltb b a
    by (yes h) = rw (lt-leb a b h, lt-ltb b a h)
    by (no h) = rw (le-leb a b (omega arith), le-ltb b a (omega arith))

not_ltb : (a b : ℕ) → not (ltb a b) ≡ leb b a
not_ltb a b = by (dec_lt a b)
  where
    by : Dec (a < b) → not (ltb a b) ≡ leb b a
    by (yes h) = rw (lt-ltb a b h, lt-leb b a h)
    by (no h) = rw (le-ltb a b (omega arith), le-leb b a (omega arith))

head_tests : (a b c d e : Bool) → (not ((a && (b && c)) && d) || e) ≡ ((not a || (not b || (not c || (not d || false)))) || e)
head_tests true true true true e = refl
head_tests true true true false e = refl
head_tests true true false d e = refl
head_tests true false c d e = refl
head_tests false b c d e = refl

make_tests : (a s m u : Bool) → (not ((a && s) && m) || u) ≡ (not a || (not m || (not s || (u || false))))
make_tests true true true true = refl
make_tests true true true false = refl
make_tests true true false u = refl
make_tests true false true u = refl
make_tests true false false u = refl
make_tests false s m u = refl

last_test : (t : Bool) → t ≡ (t || false)
last_test true = refl
last_test false = refl

-- ---- what is there, and what is made of it

-- all that may be made of it is there, or none is
then_test : {X Y : Type 0} (o : Option X) (f : X → Option Y) (t : Bool) → ((v : X) → missing (f v) ≡ t) → missing (o then f) ≡ (missing o || t)
then_test (some v) f t k = k v
then_test none f t k = refl

then_fails : {X Y : Type 0} (o : Option X) (f : X → Option Y) (t : Bool) (g : X → Bool) → missing o ≡ t → ((v : X) → missing (f v) ≡ g v)
    → missing (o then f) ≡ (t || fails_at o g)
then_fails (some v) f t g e k = rw (← e) (k v)
then_fails none f t g e k = rw (← e)

module _ {A : Type 0} (𝓡 : Rules A) where
  -- ---- a make

  power_missing : (basis : Basis) (powers : Powers A) (a b distance : ℕ)
      → missing (power_from 𝓡 basis powers a b distance) ≡ any_missing powers (parts_used basis a b distance)
  unfolding power_from any_missing
  power_missing Monomial powers a b distance =
      then_test (powers a) _ _ (λ u. then_test (powers b) _ false (λ v. refl))
  power_missing Chebyshev powers a b distance =
      then_test (powers a) _ _ (λ u. then_test (powers b) _ _ (λ v. then_test (powers distance) _ false (λ w. refl)))

  make_missing : (basis : Basis) (powers : Powers A) (n a b : ℕ)
      → missing (make_of 𝓡 basis powers n a b)
      ≡ (ltb plan_limit n
      || (not (missing (powers n)) || (not (is_split n a b) || (any_missing powers (parts_used basis a b (split_of n).distance) || false))))
  unfolding make_of is_makeable
  make_missing basis powers n a b =
      let distance = (split_of n).distance in
      missing_when (is_makeable n a b && missing (powers n)) _
      ∙ ap (not (is_makeable n a b && missing (powers n)) ||◌)
      (missing_then (power_from 𝓡 basis powers a b distance) _ ∙ power_missing basis powers a b distance)
      ∙ make_tests (leb n plan_limit) (is_split n a b) (missing (powers n)) (any_missing powers (parts_used basis a b distance))
      ∙ rw (not_leb n plan_limit)

  -- ---- a load

  module _ (parity : Parity) (powers : Powers A) where
    place_missing : (j : ℕ) (sum : A) (c : ℤ) (later : List ℕ)
        → (missing (add_place 𝓡 parity powers j sum c) || any_missing powers later) ≡ any_missing powers (used_if (allows parity j) j later)
    unfolding add_place any_missing
    place_missing j sum c later = by (allows parity j)
      where
        by : (t : Bool) → (missing (placed_if 𝓡 parity powers t j sum c) || any_missing powers later) ≡ any_missing powers (used_if t j later)
        by true = ap (◌|| any_missing powers later) (missing_then (powers j) _)
        by false = refl

    sum_missing : (j : ℕ) (sum : A) (c : List ℤ) → missing (sum_from 𝓡 parity powers j sum c) ≡ any_missing powers (places_used parity j c)
    unfolding sum_from places_used any_missing
    sum_missing j sum [] = refl
    sum_missing j sum (c ∷ cs) =
        then_test (add_place 𝓡 parity powers j sum c) _ _ (λ next. sum_missing (suc j) next cs)
        ∙ place_missing j sum c (places_used parity (suc j) cs)

    push_missing : (waiting : List A) (v : A) → missing (push_of waiting v) ≡ (leb waiting_limit (length waiting) || false)
    unfolding push_of
    push_missing waiting v =
        missing_when (ltb (length waiting) waiting_limit) _ ∙ ap (◌|| false) (not_ltb (length waiting) waiting_limit)

    load_missing : (lists : Lists) (waiting : List A) (i : ℕ)
        → missing (load_of 𝓡 parity powers lists waiting i)
        ≡ (missing (lists i) || (any_missing powers (list_uses parity (lists i)) || (leb waiting_limit (length waiting) || false)))
    unfolding load_of
    load_missing lists waiting i = by (lists i)
      where
        by : (o : Option (List ℤ))
            → missing (o then λ c. sum_from 𝓡 parity powers 0 𝓡.nothing c then λ v. push_of waiting v)
            ≡ (missing o || (any_missing powers (list_uses parity o) || (leb waiting_limit (length waiting) || false)))
        by (some c) =
            then_test (sum_from 𝓡 parity powers 0 𝓡.nothing c) _ _ (push_missing waiting)
            ∙ ap (◌|| (leb waiting_limit (length waiting) || false)) (sum_missing 0 𝓡.nothing c)
        by none = refl

  -- ---- a combine

  module _ (plain : Bool) where
    join_missing : (power : A) (waiting : List A) → missing (join_of 𝓡 plain power waiting) ≡ (ltb (length waiting) 2 || false)
    unfolding join_of
    join_missing power [] = refl
    join_missing power (high ∷ []) = refl
    join_missing power (high ∷ low ∷ rest) = rw (le-ltb (suc (suc (length rest))) 2 (omega arith))

    combine_missing : (powers : Powers A) (waiting : List A) (p : ℕ)
        → missing (combine_of 𝓡 plain powers waiting p) ≡ (any_missing powers (p ∷ []) || (ltb (length waiting) 2 || false))
    unfolding combine_of any_missing
    combine_missing powers waiting p =
        then_test (powers p) _ _ (λ v. join_missing v waiting)
        ∙ ap (◌|| (ltb (length waiting) 2 || false)) (last_test (missing (powers p)))

  -- ---- steps, and the end

  module _ (parity : Parity) (basis : Basis) (lists : Lists) where
    pub act_missing : (kind : Kind) (x y z : ℕ) (state : State A)
        → missing (act_of 𝓡 parity basis lists kind x y z state)
        ≡ any_holds (reasons_by lists kind x y z (uses_by parity basis lists kind x y z) state)
    unfolding act_of reasons_by uses_by any_holds
    act_missing make x y z state =
        missing_then (make_of 𝓡 basis state.powers x y z) _ ∙ make_missing basis state.powers x y z
    act_missing load x y z state =
        missing_when (unused_zero y z) _
        ∙ ap (not (unused_zero y z) ||◌)
        (missing_then (load_of 𝓡 parity state.powers lists state.waiting x) _ ∙ load_missing parity state.powers lists state.waiting x)
    act_missing (combine plain) x y z state =
        missing_when (unused_zero y z) _
        ∙ ap (not (unused_zero y z) ||◌)
        (missing_then (combine_of 𝓡 plain state.powers state.waiting x) _ ∙ combine_missing plain state.powers state.waiting x)
    act_missing unknown x y z state = refl

    end_missing : (waiting : List A) → missing (one_left waiting) ≡ end_reason waiting
    unfolding one_left
    end_missing [] = refl
    end_missing (v ∷ []) = refl
    end_missing (v ∷ w ∷ rest) = rw (ne_eqb (suc (suc (length rest))) 1 (λ (e : suc (suc (length rest)) ≡ 1). omega arith))

    run_missing : (steps : List Step) (state : State A)
        → missing (run_of 𝓡 parity basis lists steps state then λ end. one_left end.waiting) ≡ stops 𝓡 parity basis lists steps state
    unfolding run_of stops
    run_missing [] state = end_missing state.waiting
    run_missing (step ∷ steps) state =
        ap missing (then_assoc (step_of 𝓡 parity basis lists step state) _ _)
        ∙ then_fails (step_of 𝓡 parity basis lists step state) _ _ _ (act_missing (kind_of step.kind) step.x step.y step.z state)
        (λ next. run_missing steps next)

pub refused_for_reasons : (A : Type 0) → RefusedForReasons A
unfolding lent_walk walk_of unrunnable any_holds
refused_for_reasons A 𝓡 head coefficients bounds steps point =
    missing_when (fit && bounds_rise head bounds) _
    ∙ ap (not (fit && bounds_rise head bounds) ||◌)
    (missing_then (walk_of 𝓡 head.parity head.basis lists planned y) _ ∙ run_missing 𝓡 head.parity head.basis lists planned (first_state 𝓡 y))
    ∙ head_tests (leb head.coefficients (length coefficients)) (leb head.lists (length bounds)) (leb head.steps (length steps / 4))
    (bounds_rise head bounds) _
    ∙ rw (
      not_leb head.coefficients (length coefficients),
      not_leb head.lists (length bounds),
      not_leb head.steps (length steps / 4),
    )
  where
    lists : Lists
    lists = lent_lists head coefficients bounds

    planned : List Step
    planned = lent_steps head steps

    y : A
    y = 𝓡.input head.transform (𝓡.point point)

    fit : Bool
    fit = counts_fit head (length coefficients) (length bounds) (length steps)
