-- A map that takes the rules takes every run, refusals too. Definition by definition: each is built of `then`, `when` and rules, and the map goes
-- through each of these. No law of numbers is used.
use mathlib.Core.Path.{◌≡◌, refl, sym, ◌∙◌, ap, fun_ext}
use mathlib.Core.List.{List, [], ◌∷◌, map}
use mathlib.Core.Bool.{Bool, true, false, ◌&&◌, cond}
use mathlib.Core.Option.{Option, some, none}
use Prim.Native.Nat.{ℕ, zero, suc}
use lib.Dec.{eqb, ltb}
use lib.IntN.{ℤ}
use lib.ListN.{length, length-map}
use Rattle.algebra.specs.Allowed.{allows}
use Rattle.algebra.specs.declared.Basis.{Basis}
use Rattle.algebra.specs.declared.Basis.TheVariants.{Monomial, Chebyshev}
use Rattle.algebra.specs.declared.Parity.{Parity}
use Rattle.number.specs.Split.{split_of}
use Rattle.number.specs.Options.{◌then◌, image}
use Rattle.number.proofs.Options.{then_image, when_image, missing_image}
use Rattle.walk.specs.Limits.{waiting_limit}
use Rattle.walk.specs.Kinds.{Kind, make, load, combine, unknown, kind_of}
use Rattle.walk.specs.Rules.{Rules}
use Rattle.walk.specs.State.{Powers, Lists, State}
use Rattle.walk.specs.Make.{is_makeable, with_power, first_powers, power_from, make_of}
use Rattle.walk.specs.Load.{push_of, placed_if, add_place, sum_from, load_of}
use Rattle.walk.specs.Combine.{join_of, combine_of}
use Rattle.walk.specs.Walk.{one_left, unused_zero, act_of, step_of, run_of, first_state, walk_of}
use Rattle.walk.specs.Lent.{lent_steps, lent_lists, counts_fit, bounds_rise, lent_walk}
use Rattle.walk.specs.CarryLaw.{TakesRules, powers_by, state_by, CarryLaw}
use Rattle.walk.specs.declared.plan.Step.{Step}
use Rattle.walk.specs.declared.plan.Head.{Head}

-- one more value
push_image : {A B : Type 0} (f : A → B) (waiting : List A) (v : A) → push_of (map f waiting) (f v) ≡ image (map f) (push_of waiting v)
unfolding push_of
push_image f waiting v = rw length-map (when_image (map f) (ltb (length waiting) waiting_limit) _ _ refl)

-- the one that is left
left_image : {A B : Type 0} (f : A → B) (waiting : List A) → one_left (map f waiting) ≡ image f (one_left waiting)
unfolding one_left
left_image f [] = refl
left_image f (v ∷ []) = refl
left_image f (v ∷ w ∷ rest) = refl

-- one more power
with_image : {A B : Type 0} (f : A → B) (n : ℕ) (v : A) (powers : Powers A)
    → with_power n (f v) (powers_by f powers) ≡ powers_by f (with_power n v powers)
unfolding with_power
with_image {A} f n v powers = fun_ext (λ m. by (eqb m n) (powers m))
  where
    by : (t : Bool) (o : Option A) → cond t (some (f v)) (image f o) ≡ image f (cond t (some v) o)
    by true o = refl
    by false o = refl

module _ {A B : Type 0} (𝓡 : Rules A) (𝓢 : Rules B) (f : A → B) (H : TakesRules 𝓡 𝓢 f) where
  first_image : (y : A) → first_powers 𝓢 (f y) ≡ powers_by f (first_powers 𝓡 y)
  unfolding first_powers
  first_image y = fun_ext at
    where
      at : (m : ℕ) → first_powers 𝓢 (f y) m ≡ image f (first_powers 𝓡 y m)
      at zero = ap some (sym H.one)
      at (suc zero) = refl
      at (suc (suc m)) = refl

  -- a make
  power_image : (basis : Basis) (powers : Powers A) (a b distance : ℕ)
      → power_from 𝓢 basis (powers_by f powers) a b distance ≡ image f (power_from 𝓡 basis powers a b distance)
  unfolding power_from
  power_image Monomial powers a b distance =
      then_image f f (powers a) _ _ _ refl (λ u. then_image f f (powers b) _ _ _ refl (λ v. ap some (sym (H.product u v))))
  power_image Chebyshev powers a b distance =
      then_image f f (powers a) _ _ _ refl (λ u. then_image f f (powers b) _ _ _ refl (λ v. then_image f f (powers distance) _ _ _ refl
      (λ w. ap some (sym (H.product_less u v w)))))

  make_image : (basis : Basis) (powers : Powers A) (n a b : ℕ)
      → make_of 𝓢 basis (powers_by f powers) n a b ≡ image (powers_by f) (make_of 𝓡 basis powers n a b)
  unfolding make_of
  make_image basis powers n a b =
      rw missing_image
      (when_image (powers_by f) (is_makeable n a b && _) _ _
      (then_image f (powers_by f) (power_from 𝓡 basis powers a b (split_of n).distance) _ _ _ (power_image basis powers a b (split_of n).distance)
      (λ v. ap some (with_image f n v powers))))

  -- a load
  module _ (parity : Parity) (powers : Powers A) where
    place_image : (j : ℕ) (sum : A) (c : ℤ) → add_place 𝓢 parity (powers_by f powers) j (f sum) c ≡ image f (add_place 𝓡 parity powers j sum c)
    unfolding add_place
    place_image j sum c = by (allows parity j)
      where
        by : (t : Bool) → placed_if 𝓢 parity (powers_by f powers) t j (f sum) c ≡ image f (placed_if 𝓡 parity powers t j sum c)
        by true = then_image f f (powers j) _ _ _ refl (λ p. ap some (sym (H.place sum c j p)))
        by false = refl

    sum_image : (j : ℕ) (sum : A) (c : List ℤ) → sum_from 𝓢 parity (powers_by f powers) j (f sum) c ≡ image f (sum_from 𝓡 parity powers j sum c)
    unfolding sum_from
    sum_image j sum [] = refl
    sum_image j sum (c ∷ cs) =
        then_image f f (add_place 𝓡 parity powers j sum c) _ _ _ (place_image j sum c) (λ next. sum_image (suc j) next cs)

    list_image : (c : List ℤ) → sum_from 𝓢 parity (powers_by f powers) 0 𝓢.nothing c ≡ image f (sum_from 𝓡 parity powers 0 𝓡.nothing c)
    list_image c = ap (λ s. sum_from 𝓢 parity (powers_by f powers) 0 s c) (sym H.nothing) ∙ sum_image 0 𝓡.nothing c

    load_image : (lists : Lists) (waiting : List A) (i : ℕ)
        → load_of 𝓢 parity (powers_by f powers) lists (map f waiting) i ≡ image (map f) (load_of 𝓡 parity powers lists waiting i)
    unfolding load_of
    load_image lists waiting i = by (lists i)
      where
        by : (o : Option (List ℤ))
            → (o then λ c. sum_from 𝓢 parity (powers_by f powers) 0 𝓢.nothing c then λ v. push_of (map f waiting) v)
            ≡ image (map f) (o then λ c. sum_from 𝓡 parity powers 0 𝓡.nothing c then λ v. push_of waiting v)
        by (some c) = then_image f (map f) (sum_from 𝓡 parity powers 0 𝓡.nothing c) _ _ _ (list_image c) (λ v. push_image f waiting v)
        by none = refl

  -- a combine
  module _ (plain : Bool) where
    join_image : (power : A) (waiting : List A) → join_of 𝓢 plain (f power) (map f waiting) ≡ image (map f) (join_of 𝓡 plain power waiting)
    unfolding join_of
    join_image power [] = refl
    join_image power (high ∷ []) = refl
    join_image power (high ∷ low ∷ rest) = ap (λ v. some (v ∷ map f rest)) (sym (H.combine plain power high low))

    combine_image : (powers : Powers A) (waiting : List A) (p : ℕ)
        → combine_of 𝓢 plain (powers_by f powers) (map f waiting) p ≡ image (map f) (combine_of 𝓡 plain powers waiting p)
    unfolding combine_of
    combine_image powers waiting p = then_image f (map f) (powers p) _ _ _ refl (λ v. join_image v waiting)

  -- steps, and runs of them
  module _ (parity : Parity) (basis : Basis) (lists : Lists) where
    act_image : (kind : Kind) (x y z : ℕ) (state : State A)
        → act_of 𝓢 parity basis lists kind x y z (state_by f state) ≡ image (state_by f) (act_of 𝓡 parity basis lists kind x y z state)
    unfolding act_of
    act_image make x y z state =
        then_image (powers_by f) (state_by f) (make_of 𝓡 basis state.powers x y z) _ _ _ (make_image basis state.powers x y z) (λ powers. refl)
    act_image load x y z state =
        when_image (state_by f) (unused_zero y z) _ _
        (then_image (map f) (state_by f) (load_of 𝓡 parity state.powers lists state.waiting x) _ _ _
        (load_image parity state.powers lists state.waiting x) (λ ws. refl))
    act_image (combine plain) x y z state =
        when_image (state_by f) (unused_zero y z) _ _
        (then_image (map f) (state_by f) (combine_of 𝓡 plain state.powers state.waiting x) _ _ _
        (combine_image plain state.powers state.waiting x) (λ ws. refl))
    act_image unknown x y z state = refl

    run_image : (steps : List Step) (state : State A)
        → run_of 𝓢 parity basis lists steps (state_by f state) ≡ image (state_by f) (run_of 𝓡 parity basis lists steps state)
    unfolding run_of
    run_image [] state = refl
    run_image (step ∷ steps) state =
        then_image (state_by f) (state_by f) (step_of 𝓡 parity basis lists step state) _ _ _
        (act_image (kind_of step.kind) step.x step.y step.z state) (λ next. run_image steps next)

    walk_image : (steps : List Step) (y : A) → walk_of 𝓢 parity basis lists steps (f y) ≡ image f (walk_of 𝓡 parity basis lists steps y)
    unfolding walk_of
    walk_image steps y =
        then_image (state_by f) f (run_of 𝓡 parity basis lists steps (first_state 𝓡 y)) _ _ _
        (ap (λ powers. run_of 𝓢 parity basis lists steps (record { powers = powers; waiting = [] })) (first_image y)
        ∙ run_image steps (first_state 𝓡 y))
        (λ end. left_image f end.waiting)

  -- the walk of a lent plan
  lent_image : (head : Head) (coefficients : List ℤ) (bounds steps : List ℕ) (point : ℤ)
      → lent_walk 𝓢 head coefficients bounds steps point ≡ image f (lent_walk 𝓡 head coefficients bounds steps point)
  unfolding lent_walk
  lent_image head coefficients bounds steps point =
      when_image f (counts_fit head (length coefficients) (length bounds) (length steps) && bounds_rise head bounds) _ _
      (then_image f f (walk_of 𝓡 head.parity head.basis lists planned y) _ _ _
      (ap (walk_of 𝓢 head.parity head.basis lists planned) (sym y_image) ∙ walk_image head.parity head.basis lists planned y)
      (λ v. ap some (sym (v_image v))))
    where
      lists : Lists
      lists = lent_lists head coefficients bounds

      planned : List Step
      planned = lent_steps head steps

      y : A
      y = 𝓡.input head.transform (𝓡.point point)

      y_image : f y ≡ 𝓢.input head.transform (𝓢.point point)
      y_image = H.input head.transform (𝓡.point point) ∙ ap (𝓢.input head.transform) (H.point point)

      v_image : (v : A) → f (𝓡.output head.transform (𝓡.point point) v) ≡ 𝓢.output head.transform (𝓢.point point) (f v)
      v_image v = H.output head.transform (𝓡.point point) v ∙ ap (λ x. 𝓢.output head.transform x (f v)) (H.point point)

pub carry_law : (A B : Type 0) → CarryLaw A B
carry_law A B 𝓡 𝓢 f H = record { runs = run_image 𝓡 𝓢 f H; walks = lent_image 𝓡 𝓢 f H }
