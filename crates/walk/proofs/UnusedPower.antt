-- The state after the unused make is the state before it with one more power beside the others, and with the same values waiting. A step that doesn't
-- use that power reads the same powers in both states, so it leaves two such states again; a make of that same power can't come later, since it would
-- be refused where the power is there. So at the end the same values wait. By recursion on the later steps.
use mathlib.Core.Path.{◌≡◌, refl, sym, ◌∙◌, ap, fun_ext}
use mathlib.Core.Bool.{Bool, true, false, ◌&&◌}
use mathlib.Core.List.{List, [], ◌∷◌, ◌++◌}
use mathlib.Core.Option.{Option, some, none}
use Prim.Native.Nat.{ℕ, suc}
use native.Mathlib.Decide.{ℕ_discrete}
use native.Mathlib.Omega.{arith}
use borrow.Author.Tests.{eqb-false, eq-eqb, ne_eqb}
use lib.Dec.{eqb}
use lib.IntN.{ℤ}
use Rattle.algebra.specs.Allowed.{allows}
use Rattle.algebra.specs.declared.Basis.{Basis}
use Rattle.algebra.specs.declared.Basis.TheVariants.{Monomial, Chebyshev}
use Rattle.algebra.specs.declared.Parity.{Parity}
use Rattle.number.specs.Split.{split_of}
use Rattle.number.specs.Options.{◌then◌, when, missing, image}
use Rattle.number.proofs.Options.{then_image, image_then, when_image, when_fails, then_alike, same_some, then_some, when_some, CameFrom, came_from}
use Rattle.walk.specs.Kinds.{Kind, make, load, combine, unknown, kind_of}
use Rattle.walk.specs.Rules.{Rules}
use Rattle.walk.specs.State.{Powers, Lists, State, with_powers, with_waiting}
use Rattle.walk.specs.Make.{is_makeable, with_power, power_from, make_of}
use Rattle.walk.specs.Load.{push_of, placed_if, add_place, sum_from, load_of}
use Rattle.walk.specs.Combine.{combine_of}
use Rattle.walk.specs.Walk.{one_left, unused_zero, act_of, step_of, run_of, first_state, walk_of}
use Rattle.walk.specs.Uses.{parts_used, used_if, places_used, list_uses, uses_by}
use Rattle.walk.specs.UsesMade.{is_among}
use Rattle.walk.specs.UnusedPower.{NoneUses, UnusedLeftOut}
use Rattle.walk.specs.declared.plan.Step.{Step}
use Rattle.walk.proofs.RunLaws.{run_then}
use Rattle.walk.proofs.UsesMade.{left_false, right_false}

-- ---- a number that is not among some numbers

not_first : (n m : ℕ) (ms : List ℕ) → is_among n (m ∷ ms) ≡ false → eqb n m ≡ false
unfolding is_among
not_first n m ms e = left_false (eqb n m) (is_among n ms) e

not_later : (n m : ℕ) (ms : List ℕ) → is_among n (m ∷ ms) ≡ false → is_among n ms ≡ false
unfolding is_among
not_later n m ms e = right_false (eqb n m) (is_among n ms) e

-- ---- power n is v, beside the other powers
module _ {A : Type 0} (n : ℕ) (v : A) where
  -- another power is what it was, and power n is v
  other_power : (powers : Powers A) (m : ℕ) → eqb n m ≡ false → with_power n v powers m ≡ powers m
  unfolding with_power
  other_power powers m e = rw (ne_eqb m n (λ same. eqb-false n m e (sym same)))

  its_power : (powers : Powers A) → with_power n v powers n ≡ some v
  unfolding with_power
  its_power powers = rw (eq-eqb n n refl)

  -- with two powers made it makes no difference which was made first
  with_both : (m : ℕ) (u : A) (powers : Powers A) → eqb n m ≡ false
      → with_power m u (with_power n v powers) ≡ with_power n v (with_power m u powers)
  unfolding with_power
  with_both m u powers e = fun_ext at
    where
      at : (k : ℕ) → with_power m u (with_power n v powers) k ≡ with_power n v (with_power m u powers) k
      at k = by (ℕ_discrete k n)
        where
          by : Dec (k ≡ n) → with_power m u (with_power n v powers) k ≡ with_power n v (with_power m u powers) k
          by (yes same) = rw (same, e, eq-eqb n n refl)
          by (no other) = rw (ne_eqb k n other)

  -- a state with that power beside its own
  abbrev beside : State A → State A
  beside state = with_powers state (with_power n v state.powers)

  module _ (𝓡 : Rules A) where
    -- ---- what doesn't use power n reads the same powers

    same_power : (basis : Basis) (powers : Powers A) (a b distance : ℕ) → is_among n (parts_used basis a b distance) ≡ false
        → power_from 𝓡 basis (with_power n v powers) a b distance ≡ power_from 𝓡 basis powers a b distance
    unfolding power_from
    same_power Monomial powers a b distance e =
        let not_b = not_later n a (b ∷ []) e in
        rw (other_power powers a (not_first n a (b ∷ []) e), other_power powers b (not_first n b [] not_b))
    same_power Chebyshev powers a b distance e =
        let not_b = not_later n a (b ∷ distance ∷ []) e in
        let not_distance = not_later n b (distance ∷ []) not_b in
        rw (
          other_power powers a (not_first n a (b ∷ distance ∷ []) e),
          other_power powers b (not_first n b (distance ∷ []) not_b),
          other_power powers distance (not_first n distance [] not_distance),
        )

    module _ (parity : Parity) (powers : Powers A) where
      -- place j, and the places after it
      same_place : (j : ℕ) (sum : A) (c : ℤ) (later : List ℕ) → is_among n (used_if (allows parity j) j later) ≡ false
          → add_place 𝓡 parity (with_power n v powers) j sum c ≡ add_place 𝓡 parity powers j sum c
      unfolding add_place
      same_place j sum c later = by (allows parity j)
        where
          by : (t : Bool) → is_among n (used_if t j later) ≡ false
              → placed_if 𝓡 parity (with_power n v powers) t j sum c ≡ placed_if 𝓡 parity powers t j sum c
          by true e = rw (other_power powers j (not_first n j later e))
          by false e = refl

      not_after : (j : ℕ) (later : List ℕ) → is_among n (used_if (allows parity j) j later) ≡ false → is_among n later ≡ false
      not_after j later = by (allows parity j)
        where
          by : (t : Bool) → is_among n (used_if t j later) ≡ false → is_among n later ≡ false
          by true e = not_later n j later e
          by false e = e

      same_sum : (j : ℕ) (sum : A) (c : List ℤ) → is_among n (places_used parity j c) ≡ false
          → sum_from 𝓡 parity (with_power n v powers) j sum c ≡ sum_from 𝓡 parity powers j sum c
      unfolding sum_from places_used
      same_sum j sum [] e = refl
      same_sum j sum (c ∷ cs) e =
          let later = places_used parity (suc j) cs in
          rw (same_place j sum c later e)
          (then_alike (add_place 𝓡 parity powers j sum c) (λ next. same_sum (suc j) next cs (not_after j later e)))

      same_load : (lists : Lists) (waiting : List A) (i : ℕ) → is_among n (list_uses parity (lists i)) ≡ false
          → load_of 𝓡 parity (with_power n v powers) lists waiting i ≡ load_of 𝓡 parity powers lists waiting i
      unfolding load_of
      same_load lists waiting i = by (lists i)
        where
          by : (o : Option (List ℤ)) → is_among n (list_uses parity o) ≡ false
              → (o then λ c. sum_from 𝓡 parity (with_power n v powers) 0 𝓡.nothing c then λ u. push_of waiting u)
              ≡ (o then λ c. sum_from 𝓡 parity powers 0 𝓡.nothing c then λ u. push_of waiting u)
          by (some c) e = rw (same_sum 0 𝓡.nothing c e)
          by none e = refl

    same_combine : (plain : Bool) (powers : Powers A) (waiting : List A) (p : ℕ) → is_among n (p ∷ []) ≡ false
        → combine_of 𝓡 plain (with_power n v powers) waiting p ≡ combine_of 𝓡 plain powers waiting p
    unfolding combine_of
    same_combine plain powers waiting p e = rw (other_power powers p (not_first n p [] e))

    -- ---- a make of another power, and one of power n, which is refused

    make_beside : (basis : Basis) (powers : Powers A) (m a b : ℕ) → eqb n m ≡ false
        → is_among n (parts_used basis a b (split_of m).distance) ≡ false
        → make_of 𝓡 basis (with_power n v powers) m a b ≡ image (with_power n v) (make_of 𝓡 basis powers m a b)
    unfolding make_of
    make_beside basis powers m a b other e =
        rw (other_power powers m other, same_power basis powers a b (split_of m).distance e)
        (when_image (with_power n v) (is_makeable m a b && missing (powers m)) _ _
        (image_then (with_power n v) (power_from 𝓡 basis powers a b (split_of m).distance) _ _ (λ u. ap some (with_both m u powers other))))

    make_again : (basis : Basis) (powers : Powers A) (m a b : ℕ) → n ≡ m → make_of 𝓡 basis (with_power n v powers) m a b ≡ none
    unfolding make_of
    make_again basis powers m a b same = rw (← same, its_power powers) (when_fails (is_makeable n a b) _)

    -- ---- a step by its kind, and steps one after another

    module _ (parity : Parity) (basis : Basis) (lists : Lists) where
      -- a load or a combine, which leaves the same values waiting
      waits_beside : (t : Bool) (state : State A) (o o' : Option (List A)) → o' ≡ o
          → when t (o' then λ waiting. some (with_waiting (beside state) waiting))
          ≡ image beside (when t (o then λ waiting. some (with_waiting state waiting)))
      waits_beside t state o o' e = rw e (when_image beside t _ _ (image_then beside o _ _ (λ waiting. refl)))

      act_beside : (kind : Kind) (x y z : ℕ) (state next : State A) → is_among n (uses_by parity basis lists kind x y z) ≡ false
          → act_of 𝓡 parity basis lists kind x y z (beside state) ≡ some next
          → CameFrom beside (act_of 𝓡 parity basis lists kind x y z state) next
      unfolding act_of uses_by
      act_beside make x y z state next unused e = by (ℕ_discrete n x)
        where
          by : Dec (n ≡ x) → CameFrom beside (make_of 𝓡 basis state.powers x y z then λ powers. some (with_powers state powers)) next
          by (yes same) =
              let again = make_again basis state.powers x y z same in
              let refused : none ≡ some next = sym (ap (λ (o : Option (Powers A)). o then λ powers. some (with_powers state powers)) again) ∙ e in
              absurd (let one : ◌≡◌ {A = ℕ} 0 1 = cc in omega arith)
          by (no other) =
              came_from beside _ next
              (sym (then_image (with_power n v) beside (make_of 𝓡 basis state.powers x y z) _ _ _
              (make_beside basis state.powers x y z (ne_eqb n x other) unused) (λ powers. refl))
              ∙ e)
      act_beside load x y z state next unused e =
          came_from beside _ next
          (sym (waits_beside (unused_zero y z) state _ _ (same_load parity state.powers lists state.waiting x unused)) ∙ e)
      act_beside (combine plain) x y z state next unused e =
          came_from beside _ next
          (sym (waits_beside (unused_zero y z) state _ _ (same_combine plain state.powers state.waiting x unused)) ∙ e)
      act_beside unknown x y z state next unused e = absurd (let same : ◌≡◌ {A = ℕ} 0 1 = cc in omega arith)

      run_beside : (steps : List Step) (state end : State A) → NoneUses parity basis lists n steps
          → run_of 𝓡 parity basis lists steps (beside state) ≡ some end → CameFrom beside (run_of 𝓡 parity basis lists steps state) end
      unfolding run_of
      run_beside [] state end unused e = record { value = state; is = refl; to = same_some e }
      run_beside (step ∷ steps) state end unused e =
          let taken = then_some (step_of 𝓡 parity basis lists step (beside state)) _ end e in
          let one = act_beside (kind_of step.kind) step.x step.y step.z state taken.value unused.0 taken.is in
          let rest = run_beside steps one.value end unused.1 (ap (run_of 𝓡 parity basis lists steps) one.to ∙ taken.next) in
          record { value = rest.value; is = rw one.is rest.is; to = rest.to }

-- ---- the unused make, and the steps around it

-- the next state has power n beside the others
record Made {A : Type 0} (n : ℕ) (state next : State A) : Type 0 where
  power : A
  is : beside n power state ≡ next

-- the same values wait, so the same one is left
same_left : {A : Type 0} (n : ℕ) (v : A) (o : Option (State A)) (end : State A) (r : A) → CameFrom (beside n v) o end
    → one_left end.waiting ≡ some r → (o then λ state. one_left state.waiting) ≡ some r
same_left n v o end r came e = rw came.is (ap (λ (state : State _). one_left state.waiting) came.to ∙ e)

module _ {A : Type 0} (𝓡 : Rules A) (parity : Parity) (basis : Basis) (lists : Lists) where
  -- a make leaves its state with one more power beside the others
  made : (x y z : ℕ) (state next : State A) → act_of 𝓡 parity basis lists make x y z state ≡ some next → Made x state next
  unfolding act_of make_of
  made x y z state next e =
      let taken = then_some (make_of 𝓡 basis state.powers x y z) _ next e in
      let power = then_some (power_from 𝓡 basis state.powers y z (split_of x).distance) _ taken.value
      (when_some (is_makeable x y z && missing (state.powers x)) _ taken.value taken.is) in
      record { power = power.value; is = ap (with_powers state) (same_some power.next) ∙ same_some taken.next }

  -- the later steps leave the same value, with it and without it
  later_left : (later : List Step) (unused : Step) (state end : State A) (r : A) → kind_of unused.kind ≡ make
      → NoneUses parity basis lists unused.x later → run_of 𝓡 parity basis lists (unused ∷ later) state ≡ some end
      → one_left end.waiting ≡ some r → (run_of 𝓡 parity basis lists later state then λ last. one_left last.waiting) ≡ some r
  unfolding run_of
  later_left later unused state end r is_make none_uses e left =
      let taken = then_some (step_of 𝓡 parity basis lists unused state) _ end e in
      let by_make = ap (λ (kind : Kind). act_of 𝓡 parity basis lists kind unused.x unused.y unused.z state) is_make in
      let one = made unused.x unused.y unused.z state taken.value (sym by_make ∙ taken.is) in
      same_left unused.x one.power _ end r
      (run_beside unused.x one.power 𝓡 parity basis lists later state end none_uses
      (ap (run_of 𝓡 parity basis lists later) one.is ∙ taken.next))
      left

pub unused_left_out : (A : Type 0) → UnusedLeftOut A
unfolding walk_of
unused_left_out A 𝓡 parity basis lists before later unused y v is_make none_uses e =
    let start = first_state 𝓡 y in
    let all = then_some (run_of 𝓡 parity basis lists (before ++ (unused ∷ later)) start) _ v e in
    let parts = then_some (run_of 𝓡 parity basis lists before start) _ all.value
    (sym (run_then 𝓡 parity basis lists before (unused ∷ later) start) ∙ all.is) in
    rw (run_then 𝓡 parity basis lists before later start, parts.is)
    (later_left 𝓡 parity basis lists later unused parts.value all.value v is_make none_uses parts.next all.next)
