-- A plan that was stored before Q-2 is walked as today's plan is: a step does the same whether its kind is 3 or 4, since a combine of numbers does not
-- ask whether it is plain, and the head's fields that the walk reads are the same.
use mathlib.Core.Path.{◌≡◌, refl, sym, ◌∙◌, ap}
use mathlib.Core.Bool.{Bool, true, false, cond, ◌&&◌}
use mathlib.Core.List.{List, [], ◌∷◌, map, append-nil}
use mathlib.Core.Option.{Option, some}
use Prim.Native.Nat.{ℕ, zero, suc, ◌*◌, ◌/◌, ◌≤◌}
use native.Mathlib.Omega.{arith}
use borrow.Author.Tests.{le-leb, ne_eqb}
use lib.Dec.{eqb, leb}
use lib.IntN.{ℤ}
use lib.ListN.{length}
use Rattle.algebra.specs.Operations.{whole_ops}
use Rattle.algebra.specs.Value.{value}
use Rattle.algebra.specs.declared.Basis.{Basis}
use Rattle.algebra.specs.declared.Parity.{Parity}
use Rattle.number.specs.Options.{◌then◌, when}
use Rattle.number.proofs.BothHold.{and_left, and_right}
use Rattle.number.proofs.Options.{then_alike, when_some}
use Rattle.walk.specs.Kinds.{kind_of}
use Rattle.walk.specs.Rules.{exact_rules}
use Rattle.walk.specs.State.{Lists, Powers, State, with_waiting}
use Rattle.walk.specs.Combine.{join_of, combine_of}
use Rattle.walk.specs.Walk.{one_left, unused_zero, first_state, act_of, step_of, run_of, walk_of}
use Rattle.walk.specs.Lent.{lent_steps, lent_lists, bounds_rise, lent_walk, exact_walk}
use Rattle.walk.specs.declared.plan.Head.{Head}
use Rattle.walk.specs.declared.plan.Step.{Step}
use Rattle.plan.specs.PlanHead.{head_of}
use Rattle.plan.specs.PlanCall.{head_for, numbers_for}
use Rattle.plan.specs.PlanSizes.{sizes_of}
use Rattle.demands.specs.Right.{Stored}
use Rattle.demands.specs.StoredEarlier.{any_combine, EarlierRight}
use Rattle.demands.proofs.Right.{walks_by, lent_steps_lem, stored_right}

-- ---- a step by kind 3 or 4

module _ (parity : Parity) (basis : Basis) (lists : Lists) where
  join_alike : (power : ℤ) (waiting : List ℤ) → join_of exact_rules false power waiting ≡ join_of exact_rules true power waiting
  unfolding join_of
  join_alike power [] = refl
  join_alike power (high ∷ []) = refl
  join_alike power (high ∷ low ∷ rest) = refl

  combine_alike : (powers : Powers ℤ) (waiting : List ℤ) (p : ℕ) → combine_of exact_rules false powers waiting p ≡ combine_of exact_rules true powers waiting p
  unfolding combine_of
  combine_alike powers waiting p = then_alike (powers p) (λ power. join_alike power waiting)

  kind_alike : (kind x y z : ℕ) (state : State ℤ) → act_of exact_rules parity basis lists (kind_of (cond (eqb kind 4) 3 kind)) x y z state
      ≡ act_of exact_rules parity basis lists (kind_of kind) x y z state
  unfolding act_of
  kind_alike zero x y z state = refl
  kind_alike (suc zero) x y z state = refl
  kind_alike (suc (suc zero)) x y z state = refl
  kind_alike (suc (suc (suc zero))) x y z state = refl
  kind_alike (suc (suc (suc (suc zero)))) x y z state =
      ap (λ (o : Option (List ℤ)). when (unused_zero y z) (o then λ waiting. some (with_waiting state waiting)))
      (combine_alike state.powers state.waiting x)
  kind_alike (suc (suc (suc (suc (suc n))))) x y z state = rw (ne_eqb (suc (suc (suc (suc (suc n))))) 4 (λ same. omega arith))

  run_alike : (steps : List Step) (state : State ℤ)
      → run_of exact_rules parity basis lists (map any_combine steps) state ≡ run_of exact_rules parity basis lists steps state
  unfolding run_of
  run_alike [] state = refl
  run_alike (step ∷ steps) state =
      ap (λ (o : Option (State ℤ)). o then λ next. run_of exact_rules parity basis lists (map any_combine steps) next)
      (kind_alike step.kind step.x step.y step.z state)
      ∙ then_alike (step_of exact_rules parity basis lists step state) (run_alike steps)

  walk_alike : (steps others : List Step) (y : ℤ) → map any_combine steps ≡ map any_combine others
      → walk_of exact_rules parity basis lists steps y ≡ walk_of exact_rules parity basis lists others y
  unfolding walk_of
  walk_alike steps others y alike =
      let first = first_state exact_rules y in
      ap (λ (o : Option (State ℤ)). o then λ end. one_left end.waiting)
      (sym (run_alike steps first)
      ∙ ap (λ (l : List Step). run_of exact_rules parity basis lists l first) alike
      ∙ run_alike others first)

-- ---- a lent plan

when_holds : {X : Type 0} (t : Bool) (o : Option X) (v : X) → when t o ≡ some v → t ≡ true
when_holds true o v is = refl
when_holds false o v is = let same : ◌≡◌ {A = ℕ} 0 1 = cc in absurd (omega arith)

module _ (head other : Head) (coefficients : List ℤ) (bounds steps others : List ℕ) (basis_same : head.basis ≡ other.basis)
    (parity_same : head.parity ≡ other.parity) (transform_same : head.transform ≡ other.transform)
    (coefficients_same : head.coefficients ≡ other.coefficients) (lists_same : head.lists ≡ other.lists) (places : 4 * head.steps ≤ length steps)
    (alike : map any_combine (lent_steps head steps) ≡ map any_combine (lent_steps other others)) where
  walked_alike : (x v : ℤ) → exact_walk other coefficients bounds others x ≡ some v → exact_walk head coefficients bounds steps x ≡ some v
  unfolding lent_walk
  walked_alike x v is =
      let lists = lent_lists other coefficients bounds in
      let many = leb other.coefficients (length coefficients) in
      let listed = leb other.lists (length bounds) in
      let room = leb other.steps (length others / 4) in
      let rising = bounds_rise other bounds in
      let all : ((many && (listed && room)) && rising) ≡ true = when_holds ((many && (listed && room)) && rising) _ v is in
      let fits : (many && (listed && room)) ≡ true = and_left (many && (listed && room)) rising all in
      let steps_fit : leb head.steps (length steps / 4) ≡ true = le-leb head.steps (length steps / 4) (omega arith) in
      rw (
        basis_same,
        parity_same,
        transform_same,
        coefficients_same,
        lists_same,
        and_left many (listed && room) fits,
        and_left listed room (and_right many (listed && room) fits),
        steps_fit,
        and_right (many && (listed && room)) rising all,
        walk_alike other.parity other.basis lists (lent_steps head steps) (lent_steps other others) (exact_rules.input other.transform x) alike,
      ) (when_some ((many && (listed && room)) && rising) _ v is)

pub earlier_right : EarlierRight
unfolding head_of sizes_of
earlier_right strategy parity basis folded c head coefficients bounds steps x accepted stored =
    let a = head.interval.a in
    let b = head.interval.b in
    let today = head_for strategy parity basis folded c a b in
    let numbers = numbers_for strategy parity basis folded c in
    let held : Stored strategy parity basis folded c coefficients bounds numbers = record {
      more_coefficients = stored.more_coefficients;
      more_bounds = stored.more_bounds;
      more_steps = [];
      coefficients_are = stored.coefficients_are;
      bounds_are = stored.bounds_are;
      steps_are = sym (append-nil numbers);
    } in
    let steps_alike : map any_combine (lent_steps head steps) ≡ map any_combine (lent_steps today numbers) =
    stored.steps_are ∙ ap (map any_combine) (sym (lent_steps_lem strategy parity basis folded c a b coefficients bounds numbers held)) in
    let exact : exact_walk head coefficients bounds steps x ≡ some (value whole_ops basis x c) =
    walked_alike head today coefficients bounds steps numbers stored.basis_is stored.parity_is stored.transform_is
    stored.coefficient_count_lem stored.list_count_lem stored.step_places steps_alike
    x (value whole_ops basis x c) (stored_right strategy parity basis folded c a b coefficients bounds numbers x accepted held).exact in
    walks_by head coefficients bounds steps basis c x exact
