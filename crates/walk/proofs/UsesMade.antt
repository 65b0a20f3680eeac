-- A walk that has a value uses only powers that were made: a step that is taken has no reason against it, so the powers that it uses are there, and
-- after it there are only those and the one it made. By recursion on the steps.
use mathlib.Core.Path.{◌≡◌, refl, sym, ◌∙◌, ap, subst}
use mathlib.Core.Bool.{Bool, true, false, cond, ◌&&◌, ◌||◌, true≢false}
use mathlib.Core.List.{List, [], ◌∷◌}
use mathlib.Core.Option.{Option, some}
use Prim.Native.Nat.{ℕ, zero, suc}
use native.Mathlib.Decide.{ℕ_discrete}
use native.Mathlib.Omega.{arith}
use borrow.Author.Tests.{eq-eqb, ne_eqb}
use lib.Dec.{eqb}
use Rattle.algebra.specs.declared.Basis.{Basis}
use Rattle.algebra.specs.declared.Parity.{Parity}
use Rattle.number.specs.Split.{split_of}
use Rattle.number.specs.Options.{◌then◌, missing}
use Rattle.number.proofs.Options.{same_some, then_some, when_some}
use Rattle.walk.specs.Kinds.{Kind, make, load, combine, unknown, kind_of}
use Rattle.walk.specs.Rules.{Rules}
use Rattle.walk.specs.State.{Powers, Lists, State}
use Rattle.walk.specs.Make.{is_makeable, with_power, first_powers, power_from, make_of}
use Rattle.walk.specs.Load.{load_of}
use Rattle.walk.specs.Combine.{combine_of}
use Rattle.walk.specs.Walk.{unused_zero, act_of, step_of, run_of, first_state, walk_of}
use Rattle.walk.specs.Uses.{uses_of}
use Rattle.walk.specs.Unrunnable.{any_holds, any_missing, reasons_by}
use Rattle.walk.specs.UsesMade.{is_among, all_among, made_by, made_after, UsesMade, WalksUseMade}
use Rattle.walk.specs.declared.plan.Step.{Step}
use Rattle.walk.proofs.Unrunnable.{act_missing}

-- the powers that are there are among those made
abbrev Known : {A : Type 0} → Powers A → (made : List ℕ) → Type 0
Known powers made = (m : ℕ) → missing (powers m) ≡ false → is_among m made ≡ true

-- ---- tests that do not hold

pub left_false : (a b : Bool) → (a || b) ≡ false → a ≡ false
left_false true b e = absurd (true≢false e)
left_false false b e = refl

pub right_false : (a b : Bool) → (a || b) ≡ false → b ≡ false
right_false true b e = absurd (true≢false e)
right_false false b e = e

-- each of some tests does not hold
abbrev AllFalse : List Bool → Type 0
AllFalse [] = Unit {0}
AllFalse (test ∷ tests) = (test ≡ false) × AllFalse tests

all_false : (tests : List Bool) → any_holds tests ≡ false → AllFalse tests
unfolding any_holds
all_false [] e = tt
all_false (test ∷ tests) e = (left_false test (any_holds tests) e, all_false tests (right_false test (any_holds tests) e))

module _ {A : Type 0} where
  -- what a step uses is among its reasons
  uses_there : (lists : Lists) (kind : Kind) (x y z : ℕ) (uses : List ℕ) (state : State A)
      → AllFalse (reasons_by lists kind x y z uses state) → any_missing state.powers uses ≡ false
  unfolding reasons_by
  uses_there lists make x y z uses state passed = passed.1.1.1.0
  uses_there lists load x y z uses state passed = passed.1.1.0
  uses_there lists (combine plain) x y z uses state passed = passed.1.0
  uses_there lists unknown x y z uses state passed = absurd (true≢false passed.0)

  -- those that are there are among those made
  all_among_lem : (powers : Powers A) (made uses : List ℕ) → Known powers made → any_missing powers uses ≡ false → all_among uses made ≡ true
  unfolding any_missing all_among
  all_among_lem powers made [] known e = refl
  all_among_lem powers made (n ∷ ns) known e =
      rw (known n (left_false (missing (powers n)) (any_missing powers ns) e))
      (all_among_lem powers made ns known (right_false (missing (powers n)) (any_missing powers ns) e))

  -- ---- after a make there is what was there, and the power made
  with_known : (x : ℕ) (v : A) (powers : Powers A) (made : List ℕ) → Known powers made → Known (with_power x v powers) (x ∷ made)
  unfolding with_power is_among
  with_known x v powers made known m there = by (ℕ_discrete m x)
    where
      by : Dec (m ≡ x) → (eqb m x || is_among m made) ≡ true
      by (yes e) = rw (eq-eqb m x e)
      by (no e) =
          rw (ne_eqb m x e)
          (known m (sym (ap (λ (b : Bool). missing (cond b (some v) (powers m))) (ne_eqb m x e)) ∙ there))

  -- a load or a combine leaves the powers
  kept_powers : (state next : State A) (o : Option (List A))
      → (o then λ waiting. some (record { powers = state.powers; waiting = waiting })) ≡ some next → state.powers ≡ next.powers
  kept_powers state next o e = ap (λ (s : State A). s.powers) (same_some (then_some o _ next e).next)

module _ {A : Type 0} (𝓡 : Rules A) (parity : Parity) (basis : Basis) (lists : Lists) where
  act_known : (kind : Kind) (x y z : ℕ) (state next : State A) (made : List ℕ) → act_of 𝓡 parity basis lists kind x y z state ≡ some next
      → Known state.powers made → Known next.powers (made_by kind x made)
  unfolding act_of make_of
  act_known make x y z state next made e known =
      let taken = then_some (make_of 𝓡 basis state.powers x y z) _ next e in
      let power = then_some (power_from 𝓡 basis state.powers y z (split_of x).distance) _ taken.value
      (when_some (is_makeable x y z && missing (state.powers x)) _ taken.value taken.is) in
      let is : with_power x power.value state.powers ≡ next.powers = same_some power.next
      ∙ ap (λ (s : State A). s.powers) (same_some taken.next) in
      subst (λ (p : Powers A). Known p (x ∷ made)) is (with_known x power.value state.powers made known)
  act_known load x y z state next made e known =
      subst (λ (p : Powers A). Known p made)
      (kept_powers state next (load_of 𝓡 parity state.powers lists state.waiting x) (when_some (unused_zero y z) _ next e)) known
  act_known (combine plain) x y z state next made e known =
      subst (λ (p : Powers A). Known p made)
      (kept_powers state next (combine_of 𝓡 plain state.powers state.waiting x) (when_some (unused_zero y z) _ next e)) known
  act_known unknown x y z state next made e known = absurd (let same : ◌≡◌ {A = ℕ} 0 1 = cc in omega arith)

  -- step after step
  run_uses : (steps : List Step) (state end : State A) (made : List ℕ) → Known state.powers made
      → run_of 𝓡 parity basis lists steps state ≡ some end → UsesMade parity basis lists made steps
  unfolding run_of
  run_uses [] state end made known e = tt
  run_uses (step ∷ steps) state end made known e =
      let taken = then_some (step_of 𝓡 parity basis lists step state) _ end e in
      let uses = uses_of parity basis lists step in
      let no_reason = sym (act_missing 𝓡 parity basis lists (kind_of step.kind) step.x step.y step.z state) ∙ ap missing taken.is in (
        all_among_lem state.powers made uses known
            (uses_there lists (kind_of step.kind) step.x step.y step.z uses state (all_false _ no_reason)),
        run_uses steps taken.value end (made_after step made)
            (act_known (kind_of step.kind) step.x step.y step.z state taken.value made taken.is known) taken.next,
      )

  first_known : (y : A) → Known (first_powers 𝓡 y) (0 ∷ 1 ∷ [])
  unfolding first_powers is_among
  first_known y zero there = refl
  first_known y (suc zero) there = refl
  first_known y (suc (suc m)) there = absurd (true≢false there)

pub walks_use_made : (A : Type 0) → WalksUseMade A
unfolding walk_of
walks_use_made A 𝓡 parity basis lists steps y v e =
    let run = then_some (run_of 𝓡 parity basis lists steps (first_state 𝓡 y)) _ v e in
    run_uses 𝓡 parity basis lists steps (first_state 𝓡 y) run.value (0 ∷ 1 ∷ []) (first_known 𝓡 parity basis lists y) run.is
