-- How values grow along a run, over any rules that make of values up to a level one at most a level above. Power m is up to level j + 1 where m is
-- at most 2^j, since the parts of a made power are at most half of that: no power is above level 13, which 4,095 has. A waiting value gains a level
-- only as the high one of a combine, which takes away the value beneath it. So one with k beneath it is up to level 29 - k: a load pushes one of
-- level 14 onto at most 15 others. The one that is left is up to level 29, and the output adds one more, however many steps there are.
use mathlib.Core.Path.{◌≡◌, refl}
use mathlib.Core.Bool.{Bool, true, false, cond, ◌&&◌, false≢true}
use mathlib.Core.List.{List, [], ◌∷◌}
use mathlib.Core.Option.{Option, some, none}
use Prim.Native.Nat.{ℕ, zero, suc, ◌+◌, ◌-◌, ◌^◌, ◌≤◌}
use native.Mathlib.Omega.{arith}
use borrow.Author.Tests.{eqb-true, ltb-true}
use lib.Dec.{eqb, ltb}
use lib.IntN.{ℤ}
use lib.ListN.{length}
use Rattle.algebra.specs.Allowed.{allows}
use Rattle.algebra.specs.declared.Basis.{Basis}
use Rattle.algebra.specs.declared.Basis.TheVariants.{Monomial, Chebyshev}
use Rattle.algebra.specs.declared.Parity.{Parity}
use Rattle.algebra.specs.declared.PolynomialInputTransform.{PolynomialInputTransform}
use Rattle.number.specs.Limits.{plan_limit}
use Rattle.number.specs.Split.{split_of}
use Rattle.number.specs.Options.{◌then◌, missing}
use Rattle.number.proofs.BothHold.{and_left, and_right}
use Rattle.walk.specs.Limits.{waiting_limit}
use Rattle.walk.specs.Kinds.{Kind, make, load, combine, unknown, kind_of}
use Rattle.walk.specs.Rules.{Rules}
use Rattle.walk.specs.State.{Powers, Lists, State}
use Rattle.walk.specs.Make.{is_makeable, with_power, first_powers, power_from, make_of}
use Rattle.walk.specs.Load.{push_of, placed_if, add_place, sum_from, load_of}
use Rattle.walk.specs.Combine.{join_of, combine_of}
use Rattle.walk.specs.Walk.{one_left, unused_zero, act_of, run_of, walk_of}
use Rattle.walk.specs.Lent.{lent_steps, lent_lists, counts_fit, bounds_rise, lent_walk}
use Rattle.walk.specs.declared.plan.Step.{Step}
use Rattle.walk.specs.declared.plan.Head.{Head}
use Rattle.walk.proofs.Alls.{All, all_then, all_when}
use Rattle.walk.proofs.Alls.All.{nothing, holds}
use Rattle.walk.proofs.PowerLaws.{makeable_within, makeable_parts}
use Rattle.walk.proofs.SplitHalves.{Halves, split_halves}

-- what each rule makes of values up to level n, Within n; a list's sum so far and the low one of a combine gain none and may be a level above
pub record Grows {A : Type 0} (𝓡 : Rules A) (Within : ℕ → A → Type 0) : Type 0 where
  pub more : {m n : ℕ} {v : A} → m ≤ n → Within m v → Within n v
  pub one : Within 1 𝓡.one
  pub product : {n : ℕ} {u v : A} → Within n u → Within n v → Within (suc n) (𝓡.product u v)
  pub product_less : {n : ℕ} {u v w : A} → Within n u → Within n v → Within n w → Within (suc n) (𝓡.product_less u v w)
  pub nothing : Within 1 𝓡.nothing
  pub place : {n : ℕ} {sum power : A} (c : ℤ) (j : ℕ) → Within (suc n) sum → Within n power → Within (suc n) (𝓡.place sum c j power)
  pub combine : {n : ℕ} {power high low : A} (plain : Bool) → Within n power → Within n high → Within (suc n) low
      → Within (suc n) (𝓡.combine plain power high low)
  pub input : (transform : PolynomialInputTransform) (x : ℤ) → Within 1 (𝓡.input transform (𝓡.point x))
  pub output : {n : ℕ} {v : A} (transform : PolynomialInputTransform) (x : ℤ) → Within n v → Within (suc n) (𝓡.output transform (𝓡.point x) v)

-- power m is up to level j + 1 for each j with m at most 2^j
abbrev PowerWithin : {A : Type 0} → (Within : ℕ → A → Type 0) → (m : ℕ) → A → Type 0
PowerWithin Within m v = (j : ℕ) → m ≤ 2 ^ j → Within (suc j) v

-- powers 0 and 1 are there, and none above 4,095
data Power {A : Type 0} (Within : ℕ → A → Type 0) (m : ℕ) : Option A → Type 0 where
  not_made : 2 ≤ m → Power Within m none
  made : {v : A} → m ≤ plan_limit → PowerWithin Within m v → Power Within m (some v)

abbrev EachPower : {A : Type 0} → (Within : ℕ → A → Type 0) → Powers A → Type 0
EachPower Within powers = (m : ℕ) → Power Within m (powers m)

-- a waiting value with k beneath it is up to level 29 - k, which is at least that of any power
data Stacked {A : Type 0} (Within : ℕ → A → Type 0) : List A → Type 0 where
  no_more : Stacked Within []
  above : {n : ℕ} {v : A} {vs : List A} → Within n v → Stacked Within vs → n + length vs ≡ 29 → 13 ≤ n → Stacked Within (v ∷ vs)

record Kept {A : Type 0} (Within : ℕ → A → Type 0) (state : State A) : Type 0 where
  powers : EachPower Within state.powers
  waiting : Stacked Within state.waiting

module _ {A : Type 0} {𝓡 : Rules A} {Within : ℕ → A → Type 0} (G : Grows 𝓡 Within) where
  -- ---- powers

  -- one that is there, by its number
  by_number : {m : ℕ} {o : Option A} → Power Within m o → All (PowerWithin Within m) o
  by_number (not_made from_two) = nothing
  by_number (made most p) = holds p

  -- any that is there: 4,095 is at most 2^12
  any_power : {m : ℕ} {o : Option A} → Power Within m o → All (Within 13) o
  any_power (not_made from_two) = nothing
  any_power (made most p) = holds (p 12 (omega arith))

  -- one that isn't there
  missing_from_two : {m : ℕ} {o : Option A} → Power Within m o → missing o ≡ true → 2 ≤ m
  missing_from_two (not_made from_two) e = from_two
  missing_from_two (made most p) e = absurd (false≢true e)

  -- at the start
  first_kept : {y : A} → Within 1 y → EachPower Within (first_powers 𝓡 y)
  unfolding first_powers
  first_kept p zero = made (omega arith) (λ j h. G.more (omega arith) G.one)
  first_kept p (suc zero) = made (omega arith) (λ j h. G.more (omega arith) p)
  first_kept p (suc (suc m)) = not_made (omega arith)

  -- a make, of parts that are up to a level less
  module _ (n a b : ℕ) (from_two : 2 ≤ n) (makeable : is_makeable n a b ≡ true) where
    parts_half : (j : ℕ) → n ≤ 2 ^ suc j → Halves (2 ^ j) a b (split_of n).distance
    parts_half j h =
        let most : n ≤ plan_limit = makeable_within n a b makeable in
        let parts = makeable_parts n a b makeable in
        rw (parts.0, parts.1) (split_halves n j from_two h (omega arith))

    raised : {v : A} → ((j : ℕ) → Halves (2 ^ j) a b (split_of n).distance → Within (suc (suc j)) v) → PowerWithin Within n v
    raised k zero h = absurd (omega arith)
    raised k (suc j) h = k j (parts_half j h)

    power_within : (basis : Basis) {powers : Powers A} → EachPower Within powers
        → All (PowerWithin Within n) (power_from 𝓡 basis powers a b (split_of n).distance)
    unfolding power_from
    power_within Monomial each =
        all_then (by_number (each a)) (λ u p. all_then (by_number (each b)) (λ v q.
        holds (raised (λ j half. G.product (p j half.first) (q j half.second)))))
    power_within Chebyshev each =
        all_then (by_number (each a)) (λ u p. all_then (by_number (each b)) (λ v q. all_then (by_number (each (split_of n).distance)) (λ w r.
        holds (raised (λ j half. G.product_less (p j half.first) (q j half.second) (r j half.distance))))))

  with_kept : (n : ℕ) {v : A} {powers : Powers A} → n ≤ plan_limit → PowerWithin Within n v → EachPower Within powers
      → EachPower Within (with_power n v powers)
  unfolding with_power
  with_kept n {v} {powers} most p each m = by (eqb m n) refl
    where
      by : (t : Bool) → eqb m n ≡ t → Power Within m (cond t (some v) (powers m))
      by true e = rw (eqb-true m n e) (made most p)
      by false e = each m

  make_kept : (basis : Basis) (n a b : ℕ) {powers : Powers A} → EachPower Within powers → All (EachPower Within) (make_of 𝓡 basis powers n a b)
  unfolding make_of
  make_kept basis n a b {powers} each =
      all_when (is_makeable n a b && missing (powers n)) (λ test.
      let makeable = and_left (is_makeable n a b) (missing (powers n)) test in
      let from_two = missing_from_two (each n) (and_right (is_makeable n a b) (missing (powers n)) test) in
      all_then (power_within n a b from_two makeable basis each) (λ v p. holds (with_kept n (makeable_within n a b makeable) p each)))

  -- ---- a load, of level 14

  push_kept : {waiting : List A} {v : A} → Stacked Within waiting → Within 14 v → All (Stacked Within) (push_of waiting v)
  unfolding push_of
  push_kept {waiting} stacked p =
      all_when (ltb (length waiting) waiting_limit) (λ test.
      let few = ltb-true (length waiting) waiting_limit test in
      holds (above {n = 29 - length waiting} (G.more (omega arith) p) stacked (omega arith) (omega arith)))

  module _ (parity : Parity) {powers : Powers A} (each : EachPower Within powers) where
    place_within : (j : ℕ) {sum : A} (c : ℤ) → Within 14 sum → All (Within 14) (add_place 𝓡 parity powers j sum c)
    unfolding add_place
    place_within j {sum} c p = by (allows parity j)
      where
        by : (t : Bool) → All (Within 14) (placed_if 𝓡 parity powers t j sum c)
        by true = all_then (any_power (each j)) (λ power q. holds (G.place c j p q))
        by false = holds p

    sum_within : (j : ℕ) {sum : A} (c : List ℤ) → Within 14 sum → All (Within 14) (sum_from 𝓡 parity powers j sum c)
    unfolding sum_from
    sum_within j [] p = holds p
    sum_within j (c ∷ cs) p = all_then (place_within j c p) (λ next q. sum_within (suc j) cs q)

    load_kept : (lists : Lists) {waiting : List A} (i : ℕ) → Stacked Within waiting → All (Stacked Within) (load_of 𝓡 parity powers lists waiting i)
    unfolding load_of
    load_kept lists {waiting} i stacked = by (lists i)
      where
        by : (o : Option (List ℤ)) → All (Stacked Within) (o then λ c. sum_from 𝓡 parity powers 0 𝓡.nothing c then λ v. push_of waiting v)
        by none = nothing
        by (some c) = all_then (sum_within 0 c (G.more (omega arith) G.nothing)) (λ v p. push_kept stacked p)

  -- ---- a combine: what it makes is a level above high, which is that of low

  join_kept : (plain : Bool) {power : A} {waiting : List A} → Within 13 power → Stacked Within waiting
      → All (Stacked Within) (join_of 𝓡 plain power waiting)
  unfolding join_of
  join_kept plain p no_more = nothing
  join_kept plain p (above high no_more level over) = nothing
  join_kept plain p (above high (above low rest level_low over_low) level over) =
      holds (above (G.combine plain (G.more over p) high (G.more (omega arith) low)) rest (omega arith) (omega arith))

  combine_kept : (plain : Bool) {powers : Powers A} {waiting : List A} (p : ℕ) → EachPower Within powers → Stacked Within waiting
      → All (Stacked Within) (combine_of 𝓡 plain powers waiting p)
  unfolding combine_of
  combine_kept plain p each stacked = all_then (any_power (each p)) (λ power q. join_kept plain q stacked)

  -- ---- the walk

  -- none is beneath the one that is left
  left_within : {waiting : List A} → Stacked Within waiting → All (Within 29) (one_left waiting)
  unfolding one_left
  left_within no_more = nothing
  left_within (above p no_more level over) = holds (G.more (omega arith) p)
  left_within (above p (above q rest level_next over_next) level over) = nothing

  module _ (parity : Parity) (basis : Basis) (lists : Lists) where
    -- a step by its kind
    act_kept : (kind : Kind) (x y z : ℕ) {state : State A} → Kept Within state → All (Kept Within) (act_of 𝓡 parity basis lists kind x y z state)
    unfolding act_of
    act_kept make x y z kept =
        all_then (make_kept basis x y z kept.powers) (λ powers each. holds (record { powers = each; waiting = kept.waiting }))
    act_kept load x y z kept =
        all_when (unused_zero y z) (λ test. all_then (load_kept parity kept.powers lists x kept.waiting)
        (λ waiting stacked. holds (record { powers = kept.powers; waiting = stacked })))
    act_kept (combine plain) x y z kept =
        all_when (unused_zero y z) (λ test. all_then (combine_kept plain x kept.powers kept.waiting)
        (λ waiting stacked. holds (record { powers = kept.powers; waiting = stacked })))
    act_kept unknown x y z kept = nothing

    -- step after step
    run_kept : (steps : List Step) {state : State A} → Kept Within state → All (Kept Within) (run_of 𝓡 parity basis lists steps state)
    unfolding run_of
    run_kept [] kept = holds kept
    run_kept (step ∷ steps) kept =
        all_then (act_kept (kind_of step.kind) step.x step.y step.z kept) (λ next kept_next. run_kept steps kept_next)

    walk_within : (steps : List Step) {y : A} → Within 1 y → All (Within 29) (walk_of 𝓡 parity basis lists steps y)
    unfolding walk_of
    walk_within steps p =
        all_then (run_kept steps (record { powers = first_kept p; waiting = no_more })) (λ end kept. left_within kept.waiting)

  -- the walk of a lent plan
  pub lent_within : (head : Head) (coefficients : List ℤ) (bounds steps : List ℕ) (point : ℤ)
      → All (Within 30) (lent_walk 𝓡 head coefficients bounds steps point)
  unfolding lent_walk
  lent_within head coefficients bounds steps point =
      all_when (counts_fit head (length coefficients) (length bounds) (length steps) && bounds_rise head bounds) (λ test.
      all_then
      (walk_within head.parity head.basis (lent_lists head coefficients bounds) (lent_steps head steps) (G.input head.transform point))
      (λ v p. holds (G.output head.transform point p)))
