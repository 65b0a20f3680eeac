-- The zero curves are weighed. A zero curve has every parity, and its magnitudes sum to 0, so it is accepted; the buffers have the rooms that are enough
-- for every plan, and the interval's bounds are in order. What the plan call leaves in them is weighed as the plan is (demands: PlansWeighed).
use mathlib.Core.Path.{◌≡◌, refl}
use mathlib.Core.Bool.{false, false≢true}
use Prim.Native.Nat.{ℕ, zero, suc, ◌≤◌, ◌<◌}
use native.Mathlib.Omega.{arith}
use lib.IntN.{ℤ, pos}
use lib.ListN.{length, replicate, length-replicate}
use Rattle.algebra.specs.Magnitude.{sum_abs}
use Rattle.algebra.specs.declared.Parity.{Parity}
use Rattle.number.specs.Tests.{degree_of}
use Rattle.walk.proofs.RunLaws.{get_d_replicate}
use Rattle.plan.specs.PlanCall.{Accepted, plan_answer, plan_coefficients, plan_boundaries, plan_numbers}
use Rattle.demands.proofs.Accepts.{covered_accepted}
use Rattle.demands.proofs.Weighed.{plans_weighed}
use Rattle.answers.specs.Limits.{list_room, step_room}
use Rattle.answers.specs.LineInterval.{minus_one, plus_one}
use Rattle.answers.proofs.LineInterval.{ones_ordered}
use Rattle.answers.proofs.Rooms.{rooms_enough}
use Rattle.chains.specs.ZeroChain.{no_coefficients, no_bounds, no_steps, basis_of, parity_of, strategy_of, zero_curve}
use Rattle.chains.specs.ZerosWeighed.{ZerosWeighed}

zeros_sum : (n : ℕ) → sum_abs (replicate n (pos 0)) ≡ 0
unfolding sum_abs
zeros_sum zero = refl
zeros_sum (suc n) = omega (arith, zeros_sum n)

zeros_degree : (degree : ℕ) → degree_of (zero_curve degree) ≡ degree
zeros_degree degree = let places = length-replicate {A = ℤ} degree (pos 0) in omega arith

zeros_accepted : (parity : Parity) (degree : ℕ) → 1 ≤ degree → degree < list_room → Accepted false parity (zero_curve degree)
zeros_accepted parity degree from to =
    (covered_accepted false parity (zero_curve degree)).1 (record {
      degree_from = omega (arith, zeros_degree degree);
      degree_to = omega (arith, zeros_degree degree);
      magnitudes = rw (zeros_sum (suc degree)) (omega arith);
      right_parity = λ j left_out. get_d_replicate (pos 0) (suc degree) j;
      foldable = λ folded. absurd (false≢true folded);
    })

-- the lengths of the buffers
list_places : length no_coefficients ≡ list_room
unfolding no_coefficients
list_places = length-replicate {A = ℤ} list_room (pos 0)

bound_places : length no_bounds ≡ list_room
unfolding no_bounds
bound_places = length-replicate {A = ℕ} list_room 0

step_places : length no_steps ≡ step_room
unfolding no_steps
step_places = length-replicate {A = ℕ} step_room 0

pub zeros_weighed : ZerosWeighed
zeros_weighed letters degree from to =
    let strategy = strategy_of letters in
    let parity = parity_of letters in
    let basis = basis_of letters in
    let curve = zero_curve degree in
    let accepted = zeros_accepted parity degree from to in
    let brings = rooms_enough strategy parity basis false curve minus_one plus_one no_coefficients no_bounds no_steps accepted ones_ordered
    (omega (arith, list_places)) (omega (arith, bound_places)) (omega (arith, step_places)) in
    plans_weighed strategy parity basis false curve minus_one plus_one no_coefficients no_bounds no_steps
    (plan_answer strategy parity basis false curve minus_one plus_one no_coefficients no_bounds no_steps)
    (plan_coefficients strategy parity basis false curve minus_one plus_one no_coefficients no_bounds no_steps)
    (plan_boundaries strategy parity basis false curve minus_one plus_one no_coefficients no_bounds no_steps)
    (plan_numbers strategy parity basis false curve minus_one plus_one no_coefficients no_bounds no_steps) 30 20 brings
    (record { answer = refl; coefficients = refl; boundaries = refl; numbers = refl }) (omega arith) (omega arith)
