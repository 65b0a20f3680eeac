-- The counts of a set are those of its steps and lists. Power steps are of kind 1, and no load or combine is; the boundaries that a member has in the
-- buffer tell the lengths of its lists; and the transform is that of any member, since the settings that decide it are the same.
use mathlib.Core.Path.{◌≡◌, refl, sym, ◌∙◌, ap, ap₂}
use mathlib.Core.Bool.{Bool, true, false}
use mathlib.Core.List.Memᴰ
use mathlib.Core.List.{List, [], ◌∷◌, ◌++◌, map, append_assoc}
use Prim.Native.Nat.{ℕ, ◌+◌}
use native.Mathlib.Omega.{arith}
use lib.ListN.{length, take, drop}
use lib.Seq.{take_at, drop_at}
use Rattle.algebra.specs.Transform.{transform_of}
use Rattle.algebra.specs.declared.Basis.{Basis}
use Rattle.algebra.specs.declared.Basis.TheVariants.{Monomial, Chebyshev}
use Rattle.algebra.specs.declared.Parity.{Parity}
use Rattle.algebra.specs.declared.Parity.TheVariants.{Even, Odd}
use Rattle.needed.specs.NeededList.{needed_list}
use Rattle.lists.specs.Lists.{joined}
use Rattle.walk.specs.Lent.{steps_from}
use Rattle.walk.specs.declared.plan.Head.{Head}
use Rattle.walk.proofs.FlatSteps.{flat_steps}
use Rattle.plan.specs.PlanSteps.{make_step, power_steps, steps_at}
use Rattle.plan.specs.Reported.{of_kind, allowed_in, reported}
use Rattle.plan.specs.PlanHead.{head_of}
use Rattle.plan.specs.PlanCall.{planned_transform, Accepted}
use Rattle.plan.proofs.StepCounts.{kinds_append, makes}
use Rattle.sets.specs.Members.{total, Curve}
use Rattle.sets.specs.Own.{own_split, own_steps, own_boundaries, own_lengths, alone_head, member_head}
use Rattle.sets.specs.SetPlan.{heads_of, set_powers, common_steps, member_steps, set_steps, shared_cost, set_ct, set_pt, set_of, set_step_count, set_boundaries}
use Rattle.sets.specs.SetCall.{curves, SetPlanned}
use Rattle.demands.specs.Counted.{lengths_from}
use Rattle.demands.specs.SetCounted.{allowed_over, SetsReport, SharedCostsTold, SetsWritten}
use Rattle.demands.proofs.Counted.{boundaries_read}
use Rattle.demands.proofs.SetAccepts.{covered_sets_accepted}
use Rattle.demands.proofs.Parts.{AllAccepted, own_boundaries_length, boundaries_alone, boundaries_total, coefficients_total}
use Rattle.demands.proofs.SetRight.{own_ones, set_steps_length, sets_right}
use Rattle.demands.proofs.SetAnswer.{heads_length}

-- ---- kinds

member_ones : (heads : List Head) → of_kind 1 (joined (map own_steps heads)) ≡ 0
unfolding joined of_kind
member_ones [] = refl
member_ones (head ∷ heads) =
    kinds_append 1 (own_steps head) (joined (map own_steps heads)) ∙ ap₂ ◌+◌ (own_ones head) (member_ones heads)

-- a step of kind 1 for each power of the union
pub power_steps_lem : (heads : List Head) → of_kind 1 (set_steps heads) ≡ length (set_powers heads)
unfolding set_steps common_steps member_steps
power_steps_lem heads =
    kinds_append 1 (common_steps heads) (member_steps heads) ∙ ap₂ ◌+◌ (makes (set_powers heads)).ones (member_ones heads) ∙ omega arith

-- ---- plain ones

-- those of one member, by its lists and steps
alone_pt : (curve : Curve)
    → (alone_head curve).pt ≡ allowed_in (member_head curve).parity (own_lengths (member_head curve)) + of_kind 4 (own_steps (member_head curve))
unfolding head_of reported own_lengths own_steps steps_at power_steps
alone_pt curve =
    let head = member_head curve in
    ap (λ (n : ℕ). allowed_in head.parity (own_lengths head) + n)
    (kinds_append 4 (map make_step (needed_list head.parity head.basis head.degree (own_split head))) (own_steps head)
    ∙ ap (◌+ of_kind 4 (own_steps head)) (makes (needed_list head.parity head.basis head.degree (own_split head))).fours ∙ omega arith)

member_plains : (curves : List Curve)
    → total (map (λ (head : Head). allowed_in head.parity (own_lengths head)) (heads_of curves)) + of_kind 4 (joined (map own_steps (heads_of curves)))
    ≡ total (map (λ (head : Head). head.pt) (heads_of curves))
unfolding total joined of_kind
member_plains [] = refl
member_plains (curve ∷ curves) =
    let own = alone_pt curve in
    let rest = member_plains curves in
    let fours = kinds_append 4 (own_steps (member_head curve)) (joined (map own_steps (heads_of curves))) in
    omega (arith, own, rest, fours)

pub plains_add : (curves : List Curve) → set_pt (heads_of curves) ≡ total (map (λ (head : Head). head.pt) (heads_of curves))
unfolding set_pt set_steps common_steps member_steps
plains_add curves =
    let heads = heads_of curves in
    let fours = kinds_append 4 (common_steps heads) (member_steps heads) in
    let none = (makes (set_powers heads)).fours in
    omega (arith, fours, none, member_plains curves)

-- the lengths of a member's lists, by its boundaries
own_lengths_lem : (curve : Curve) → Accepted curve.member.fold curve.member.parity curve.coefficients
    → lengths_from 0 (own_boundaries (member_head curve)) ≡ own_lengths (member_head curve)
unfolding head_of own_lengths
own_lengths_lem curve accepted =
    ap (lengths_from 0) (boundaries_alone curve accepted)
    ∙ boundaries_read curve.member.strategy curve.member.parity curve.member.basis curve.member.fold curve.coefficients accepted

allowed_over_lem : (curves : List Curve) (more : List ℕ) → AllAccepted curves
    → allowed_over (heads_of curves) (set_boundaries (heads_of curves) ++ more)
    ≡ total (map (λ (head : Head). allowed_in head.parity (own_lengths head)) (heads_of curves))
unfolding allowed_over set_boundaries joined total
allowed_over_lem [] more accepted = refl
allowed_over_lem (curve ∷ curves) more accepted =
    let head = member_head curve in
    let own = own_boundaries head in
    let rest = joined (map own_boundaries (heads_of curves)) in
    let bounds = (own ++ rest) ++ more in
    let parts = append_assoc own rest more in
    let front : take head.lists bounds ≡ own =
    ap (take head.lists) parts ∙ take_at own (rest ++ more) head.lists (own_boundaries_length curve) in
    let behind : drop head.lists bounds ≡ rest ++ more =
    ap (drop head.lists) parts ∙ drop_at own (rest ++ more) head.lists (own_boundaries_length curve) in
    ap₂ ◌+◌
    (ap (λ (l : List ℕ). allowed_in head.parity (lengths_from 0 l)) front
    ∙ ap (allowed_in head.parity) (own_lengths_lem curve (accepted curve (Memᴰ.head refl))))
    (ap (allowed_over (heads_of curves)) behind ∙ allowed_over_lem curves more (λ one member. accepted one (Memᴰ.tail member)))

-- ---- what the call reports

pub sets_report : SetsReport
unfolding set_of set_ct set_pt
sets_report handed c out bounds steps r out' bounds' steps' brings call =
    let all = curves handed c in
    let right = sets_right handed c out bounds steps r out' bounds' steps' brings call in
    let good = ((covered_sets_accepted handed c).0 brings.accepted).good in
    let answer = right.answer in
    let stored = right.stored in
    let steps_are : steps_from steps' 0 (set_step_count (heads_of all)) ≡ set_steps (heads_of all) =
    ap₂ (λ (l : List ℕ) (n : ℕ). steps_from l 0 n) stored.steps_are (sym (set_steps_length all))
    ∙ flat_steps (set_steps (heads_of all)) stored.more_steps in
    let allowed : allowed_over (heads_of all) bounds'
    ≡ total (map (λ (head : Head). allowed_in head.parity (own_lengths head)) (heads_of all)) =
    ap (allowed_over (heads_of all)) stored.bounds_are ∙ allowed_over_lem all stored.more_bounds good.accepted in
    rw steps_are (record {
      power_steps_lem = power_steps_lem (heads_of all);
      encrypted = ap (λ (s : SetPlanned). s.set.ct) answer;
      plain = ap (λ (s : SetPlanned). s.set.pt) answer ∙ ap (◌+ of_kind 4 (set_steps (heads_of all))) (sym allowed);
      plains_add = ap (λ (s : SetPlanned). s.set.pt) answer ∙ plains_add all;
    })

-- ---- the transform

cost_even : (basis : Basis) (n : ℕ) → shared_cost (transform_of Even basis) n ≡ 1
unfolding transform_of
cost_even Monomial n = refl
cost_even Chebyshev n = refl

cost_odd : (basis : Basis) (n : ℕ) → shared_cost (transform_of Odd basis) n ≡ 1 + n
unfolding transform_of
cost_odd Monomial n = refl
cost_odd Chebyshev n = refl

cost_by : (fold wanted : Bool) (parity for : Parity) (basis : Basis) (n m : ℕ) → fold ≡ wanted → parity ≡ for
    → shared_cost (planned_transform wanted for basis) n ≡ m → shared_cost (planned_transform fold parity basis) n ≡ m
cost_by fold wanted parity for basis n m folds is cost = rw (folds, is) cost

pub shared_costs_told : SharedCostsTold
unfolding head_of
shared_costs_told [] curve good member = absurd (Memᴰ.not-nil member)
shared_costs_told (first ∷ curves) curve good member =
    let n = length (heads_of (first ∷ curves)) in
    let fold = first.member.fold in
    let parity = first.member.parity in
    let basis = first.member.basis in
    let same = good.settings first curve (Memᴰ.head refl) member in
    record {
      unfolded = λ no. cost_by fold false parity parity basis n 0 (same.fold ∙ no) refl refl;
      even = λ yes is. let folds = same.fold ∙ yes in
          cost_by fold true parity Even basis n 1 folds (same.parity folds ∙ is) (cost_even basis n);
      odd = λ yes is. let folds = same.fold ∙ yes in
          cost_by fold true parity Odd basis n (1 + length (first ∷ curves)) folds (same.parity folds ∙ is)
          (cost_odd basis n ∙ ap (1 +◌) (heads_length (first ∷ curves)));
    }

-- ---- the totals

pub sets_written : SetsWritten
sets_written curves good = record {
  coefficients = coefficients_total curves good.accepted;
  boundaries = boundaries_total curves;
  steps = set_steps_length curves;
}
