-- The lists of a member, over plain values: what its head tells is what the writer of lists asks for.
use mathlib.Core.Path.{◌≡◌, refl, sym, ◌∙◌, ap}
use mathlib.Core.Bool.{Bool}
use mathlib.Core.List.{List}
use Prim.Native.Nat.{ℕ, suc, ◌-◌}
use native.Mathlib.Omega.{arith}
use lib.IntN.{ℤ}
use lib.ListN.{length}
use lib.Seq.{sets}
use Rattle.algebra.specs.declared.Parity.{Parity}
use Rattle.number.specs.Limits.{plan_limit}
use Rattle.number.specs.Tests.{degree_of}
use Rattle.number.specs.inside.Between.{Between}
use Rattle.counts.specs.Choice.{split_for}
use Rattle.lists.specs.Tree.{plan_tree}
use Rattle.lists.specs.Arrange.{leaves_of, ends_of}
use Rattle.walk.specs.declared.plan.Head.{Head}
use Rattle.plan.specs.PlanHead.{head_of}
use Rattle.plan.specs.PlanCall.{planned_coefficients, planned_parity}
use Rattle.plan.specs.inside.Filling.{planned_count, CoefficientsFit, ListsFit, ListsPut}
use Rattle.plan.proofs.PlanTests.{Passed, passed, degree_range, degree_planned, planned_length}
use Rattle.sets.specs.Own.{own_split, own_steps, own_boundaries}
use Rattle.sets.specs.inside.Heads.{HeadFits}
use Rattle.sets.specs.declared.member.Member.{Member}
use Rattle.set_plan.specs.inside.Filling.{MemberFits, MemberPut}

module _ {member : Member} {head : Head} {list : ℕ} {c out : List ℤ} {bounds : List ℕ} (fits : MemberFits member head list c out bounds) where
  abbrev q : List ℤ
  q = planned_coefficients member.fold member.parity member.basis c

  abbrev parity : Parity
  parity = planned_parity member.fold member.parity

  tests : Passed member.fold member.parity c
  tests = passed member.fold member.parity c fits.accepted

  -- the planned degree is within the limits
  degrees : Between 1 (degree_of q) plan_limit
  degrees =
      let range = degree_range member.fold member.parity (degree_of c) tests.settings in
      let same = ap (◌- 1) (planned_length member.fold member.parity member.basis c) ∙ degree_planned member.fold member.parity (length c) in
      record { from = omega (arith, range.from, same); to = omega (arith, range.to, same) }

  -- so what the head tells is that of a plan
  pub head_fits : HeadFits head
  unfolding head_of own_steps
  head_fits = rw fits.head_is (record { degrees = degrees; base_is = refl; coefficients_are = refl; lists_are = refl; steps_are = refl })

  count_is : head.coefficients ≡ length q
  unfolding head_of
  count_is =
      let is : head.coefficients ≡ suc (degree_of q) = ap (λ (h : Head). h.coefficients) fits.head_is in
      omega (arith, is, degrees.from)

  degree_is : head.coefficients - 1 ≡ degree_of q
  degree_is = omega (arith, count_is)

  split_is : own_split head ≡ split_for member.strategy parity member.basis (degree_of q)
  unfolding head_of
  split_is = ap own_split fits.head_is

  lists_are : head.lists ≡ leaves_of (plan_tree member.strategy parity member.basis (degree_of q))
  unfolding head_of
  lists_are = ap (λ (h : Head). h.lists) fits.head_is

  ends_are : own_boundaries head ≡ ends_of (plan_tree member.strategy parity member.basis (degree_of q)) 0 (length q)
  unfolding head_of own_boundaries
  ends_are =
      let whole : suc (degree_of q) ≡ length q = omega (arith, degrees.from) in
      ap own_boundaries fits.head_is ∙ ap (ends_of (plan_tree member.strategy parity member.basis (degree_of q)) 0) whole

  coefficients_fit : CoefficientsFit member.fold member.parity c out
  coefficients_fit =
      let size = count_is ∙ planned_length member.fold member.parity member.basis c in
      record {
        foldable = λ folds. record {
          not_full = tests.settings.not_full folds;
          room = omega (arith, size ∙ ap (λ (f : Bool). planned_count f member.parity (length c)) folds, fits.room);
        };
        copy_room = λ copies. omega (arith, size ∙ ap (λ (f : Bool). planned_count f member.parity (length c)) copies, fits.room);
        sum_limit_lem = tests.sum_limit_lem;
      }

  pub lists_fit : {split : ℕ} → split ≡ own_split head
      → ListsFit member.strategy member.parity member.basis member.fold head.coefficients split list c out bounds
  lists_fit is = record {
    coefficients_fit = coefficients_fit;
    input_limit = tests.settings.degrees.to;
    count_is = count_is;
    split_is = is ∙ split_is ∙ ap (split_for member.strategy parity member.basis) (sym degree_is);
    degrees = record { from = omega (arith, degree_is, degrees.from); to = omega (arith, degree_is, degrees.to) };
    room = fits.room;
    boundary_room = omega (
      arith,
      fits.boundary_room,
      lists_are,
      ap (λ (d : ℕ). leaves_of (plan_tree member.strategy parity member.basis d)) degree_is,
    );
  }

  pub member_put : {out' : List ℤ} {bounds' : List ℕ}
      → ListsPut member.strategy member.parity member.basis member.fold list c out bounds out' bounds'
      → MemberPut member head list c out bounds out' bounds'
  member_put put = record {
    coefficients = put.coefficients;
    boundaries = put.boundaries ∙ ap (sets bounds list) (sym ends_are);
    size = put.size ∙ sym count_is;
  }
