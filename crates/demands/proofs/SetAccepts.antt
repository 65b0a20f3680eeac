-- Which sets are accepted. The tests ahead of 21 are those of 35 and 36, then those of one member after another: all pass exactly if each of them does,
-- and then a set's buffers decide.
use mathlib.Core.Path.{◌≡◌, refl, sym, ◌∙◌, ap, subst}
use mathlib.Core.Logic.{⊎_elim}
use mathlib.Core.Bool.{Bool, true, false, ◌||◌, true≢false}
use mathlib.Core.List.Memᴰ
use mathlib.Core.List.{List, [], ◌∷◌, map, Memᴰ}
use Prim.Native.Nat.{ℕ}
use native.Mathlib.Omega.{arith}
use borrow.Author.Tests.{ltb-false, le-ltb, eqb-false, ne_eqb, not-false}
use lib.Dec.{ltb, eqb}
use lib.IntN.{ℤ}
use lib.ListN.{length, take, drop}
use Rattle.number.specs.Refusal.{Test, first_refusal, Numbered}
use Rattle.number.proofs.FirstRefusal.{none_holds, numbered_append, first_of_more, first_passed}
use Rattle.lists.specs.Lists.{joined}
use Rattle.plan.specs.PlanSizes.{PlanSizes}
use Rattle.plan.proofs.PlanTests.{early_numbered, early_accepted, early_ordered, early_passed, buffers_fit, fit_passes}
use Rattle.sets.specs.Members.{members_in, Curve, curves_in, handed_count, all_alike}
use Rattle.sets.specs.SetPlan.{member_limit, heads_of}
use Rattle.sets.specs.SetCall.{bad_set, unlike_members, own_tests, room_tests, curves, ahead_tests, SetAccepted, set_refusal}
use Rattle.sets.specs.SetSizes.{set_sizes_of}
use Rattle.sets.specs.declared.member.Member.{Member}
use Rattle.sets.specs.declared.member.Members.{Members}
use Rattle.demands.specs.SetAccepts.{SameSettings, GoodSet, CoveredSet, CoveredSetsAccepted, BringsSet}
use Rattle.demands.proofs.JoinedTests.{joined_numbered, each_passes, all_pass}
use Rattle.demands.proofs.Alike.{settings_same, same_settings}

-- ---- the members' tests

pub own_numbered : (curve : Curve) → Numbered (own_tests curve)
own_numbered curve = early_numbered curve.member.fold curve.member.parity curve.coefficients curve.member.a curve.member.b

-- ---- members and curves

member_in : (members : List Member) (c : List ℤ) (curve : Curve) → Memᴰ curve (curves_in members c) → Memᴰ curve.member members
unfolding curves_in
member_in [] c curve member = absurd (Memᴰ.not-nil member)
member_in (first ∷ members) c curve member =
    ⊎_elim
    (λ (e : curve ≡ record { member = first; coefficients = take first.count c }). Memᴰ.head (ap (λ (one : Curve). one.member) e))
    (λ (later : Memᴰ curve (curves_in members (drop first.count c))). Memᴰ.tail (member_in members (drop first.count c) curve later))
    (Memᴰ.cases_cons member)

-- the curve of a member
record CurveOf (members : List Member) (c : List ℤ) (m : Member) : Type 0 where
  curve : Curve
  is : curve.member ≡ m
  within : Memᴰ curve (curves_in members c)

curve_of_lem : (members : List Member) (c : List ℤ) (m : Member) → Memᴰ m members → CurveOf members c m
unfolding curves_in
curve_of_lem [] c m member = absurd (Memᴰ.not-nil member)
curve_of_lem (first ∷ members) c m member =
    ⊎_elim
    (λ (e : m ≡ first). record {
      curve = record { member = first; coefficients = take first.count c };
      is = sym e;
      within = Memᴰ.head refl;
    })
    (λ (later : Memᴰ m members).
    let rest = curve_of_lem members (drop first.count c) m later in
    record { curve = rest.curve; is = rest.is; within = Memᴰ.tail rest.within })
    (Memᴰ.cases_cons member)

-- ---- the two tests of the set

pub one_false : (a b : Bool) → (a || b) ≡ false → (a ≡ false) × (b ≡ false)
one_false true b none = absurd (true≢false none)
one_false false b none = (refl, none)

module _ (handed : Members) (c : List ℤ) where
  abbrev front : List Test
  front = bad_set handed.count (handed_count (members_in handed)) (length c) ∷ unlike_members handed ∷ []

  abbrev own : List Test
  own = joined (map own_tests (curves handed c))

  front_numbered : Numbered front
  front_numbered = (omega arith, (omega arith, tt))

  covered : SetAccepted handed c → CoveredSet handed c
  covered accepted =
      let passed = first_passed front own front_numbered accepted in
      let none = none_holds front front_numbered passed in
      let rest : first_refusal own ≡ 0 = sym (first_of_more front own front_numbered passed) ∙ accepted in
      let shape = one_false (eqb handed.count 0) (ltb member_limit handed.count || ltb (length c) (handed_count (members_in handed))) none.0 in
      let sizes = one_false (ltb member_limit handed.count) (ltb (length c) (handed_count (members_in handed))) shape.1 in
      let some = eqb-false handed.count 0 shape.0 in
      let same = settings_same (members_in handed) (not-false (all_alike (members_in handed)) none.1.0) in
      record {
        from = omega arith;
        to = ltb-false member_limit handed.count sizes.0;
        within = ltb-false (length c) (handed_count (members_in handed)) sizes.1;
        good = record {
          accepted = λ curve member.
              early_accepted curve.member.fold curve.member.parity curve.coefficients curve.member.a curve.member.b
              (each_passes own_tests own_numbered (curves handed c) rest curve member);
          ordered = λ curve member.
              early_ordered curve.member.fold curve.member.parity curve.coefficients curve.member.a curve.member.b
              (each_passes own_tests own_numbered (curves handed c) rest curve member);
          settings = λ one other here there.
              same one.member other.member (member_in (members_in handed) c one here) (member_in (members_in handed) c other there);
        };
      }

  -- any two members have the settings in common, as their curves do
  members_same : GoodSet (curves handed c) → (one other : Member) → Memᴰ one (members_in handed) → Memᴰ other (members_in handed)
      → SameSettings one other
  members_same good one other here there =
      let first = curve_of_lem (members_in handed) c one here in
      let second = curve_of_lem (members_in handed) c other there in
      subst (λ (m : Member). SameSettings m other) first.is
      (subst (λ (m : Member). SameSettings first.curve.member m) second.is
      (good.settings first.curve second.curve first.within second.within))

  pub covered_alike : CoveredSet handed c → all_alike (members_in handed) ≡ true
  covered_alike covers = same_settings (members_in handed) (members_same covers.good)

  accepted_by : CoveredSet handed c → SetAccepted handed c
  accepted_by covers =
      rw (
        ne_eqb handed.count 0 (λ none. omega (arith, covers.from)),
        le-ltb member_limit handed.count covers.to,
        le-ltb (length c) (handed_count (members_in handed)) covers.within,
        covered_alike covers,
      )
      (all_pass own_tests own_numbered (curves handed c) (λ curve member.
      early_passed curve.member.fold curve.member.parity curve.coefficients curve.member.a curve.member.b
      (covers.good.accepted curve member) (covers.good.ordered curve member)))

  pub ahead_numbered : Numbered (ahead_tests handed c)
  ahead_numbered = numbered_append front own front_numbered (joined_numbered own_tests own_numbered (curves handed c))

pub covered_sets_accepted : CoveredSetsAccepted
covered_sets_accepted handed c = (covered handed c, accepted_by handed c)

-- ---- with the buffers

module _ (handed : Members) (c out : List ℤ) (bounds steps : List ℕ) where
  abbrev sizes : PlanSizes
  sizes = set_sizes_of (heads_of (curves handed c))

  abbrev late : List Test
  late = room_tests (heads_of (curves handed c)) (length out) (length bounds) (length steps)

  -- where a set is accepted, its buffers decide
  pub late_decides : SetAccepted handed c → set_refusal handed c out bounds steps ≡ first_refusal late
  unfolding set_refusal
  late_decides accepted = first_of_more (ahead_tests handed c) late (ahead_numbered handed c) accepted

  pub set_brings : set_refusal handed c out bounds steps ≡ 0 → BringsSet handed c out bounds steps
  unfolding set_refusal set_sizes_of
  set_brings made =
      let accepted = first_passed (ahead_tests handed c) late (ahead_numbered handed c) made in
      record {
        accepted = accepted;
        long_enough = buffers_fit sizes (length out) (length bounds) (length steps) (sym (late_decides accepted) ∙ made);
      }

  pub set_made : BringsSet handed c out bounds steps → set_refusal handed c out bounds steps ≡ 0
  unfolding set_sizes_of
  set_made brings = late_decides brings.accepted ∙ fit_passes sizes (length out) (length bounds) (length steps) brings.long_enough
