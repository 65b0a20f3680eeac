-- The call that plans a set, over plain values: a refusal leaves all as it was; past the tests the heads are those of the members, and the buffers can
-- be filled.
use mathlib.Core.Path.{◌≡◌, refl, sym, ◌∙◌, ap, ap₂, subst}
use mathlib.Core.Bool.{Bool, true, false, ◌||◌, true≢false}
use mathlib.Core.List.{List, [], ◌∷◌, map}
use Prim.Native.Nat.{ℕ, ◌+◌, ◌-◌, ◌≤◌, ◌<◌}
use native.Mathlib.Omega.{arith}
use borrow.Author.Tests.{ltb-false, eqb-false, not-false}
use lib.Dec.{ltb, eqb}
use lib.IntN.{ℤ}
use lib.ListN.{length, take, drop, length-append, length-map, length-drop}
use lib.Seq.{sets, length-take-le}
use Rattle.std.proofs.lemmas.List.{length-take}
use Rattle.std.specs.Prelude.{Ok}
use Rattle.algebra.specs.Each.{Each}
use Rattle.number.specs.Refusal.{Test, first_refusal, Numbered}
use Rattle.number.proofs.FirstRefusal.{none_holds, first_kept, first_of_more, first_passed, numbered_append, when_refused, when_accepted}
use Rattle.lists.specs.Lists.{joined}
use Rattle.walk.specs.WalksHeld.{flat}
use Rattle.walk.specs.declared.plan.Head.{Head}
use Rattle.plan.specs.PlanSteps.{make_step}
use Rattle.plan.specs.PlanCall.{settings_tests}
use Rattle.plan.specs.PlanSizes.{HasSizes, PlanSizes, plan_sizes_in}
use Rattle.plan.specs.inside.Filling.{buffer_refusal}
use Rattle.plan.proofs.PlanTests.{early_numbered, early_accepted, settings_accepted, buffers_fit}
use Rattle.sets.specs.Members.{Curve, members_in, curves_in, handed_count, all_alike, total}
use Rattle.sets.specs.Own.{own_steps}
use Rattle.sets.specs.SetPlan.{member_limit, heads_of, set_powers, common_steps, member_steps, set_steps, set_of}
use Rattle.sets.specs.SetPlan.{own_step_count, set_step_count}
use Rattle.sets.specs.SetCall.{bad_set, unlike_members, own_tests, room_tests, no_set, curves, ahead_tests, SetPlanned}
use Rattle.sets.specs.SetCall.{SetAccepted, set_refusal, SetCall, set_answer, set_coefficients_left, set_boundaries_left, set_numbers_left}
use Rattle.sets.specs.SetSizes.{set_sizes_of}
use Rattle.sets.specs.inside.Heads.{HeadFits}
use Rattle.sets.specs.inside.Planning.{SettingsPass, MembersPass}
use Rattle.sets.specs.inside.Writing.{SetStepsFit}
use Rattle.sets.specs.declared.member.Member.{Member}
use Rattle.sets.specs.declared.member.Members.{Members}
use Rattle.sets.specs.declared.set.CurveSet.{CurveSet}
use Rattle.sets.proofs.HeadLaws.{heads_by_lem, first_by, heads_fit, heads_size, zeros_behind}
use Rattle.set_plan.specs.inside.Counting.{RecordAsked, Outlined}
use Rattle.set_plan.specs.inside.Filling.{AllListsFit, AllListsPut}
use Rattle.set_plan.specs.declared.outline.SetOutline.{SetOutline}

-- ---- the members of an accepted set

own_numbered : (curve : Curve) → Numbered (own_tests curve)
own_numbered curve = early_numbered curve.member.fold curve.member.parity curve.coefficients curve.member.a curve.member.b

members_numbered : (list : List Curve) → Numbered (joined (map own_tests list))
unfolding joined
members_numbered [] = tt
members_numbered (curve ∷ list) = numbered_append (own_tests curve) (joined (map own_tests list)) (own_numbered curve) (members_numbered list)

-- the settings of each pass
settings_pass : (members : List Member) (c : List ℤ) → handed_count members ≤ length c → first_refusal (joined (map own_tests (curves_in members c))) ≡ 0
    → Each SettingsPass members
unfolding curves_in joined total
settings_pass [] c within passes = tt
settings_pass (member ∷ members) c within passes =
    let own = take member.count c in
    let curve : Curve = record { member = member; coefficients = own } in
    let behind = joined (map own_tests (curves_in members (drop member.count c))) in
    let mine = first_passed (own_tests curve) behind (own_numbered curve) passes in
    let size : length own ≡ member.count = length-take-le member.count c (omega (arith, within)) in
    let accepted = early_accepted member.fold member.parity own member.a member.b mine in
    let rest = sym (first_of_more (own_tests curve) behind (own_numbered curve) mine) ∙ passes in (
      subst (λ (n : ℕ). first_refusal (settings_tests member.fold member.parity (n - 1)) ≡ 0) size
          (settings_accepted member.fold member.parity own accepted),
      settings_pass members (drop member.count c) (omega (arith, within, length-drop member.count c)) rest,
    )

pub one_false : (a b : Bool) → (a || b) ≡ false → (a ≡ false) × (b ≡ false)
one_false true b none = absurd (true≢false none)
one_false false b none = (refl, none)

-- what the tests ahead of the buffers' tell
pub record Ahead (handed : Members) (c : List ℤ) : Type 0 where
  pub some : 1 ≤ handed.count
  pub few : handed.count ≤ member_limit
  pub alikes : all_alike (members_in handed) ≡ true
  pub within : handed_count (members_in handed) ≤ length c
  pub accepted : first_refusal (joined (map own_tests (curves handed c))) ≡ 0

module _ (handed : Members) (c : List ℤ) where
  abbrev front : List Test
  front = bad_set handed.count (handed_count (members_in handed)) (length c) ∷ unlike_members handed ∷ []

  abbrev own : List Test
  own = joined (map own_tests (curves handed c))

  front_numbered : Numbered front
  front_numbered = (omega arith, (omega arith, tt))

  ahead_numbered : Numbered (ahead_tests handed c)
  ahead_numbered = numbered_append front own front_numbered (members_numbered (curves handed c))

  pub ahead_tells : SetAccepted handed c → Ahead handed c
  ahead_tells accepted =
      let passed = first_passed front own front_numbered accepted in
      let none = none_holds front front_numbered passed in
      let shape = one_false (eqb handed.count 0) (ltb member_limit handed.count || ltb (length c) (handed_count (members_in handed))) none.0 in
      let sizes = one_false (ltb member_limit handed.count) (ltb (length c) (handed_count (members_in handed))) shape.1 in
      let positive = eqb-false handed.count 0 shape.0 in
      record {
        some = omega arith;
        few = ltb-false member_limit handed.count sizes.0;
        alikes = not-false (all_alike (members_in handed)) none.1.0;
        within = ltb-false (length c) (handed_count (members_in handed)) sizes.1;
        accepted = sym (first_of_more front own front_numbered passed) ∙ accepted;
      }

pub members_pass : {handed : Members} {c : List ℤ} → Ahead handed c → MembersPass (members_in handed)
members_pass {handed} {c} ahead = record {
  few = omega (arith, length-take handed.count handed.members, ahead.few);
  passes = settings_pass (members_in handed) c ahead.within ahead.accepted;
}

-- ---- the steps of members

steps_by : (heads : List Head) → Each HeadFits heads → length (member_steps heads) ≡ own_step_count heads
unfolding member_steps joined total
steps_by [] each = refl
steps_by (head ∷ heads) each =
    length-append (own_steps head) (joined (map own_steps heads)) ∙ ap₂ ◌+◌ (sym each.0.steps_are) (steps_by heads each.1)

steps_are : (heads : List Head) → Each HeadFits heads → length (set_steps heads) ≡ set_step_count heads
unfolding set_steps common_steps
steps_are heads each =
    length-append (common_steps heads) (member_steps heads) ∙ ap₂ ◌+◌ (length-map (set_powers heads) make_step) (steps_by heads each)

-- ---- the call

module _ (handed : Members) (c out : List ℤ) (bounds steps : List ℕ) where
  abbrev refusal : ℕ
  refusal = set_refusal handed c out bounds steps

  abbrev heads : List Head
  heads = heads_of (curves handed c)

  refuses : {k : ℕ} {r : SetPlanned} → refusal ≡ k → 0 < k → r ≡ record { refusal = k; set = no_set }
      → SetCall handed c out bounds steps r out bounds steps
  unfolding set_answer set_coefficients_left set_boundaries_left set_numbers_left
  refuses {k} {r} is positive r_is =
      let held : 0 < refusal = omega arith in
      record {
        answer = r_is ∙ ap (λ (n : ℕ). record { refusal = n; set = no_set }) (sym is) ∙ when_refused refusal _ _ held;
        coefficients = when_refused refusal _ out held;
        boundaries = when_refused refusal _ bounds held;
        numbers = when_refused refusal _ steps held;
      }

  -- a test ahead of the buffers' holds
  pub refused_ahead : {k : ℕ} {r : SetPlanned} → k ≡ first_refusal (ahead_tests handed c) → 0 < k → r ≡ record { refusal = k; set = no_set }
      → SetCall handed c out bounds steps r out bounds steps
  unfolding set_refusal
  refused_ahead {k} k_is positive r_is =
      let some : 0 < first_refusal (ahead_tests handed c) = omega arith in
      refuses (first_kept (ahead_tests handed c) (room_tests heads (length out) (length bounds) (length steps)) some ∙ sym k_is) positive r_is

  module _ (accepted : SetAccepted handed c) {outline : SetOutline} (outlined : Outlined (members_in handed) outline) {k : ℕ}
      (k_is : k ≡ buffer_refusal outline.sizes.coefficients outline.sizes.lists outline.sizes.steps (length out) (length bounds) (length steps)) where
    ahead : Ahead handed c
    ahead = ahead_tells handed c accepted

    pass : MembersPass (members_in handed)
    pass = members_pass ahead

    abbrev first : List Head
    first = take (length (members_in handed)) outline.heads

    same_heads : first ≡ heads
    same_heads = first_by pass outlined.heads_are ∙ sym (heads_by_lem (members_in handed) c ahead.within)

    sizes_same : plan_sizes_in (Ok outline.sizes) ≡ set_sizes_of heads
    sizes_same = outlined.sizes_are ∙ ap set_sizes_of same_heads

    -- those of the buffers decide
    room_decides : refusal ≡ first_refusal (room_tests heads (length out) (length bounds) (length steps))
    unfolding set_refusal
    room_decides =
        first_of_more (ahead_tests handed c) (room_tests heads (length out) (length bounds) (length steps)) (ahead_numbered handed c) accepted

    refusal_is : refusal ≡ k
    unfolding buffer_refusal set_sizes_of
    refusal_is =
        room_decides
        ∙ sym (k_is ∙ ap (λ (z : PlanSizes). buffer_refusal z.coefficients z.lists z.steps (length out) (length bounds) (length steps)) sizes_same)

    pub refused_room : {r : SetPlanned} → 0 < k → r ≡ record { refusal = k; set = no_set } → SetCall handed c out bounds steps r out bounds steps
    refused_room positive r_is = refuses refusal_is positive r_is

    module _ (none : k ≡ 0) where
      fit : HasSizes (set_sizes_of heads) (length out) (length bounds) (length steps)
      unfolding set_sizes_of
      fit = buffers_fit (set_sizes_of heads) (length out) (length bounds) (length steps) (sym room_decides ∙ refusal_is ∙ none)

      pub lists_room : AllListsFit (members_in handed) first c out bounds
      unfolding set_sizes_of
      lists_room = record {
        within = ahead.within;
        accepted = ahead.accepted;
        heads_fit = heads_fit pass outlined.heads_are;
        heads_are = same_heads;
        room = rw same_heads fit.coefficients;
        boundary_room = rw same_heads fit.boundaries;
      }

      pub steps_room : SetStepsFit first outline.marks steps
      unfolding set_sizes_of
      steps_room =
          let heads_fit = heads_fit pass outlined.heads_are in
          let all = steps_are first heads_fit.each in
          record {
            heads_fit = heads_fit;
            common = outlined.common;
            places = omega (arith, all, ap set_step_count same_heads, fit.numbers);
          }

      pub planned_set_lem : {out' : List ℤ} {bounds' steps' : List ℕ} {set : CurveSet} → AllListsPut (members_in handed) c out bounds out' bounds'
          → steps' ≡ sets steps 0 (flat (set_steps first)) → set ≡ set_of first
          → SetCall handed c out bounds steps (record { refusal = 0; set = set }) out' bounds' steps'
      unfolding set_answer set_coefficients_left set_boundaries_left set_numbers_left
      planned_set_lem put written set_is =
          let passes : refusal ≡ 0 = refusal_is ∙ none in
          record {
            answer = ap (λ (s : CurveSet). record { refusal = 0; set = s }) (set_is ∙ ap set_of same_heads) ∙ when_accepted _ _ passes;
            coefficients = put.coefficients ∙ when_accepted _ out passes;
            boundaries = put.boundaries ∙ when_accepted _ bounds passes;
            numbers = written ∙ ap (λ (l : List Head). sets steps 0 (flat (set_steps l))) same_heads ∙ when_accepted _ steps passes;
          }

    pub record_asked : RecordAsked outline.heads (length (members_in handed)) outline.powers
    record_asked = record {
      size = omega (arith, heads_size pass outlined.heads_are, pass.few);
      counted = outlined.counted;
      zeros = zeros_behind pass outlined.heads_are;
    }
