-- How the call that plans a set ends: with a right plan, or with the number of the first test that holds. The tests of 35 and 36 are the first two, and no
-- other test has such a number; behind them a member's own tests decide where those of the members before it pass, and these are the tests that a plan
-- call makes ahead of 21.
use mathlib.Core.Path.{◌≡◌, refl, sym, ◌∙◌, ap, subst}
use mathlib.Core.Logic.{⊎_elim, ◌↔◌}
use mathlib.Core.Bool.{Bool, true, false, not, cond, ◌||◌, true≢false, false≢true}
use mathlib.Core.List.Memᴰ
use mathlib.Core.List.{List, [], ◌∷◌, ◌++◌, map, map-append, Memᴰ}
use Prim.Native.Nat.{ℕ, zero, suc, ◌*◌, ◌≤◌, ◌<◌}
use native.Mathlib.Omega.{arith}
use borrow.Author.Tests.{ltb-true, lt-ltb, eqb-true, eq-eqb}
use lib.Dec.{ltb, eqb}
use lib.IntN.{ℤ}
use lib.ListN.{length, replicate}
use Rattle.std.proofs.lemmas.Bool.{or_cases, or_left, or_right}
use Rattle.number.specs.Interval.{Ordered}
use Rattle.number.specs.Refusal.{Test, first_refusal, Numbered}
use Rattle.number.specs.Tests.{unordered}
use Rattle.number.proofs.FirstRefusal.{numbered_append, first_kept, first_of_more, NumbersTo, first_most, numbers_append, refusal_of, when_refused}
use Rattle.lists.specs.Lists.{joined}
use Rattle.walk.specs.declared.plan.Head.{Head}
use Rattle.plan.specs.Reported.{of_kind}
use Rattle.plan.specs.PlanHead.{no_head}
use Rattle.plan.specs.PlanCall.{input_tests, Accepted, plan_refusal}
use Rattle.plan.proofs.PlanTests.{inputs_to, early_numbered, early_passed}
use Rattle.sets.specs.Members.{members_in, total, Curve, handed_count, all_alike}
use Rattle.sets.specs.Union.{union_of}
use Rattle.sets.specs.Own.{alone_head}
use Rattle.sets.specs.SetPlan.{member_limit, heads_of, set_powers, common_steps, member_steps, set_steps, set_ct, set_pt, set_of}
use Rattle.sets.specs.SetCall.{no_set, own_tests, room_tests, curves, ahead_tests, set_tests, set_refusal, set_answer, set_coefficients_left, SetPlanned}
use Rattle.sets.specs.SetCall.{set_boundaries_left}
use Rattle.sets.specs.SetCall.{set_numbers_left, SetCall}
use Rattle.sets.specs.declared.member.Members.{Members}
use Rattle.demands.specs.Total.{ZeroHead}
use Rattle.demands.specs.SetTotal.{ZeroSet, SetsTotal, SetsMade, SetOrder, BadSet, no_member_lem, too_many, past_slice, Unlike, SetRefusalsTold}
use Rattle.demands.proofs.Refusals.{late_tests}
use Rattle.demands.proofs.Total.{ends, refusal_is, zero_head}
use Rattle.demands.proofs.JoinedTests.{joined_numbers, joined_to, first_refused}
use Rattle.demands.proofs.Alike.{unlike_told}
use Rattle.demands.proofs.SetAccepts.{own_numbered, ahead_numbered, late_decides, set_brings, set_made}
use Rattle.demands.proofs.SetRight.{sets_right}

-- ---- any arguments

-- what stands in a list of one thing, again and again
in_replicate : {X : Type 0} (n : ℕ) (x y : X) → Memᴰ y (replicate n x) → y ≡ x
in_replicate zero x y member = absurd (Memᴰ.not-nil member)
in_replicate (suc n) x y member =
    ⊎_elim (λ (e : y ≡ x). e) (λ (later : Memᴰ y (replicate n x)). in_replicate n x y later) (Memᴰ.cases_cons member)

-- an empty set is all zero
empty_zero : ZeroSet no_set
unfolding set_of set_ct set_pt set_steps common_steps member_steps set_powers union_of joined total of_kind
empty_zero = record {
  ct = refl;
  pt = refl;
  powers = refl;
  heads = refl;
  zero_heads = λ head member. subst ZeroHead (sym (in_replicate 16 no_head head member)) zero_head;
}

module _ (handed : Members) (c out : List ℤ) (bounds steps : List ℕ) (r : SetPlanned) (out' : List ℤ) (bounds' steps' : List ℕ)
    (call : SetCall handed c out bounds steps r out' bounds' steps') where
  abbrev refusal : ℕ
  refusal = set_refusal handed c out bounds steps

  set_numbered : Numbered (set_tests handed c out bounds steps)
  set_numbered =
      numbered_append (ahead_tests handed c) (room_tests (heads_of (curves handed c)) (length out) (length bounds) (length steps))
      (ahead_numbered handed c) (omega arith, (omega arith, (omega arith, tt)))

  pub set_refusal_is : r.refusal ≡ refusal
  unfolding set_answer
  set_refusal_is = ap (λ (s : SetPlanned). s.refusal) call.answer ∙ refusal_of refusal _ _ (λ (s : SetPlanned). s.refusal) refl refl

  no_set_lem : 0 < refusal → r.set ≡ no_set
  unfolding set_answer
  no_set_lem some_test = ap (λ (s : SetPlanned). s.set) (call.answer ∙ sym (when_refused refusal _ _ some_test))

pub sets_total : SetsTotal
unfolding set_refusal set_coefficients_left set_boundaries_left set_numbers_left
sets_total handed c out bounds steps r out' bounds' steps' call =
    let refusal = set_refusal_is handed c out bounds steps r out' bounds' steps' call in
    ends (set_tests handed c out bounds steps) r.refusal (set_numbered handed c out bounds steps r out' bounds' steps' call) refusal
    (λ accepted.
    sets_right handed c out bounds steps r out' bounds' steps' (set_brings handed c out bounds steps (sym refusal ∙ accepted)) call)
    (λ refused. let some_test : 0 < set_refusal handed c out bounds steps = rw refusal at refused in
    record {
      zero_set = subst ZeroSet (sym (no_set_lem handed c out bounds steps r out' bounds' steps' call some_test)) empty_zero;
      coefficients = call.coefficients ∙ sym (when_refused _ _ out some_test);
      boundaries = call.boundaries ∙ sym (when_refused _ _ bounds some_test);
      numbers = call.numbers ∙ sym (when_refused _ _ steps some_test);
    })

pub sets_made : SetsMade
sets_made handed c out bounds steps r out' bounds' steps' call =
    let refusal = set_refusal_is handed c out bounds steps r out' bounds' steps' call in (
      λ made. set_brings handed c out bounds steps (sym refusal ∙ made),
      λ brings. refusal ∙ set_made handed c out bounds steps brings,
    )

-- ---- the numbers of the tests

pub set_order : SetOrder
set_order handed c out bounds steps = ap (λ (l : List ℕ). 35 ∷ 36 ∷ l)
    (map-append (λ (test : Test). test.1) (joined (map own_tests (curves handed c))) _
    ∙ ap (◌++ (21 ∷ 22 ∷ 23 ∷ [])) (joined_numbers own_tests (curves handed c)))

-- behind 35 and 36 no number is greater than 23
own_numbers : (curve : Curve) → NumbersTo 23 (own_tests curve)
own_numbers curve =
    numbers_append 23 (input_tests curve.member.fold curve.member.parity curve.coefficients)
    (unordered curve.member.a curve.member.b ∷ [])
    (inputs_to 23 (omega arith) curve.member.fold curve.member.parity curve.coefficients) (omega arith, tt)

-- ---- 35 and 36

thirty_five : (bad unlike : Bool) (rest : ℕ) → rest ≤ 23 → (cond bad 35 (cond unlike 36 rest) ≡ 35) ↔ (bad ≡ true)
thirty_five true unlike rest most = (λ is. refl, λ is. refl)
thirty_five false true rest most = (λ is. absurd (omega arith), λ is. absurd (false≢true is))
thirty_five false false rest most = (λ is. absurd (omega arith), λ is. absurd (false≢true is))

thirty_six : (bad unlike : Bool) (rest : ℕ) → rest ≤ 23 → (cond bad 35 (cond unlike 36 rest) ≡ 36) ↔ ((bad ≡ false) × (unlike ≡ true))
thirty_six true unlike rest most = (λ is. absurd (omega arith), λ is. absurd (true≢false is.0))
thirty_six false true rest most = (λ is. (refl, refl), λ is. refl)
thirty_six false false rest most = (λ is. absurd (omega arith), λ is. absurd (false≢true is.1))

neither : (bad unlike : Bool) (rest : ℕ) → bad ≡ false → unlike ≡ false → cond bad 35 (cond unlike 36 rest) ≡ rest
neither bad unlike rest good alike = rw (good, alike)

-- a flag that is not up
down : (flag : Bool) → (flag ≡ true → ⊥) → flag ≡ false
down true never = absurd (never refl)
down false never = refl

module _ (handed : Members) (c : List ℤ) where
  abbrev bad : Bool
  bad = eqb handed.count 0 || (ltb member_limit handed.count || ltb (length c) (handed_count (members_in handed)))

  abbrev unlike : Bool
  unlike = not (all_alike (members_in handed))

  found : bad ≡ true → BadSet handed c
  found is =
      ⊎_elim (λ (none : eqb handed.count 0 ≡ true). no_member_lem (eqb-true handed.count 0 none))
      (λ (more : (ltb member_limit handed.count || ltb (length c) (handed_count (members_in handed))) ≡ true).
      ⊎_elim (λ (many : ltb member_limit handed.count ≡ true). too_many (ltb-true member_limit handed.count many))
      (λ (past : ltb (length c) (handed_count (members_in handed)) ≡ true). past_slice (ltb-true (length c) (handed_count (members_in handed)) past))
      (or_cases (ltb member_limit handed.count) (ltb (length c) (handed_count (members_in handed))) more))
      (or_cases (eqb handed.count 0) (ltb member_limit handed.count || ltb (length c) (handed_count (members_in handed))) is)

  told : BadSet handed c → bad ≡ true
  told (no_member_lem none) = or_left (eqb handed.count 0) _ (eq-eqb handed.count 0 none)
  told (too_many many) =
      or_right (eqb handed.count 0) _ (or_left (ltb member_limit handed.count) _ (lt-ltb member_limit handed.count many))
  told (past_slice past) =
      or_right (eqb handed.count 0) _
      (or_right (ltb member_limit handed.count) _ (lt-ltb (length c) (handed_count (members_in handed)) past))

  not_bad : (BadSet handed c → ⊥) → bad ≡ false
  not_bad never = down bad (λ is. never (found is))

  never_bad : bad ≡ false → BadSet handed c → ⊥
  never_bad good bad_set_lem = true≢false (sym (told bad_set_lem) ∙ good)

  differs : unlike ≡ true → Unlike handed
  differs is = (unlike_told handed).0 (by (all_alike (members_in handed)) is)
    where
      by : (all : Bool) → not all ≡ true → all ≡ false
      by true is = absurd (false≢true is)
      by false is = refl

  unlike_by : Unlike handed → unlike ≡ true
  unlike_by some = ap not ((unlike_told handed).1 some)

  like : (Unlike handed → ⊥) → unlike ≡ false
  like never = down unlike (λ is. never (differs is))

-- ---- a member's own refusal

-- 21, 22 and 23 are not below 21
late_from : (out bounds steps : Bool) → 0 < first_refusal ((out, 21) ∷ (bounds, 22) ∷ (steps, 23) ∷ [])
    → first_refusal ((out, 21) ∷ (bounds, 22) ∷ (steps, 23) ∷ []) < 21 → ⊥
late_from true bounds steps some below = omega arith
late_from false true steps some below = omega arith
late_from false false true some below = omega arith
late_from false false false some below = omega arith

-- a plan call's refusal below 21 is that of the tests ahead of 21
module _ (curve : Curve) (out : List ℤ) (bounds steps : List ℕ) where
  abbrev alone : ℕ
  alone =
      plan_refusal curve.member.strategy curve.member.parity curve.member.basis curve.member.fold curve.coefficients
      curve.member.a curve.member.b out bounds steps

  abbrev head : Head
  head = alone_head curve

  abbrev behind : List Test
  behind =
      late_tests curve.member.strategy curve.member.parity curve.member.basis curve.member.fold curve.coefficients
      curve.member.a curve.member.b out bounds steps

  own_refusal : 0 < alone → alone < 21 → alone ≡ first_refusal (own_tests curve)
  unfolding plan_refusal
  own_refusal some below = by (first_refusal (own_tests curve)) refl
    where
      by : (k : ℕ) → first_refusal (own_tests curve) ≡ k → first_refusal (own_tests curve ++ behind) ≡ first_refusal (own_tests curve)
      by zero none =
          let late : first_refusal (own_tests curve ++ behind) ≡ first_refusal behind =
          first_of_more (own_tests curve) behind
          (early_numbered curve.member.fold curve.member.parity curve.coefficients curve.member.a curve.member.b) none in
          absurd (late_from (ltb (length out) head.coefficients) (ltb (length bounds) head.lists) (ltb (length steps) (4 * head.steps))
          (omega (arith, late, some)) (omega (arith, late, below)))
      by (suc k) more = first_kept (own_tests curve) behind (omega arith)

-- of members of which those before one pass, its own tests decide
own_first : (before after : List Curve) (curve : Curve) (late : List Test)
    → ((one : Curve) → Memᴰ one before
    → Accepted one.member.fold one.member.parity one.coefficients × Ordered one.member.a one.member.b)
    → 0 < first_refusal (own_tests curve)
    → first_refusal (joined (map own_tests (before ++ (curve ∷ after))) ++ late) ≡ first_refusal (own_tests curve)
own_first before after curve late pass some =
    let own = first_refused own_tests own_numbered before after curve (λ one member.
    early_passed one.member.fold one.member.parity one.coefficients one.member.a one.member.b (pass one member).0
    (pass one member).1) some in
    first_kept (joined (map own_tests (before ++ (curve ∷ after)))) late (omega (arith, own)) ∙ own

-- ---- all refusals

pub set_refusals_told : SetRefusalsTold
unfolding set_refusal
set_refusals_told handed c out bounds steps r out' bounds' steps' call =
    let is = set_refusal_is handed c out bounds steps r out' bounds' steps' call in
    let late = room_tests (heads_of (curves handed c)) (length out) (length bounds) (length steps) in
    let rest = first_refusal (joined (map own_tests (curves handed c)) ++ late) in
    let most : rest ≤ 23 =
    first_most 23 (joined (map own_tests (curves handed c)) ++ late)
    (numbers_append 23 (joined (map own_tests (curves handed c))) late (joined_to own_tests 23 own_numbers (curves handed c))
    (omega arith, (omega arith, (omega arith, tt)))) in
    let first = thirty_five (bad handed c) (unlike handed c) rest most in
    let second = thirty_six (bad handed c) (unlike handed c) rest most in
    record {
      bad_set_lem = (λ said. found handed c (first.0 (sym is ∙ said)), λ bad_set_lem. is ∙ first.1 (told handed c bad_set_lem));
      unlike = (
        λ said. let flags = second.0 (sym is ∙ said) in (never_bad handed c flags.0, differs handed c flags.1),
        λ some. is ∙ second.1 (not_bad handed c some.0, unlike_by handed c some.1),
      );
      own = λ never alike before after curve parts pass out₁ bounds₁ steps₁ alone_is out₂ bounds₂ steps₂ planned some below.
          let alone_refusal = refusal_is curve.member.strategy curve.member.parity curve.member.basis curve.member.fold curve.coefficients
          curve.member.a curve.member.b out₁ bounds₁ steps₁ alone_is out₂ bounds₂ steps₂ planned in
          let own = own_refusal curve out₁ bounds₁ steps₁ (omega (arith, alone_refusal)) (omega (arith, alone_refusal)) in
          is
          ∙ neither (bad handed c) (unlike handed c) rest (not_bad handed c never) (like handed c alike)
          ∙ ap (λ (l : List Curve). first_refusal (joined (map own_tests l) ++ late)) parts
          ∙ own_first before after curve late pass (omega (arith, alone_refusal, own))
          ∙ sym (alone_refusal ∙ own);
      late = λ accepted. is ∙ late_decides handed c out bounds steps accepted;
    }
