-- A set saves: by one member more the union grows by at most the powers that this member needs, the combines add up, and the transform's multiplications
-- are at most those of the one and of the others.
use mathlib.Core.Path.{◌≡◌, refl, sym, ◌∙◌, ap}
use mathlib.Core.Bool.{Bool, true, false}
use mathlib.Core.List.{List, [], ◌∷◌, map, Memᴰ}
use Prim.Native.Nat.{ℕ, suc, ◌+◌, ◌≤◌, ◌<◌}
use native.Mathlib.Decide.{ℕ_discrete, dec_lt}
use native.Mathlib.Omega.{arith}
use borrow.Author.Tests.{lt-ltb, le-ltb, eq-eqb, ne_eqb}
use lib.ListN.{length}
use Rattle.algebra.specs.declared.PolynomialInputTransform.{PolynomialInputTransform}
use Rattle.algebra.specs.declared.PolynomialInputTransform.TheVariants.{Identity, Square, SquareTimesInput, ChebyshevT2, ChebyshevT2TimesInput}
use Rattle.lists.specs.Lists.{joined}
use Rattle.walk.specs.declared.plan.Head.{Head}
use Rattle.plan.specs.PlanSteps.{make_step}
use Rattle.plan.specs.PlanHead.{head_of}
use Rattle.plan.specs.PlanCall.{planned_transform}
use Rattle.plan.specs.Reported.{of_kind}
use Rattle.plan.proofs.StepCounts.{kinds_append, makes}
use Rattle.sets.specs.Members.{total, Curve}
use Rattle.sets.specs.Union.{inserted, merged, union_of}
use Rattle.sets.specs.Own.{own_powers, own_steps, member_head}
use Rattle.sets.specs.SetPlan.{heads_of, set_powers, common_steps, member_steps, set_steps, shared_cost, set_cost, set_ct}
use Rattle.demands.specs.SetAccepts.{SameSettings}
use Rattle.demands.specs.SetSaves.{SetsSave}
use Rattle.demands.proofs.SetOne.{one_powers, ones_planned}

-- ---- the union

inserted_length : (n : ℕ) (ms : List ℕ) → length (inserted n ms) ≤ suc (length ms)
unfolding inserted
inserted_length n [] = omega arith
inserted_length n (m ∷ ms) = by (inserted_length n ms) (dec_lt n m) (ℕ_discrete n m)
  where
    by : length (inserted n ms) ≤ suc (length ms) → Dec (n < m) → Dec (n ≡ m) → length (inserted n (m ∷ ms)) ≤ suc (length (m ∷ ms))
    by behind (yes less) same = rw (lt-ltb n m less) (omega arith)
    by behind (no more) (yes same) = rw (le-ltb n m (omega arith), eq-eqb n m same) (omega arith)
    by behind (no more) (no other) = rw (le-ltb n m (omega arith), ne_eqb n m other) (omega arith)

merged_length : (ns ms : List ℕ) → length (merged ns ms) ≤ length ns + length ms
unfolding merged
merged_length [] ms = omega arith
merged_length (n ∷ ns) ms = omega (arith, inserted_length n (merged ns ms), merged_length ns ms)

-- ---- the combines

threes : (heads : List Head) → of_kind 3 (set_steps heads) ≡ of_kind 3 (member_steps heads)
unfolding set_steps common_steps
threes heads =
    let both = kinds_append 3 (map make_step (set_powers heads)) (member_steps heads) in
    omega (arith, (makes (set_powers heads)).threes)

threes_more : (head : Head) (heads : List Head) → of_kind 3 (member_steps (head ∷ heads)) ≡ of_kind 3 (own_steps head) + of_kind 3 (member_steps heads)
unfolding member_steps joined
threes_more head heads = kinds_append 3 (own_steps head) (joined (map own_steps heads))

no_threes : of_kind 3 (member_steps []) ≡ 0
unfolding member_steps joined of_kind
no_threes = refl

-- ---- the transform

shared_more : (transform : PolynomialInputTransform) (n : ℕ) → shared_cost transform (suc n) ≤ shared_cost transform 1 + shared_cost transform n
shared_more Identity n = omega arith
shared_more Square n = omega arith
shared_more SquareTimesInput n = omega arith
shared_more ChebyshevT2 n = omega arith
shared_more ChebyshevT2TimesInput n = omega arith

same_transform : (one other : Curve) → SameSettings one.member other.member → (member_head one).transform ≡ (member_head other).transform
unfolding head_of
same_transform one other same = by one.member.fold refl
  where
    by : (f : Bool) → one.member.fold ≡ f
        → planned_transform one.member.fold one.member.parity one.member.basis
        ≡ planned_transform other.member.fold other.member.parity other.member.basis
    by true is = rw (is, sym same.fold ∙ is, same.parity is, same.basis)
    by false is = rw (is, sym same.fold ∙ is)

cost_more : (curve : Curve) (curves : List Curve)
    → ((other : Curve) → Memᴰ other curves → SameSettings curve.member other.member)
    → set_cost (heads_of (curve ∷ curves)) ≤ set_cost (heads_of (curve ∷ [])) + set_cost (heads_of curves)
cost_more curve [] same = omega arith
cost_more curve (other ∷ curves) same =
    let n = length (heads_of (other ∷ curves)) in
    let transform = (member_head curve).transform in
    let shared = shared_more transform n in
    let others = ap (λ (t : PolynomialInputTransform). shared_cost t n) (same_transform curve other (same other (Memᴰ.head refl))) in
    omega (arith, shared, others)

-- ---- one member more

set_more : (curve : Curve) (curves : List Curve)
    → ((other : Curve) → Memᴰ other curves → SameSettings curve.member other.member)
    → set_ct (heads_of (curve ∷ curves)) ≤ set_ct (heads_of (curve ∷ [])) + set_ct (heads_of curves)
unfolding set_ct set_powers union_of
set_more curve curves same =
    let head = member_head curve in
    let heads = heads_of curves in
    let one : length (set_powers (head ∷ [])) ≡ length (own_powers head) = ap length (one_powers head) in
    omega (
      arith,
      merged_length (own_powers head) (union_of (map own_powers heads)),
      one,
      threes (head ∷ heads),
      threes (head ∷ []),
      threes heads,
      threes_more head heads,
      threes_more head [],
      no_threes,
      cost_more curve curves same,
    )

-- of no member there is nothing
none_set : set_ct [] ≡ 0
unfolding set_ct set_powers union_of set_steps common_steps member_steps joined of_kind
none_set = refl

pub sets_save : SetsSave
unfolding total
sets_save [] good = omega (arith, none_set)
sets_save (curve ∷ curves) good =
    let rest = sets_save curves (record {
      accepted = λ one member. good.accepted one (Memᴰ.tail member);
      ordered = λ one member. good.ordered one (Memᴰ.tail member);
      settings = λ one other first second. good.settings one other (Memᴰ.tail first) (Memᴰ.tail second);
    }) in
    let own = (ones_planned curve (good.accepted curve (Memᴰ.head refl))).ct in
    omega (arith, set_more curve curves (λ other member. good.settings curve other (Memᴰ.head refl) (Memᴰ.tail member)), own, rest)
