-- Each member of a set is right. The common powers can be made and hold what the member needs, so its steps behind them leave its value (CommonRun), from
-- which the fold law makes the value of the curve handed in. The set's buffers hold the member's lists and steps, so the walk of its plan, put together
-- from them, is that of the lists and steps; and the trial walk follows.
use mathlib.Core.Path.{◌≡◌, refl, sym, ◌∙◌, ap, ap₂, subst}
use mathlib.Core.Bool.{Bool, true, false, cond, ◌&&◌}
use mathlib.Core.List.Memᴰ
use mathlib.Core.List.{List, [], ◌∷◌, ◌++◌, map, append-nil, append_assoc, Memᴰ}
use mathlib.Core.Option.{some}
use Prim.Native.Nat.{ℕ, zero, suc, ◌+◌, ◌*◌, ◌≤◌, ◌<◌}
use native.Mathlib.Omega.{arith}
use lib.Dec.{eqb}
use lib.IntN.{ℤ, pos}
use lib.ListN.{length, take, drop, length-append, length-map}
use lib.Seq.{sets, take_at, drop_at}
use Rattle.algebra.specs.Operations.{whole_ops}
use Rattle.algebra.specs.Value.{value}
use Rattle.algebra.specs.Transform.{input_of}
use Rattle.number.specs.Limits.{plan_limit}
use Rattle.number.proofs.FirstRefusal.{when_accepted}
use Rattle.needed.proofs.Promises.{needed_powers}
use Rattle.counts.specs.Choice.{split_for}
use Rattle.lists.specs.Tree.{Tree, leaf, cut, relists}
use Rattle.lists.specs.Arrange.{leaves_of}
use Rattle.lists.specs.Lists.{joined}
use Rattle.lists.proofs.ListCall.{front}
use Rattle.walk.specs.Rules.{exact_rules}
use Rattle.walk.specs.Lent.{exact_walk}
use Rattle.walk.specs.WalksHeld.{flat, numbered, Holds}
use Rattle.walk.specs.declared.plan.Head.{Head}
use Rattle.walk.specs.declared.plan.Step.{Step}
use Rattle.walk.proofs.FlatSteps.{flat_length, flat_append}
use Rattle.walk.proofs.WalksHeld.{walks_held}
use Rattle.plan.specs.PlanSteps.{make_step, combine_step, combine_kind, last_plain, tree_steps, list_steps, power_steps, steps_at}
use Rattle.plan.specs.Reported.{of_kind}
use Rattle.plan.specs.PlanHead.{head_of}
use Rattle.plan.specs.PlanCall.{planned_parity, planned_transform, Accepted, planned, planned_degree, numbers_for}
use Rattle.plan.proofs.StepCounts.{combines}
use Rattle.sets.specs.Members.{Curve}
use Rattle.sets.specs.Own.{own_split, own_tree, own_powers, own_steps, own_boundaries, member_head, member_coefficients}
use Rattle.sets.specs.SetPlan.{heads_of, set_coefficients, set_powers, common_steps, member_steps, set_steps, set_boundaries, set_of, coefficient_count}
use Rattle.sets.specs.SetPlan.{list_count, own_step_count, set_step_count}
use Rattle.sets.specs.SetCall.{curves, set_refusal, set_answer, set_coefficients_left, set_boundaries_left, set_numbers_left}
use Rattle.sets.specs.SetSizes.{set_sizes_of}
use Rattle.demands.specs.Right.{steps_for, Stored}
use Rattle.demands.specs.SetAccepts.{GoodSet}
use Rattle.demands.specs.SetPowers.{NeededBySome, needed_by, OneBasis}
use Rattle.demands.specs.SetRight.{member_lists, loaded_in, counted_from, MembersAsAlone, steps_with_powers, MembersRight, SetStored, composed_head}
use Rattle.demands.specs.SetRight.{own_coefficients, own_bounds, composed_steps, ComposedRight, SetStoredRight, SetsRight}
use Rattle.demands.proofs.Accepts.{plannable}
use Rattle.demands.proofs.MadeBefore.{runs_made_before}
use Rattle.demands.proofs.Right.{walked_back, walks_by, from_one, ordered, coefficients_length, holds}
use Rattle.demands.proofs.CommonRun.{Common, common_walk}
use Rattle.demands.proofs.SetPowers.{sets_share}
use Rattle.demands.proofs.SetAccepts.{covered_sets_accepted, set_made}
use Rattle.demands.proofs.Parts.{part_of, heads_parts, own_steps_length, own_boundaries_length, steps_total, boundaries_alone, boundaries_total}
use Rattle.demands.proofs.Parts.{coefficients_total}

-- ---- the common powers can be made

-- a head's degree is one of a plan
pub head_range : (curve : Curve) → Accepted curve.member.fold curve.member.parity curve.coefficients
    → (0 < (member_head curve).degree) × ((member_head curve).degree ≤ plan_limit)
unfolding head_of
head_range curve accepted =
    let facts = plannable curve.member.fold curve.member.parity curve.member.basis curve.coefficients accepted in
    (omega (arith, facts.several), facts.few)

head_basis : (curve : Curve) → (member_head curve).basis ≡ curve.member.basis
unfolding head_of
head_basis curve = refl

module _ (all : List Curve) (good : GoodSet all) where
  abbrev heads : List Head
  heads = heads_of all

  -- what holds of each curve's head, holds of each head
  each_head : (P : Head → Type 0) → ((one : Curve) → Memᴰ one all → P (member_head one)) → (head : Head) → Memᴰ head heads → P head
  each_head P of head member =
      let found = Memᴰ.of_map member_head all member in
      subst P found.2 (of found.0 found.1)

  one_basis : (curve : Curve) → Memᴰ curve all → OneBasis curve.member.basis heads
  one_basis curve here = each_head (λ (head : Head). head.basis ≡ curve.member.basis)
      (λ one there. head_basis one ∙ (good.settings one curve there here).basis)

  pub from_two : (m : ℕ) → NeededBySome heads m → 2 ≤ m
  from_two m (needed_by head member needed) =
      (needed_powers head.parity head.basis head.degree (own_split head)).from_two m needed

  pub to_limit : (m : ℕ) → NeededBySome heads m → m ≤ plan_limit
  to_limit m (needed_by head member needed) =
      let range = each_head (λ (one : Head). (0 < one.degree) × (one.degree ≤ plan_limit)) (λ one there. head_range one (good.accepted one there))
      head member in
      let few = range.1 in
      let within = (needed_powers head.parity head.basis head.degree (own_split head)).within range.0 m needed in
      omega arith

  common : (curve : Curve) → Memᴰ curve all → Common curve.member.basis (NeededBySome heads) (set_powers heads)
  common curve here =
      let share = sets_share heads in
      record {
        makeable = record {
          closed = (share.least curve.member.basis (one_basis curve here)).closed;
          from_two = from_two;
          to_limit = to_limit;
        };
        rising = share.rising;
        listed = share.listed;
      }

-- ---- what a member has of its own

loaded_append : (xs ys : List Step) → loaded_in (xs ++ ys) ≡ loaded_in xs ++ loaded_in ys
unfolding loaded_in
loaded_append [] ys = refl
loaded_append (x ∷ xs) ys = by (eqb x.kind 2) (loaded_append xs ys)
  where
    by : (loads : Bool) → loaded_in (xs ++ ys) ≡ loaded_in xs ++ loaded_in ys
        → cond loads (x.x ∷ loaded_in (xs ++ ys)) (loaded_in (xs ++ ys)) ≡ cond loads (x.x ∷ loaded_in xs) (loaded_in xs) ++ loaded_in ys
    by true rest = ap (x.x ∷◌) rest
    by false rest = rest

counted_append : (n a b : ℕ) → counted_from n a ++ counted_from (n + a) b ≡ counted_from n (a + b)
unfolding counted_from
counted_append n zero b =
    let same : n + 0 ≡ n = omega arith in
    let none : b ≡ 0 + b = omega arith in
    ap₂ counted_from same none
counted_append n (suc a) b =
    let same : n + suc a ≡ suc n + a = omega arith in
    let more : suc (a + b) ≡ suc a + b = omega arith in
    ap (n ∷◌) (ap (λ (k : ℕ). counted_from (suc n) a ++ counted_from k b) same ∙ counted_append (suc n) a b) ∙ ap (counted_from n) more

-- a combine loads nothing
combine_loads : (test : Bool) (p : ℕ) → loaded_in (combine_step (cond test 4 3) p ∷ []) ≡ []
unfolding loaded_in
combine_loads true p = refl
combine_loads false p = refl

-- a tree's steps load its lists in order
tree_loads : (plain : Bool) (tree : Tree) (i : ℕ) → loaded_in (tree_steps plain tree i) ≡ counted_from i (leaves_of tree)
unfolding tree_steps leaves_of loaded_in counted_from combine_kind
tree_loads plain leaf i = refl
tree_loads plain (cut p low high) i =
    let last = combine_step (combine_kind plain high) p ∷ [] in
    loaded_append (tree_steps false low i) (tree_steps plain high (i + leaves_of low) ++ last)
    ∙ ap₂ ◌++◌ (tree_loads false low i)
    (loaded_append (tree_steps plain high (i + leaves_of low)) last
    ∙ ap₂ ◌++◌ (tree_loads plain high (i + leaves_of low)) (combine_loads (plain && eqb (leaves_of high) 1) p)
    ∙ append-nil (counted_from (i + leaves_of low) (leaves_of high)))
    ∙ counted_append i (leaves_of low) (leaves_of high)

own_loads : (curve : Curve) → loaded_in (own_steps (member_head curve)) ≡ counted_from 0 (member_head curve).lists
unfolding head_of own_steps list_steps
own_loads curve = let head = member_head curve in tree_loads (last_plain head.degree (own_tree head)) (own_tree head) 0

pub own_ones : (head : Head) → of_kind 1 (own_steps head) ≡ 0
unfolding own_steps list_steps
own_ones head = (combines (last_plain head.degree (own_tree head)) (own_tree head) 0).ones

pub alone_planned : (curve : Curve)
    → steps_for curve.member.strategy curve.member.parity curve.member.basis curve.member.fold curve.coefficients
    ≡ map make_step (own_powers (member_head curve)) ++ own_steps (member_head curve)
unfolding head_of own_steps own_powers steps_at power_steps
alone_planned curve = refl

pub members_as_alone : MembersAsAlone
members_as_alone curve accepted = record {
  steps = alone_planned curve;
  no_powers = own_ones (member_head curve);
  boundaries = boundaries_alone curve accepted;
  boundaries_afresh =
      boundaries_alone curve accepted
      ∙ (ordered curve.member.strategy curve.member.parity curve.member.basis curve.member.fold curve.coefficients accepted).ends 0;
  numbers_afresh = own_loads curve;
}

-- ---- the steps

pub members_right : MembersRight
unfolding head_of common_steps own_steps
members_right all curve x good here =
    let strategy = curve.member.strategy in
    let parity = curve.member.parity in
    let basis = curve.member.basis in
    let folded = curve.member.fold in
    let c = curve.coefficients in
    let accepted = good.accepted curve here in
    let facts = plannable folded parity basis c accepted in
    walked_back strategy parity basis folded c x (numbered (member_lists curve)) (steps_with_powers all curve) accepted
    (common_walk (relists strategy) (planned_parity folded parity) basis
    (split_for strategy (planned_parity folded parity) basis (planned_degree strategy parity basis folded c))
    (planned strategy parity basis folded c) (input_of whole_ops (planned_transform folded parity basis) x) (from_one strategy parity basis folded c accepted)
    facts.several facts.few facts.fits (NeededBySome (heads_of all)) (set_powers (heads_of all)) (common all good curve here)
    (λ m needed. needed_by (member_head curve) (Memᴰ.map member_head here) needed))

-- ---- the buffers

-- a list in three parts, and what stands behind
three : {A : Type 0} (xs ys zs more : List A) → (xs ++ (ys ++ zs)) ++ more ≡ xs ++ (ys ++ (zs ++ more))
three xs ys zs more = append_assoc xs (ys ++ zs) more ∙ ap (xs ++◌) (append_assoc ys zs more)

-- how many common steps there are, and how many steps in all
common_length : (heads : List Head) → length (common_steps heads) ≡ length (set_powers heads)
unfolding common_steps
common_length heads = length-map (set_powers heads) make_step

pub set_steps_length : (list : List Curve) → length (set_steps (heads_of list)) ≡ set_step_count (heads_of list)
unfolding set_steps
set_steps_length list =
    length-append (common_steps (heads_of list)) (member_steps (heads_of list)) ∙ ap₂ ◌+◌ (common_length (heads_of list)) (steps_total list)

module _ (before after : List Curve) (curve : Curve) where
  abbrev all : List Curve
  all = before ++ (curve ∷ after)

  here : Memᴰ curve all
  here = Memᴰ.append_right before (Memᴰ.head refl)

  -- the member's part of the coefficients and of the boundaries
  coefficients_part : (coefficients more : List ℤ) → GoodSet all → coefficients ≡ set_coefficients all ++ more
      → own_coefficients (heads_of before) (member_head curve) coefficients ≡ member_coefficients curve
  unfolding set_coefficients
  coefficients_part coefficients more good are =
      let own = member_coefficients curve in
      let behind = set_coefficients after ++ more in
      let parts = are ∙ ap (◌++ more) (part_of member_coefficients before after curve)
      ∙ three (set_coefficients before) own (set_coefficients after) more in
      let size = coefficients_length curve.member.strategy curve.member.parity curve.member.basis curve.member.fold curve.coefficients
      (good.accepted curve here) curve.member.a curve.member.b in
      ap (λ (l : List ℤ). take (member_head curve).coefficients (drop (coefficient_count (heads_of before)) l)) parts
      ∙ ap (take (member_head curve).coefficients) (drop_at (set_coefficients before) (own ++ behind) (coefficient_count (heads_of before))
      (coefficients_total before (λ one member. good.accepted one (Memᴰ.append_left (curve ∷ after) member))))
      ∙ take_at own behind (member_head curve).coefficients size

  bounds_part : (bounds more : List ℕ) → bounds ≡ set_boundaries (heads_of all) ++ more
      → own_bounds (heads_of before) (member_head curve) bounds ≡ own_boundaries (member_head curve)
  unfolding set_boundaries
  bounds_part bounds more are =
      let own = own_boundaries (member_head curve) in
      let behind = set_boundaries (heads_of after) ++ more in
      let split = ap (λ (l : List Head). joined (map own_boundaries l)) (heads_parts before after curve)
      ∙ part_of own_boundaries (heads_of before) (heads_of after) (member_head curve) in
      let parts = are ∙ ap (◌++ more) split ∙ three (set_boundaries (heads_of before)) own (set_boundaries (heads_of after)) more in
      ap (λ (l : List ℕ). take (member_head curve).lists (drop (list_count (heads_of before)) l)) parts
      ∙ ap (take (member_head curve).lists) (drop_at (set_boundaries (heads_of before)) (own ++ behind) (list_count (heads_of before))
      (boundaries_total before))
      ∙ take_at own behind (member_head curve).lists (own_boundaries_length curve)

  -- the common steps with the member's own behind them
  steps_part : (steps more : List ℕ) → steps ≡ flat (set_steps (heads_of all)) ++ more
      → composed_steps (length (set_powers (heads_of all))) (heads_of before) (member_head curve) steps ≡ flat (steps_with_powers all curve)
  unfolding set_steps member_steps
  steps_part steps more are =
      let powers = length (set_powers (heads_of all)) in
      let common_are = common_steps (heads_of all) in
      let first = member_steps (heads_of before) in
      let own = own_steps (member_head curve) in
      let last = member_steps (heads_of after) in
      let split : member_steps (heads_of all) ≡ first ++ (own ++ last) =
      ap (λ (l : List Head). joined (map own_steps l)) (heads_parts before after curve)
      ∙ part_of own_steps (heads_of before) (heads_of after) (member_head curve) in
      let flat_split_lem : flat (member_steps (heads_of all)) ≡ flat first ++ (flat own ++ flat last) =
      ap flat split ∙ flat_append first (own ++ last) ∙ ap (flat first ++◌) (flat_append own last) in
      let behind = flat last ++ more in
      let whole : steps ≡ flat common_are ++ (flat first ++ (flat own ++ behind)) =
      are ∙ ap (◌++ more) (flat_append common_are (member_steps (heads_of all)))
      ∙ append_assoc (flat common_are) (flat (member_steps (heads_of all))) more
      ∙ ap (flat common_are ++◌) (ap (◌++ more) flat_split_lem ∙ three (flat first) (flat own) (flat last) more) in
      let common_size : length (flat common_are) ≡ 4 * powers = flat_length common_are ∙ ap (4 *◌) (common_length (heads_of all)) in
      let first_size : length (flat first) ≡ 4 * own_step_count (heads_of before) = flat_length first ∙ ap (4 *◌) (steps_total before) in
      let own_size : length (flat own) ≡ 4 * (member_head curve).steps = flat_length own ∙ ap (4 *◌) (own_steps_length curve) in
      let both_size : length (flat common_are ++ flat first) ≡ 4 * (powers + own_step_count (heads_of before)) =
      omega (arith, length-append (flat common_are) (flat first)) in
      ap₂ ◌++◌ (ap (take (4 * powers)) whole ∙ take_at (flat common_are) (flat first ++ (flat own ++ behind)) (4 * powers) common_size)
      (ap (take (4 * (member_head curve).steps))
      (ap (drop (4 * (powers + own_step_count (heads_of before)))) (whole ∙ sym (append_assoc (flat common_are) (flat first) (flat own ++ behind)))
      ∙ drop_at (flat common_are ++ flat first) (flat own ++ behind) (4 * (powers + own_step_count (heads_of before))) both_size)
      ∙ take_at (flat own) behind (4 * (member_head curve).steps) own_size)
      ∙ sym (flat_append common_are own)

module _ (all : List Curve) (curve : Curve) (good : GoodSet all) (here : Memᴰ curve all) where
  abbrev head : Head
  head = composed_head (length (set_powers (heads_of all))) (member_head curve)

  -- buffers that hold the member's lists and boundaries, and the common steps with its own behind them
  module _ (coefficients more : List ℤ) (bounds more_bounds steps more_steps : List ℕ) (coefficients_are : coefficients ≡ member_coefficients curve ++ more)
      (bounds_are : bounds ≡ own_boundaries (member_head curve) ++ more_bounds) (steps_are : steps ≡ flat (steps_with_powers all curve) ++ more_steps) where
    composed_holds : Holds head coefficients bounds steps (member_lists curve) (steps_with_powers all curve)
    unfolding head_of
    composed_holds =
        let strategy = curve.member.strategy in
        let parity = curve.member.parity in
        let basis = curve.member.basis in
        let folded = curve.member.fold in
        let c = curve.coefficients in
        let accepted = good.accepted curve here in
        let alone = numbers_for strategy parity basis folded c in
        let stored_alone : Stored strategy parity basis folded c coefficients bounds alone = record {
          more_coefficients = more;
          more_bounds = more_bounds;
          more_steps = [];
          coefficients_are = coefficients_are;
          bounds_are = bounds_are ∙ ap (◌++ more_bounds) (boundaries_alone curve accepted);
          steps_are = sym (append-nil alone);
        } in
        let as_alone = holds strategy parity basis folded c accepted curve.member.a curve.member.b coefficients bounds alone stored_alone in
        record {
          coefficient_count_lem = as_alone.coefficient_count_lem;
          list_count_lem = as_alone.list_count_lem;
          step_count_lem = ap₂ ◌+◌ (sym (common_length (heads_of all))) (sym (own_steps_length curve))
              ∙ sym (length-append (common_steps (heads_of all)) (own_steps (member_head curve)));
          filled = as_alone.filled;
          more_coefficients = as_alone.more_coefficients;
          more_bounds = as_alone.more_bounds;
          more_steps = more_steps;
          coefficients_are = as_alone.coefficients_are;
          bounds_are = as_alone.bounds_are;
          steps_are = steps_are;
        }

    composed_exact : (x : ℤ) → exact_walk head coefficients bounds steps x ≡ some (value whole_ops curve.member.basis x curve.coefficients)
    composed_exact x =
        walks_held ℤ exact_rules head coefficients bounds steps (member_lists curve) (steps_with_powers all curve) x composed_holds
        ∙ members_right all curve x good here

pub set_stored_right : SetStoredRight
unfolding set_of
set_stored_right all before after curve coefficients bounds steps good is stored =
    let split : GoodSet (before ++ (curve ∷ after)) = subst GoodSet is good in
    let held = subst (λ (l : List Curve). SetStored l coefficients bounds steps) is stored in
    subst (λ (l : List Curve). ComposedRight (length (set_powers (heads_of l))) (heads_of before) curve coefficients bounds steps) (sym is)
    (by split held)
  where
    by : GoodSet (before ++ (curve ∷ after)) → SetStored (before ++ (curve ∷ after)) coefficients bounds steps
        → ComposedRight (length (set_powers (heads_of (before ++ (curve ∷ after))))) (heads_of before) curve coefficients bounds steps
    by split held =
        let whole = before ++ (curve ∷ after) in
        let powers = length (set_powers (heads_of whole)) in
        let lists = coefficients_part before after curve coefficients held.more_coefficients split held.coefficients_are in
        let ends = bounds_part before after curve bounds held.more_bounds held.bounds_are in
        let numbers = steps_part before after curve steps held.more_steps held.steps_are in
        let exact = composed_exact whole curve split (here before after curve) in
        record {
          walks = λ x more more_bounds more_steps.
              walks_by (composed_head powers (member_head curve)) _ _ _ curve.member.basis curve.coefficients x
              (exact _ more _ more_bounds _ more_steps (ap (◌++ more) lists) (ap (◌++ more_bounds) ends) (ap (◌++ more_steps) numbers) x);
          made_before =
              runs_made_before ℤ exact_rules (composed_head powers (member_head curve)) _ _ _ (pos 0) _
              (exact _ [] _ [] _ [] (lists ∙ sym (append-nil (member_coefficients curve))) (ends ∙ sym (append-nil (own_boundaries (member_head curve))))
              (numbers ∙ sym (append-nil (flat (steps_with_powers whole curve)))) (pos 0));
        }

-- ---- the call

pub sets_right : SetsRight
unfolding set_answer set_coefficients_left set_boundaries_left set_numbers_left set_sizes_of
sets_right handed c out bounds steps r out' bounds' steps' brings call =
    let all = curves handed c in
    let good = ((covered_sets_accepted handed c).0 brings.accepted).good in
    let room = brings.long_enough in
    let done : set_refusal handed c out bounds steps ≡ 0 = set_made handed c out bounds steps brings in
    let answer_is = call.answer ∙ sym (when_accepted _ _ done) in
    let xs = set_coefficients all in
    let es = set_boundaries (heads_of all) in
    let ns = flat (set_steps (heads_of all)) in
    let xs_length = coefficients_total all good.accepted in
    let es_length = boundaries_total all in
    let ns_length : length ns ≡ 4 * set_step_count (heads_of all) = flat_length (set_steps (heads_of all)) ∙ ap (4 *◌) (set_steps_length all) in
    let stored_is : SetStored all out' bounds' steps' = record {
      more_coefficients = drop (length xs) out;
      more_bounds = drop (length es) bounds;
      more_steps = drop (length ns) steps;
      coefficients_are = call.coefficients ∙ sym (when_accepted (sets out 0 xs) out done) ∙ front xs out (omega (arith, room.coefficients));
      bounds_are = call.boundaries ∙ sym (when_accepted (sets bounds 0 es) bounds done) ∙ front es bounds (omega (arith, room.boundaries));
      steps_are = call.numbers ∙ sym (when_accepted (sets steps 0 ns) steps done) ∙ front ns steps (omega (arith, room.numbers));
    } in
    record {
      answer = answer_is;
      stored = stored_is;
      coefficients_beyond = ap (λ (n : ℕ). drop n out) xs_length;
      bounds_beyond = ap (λ (n : ℕ). drop n bounds) es_length;
      steps_beyond = ap (λ (n : ℕ). drop n steps) ns_length;
      members = λ before after curve is. rw answer_is (set_stored_right all before after curve out' bounds' steps' good is stored_is);
    }
