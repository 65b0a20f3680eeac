-- The sizes of a set are those of every plan of it. A head depends on its member's settings and the number of its coefficients alone (sets' `heads_by_lem`), so
-- the totals of the settings are those of an accepted set, against which its buffers are tested; and the tests of a member's settings are the first of its
-- own tests. A member that passes them has at most 4,096 coefficients and lists and twice as many steps (sets' `sizes_most`), and the union holds powers
-- up to 4,095.
use mathlib.Core.Path.{◌≡◌, refl, sym, ◌∙◌, ap, ap₂, subst}
use mathlib.Core.Logic.{⊎_elim}
use mathlib.Core.Bool.{Bool, true, false, not, cond, ◌||◌, false≢true}
use mathlib.Core.List.{List, [], ◌∷◌, ◌++◌, map, Memᴰ}
use Prim.Native.Nat.{ℕ, zero, suc, ◌+◌, ◌-◌, ◌*◌, ◌≤◌, ◌<◌}
use native.Mathlib.Nat.{mul-suc}
use native.Mathlib.Omega.{arith}
use borrow.Author.Tests.{le-ltb, ltb-false, ne_eqb}
use lib.Dec.{ltb, eqb}
use lib.IntN.{ℤ}
use lib.ListN.{length, take, drop, replicate, length-take, length-drop, length-map}
use lib.Seq.{length-take-le}
use Rattle.algebra.specs.declared.Parity.{Parity}
use Rattle.number.specs.Interval.{Ordered}
use Rattle.number.specs.Limits.{plan_limit, count_limit}
use Rattle.number.specs.Refusal.{Test, first_refusal, Numbered}
use Rattle.number.specs.Tests.{degree_of}
use Rattle.number.proofs.FirstRefusal.{none_holds, first_kept, first_of_more, first_passed, NumbersTo, first_most, refusal_of, when_accepted, when_refused}
use Rattle.needed.specs.Promises.{Rising, next}
use Rattle.needed.proofs.Promises.{needed_powers}
use Rattle.lists.specs.Lists.{joined}
use Rattle.walk.specs.declared.plan.Head.{Head}
use Rattle.plan.specs.PlanHead.{no_head}
use Rattle.plan.specs.PlanCall.{settings_tests, Accepted, buffer_tests}
use Rattle.plan.specs.PlanSizes.{no_sizes, HasSizes, PlanSizes}
use Rattle.plan.proofs.PlanTests.{settings_numbered, settings_accepted, early_passed}
use Rattle.sets.specs.Members.{members_in, Curve, curves_in, total, handed_count, all_alike}
use Rattle.sets.specs.Own.{own_split, head_by}
use Rattle.sets.specs.SetPlan.{member_limit, heads_of, set_powers, set_of}
use Rattle.sets.specs.SetCall.{unlike_members, own_tests, curves, ahead_tests, SetAccepted, set_refusal, SetPlanned}
use Rattle.sets.specs.SetSizes.{bad_count, member_settings_tests, set_sizes_tests, set_sizes_of, set_sizes_call}
use Rattle.sets.specs.inside.Heads.{HeadFits}
use Rattle.sets.specs.declared.member.Member.{Member}
use Rattle.sets.specs.declared.member.Members.{Members}
use Rattle.sets.proofs.HeadLaws.{heads_by_lem, sizes_most, fits_by}
use Rattle.demands.specs.SetPowers.{NeededBySome, needed_by}
use Rattle.demands.specs.SetSized.{set_sizes_in, SetsSized, SetSizesTotal, SetSizesOrder, set_coefficient_room, set_boundary_room, set_step_room, SetRoom}
use Rattle.demands.specs.SetTotal.{past_slice}
use Rattle.demands.proofs.Sized.{settings_decide}
use Rattle.demands.proofs.Total.{ends}
use Rattle.demands.proofs.JoinedTests.{joined_numbers, joined_to, joined_numbered, each_passes, all_pass, first_refused}
use Rattle.demands.proofs.SetAccepts.{one_false, own_numbered, covered_alike, covered_sets_accepted, late_decides, set_brings, set_made}
use Rattle.demands.proofs.SetPowers.{sets_share}
use Rattle.demands.proofs.SetRight.{sets_right}
use Rattle.demands.proofs.SetTotal.{set_refusal_is, set_refusals_told}

-- ---- the settings of curves

-- a member's settings, by its curve
abbrev curve_settings : Curve → List Test
curve_settings curve = settings_tests curve.member.fold curve.member.parity (degree_of curve.coefficients)

-- within the slice each curve has as many coefficients as its member counts
curve_length : (members : List Member) (c : List ℤ) → handed_count members ≤ length c → (curve : Curve) → Memᴰ curve (curves_in members c)
    → length curve.coefficients ≡ curve.member.count
unfolding curves_in total
curve_length [] c within curve member = absurd (mathlib.Core.List.Memᴰ.not-nil member)
curve_length (first ∷ members) c within curve member =
    ⊎_elim
    (λ (e : curve ≡ record { member = first; coefficients = take first.count c }). rw e (length-take-le first.count c (omega arith)))
    (λ (later : Memᴰ curve (curves_in members (drop first.count c))).
    curve_length members (drop first.count c) (omega (arith, length-drop first.count c)) curve later)
    (mathlib.Core.List.Memᴰ.cases_cons member)

-- so the settings of the curves are those of the members
settings_same : (members : List Member) (c : List ℤ) → handed_count members ≤ length c
    → map curve_settings (curves_in members c) ≡ map member_settings_tests members
unfolding curves_in total
settings_same [] c within = refl
settings_same (member ∷ members) c within =
    ap₂ ◌∷◌ (ap (λ (n : ℕ). settings_tests member.fold member.parity (n - 1)) (length-take-le member.count c (omega arith)))
    (settings_same members (drop member.count c) (omega (arith, length-drop member.count c)))

curve_numbered : (curve : Curve) → Numbered (curve_settings curve)
curve_numbered curve = settings_numbered curve.member.fold curve.member.parity (degree_of curve.coefficients)

member_numbered : (member : Member) → Numbered (member_settings_tests member)
member_numbered member = settings_numbered member.fold member.parity (member.count - 1)

-- ---- the sizes of an accepted set

module _ (handed : Members) where
  abbrev sizes : PlanSizes
  sizes = set_sizes_call handed

  abbrev refusal : ℕ
  refusal = first_refusal (set_sizes_tests handed)

  sizes_refusal_lem : sizes.refusal ≡ refusal
  unfolding set_sizes_call set_sizes_of
  sizes_refusal_lem = refusal_of refusal _ _ (λ (s : PlanSizes). s.refusal) refl refl

  module _ (c : List ℤ) where
    settings_pass_all : SetAccepted handed c → refusal ≡ 0
    settings_pass_all accepted =
        let covers = (covered_sets_accepted handed c).0 accepted in
        let passed : first_refusal (joined (map curve_settings (curves handed c))) ≡ 0 =
        all_pass curve_settings curve_numbered (curves handed c)
        (λ curve member. settings_accepted curve.member.fold curve.member.parity curve.coefficients (covers.good.accepted curve member)) in
        rw (
          ne_eqb handed.count 0 (λ none. omega (arith, covers.from)),
          le-ltb member_limit handed.count covers.to,
          covered_alike handed c covers,
        )
        (ap (λ (l : List (List Test)). first_refusal (joined l)) (sym (settings_same (members_in handed) c covers.within)) ∙ passed)

    sizes_are : SetAccepted handed c → set_sizes_of (heads_of (curves handed c)) ≡ sizes
    unfolding set_sizes_call
    sizes_are accepted =
        ap set_sizes_of (heads_by_lem (members_in handed) c ((covered_sets_accepted handed c).0 accepted).within)
        ∙ when_accepted _ _ (settings_pass_all accepted)

-- ---- the sizes that a record tells

-- zero heads add nothing
zeros_add : (f : Head → ℕ) → f no_head ≡ 0 → (heads : List Head) (n : ℕ) → total (map f (heads ++ replicate n no_head)) ≡ total (map f heads)
unfolding total
zeros_add f none [] zero = refl
zeros_add f none [] (suc n) = omega (arith, zeros_add f none [] n)
zeros_add f none (head ∷ heads) n = ap (f head +◌) (zeros_add f none heads n)

record_tells : (heads : List Head) → set_sizes_in (set_of heads) ≡ set_sizes_of heads
unfolding set_of set_sizes_of
record_tells heads =
    let more : ℕ = member_limit - length heads in
    rw (
      zeros_add (λ (head : Head). head.coefficients) refl heads more,
      zeros_add (λ (head : Head). head.lists) refl heads more,
      zeros_add (λ (head : Head). head.steps) refl heads more,
    )

-- ---- 35, 36 and behind them

-- the first two tests of both calls, and what is behind them: with the lengths within the slice they find the same
same_by : (none many past unlike : Bool) (rest here : ℕ) → past ≡ false → (cond (none || many) 35 (cond unlike 36 rest) ≡ rest → here ≡ rest)
    → cond (none || (many || past)) 35 (cond unlike 36 here) ≡ cond (none || many) 35 (cond unlike 36 rest)
same_by true many past unlike rest here within same = refl
same_by false true past unlike rest here within same = refl
same_by false false true unlike rest here within same = absurd (false≢true (sym within))
same_by false false false true rest here within same = refl
same_by false false false false rest here within same = same refl

some_by : (bad unlike : Bool) (rest : ℕ) → 0 < rest → 0 < cond bad 35 (cond unlike 36 rest)
some_by true unlike rest some = omega arith
some_by false true rest some = omega arith
some_by false false rest some = some

-- ---- against a call

module _ (handed : Members) (c out : List ℤ) (bounds steps : List ℕ) where
  abbrev Long : PlanSizes → Type 0
  Long sizes = HasSizes sizes (length out) (length bounds) (length steps)

  abbrev k : ℕ
  k = set_refusal handed c out bounds steps

  abbrev ahead : ℕ
  ahead = first_refusal (ahead_tests handed c)

  made_long : SetAccepted handed c → Long (set_sizes_call handed) → k ≡ 0
  made_long accepted long =
      set_made handed c out bounds steps (record { accepted = accepted; long_enough = subst Long (sym (sizes_are handed c accepted)) long })

  has_sizes : SetAccepted handed c → k ≡ 0 → Long (set_sizes_call handed)
  has_sizes accepted made = subst Long (sizes_are handed c accepted) (set_brings handed c out bounds steps made).long_enough

  -- with buffers of these sizes the tests ahead of 21 decide
  ahead_decides : Long (set_sizes_call handed) → k ≡ ahead
  unfolding set_refusal
  ahead_decides long = by ahead refl
    where
      by : (n : ℕ) → ahead ≡ n → k ≡ ahead
      by zero none = made_long none long ∙ sym none
      by (suc n) some = first_kept (ahead_tests handed c) _ (omega arith)

  short_decides : SetAccepted handed c → k
      ≡ first_refusal (buffer_tests (set_sizes_call handed).coefficients (set_sizes_call handed).lists (set_sizes_call handed).steps
      (length out) (length bounds) (length steps))
  unfolding set_sizes_of
  short_decides accepted =
      late_decides handed c out bounds steps accepted
      ∙ ap (λ (s : PlanSizes). first_refusal (buffer_tests s.coefficients s.lists s.steps (length out) (length bounds) (length steps)))
      (sizes_are handed c accepted)

  -- members that are refused by their sizes are refused
  refused_by_sizes : 0 < (set_sizes_call handed).refusal → 0 < k
  refused_by_sizes some = by k refl
    where
      by : (n : ℕ) → k ≡ n → 0 < n
      by zero none =
          let accepted = (set_brings handed c out bounds steps none).accepted in
          absurd (omega (arith, sizes_refusal_lem handed, settings_pass_all handed c accepted, some))
      by (suc n) more = omega arith

  module _ (within : handed_count (members_in handed) ≤ length c) where
    abbrev own : List Test
    own = joined (map own_tests (curves handed c))

    abbrev settings : ℕ
    settings = first_refusal (joined (map member_settings_tests (members_in handed)))

    settings_are : first_refusal (joined (map curve_settings (curves handed c))) ≡ settings
    settings_are = ap (λ (l : List (List Test)). first_refusal (joined l)) (settings_same (members_in handed) c within)

    -- both calls find the same ahead of 21, if they do behind 36
    same_ahead : (refusal handed ≡ settings → first_refusal own ≡ settings) → ahead ≡ refusal handed
    same_ahead =
        same_by (eqb handed.count 0) (ltb member_limit handed.count) (ltb (length c) (handed_count (members_in handed)))
        (not (all_alike (members_in handed))) settings (first_refusal own) (le-ltb (length c) (handed_count (members_in handed)) within)

    same_refused : 0 < (set_sizes_call handed).refusal → (refusal handed ≡ settings → first_refusal own ≡ settings) → k ≡ (set_sizes_call handed).refusal
    unfolding set_refusal
    same_refused some same =
        let found = same_ahead same in
        first_kept (ahead_tests handed c) _ (omega (arith, found, sizes_refusal_lem handed, some)) ∙ found ∙ sym (sizes_refusal_lem handed)

    -- the tests of the settings have numbers up to 6
    settings_most : settings ≤ 6
    settings_most =
        first_most 6 (joined (map member_settings_tests (members_in handed)))
        (joined_to member_settings_tests 6 (λ member. six member.fold member.parity (member.count - 1)) (members_in handed))
      where
        six : (folded : Bool) (parity : Parity) (degree : ℕ) → NumbersTo 6 (settings_tests folded parity degree)
        six true parity degree = (omega arith, (omega arith, (omega arith, (omega arith, tt))))
        six false parity degree = (omega arith, (omega arith, tt))

    set_refusal_same : 35 ≤ (set_sizes_call handed).refusal → k ≡ (set_sizes_call handed).refusal
    set_refusal_same high =
        same_refused (omega arith) (λ is. absurd (omega (arith, is, settings_most, sizes_refusal_lem handed, high)))

    -- where the members before one are accepted, and its settings are refused, both calls find them
    settings_refusal_same : (before after : List Curve) (curve : Curve) → curves handed c ≡ before ++ (curve ∷ after)
        → ((one : Curve) → Memᴰ one before
        → Accepted one.member.fold one.member.parity one.coefficients × Ordered one.member.a one.member.b)
        → 0 < first_refusal (member_settings_tests curve.member) → k ≡ (set_sizes_call handed).refusal
    settings_refusal_same before after curve parts pass some =
        let here : Memᴰ curve (curves handed c) =
        subst (Memᴰ curve) (sym parts) (mathlib.Core.List.Memᴰ.append_right before (mathlib.Core.List.Memᴰ.head refl)) in
        let counted : first_refusal (curve_settings curve) ≡ first_refusal (member_settings_tests curve.member) =
        ap (λ (n : ℕ). first_refusal (settings_tests curve.member.fold curve.member.parity (n - 1)))
        (curve_length (members_in handed) c within curve here) in
        let refused : 0 < first_refusal (curve_settings curve) = omega (arith, counted, some) in
        let decides = settings_decide curve.member.fold curve.member.parity curve.coefficients curve.member.a curve.member.b refused in
        let first : settings ≡ first_refusal (curve_settings curve) =
        sym settings_are ∙ ap (λ (l : List Curve). first_refusal (joined (map curve_settings l))) parts
        ∙ first_refused curve_settings curve_numbered before after curve
        (λ one member. settings_accepted one.member.fold one.member.parity one.coefficients (pass one member).0) refused in
        let own_is : first_refusal own ≡ first_refusal (own_tests curve) =
        ap (λ (l : List Curve). first_refusal (joined (map own_tests l))) parts
        ∙ first_refused own_tests own_numbered before after curve
        (λ one member. early_passed one.member.fold one.member.parity one.coefficients one.member.a one.member.b
        (pass one member).0 (pass one member).1) (omega (arith, decides, refused)) in
        let more = some_by (eqb handed.count 0 || ltb member_limit handed.count) (not (all_alike (members_in handed))) settings
        (omega (arith, first, refused)) in
        same_refused (omega (arith, sizes_refusal_lem handed, more)) (λ is. own_is ∙ decides ∙ sym first)

pub sets_sized : SetsSized
sets_sized handed c out bounds steps r out' bounds' steps' call =
    let is = set_refusal_is handed c out bounds steps r out' bounds' steps' call in
    record {
      record_sizes = λ made.
          let brings = set_brings handed c out bounds steps (sym is ∙ made) in
          let right = sets_right handed c out bounds steps r out' bounds' steps' brings call in
          ap (λ (s : SetPlanned). set_sizes_in s.set) right.answer
          ∙ record_tells (heads_of (curves handed c))
          ∙ sizes_are handed c brings.accepted;
      planned_if_long = λ accepted. (
        λ made. has_sizes handed c out bounds steps accepted (sym is ∙ made),
        λ long. is ∙ made_long handed c out bounds steps accepted long,
      );
      short_refused = λ accepted. is ∙ short_decides handed c out bounds steps accepted;
      long_decides = λ long. is ∙ ahead_decides handed c out bounds steps long;
      past_slice = λ past. (set_refusals_told handed c out bounds steps r out' bounds' steps' call).bad_set_lem.1 (past_slice past);
      refused_too = λ some. let refused = refused_by_sizes handed c out bounds steps some in omega arith;
      same_set_refusal = λ within high. is ∙ set_refusal_same handed c out bounds steps within high;
      same_refusal = λ within before after curve parts pass some.
          is ∙ settings_refusal_same handed c out bounds steps within before after curve parts pass some;
    }

-- ---- the call

pub set_sizes_total : SetSizesTotal
unfolding set_sizes_call
set_sizes_total handed =
    let is = sizes_refusal_lem handed in
    ends (set_sizes_tests handed) (set_sizes_call handed).refusal
    (omega arith, (omega arith, joined_numbered member_settings_tests member_numbered (members_in handed))) is
    (λ accepted. sym (when_accepted _ _ (sym is ∙ accepted)))
    (λ refused. sym (when_refused (refusal handed) _ _ (omega (arith, is, refused))) ∙ ap no_sizes (sym is))

pub set_sizes_order : SetSizesOrder
set_sizes_order handed = ap (λ (l : List ℕ). 35 ∷ 36 ∷ l) (joined_numbers member_settings_tests (members_in handed))

-- ---- the room

-- a rising list of numbers up to a limit is no longer than it
rising_most : (n most : ℕ) (ns : List ℕ) → Rising (n ∷ ns) → ((m : ℕ) → Memᴰ m (n ∷ ns) → m ≤ most) → n + length ns ≤ most
rising_most n most [] rising each = let here = each n (mathlib.Core.List.Memᴰ.head refl) in omega arith
rising_most n most (m ∷ ns) (next less rising) each =
    let rest = rising_most m most ns rising (λ k member. each k (mathlib.Core.List.Memᴰ.tail member)) in
    omega arith

list_most : (most : ℕ) (ns : List ℕ) → Rising ns → ((m : ℕ) → Memᴰ m ns → m ≤ most) → length ns ≤ suc most
list_most most [] rising each = omega arith
list_most most (n ∷ ns) rising each = let size = rising_most n most ns rising each in omega arith

-- a total over heads
most_over : (f : Head → ℕ) (most : ℕ) (heads : List Head) → ((head : Head) → Memᴰ head heads → f head ≤ most) → total (map f heads) ≤ most * length heads
unfolding total
most_over f most [] each = omega arith
most_over f most (head ∷ heads) each =
    let here = each head (mathlib.Core.List.Memᴰ.head refl) in
    let rest = most_over f most heads (λ one member. each one (mathlib.Core.List.Memᴰ.tail member)) in
    omega (arith, mul-suc most (length heads))

powers_over : (heads : List Head) → ((head : Head) → Memᴰ head heads → HeadFits head) → length (set_powers heads) ≤ count_limit
powers_over heads each =
    let share = sets_share heads in
    let size = list_most plan_limit (set_powers heads) share.rising (λ m member. by m ((share.listed m).0 member)) in
    omega arith
  where
    by : (m : ℕ) → NeededBySome heads m → m ≤ plan_limit
    by m (needed_by head member needed) =
        let range = (each head member).degrees in
        let within = (needed_powers head.parity head.basis head.degree (own_split head)).within range.from m needed in
        omega (arith, range.to)

room_for : (heads : List Head) → length heads ≤ member_limit → ((head : Head) → Memᴰ head heads → HeadFits head)
    → HasSizes (set_sizes_of heads) set_coefficient_room set_boundary_room set_step_room
unfolding set_sizes_of
room_for heads few each =
    let coefficients = most_over (λ (head : Head). head.coefficients) 4096 heads (λ head member. (sizes_most (each head member)).coefficients) in
    let lists = most_over (λ (head : Head). head.lists) 4096 heads (λ head member. (sizes_most (each head member)).lists) in
    let steps = most_over (λ (head : Head). head.steps) 8192 heads (λ head member. (sizes_most (each head member)).steps) in
    let powers = powers_over heads each in
    record { coefficients = omega arith; boundaries = omega arith; numbers = omega arith }

-- of members whose settings pass
room_by : (handed : Members) → refusal handed ≡ 0
    → HasSizes (set_sizes_of (map head_by (members_in handed))) set_coefficient_room set_boundary_room set_step_room
room_by handed none =
    let members = members_in handed in
    let front : List Test = bad_count handed.count ∷ unlike_members handed ∷ [] in
    let own : List Test = joined (map member_settings_tests members) in
    let passed = first_passed front own (omega arith, (omega arith, tt)) none in
    let rest : first_refusal own ≡ 0 = sym (first_of_more front own (omega arith, (omega arith, tt)) passed) ∙ none in
    let flags = none_holds front (omega arith, (omega arith, tt)) passed in
    let few = ltb-false member_limit handed.count (one_false (eqb handed.count 0) (ltb member_limit handed.count) flags.0).1 in
    room_for (map head_by members) (omega (arith, length-map members head_by, length-take handed.count handed.members))
    (λ head member.
    let found = mathlib.Core.List.Memᴰ.of_map head_by members member in
    subst HeadFits found.2 (fits_by found.0 (each_passes member_settings_tests member_numbered members rest found.0 found.1)))

enough : (handed : Members) → HasSizes (set_sizes_call handed) set_coefficient_room set_boundary_room set_step_room
unfolding set_sizes_call
enough handed = by (refusal handed) refl
  where
    by : (n : ℕ) → refusal handed ≡ n → HasSizes (set_sizes_call handed) set_coefficient_room set_boundary_room set_step_room
    by zero none = subst (λ (s : PlanSizes). HasSizes s set_coefficient_room set_boundary_room set_step_room) (when_accepted _ _ none) (room_by handed none)
    by (suc n) more = subst (λ (s : PlanSizes). HasSizes s set_coefficient_room set_boundary_room set_step_room)
        (when_refused (refusal handed) _ _ (omega arith))
        (record { coefficients = omega arith; boundaries = omega arith; numbers = omega arith })

pub set_room : SetRoom
set_room = record {
  enough = enough;
  never_short = λ handed c out bounds steps r out' bounds' steps' call many listed numbered.
      let room = enough handed in
      let long : HasSizes (set_sizes_call handed) (length out) (length bounds) (length steps) = record {
        coefficients = omega (arith, room.coefficients, many);
        boundaries = omega (arith, room.boundaries, listed);
        numbers = omega (arith, room.numbers, numbered);
      } in
      (sets_sized handed c out bounds steps r out' bounds' steps' call).long_decides long;
}
