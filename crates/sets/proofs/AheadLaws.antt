-- The tests of a set ahead of those of the buffers, one by one.
use mathlib.Core.Path.{◌≡◌, sym, ◌∙◌, ap}
use mathlib.Core.Bool.{Bool, true, false, not}
use mathlib.Core.List.{List, map}
use Prim.Native.Nat.{ℕ, ◌≤◌, ◌<◌}
use borrow.Author.Tests.{eq-eqb, ne_eqb, lt-ltb, le-ltb, ltb-false, not-true, not-false}
use lib.Dec.{ltb}
use lib.IntN.{ℤ}
use lib.ListN.{length}
use Rattle.number.specs.Refusal.{first_refusal}
use Rattle.lists.specs.Lists.{joined}
use Rattle.sets.specs.Members.{members_in, handed_count, all_alike}
use Rattle.sets.specs.SetPlan.{member_limit}
use Rattle.sets.specs.SetCall.{own_tests, curves, ahead_tests}
use Rattle.sets.specs.declared.member.Members.{Members}

module _ (handed : Members) (c : List ℤ) where
  abbrev answer : ℕ
  answer = first_refusal (ahead_tests handed c)

  pub ahead_none : handed.count ≡ 0 → 35 ≡ answer
  ahead_none none = sym (rw (eq-eqb handed.count 0 none))

  pub ahead_many : (handed.count ≡ 0 → ⊥) → member_limit < handed.count → 35 ≡ answer
  ahead_many some many = sym (rw (ne_eqb handed.count 0 some, lt-ltb member_limit handed.count many))

  module _ (some : handed.count ≡ 0 → ⊥) (few : handed.count ≤ member_limit) {slice : ℕ} (slice_is : slice ≡ length c) {fit : Bool}
      (fit_is : fit ≡ not (ltb slice (handed_count (members_in handed)))) where
    passes : fit ≡ true → ltb (length c) (handed_count (members_in handed)) ≡ false
    passes fits =
        let none : ltb slice (handed_count (members_in handed)) ≡ false = not-true _ (sym fit_is ∙ fits) in
        ap (λ (n : ℕ). ltb n (handed_count (members_in handed))) (sym slice_is) ∙ none

    pub ahead_long : fit ≡ false → 35 ≡ answer
    ahead_long fails =
        let over : ltb slice (handed_count (members_in handed)) ≡ true = not-false _ (sym fit_is ∙ fails) in
        let long = ap (λ (n : ℕ). ltb n (handed_count (members_in handed))) (sym slice_is) ∙ over in
        sym (rw (ne_eqb handed.count 0 some, le-ltb member_limit handed.count few, long))

    pub ahead_within : fit ≡ true → handed_count (members_in handed) ≤ length c
    ahead_within fits = ltb-false (length c) (handed_count (members_in handed)) (passes fits)

    pub ahead_unlike : {same : Bool} → fit ≡ true → same ≡ all_alike (members_in handed) → same ≡ false → 36 ≡ answer
    ahead_unlike {same} fits same_is fails =
        sym (rw (ne_eqb handed.count 0 some, le-ltb member_limit handed.count few, passes fits, sym same_is ∙ fails))

    pub ahead_own : {same : Bool} {k : ℕ} → fit ≡ true → same ≡ all_alike (members_in handed) → same ≡ true
        → k ≡ first_refusal (joined (map own_tests (curves handed c))) → k ≡ answer
    ahead_own {same} fits same_is alike k_is =
        k_is ∙ sym (rw (ne_eqb handed.count 0 some, le-ltb member_limit handed.count few, passes fits, sym same_is ∙ alike))
