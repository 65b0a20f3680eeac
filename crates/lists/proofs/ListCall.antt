-- The list calls over plain values, from their shape on: a refusal leaves the buffers, and what the lister leaves in the front of the coefficient
-- buffer is what the call leaves. One proof for i64 and f64.
use mathlib.Core.Path.{◌≡◌, ap, ap₂, sym, ◌∙◌}
use mathlib.Core.Bool.{Bool}
use mathlib.Core.List.{List, ◌++◌, append-nil}
use Prim.Native.Nat.{ℕ, ◌+◌, ◌^◌, ◌≤◌, ◌<◌}
use native.Mathlib.Omega.{arith}
use lib.ListN.{length, take, drop, drop_of_length-le}
use lib.Seq.{sets, sets-eq, take_at}
use Rattle.std.specs.Prelude.{Result, Ok, Err}
use Rattle.std.specs.Result.{IsErrAnd}
use Rattle.algebra.specs.declared.Basis.{Basis}
use Rattle.algebra.specs.declared.Parity.{Parity}
use Rattle.number.specs.Limits.{plan_limit}
use Rattle.number.specs.Numbers.{Numbers}
use Rattle.number.specs.Refused.{refusal_number}
use Rattle.number.specs.Tests.{degree_of}
use Rattle.number.specs.declared.refusal.Refusal.{Refusal}
use Rattle.number.proofs.Refused.{refused}
use Rattle.number.specs.inside.Between.{Between}
use Rattle.number.proofs.FirstRefusal.{when_refused, when_accepted}
use Rattle.counts.specs.Choice.{split_for}
use Rattle.counts.specs.declared.choice.SplitStrategy.{SplitStrategy}
use Rattle.counts.proofs.ChoiceLaws.{split_range}
use Rattle.lists.specs.Tree.{tree_of, relists, plan_tree}
use Rattle.lists.specs.Arrange.{arranged, leaves_of, ends_of}
use Rattle.lists.specs.ListCall.{no_lists, listed_in, list_refusal, list_answer, list_coefficients, list_boundaries, ListCall}
use Rattle.lists.specs.declared.call.Listing.{Listing}
use Rattle.lists.specs.inside.Listing.{Listable, InPlace}
use Rattle.lists.specs.inside.ListTests.{early_refusal, refusal_by}
use Rattle.lists.proofs.ListTests.{Early, early_refused, late_refused, none_refused, all_passed}

-- a whole polynomial can be listed from the first place on
pub whole_listable : {A : Type 0} (leading : Bool) (split : ℕ) (c : List A) (bounds : List ℕ) → Between 1 (degree_of c) plan_limit → split ≤ 12
    → leaves_of (tree_of leading (degree_of c) (degree_of c) split) ≤ length bounds → Listable leading (degree_of c) split 0 0 c bounds
whole_listable leading split c bounds degree small long = record {
  nonempty = omega arith;
  ends_fit = omega arith;
  ranges = record { positive = omega arith; whole_limit = omega arith; part_limit = omega arith; split_limit = small };
  boundary_room = omega arith;
}

-- values at the front of a buffer
pub front : {A : Type 0} (xs out : List A) → length xs ≤ length out → sets out 0 xs ≡ xs ++ drop (length xs) out
front xs out fits = let all : 0 + length xs ≡ length xs = omega arith in sets-eq xs out 0 (omega arith) ∙ ap (λ (k : ℕ). xs ++ drop k out) all

-- and taken again
pub front_take : {A : Type 0} (xs out : List A) (n : ℕ) → length xs ≡ n → n ≤ length out → take n (sets out 0 xs) ≡ xs
front_take xs out n size fits = ap (take n) (front xs out (omega arith)) ∙ take_at xs (drop (length xs) out) n size

-- values that fill a buffer
pub put_whole : {A : Type 0} (xs out : List A) → length out ≡ length xs → sets out 0 xs ≡ xs
put_whole {A = A} xs out same = front xs out (omega arith) ∙ ap (λ (l : List A). xs ++ l) (drop_of_length-le out (omega arith)) ∙ append-nil xs

-- a call that every test passes
pub list_passed : {A : Type 0} (numbers : Numbers A) (strategy : SplitStrategy) (parity : Parity) (basis : Basis) (c out : List A) (bounds : List ℕ)
    → list_refusal numbers strategy parity basis c out bounds ≡ 0
    → Early (length c) (numbers.small c) (length out) × (leaves_of (plan_tree strategy parity basis (degree_of c)) ≤ length bounds)
unfolding list_refusal refusal_by
list_passed numbers strategy parity basis c out bounds none =
    all_passed (length c) (numbers.small c) (length out) (length bounds) (leaves_of (plan_tree strategy parity basis (degree_of c))) none

module _ {A : Type 0} (numbers : Numbers A) (strategy : SplitStrategy) (parity : Parity) (basis : Basis) (c out : List A) (bounds : List ℕ) where
  -- how many lists there are
  abbrev lists : ℕ
  lists = leaves_of (plan_tree strategy parity basis (degree_of c))

  -- ---- refused

  pub call_refused : {k : ℕ} → 0 < k → list_refusal numbers strategy parity basis c out bounds ≡ k
      → ListCall numbers strategy parity basis c out bounds (no_lists k) out bounds
  unfolding list_answer list_coefficients list_boundaries
  call_refused some is = record {
    answer = ap no_lists (sym is) ∙ when_refused _ _ _ (rw is some);
    coefficients = when_refused _ _ out (rw is some);
    boundaries = when_refused _ _ bounds (rw is some);
  }

  -- a refusal that is handed on
  pub call_handed : (refusal : Refusal) (r : Result Listing Refusal) → IsErrAnd r (λ (f : Refusal). f ≡ refusal)
      → list_refusal numbers strategy parity basis c out bounds ≡ refusal_number refusal
      → ListCall numbers strategy parity basis c out bounds (listed_in r) out bounds
  call_handed refusal (Ok listing) handed is = absurd handed
  call_handed refusal (Err f) handed is = call_refused (refused f) (is ∙ ap refusal_number (sym handed))

  -- the tests ahead of the boundaries, and then that on the boundaries
  module _ {small : Bool} (small_is : small ≡ numbers.small c) where
    pub early_is : 0 < early_refusal (length c) small (length out)
        → list_refusal numbers strategy parity basis c out bounds ≡ early_refusal (length c) small (length out)
    unfolding list_refusal refusal_by
    early_is some = rw small_is (early_refused (length c) (numbers.small c) (length out) (length bounds) lists (rw small_is at some))

    module _ (none : early_refusal (length c) small (length out) ≡ 0) where
      pub late_is : length bounds < lists → list_refusal numbers strategy parity basis c out bounds ≡ 22
      unfolding list_refusal refusal_by
      late_is short = late_refused (length c) (numbers.small c) (length out) (length bounds) lists (rw small_is at none) short

      pub none_is : lists ≤ length bounds → list_refusal numbers strategy parity basis c out bounds ≡ 0
      unfolding list_refusal refusal_by
      none_is long = none_refused (length c) (numbers.small c) (length out) (length bounds) lists (rw small_is at none) long

  -- ---- accepted: a copy of the coefficients is what the lister is handed

  module _ (degree : Between 1 (degree_of c) plan_limit) {part : List A} {leading : Bool} {split : ℕ} (copy : part ≡ c)
      (leading_is : leading ≡ relists strategy) (split_is : split ≡ split_for strategy parity basis (degree_of c)) where
    tree_is : tree_of leading (degree_of c) (degree_of c) split ≡ plan_tree strategy parity basis (degree_of c)
    tree_is = ap₂ (λ (s : ℕ) (l : Bool). tree_of l (degree_of c) (degree_of c) s) split_is leading_is

    pub listable : leaves_of (plan_tree strategy parity basis (degree_of c)) ≤ length bounds → Listable leading (degree_of c) split 0 0 part bounds
    listable long =
        let split_fits : split ≤ 12 = omega (arith, split_is, split_range strategy parity basis (degree_of c) degree) in
        rw copy (whole_listable leading split c bounds degree split_fits (rw tree_is long))

    pub call_listed : list_refusal numbers strategy parity basis c out bounds ≡ 0 → length c ≤ length out
        → {z : List A} {bounds' : List ℕ} {r base count : ℕ} → length z ≡ length part → base ≡ 2 ^ split → count ≡ lists
        → InPlace numbers.ops basis (tree_of leading (degree_of c) (degree_of part) split) 0 0 part bounds r z bounds'
        → ListCall numbers strategy parity basis c out bounds
        (record { refusal = 0; degree = degree_of c; base = base; coefficients = length c; lists = count }) (z ++ drop (length c) out) bounds'
    unfolding list_answer list_coefficients list_boundaries
    call_listed accepted fits {z} {bounds'} size base_is count_is placed =
        let long : length z ≡ length c = size ∙ ap length copy in
        let tree = plan_tree strategy parity basis (degree_of c) in
        let arranges : z ≡ arranged numbers.ops basis tree c = rw (copy, tree_is) at placed.coefficients in
        let ends : bounds' ≡ sets bounds 0 (ends_of tree 0 (length c)) = rw (copy, tree_is) at placed.boundaries in
        let joined : z ++ drop (length c) out ≡ sets out 0 z =
        ap (λ (k : ℕ). z ++ drop k out) (sym long) ∙ sym (front z out (omega (arith, long, fits))) in
        record {
          answer =
              ap₂ (λ (k n : ℕ). record { refusal = 0; degree = degree_of c; base = k; coefficients = length c; lists = n }) (base_is ∙ ap (2 ^◌) split_is) count_is
              ∙ when_accepted _ (no_lists (list_refusal numbers strategy parity basis c out bounds)) accepted;
          coefficients = joined ∙ ap (sets out 0) arranges ∙ when_accepted _ out accepted;
          boundaries = ends ∙ when_accepted _ bounds accepted;
        }
