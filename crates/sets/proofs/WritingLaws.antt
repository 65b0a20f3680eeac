-- The loads and combines of one member, and of one member after another.
use mathlib.Core.Path.{◌≡◌, refl, sym, ◌∙◌, ap, ap₂}
use mathlib.Core.Bool.{Bool}
use mathlib.Core.List.{List, [], ◌∷◌, ◌++◌, map, append_assoc, append-nil}
use Prim.Native.Nat.{ℕ, zero, suc, ◌+◌, ◌-◌, ◌*◌, ◌≤◌, ◌<◌}
use native.Mathlib.Omega.{arith}
use lib.Dec.{eqb}
use lib.ListN.{length, get_or, take, length-append}
use lib.Seq.{sets, take_all, take-length}
use Rattle.std.proofs.lemmas.List.{take_more}
use Rattle.lists.specs.Tree.{Tree, tree_of, relists}
use Rattle.lists.specs.Arrange.{leaves_of}
use Rattle.lists.specs.Lists.{joined}
use Rattle.lists.proofs.Arranging.{sets_append}
use Rattle.walk.specs.WalksHeld.{flat}
use Rattle.walk.specs.declared.plan.Head.{Head}
use Rattle.walk.specs.declared.plan.Step.{Step}
use Rattle.walk.proofs.FlatSteps.{flat_length, flat_append}
use Rattle.plan.specs.PlanSteps.{last_plain, tree_steps, list_steps}
use Rattle.plan.specs.inside.Outlines.{totals_of}
use Rattle.plan.specs.inside.Writing.{TreeFits, TreePut}
use Rattle.plan.specs.declared.outline.Totals.{Totals}
use Rattle.plan.specs.declared.tree.Place.{Place}
use Rattle.plan.proofs.HeadCounts.{ranges_at}
use Rattle.plan.proofs.ListTotals.{totals_range}
use Rattle.plan.proofs.StepCounts.{steps_length}
use Rattle.sets.specs.Own.{own_split, own_tree, own_steps}
use Rattle.sets.specs.SetPlan.{member_steps}
use Rattle.sets.specs.inside.Heads.{HeadFits}
use Rattle.sets.specs.inside.Writing.{OwnFits, OwnPut, steps_in, MembersFit, MembersPut}
use Rattle.sets.proofs.Arrays.{any_head, each_at}

-- ---- one member

module _ (head : Head) (fits : HeadFits head) {split : ℕ} {leading : Bool} (leading_is : leading ≡ relists head.strategy) (split_is : split ≡ own_split head) where
  abbrev tree : Tree
  tree = tree_of leading head.degree head.degree split

  tree_is : tree ≡ own_tree head
  tree_is = ap₂ (λ (l : Bool) (s : ℕ). tree_of l head.degree head.degree s) leading_is split_is

  own_size : length (own_steps head) + 1 ≡ leaves_of tree + leaves_of tree
  unfolding own_steps list_steps
  own_size =
      steps_length (last_plain head.degree (own_tree head)) (own_tree head) 0
      ∙ sym (ap (λ (t : Tree). leaves_of t + leaves_of t) tree_is)

  pub tree_fits : {step : ℕ} {b : List ℕ} → 4 * (step + length (own_steps head)) ≤ length b → TreeFits leading head.degree head.degree split 0 step b
  unfolding totals_of
  tree_fits places =
      let most = (totals_range leading head.parity head.degree head.degree split refl).at_most in
      record {
        ranges = ranges_at head.strategy head.parity head.basis head.degree fits.degrees split_is;
        list_limit = omega (arith, most, fits.degrees.to);
        places = omega (arith, own_size);
      }

  pub own_put : {plain : Bool} {totals : Totals} {step : ℕ} {b b' : List ℕ} {r : Place} → totals ≡ totals_of head.parity (own_tree head) (suc head.degree)
      → plain ≡ eqb totals.last 1 → TreePut plain tree 0 step b r b' → OwnPut head step b r.step b'
  unfolding own_steps list_steps last_plain totals_of
  own_put {plain} {totals} {step} {b} totals_are plain_is put =
      let rule : plain ≡ last_plain head.degree (own_tree head) = plain_is ∙ ap (λ (t : Totals). eqb t.last 1) totals_are in
      record {
        numbers = put.numbers ∙ ap₂ (λ (p : Bool) (t : Tree). sets b (4 * step) (flat (tree_steps p t 0))) rule tree_is;
        next = omega (arith, put.next_step, own_size);
      }

-- ---- one after another

joined_more : (xs : List Head) (head : Head) → joined (map own_steps (xs ++ (head ∷ []))) ≡ joined (map own_steps xs) ++ own_steps head
unfolding joined
joined_more [] head = append-nil (own_steps head)
joined_more (x ∷ xs) head =
    ap (λ (l : List Step). own_steps x ++ l) (joined_more xs head) ∙ sym (append_assoc (own_steps x) (joined (map own_steps xs)) (own_steps head))

module _ (heads : List Head) (i : ℕ) (inside : i < length heads) where
  member_more : member_steps (take (i + 1) heads) ≡ member_steps (take i heads) ++ own_steps (get_or heads i any_head)
  unfolding member_steps
  member_more =
      ap (λ (l : List Head). joined (map own_steps l)) (take_more heads i any_head inside) ∙ joined_more (take i heads) (get_or heads i any_head)

  steps_more : steps_in heads (i + 1) ≡ steps_in heads i + length (own_steps (get_or heads i any_head))
  steps_more =
      ap (λ (l : List Step). length l) member_more ∙ length-append (member_steps (take i heads)) (own_steps (get_or heads i any_head))

-- more members have no fewer steps
steps_most : (heads : List Head) (i k : ℕ) → i + k ≤ length heads → steps_in heads i ≤ steps_in heads (i + k)
steps_most heads i zero within = let same : i + 0 ≡ i = omega arith in omega (arith, ap (steps_in heads) same)
steps_most heads i (suc k) within =
    let same : i + suc k ≡ i + k + 1 = omega arith in
    omega (arith, ap (steps_in heads) same, steps_more heads (i + k) (omega arith), steps_most heads i k (omega arith))

pub members_none : (heads : List Head) (step : ℕ) (b : List ℕ) → MembersPut heads 0 step b step b
unfolding member_steps joined flat
members_none heads step b = record { numbers = refl; next = omega arith }

pub own_fits : {heads : List Head} {step i next : ℕ} {b₀ b : List ℕ} → MembersFit heads step b₀ → MembersPut heads i step b₀ next b → i < length heads
    → length b ≡ length b₀ → OwnFits (get_or heads i any_head) next b
own_fits {heads} {step} {i} {next} fits put inside same =
    let rest : i + 1 + (length heads - (i + 1)) ≡ length heads = omega arith in
    let most = steps_most heads (i + 1) (length heads - (i + 1)) (omega arith) in
    let all = ap (λ (l : List Head). length (member_steps l)) (take-length heads) in
    record {
      head_fits = each_at any_head HeadFits i heads inside fits.heads_fit.each;
      places = omega (arith, fits.places, put.next, same, most, ap (steps_in heads) rest, all, steps_more heads i inside);
    }

pub members_more : {heads : List Head} {step i next r : ℕ} {b₀ b b' : List ℕ} → i < length heads → MembersPut heads i step b₀ next b
    → OwnPut (get_or heads i any_head) next b r b' → MembersPut heads (i + 1) step b₀ r b'
members_more {heads} {step} {i} {next} {r} {b₀} {b} {b'} inside upto put =
    let head = get_or heads i any_head in
    let first = member_steps (take i heads) in
    record {
      numbers =
          put.numbers ∙ ap (λ (l : List ℕ). sets l (4 * next) (flat (own_steps head))) upto.numbers
          ∙ sets_append b₀ (flat first) (flat (own_steps head)) (4 * step) (4 * next) (omega (arith, upto.next, flat_length first))
          ∙ ap (sets b₀ (4 * step)) (sym (ap flat (member_more heads i inside) ∙ flat_append first (own_steps head)));
      next = omega (arith, put.next, upto.next, steps_more heads i inside);
    }

pub members_all : {heads : List Head} {step i r : ℕ} {b₀ b : List ℕ} → MembersPut heads i step b₀ r b → length heads ≤ i
    → b ≡ sets b₀ (4 * step) (flat (member_steps heads))
members_all {heads} {step} {i} {r} {b₀} put past =
    put.numbers ∙ ap (λ (l : List Head). sets b₀ (4 * step) (flat (member_steps l))) (take_all i heads past)

pub members_next : {heads : List Head} {step i r : ℕ} {b₀ b : List ℕ} → MembersPut heads i step b₀ r b → length heads ≤ i
    → r ≡ step + length (member_steps heads)
members_next {heads} {step} {i} put past =
    put.next ∙ ap (λ (l : List Head). step + length (member_steps l)) (take_all i heads past)
