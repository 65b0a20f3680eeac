-- The common power steps by marks, and all steps of a set.
use mathlib.Core.Path.{◌≡◌, refl, sym, ◌∙◌, ap, subst}
use mathlib.Core.Logic.{⊎_elim}
use mathlib.Core.Bool.{Bool, true, false}
use mathlib.Core.List.Memᴰ
use mathlib.Core.List.{List, [], ◌∷◌, ◌++◌, map, Memᴰ}
use Prim.Native.Nat.{ℕ, zero, suc, ◌+◌, ◌*◌, ◌≤◌}
use native.Mathlib.Omega.{arith}
use lib.ListN.{length, take, length-append, length-map}
use lib.Seq.{sets}
use Rattle.number.specs.Limits.{count_limit}
use Rattle.needed.specs.inside.Marks.{marked_from, count_marks}
use Rattle.needed.proofs.MarkedPowers.{listed_marked, marked_count}
use Rattle.needed.proofs.Promises.{needed_powers}
use Rattle.lists.proofs.Arranging.{sets_append}
use Rattle.walk.specs.WalksHeld.{flat}
use Rattle.walk.specs.declared.plan.Head.{Head}
use Rattle.walk.proofs.FlatSteps.{flat_length, flat_append}
use Rattle.plan.specs.PlanSteps.{make_step}
use Rattle.plan.specs.inside.Writing.{MarksFit, MarksPut}
use Rattle.plan.proofs.PowerSteps.{marked_taken}
use Rattle.sets.specs.Union.{union_of}
use Rattle.sets.specs.Own.{own_split, own_powers}
use Rattle.sets.specs.SetPlan.{set_powers, common_steps, member_steps, set_steps}
use Rattle.sets.specs.inside.Heads.{PowersTo}
use Rattle.sets.specs.inside.Writing.{MembersFit, SetStepsFit}
use Rattle.sets.proofs.Union.{merged_holds}
use Rattle.sets.proofs.MarkingLaws.{all_counted}

-- ---- by marks

none_marked : (i : ℕ) (rest : List Bool) → count_marks rest ≡ 0 → [] ≡ marked_from i rest
unfolding marked_from count_marks
none_marked i [] none = refl
none_marked i (true ∷ rest) none = absurd (omega arith)
none_marked i (false ∷ rest) none = none_marked (suc i) rest (omega arith)

-- the first places hold all marks if they hold as many
all_marked : (i k : ℕ) (rest : List Bool) → count_marks (take k rest) ≡ count_marks rest → marked_from i (take k rest) ≡ marked_from i rest
unfolding marked_from count_marks
all_marked i zero rest all = none_marked i rest (sym all)
all_marked i (suc k) [] all = refl
all_marked i (suc k) (true ∷ rest) all = ap (i ∷◌) (all_marked (suc i) k rest (omega arith))
all_marked i (suc k) (false ∷ rest) all = all_marked (suc i) k rest (omega arith)

-- ---- all steps

powers_from_two : (heads : List Head) (n : ℕ) → Memᴰ n (union_of (map own_powers heads)) → 2 ≤ n
unfolding union_of own_powers
powers_from_two [] n member = absurd (Memᴰ.not-nil member)
powers_from_two (head ∷ heads) n member =
    let known = needed_powers head.parity head.basis head.degree (own_split head) in
    ⊎_elim (λ (own : Memᴰ n (own_powers head)). known.from_two n ((known.listed n).0 own))
    (λ (rest : Memᴰ n (union_of (map own_powers heads))). powers_from_two heads n rest)
    ((merged_holds (own_powers head) (union_of (map own_powers heads)) n).0 member)

module _ {heads : List Head} {steps : List ℕ} {marks : List Bool} (fits : SetStepsFit heads marks steps) where
  all_length : length (set_steps heads) ≡ length (set_powers heads) + length (member_steps heads)
  unfolding set_steps common_steps
  all_length =
      length-append (common_steps heads) (member_steps heads) ∙ ap (◌+ length (member_steps heads)) (length-map (set_powers heads) make_step)

  counted : count_marks marks ≡ length (set_powers heads)
  counted = marked_count 0 marks ∙ ap length fits.common.powers

  module _ {last : ℕ} (to : PowersTo last heads) where
    counted_first : count_marks (take (last + 1) marks) ≡ length (set_powers heads)
    counted_first = all_counted fits.heads_fit fits.common to ∙ counted

    marked_first : marked_from 0 (take (last + 1) marks) ≡ set_powers heads
    marked_first = all_marked 0 (last + 1) marks (all_counted fits.heads_fit fits.common to) ∙ fits.common.powers

    pub marks_fit : length (take (last + 1) marks) ≤ count_limit → MarksFit (take (last + 1) marks) steps
    unfolding set_powers
    marks_fit size = record {
      size = size;
      from_two = λ n marked.
          powers_from_two heads n
          (subst (Memᴰ n) fits.common.powers ((listed_marked marks n).1 (marked_taken (last + 1) marks n marked)));
      places = omega (arith, counted_first, all_length, fits.places);
    }

    module _ {powers : ℕ} {b : List ℕ} (put : MarksPut (take (last + 1) marks) steps powers b) where
      pub members_fit : length b ≡ length steps → MembersFit heads powers b
      members_fit same = record { heads_fit = fits.heads_fit; places = omega (arith, put.next, counted_first, all_length, fits.places) }

      pub set_put : {b' : List ℕ} → b' ≡ sets b (4 * powers) (flat (member_steps heads)) → b' ≡ sets steps 0 (flat (set_steps heads))
      unfolding set_steps common_steps
      set_put {b'} second =
          let common = map make_step (marked_from 0 (take (last + 1) marks)) in
          second
          ∙ ap (λ (l : List ℕ). sets l (4 * powers) (flat (member_steps heads))) put.numbers
          ∙ sets_append steps (flat common) (flat (member_steps heads)) 0 (4 * powers)
          (omega (
            arith,
            put.next,
            marked_count 0 (take (last + 1) marks),
            flat_length common,
            length-map (marked_from 0 (take (last + 1) marks)) make_step,
          ))
          ∙ ap (sets steps 0) (sym (flat_append common (member_steps heads))
          ∙ ap (λ (l : List ℕ). flat (map make_step l ++ member_steps heads)) marked_first)
