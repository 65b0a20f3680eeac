-- The loads and combines of a tree as they are written: of one list, of a slice listed again, and of a cut from its parts'.
use mathlib.Core.Path.{◌≡◌, refl, ap, ap₂, sym, ◌∙◌}
use mathlib.Core.Bool.{Bool, true, false, cond, ◌&&◌}
use mathlib.Core.List.{List, [], ◌∷◌, ◌++◌, append_assoc}
use Prim.Native.Nat.{ℕ, ◌+◌, ◌-◌, ◌*◌, ◌^◌, ◌≤◌, ◌<◌}
use native.Mathlib.Omega.{arith}
use lib.Dec.{eqb}
use lib.ListN.{length, length-append}
use lib.Pow.{pow_pos}
use lib.Seq.{sets}
use Rattle.number.specs.Bits.{bit_len, top_power}
use Rattle.number.proofs.Bits.{Top, top_power_lem}
use Rattle.counts.specs.MinDepth.{min_depth}
use Rattle.lists.specs.Tree.{Tree, leaf, cut, listed_again, tree_of}
use Rattle.lists.specs.Arrange.{leaves_of}
use Rattle.lists.proofs.TreeRule.{leading_again, tree_leaf, tree_again, tree_cut}
use Rattle.lists.proofs.Arranging.{some_leaves, sets_append}
use Rattle.walk.specs.WalksHeld.{flat}
use Rattle.walk.proofs.FlatSteps.{flat_append, flat_length}
use Rattle.plan.specs.PlanSteps.{combine_step, combine_kind, tree_steps}
use Rattle.plan.specs.inside.Writing.{numbers_of, InstructionFits, TreeFits, TreePut}
use Rattle.walk.specs.declared.plan.Instruction.{Instruction}
use Rattle.walk.specs.declared.plan.Instruction.TheVariants.{Load, Combine}
use Rattle.plan.specs.declared.tree.Place.{Place}
use Rattle.plan.proofs.StepCounts.{steps_length}

put_leaf : {plain : Bool} {list step : ℕ} {b b' : List ℕ} → b' ≡ sets b (4 * step) (numbers_of (Load list))
    → TreePut plain leaf list step b (record { list = list + 1; step = step + 1 }) b'
unfolding tree_steps leaves_of flat
put_leaf put = record { numbers = put; next_list = refl; next_step = omega arith }

-- where the steps of a tree end
ends_at : (plain : Bool) (tree : Tree) (list step next : ℕ) → next + 1 ≡ step + (leaves_of tree + leaves_of tree)
    → 4 * next ≡ 4 * step + length (flat (tree_steps plain tree list))
ends_at plain tree list step next is =
    let size = flat_length (tree_steps plain tree list) in
    let count = steps_length plain tree list in
    omega arith

put_cut : {plain : Bool} {low high : Tree} {list step : ℕ} {b b₁ b₂ b₃ : List ℕ} {l h : Place} (p : ℕ)
    → TreePut false low list step b l b₁ → TreePut plain high l.list l.step b₁ h b₂
    → b₃ ≡ sets b₂ (4 * h.step) (numbers_of (Combine (plain && eqb (h.list - l.list) 1) p))
    → TreePut plain (cut p low high) list step b (record { list = h.list; step = h.step + 1 }) b₃
unfolding tree_steps leaves_of flat combine_kind
put_cut {plain} {low} {high} {list} {step} {b} {b₁} {b₂} {b₃} {l} {h} p first then put = record {
  numbers =
      put
      ∙ ap₂ (λ (x : List ℕ) (k : ℕ). sets x (4 * h.step) (k ∷ p ∷ 0 ∷ 0 ∷ []))
      (then.numbers ∙ ap₂ (λ (x : List ℕ) (i : ℕ). sets x (4 * l.step) (flat (tree_steps plain high i))) first.numbers first.next_list)
      kind_same
      ∙ ap (λ (x : List ℕ). sets x (4 * h.step) last)
      (sets_append b lows highs (4 * step) (4 * l.step) (ends_at false low list step l.step first.next_step))
      ∙ sets_append b (lows ++ highs) last (4 * step) (4 * h.step) high_end
      ∙ ap (sets b (4 * step)) (sym all);
  next_list = omega (arith, first.next_list, then.next_list);
  next_step = omega (arith, first.next_step, then.next_step);
}
  where
    lows : List ℕ
    lows = flat (tree_steps false low list)

    highs : List ℕ
    highs = flat (tree_steps plain high (list + leaves_of low))

    last : List ℕ
    last = flat (combine_step (combine_kind plain high) p ∷ [])

    kind_same : cond (plain && eqb (h.list - l.list) 1) 4 3 ≡ combine_kind plain high
    kind_same =
        let count : h.list - l.list ≡ leaves_of high = omega (arith, then.next_list) in
        ap (λ (n : ℕ). cond (plain && eqb n 1) 4 3) count

    high_end : 4 * h.step ≡ 4 * step + length (lows ++ highs)
    high_end =
        let first_end = ends_at false low list step l.step first.next_step in
        let then_end = ends_at plain high (list + leaves_of low) l.step h.step then.next_step in
        let both = length-append lows highs in
        omega arith

    all : flat (tree_steps false low list ++ (tree_steps plain high (list + leaves_of low) ++ (combine_step (combine_kind plain high) p ∷ [])))
        ≡ (lows ++ highs) ++ last
    all =
        flat_append (tree_steps false low list) (tree_steps plain high (list + leaves_of low) ++ (combine_step (combine_kind plain high) p ∷ []))
        ∙ ap (lows ++◌) (flat_append (tree_steps plain high (list + leaves_of low)) (combine_step (combine_kind plain high) p ∷ []))
        ∙ sym (append_assoc lows highs last)

-- ---- a slice

module _ {leading : Bool} {whole degree split list step : ℕ} {b : List ℕ} (fits : TreeFits leading whole degree split list step b)
    (below : degree < 2 ^ split) where
  module _ (again : (leading && listed_again whole degree split) ≡ true) where
    pub smaller : min_depth (bit_len degree) < split
    smaller = (leading_again leading whole degree split again).smaller

    pub positive : 0 < degree
    positive = (leading_again leading whole degree split again).positive

    pub fits_again : TreeFits leading whole degree (min_depth (bit_len degree)) list step b
    fits_again = record {
      ranges = record {
        positive = fits.ranges.positive;
        whole_limit = fits.ranges.whole_limit;
        part_limit = fits.ranges.part_limit;
        split_limit = omega (arith, smaller, fits.ranges.split_limit);
      };
      list_limit = rw (← tree_again leading whole degree split below again) fits.list_limit;
      places = rw (← tree_again leading whole degree split below again) fits.places;
    }

    pub put_again : {plain : Bool} {b' : List ℕ} {r : Place} → TreePut plain (tree_of leading whole degree (min_depth (bit_len degree))) list step b r b'
        → TreePut plain (tree_of leading whole degree split) list step b r b'
    put_again put = rw (tree_again leading whole degree split below again) put

  pub load_fits : InstructionFits step (Load list) b
  load_fits =
      let one = some_leaves (tree_of leading whole degree split) in
      record { places = omega (arith, fits.places); narrow = omega (arith, fits.list_limit) }

  pub put_load : {plain : Bool} {b' : List ℕ} → (leading && listed_again whole degree split) ≡ false
      → b' ≡ sets b (4 * step) (numbers_of (Load list))
      → TreePut plain (tree_of leading whole degree split) list step b (record { list = list + 1; step = step + 1 }) b'
  put_load once put = rw (tree_leaf leading whole degree split below once) (put_leaf put)

-- ---- a cut

module _ {leading : Bool} {whole degree split list step : ℕ} {b : List ℕ} (fits : TreeFits leading whole degree split list step b)
    (from : 2 ^ split ≤ degree) {p : ℕ} (power : p ≡ top_power degree) where
  pub top : Top degree p
  top = rw power (top_power_lem degree (omega (arith, from, pow_pos split)))

  tree : tree_of leading whole degree split ≡ cut p (tree_of false whole (p - 1) split) (tree_of leading whole (degree - p) split)
  tree = tree_cut leading whole degree split from ∙ rw (← power)

  leaves : leaves_of (tree_of leading whole degree split)
      ≡ leaves_of (tree_of false whole (p - 1) split) + leaves_of (tree_of leading whole (degree - p) split)
  unfolding leaves_of
  leaves = ap leaves_of tree

  pub low_fits : TreeFits false whole (p - 1) split list step b
  low_fits =
      let bounds = top in
      let high_leaves = some_leaves (tree_of leading whole (degree - p) split) in
      record {
        ranges = record {
          positive = fits.ranges.positive;
          whole_limit = fits.ranges.whole_limit;
          part_limit = omega (arith, fits.ranges.part_limit);
          split_limit = fits.ranges.split_limit;
        };
        list_limit = omega (arith, leaves, fits.list_limit);
        places = omega (arith, leaves, fits.places);
      }

  module _ {b₁ : List ℕ} {l : Place} (low : TreePut false (tree_of false whole (p - 1) split) list step b l b₁) (kept : length b₁ ≡ length b) where
    pub high_fits : TreeFits leading whole (degree - p) split l.list l.step b₁
    high_fits =
        let bounds = top in
        record {
          ranges = record {
            positive = fits.ranges.positive;
            whole_limit = fits.ranges.whole_limit;
            part_limit = omega (arith, fits.ranges.part_limit);
            split_limit = fits.ranges.split_limit;
          };
          list_limit = omega (arith, leaves, fits.list_limit, low.next_list);
          places = omega (arith, leaves, fits.places, low.next_step);
        }

    module _ {plain : Bool} {b₂ : List ℕ} {h : Place} (high : TreePut plain (tree_of leading whole (degree - p) split) l.list l.step b₁ h b₂)
        (kept₂ : length b₂ ≡ length b₁) where
      pub lists_rise : l.list ≤ h.list
      lists_rise = omega (arith, high.next_list)

      module _ {combine : Instruction} (combine_is : combine ≡ Combine (plain && eqb (h.list - l.list) 1) p) where
        pub combine_fits : InstructionFits h.step combine b₂
        combine_fits =
            let bounds = top in
            rw combine_is (record {
              places = omega (arith, leaves, fits.places, low.next_step, high.next_step);
              narrow = omega (arith, fits.ranges.part_limit);
            })

        pub put_both : {b₃ : List ℕ} → b₃ ≡ sets b₂ (4 * h.step) (numbers_of combine)
            → TreePut plain (tree_of leading whole degree split) list step b (record { list = h.list; step = h.step + 1 }) b₃
        put_both put = rw tree (put_cut p low high (rw combine_is at put))
