-- The common powers of heads in an array by their marks: the powers that each member needs at once are marked, and all of them are swept together.
use mathlib.Core.Path.{◌≡◌, refl, sym, ◌∙◌, ap, ap₂, subst}
use mathlib.Core.Logic.{◌⊎◌, inl, inr, ⊎_elim, ◌↔◌}
use mathlib.Core.Bool.{Bool, true, false, false≢true}
use mathlib.Core.List.Memᴰ
use mathlib.Core.List.{List, [], ◌∷◌, ◌++◌, map, Memᴰ}
use Prim.Native.Nat.{ℕ, zero, suc, ◌+◌, ◌≤◌, ◌<◌}
use native.Mathlib.Decide.{ℕ_discrete, dec_lt}
use native.Mathlib.Nat.{eq-or-lt_of_le}
use native.Mathlib.Omega.{arith}
use borrow.Author.Tests.{lt-ltb, le-ltb}
use lib.ListN.{length, get_or, set, take, replicate, length-set, length-replicate}
use lib.Seq.{get_or-set_same, get_or-set_other, take_all, take-length}
use Rattle.std.proofs.lemmas.List.{take_more}
use Rattle.algebra.specs.Each.{Each}
use Rattle.algebra.specs.declared.Basis.{Basis}
use Rattle.algebra.specs.declared.Parity.{Parity}
use Rattle.number.specs.Bits.{top_power}
use Rattle.number.specs.Limits.{count_limit}
use Rattle.number.proofs.Bits.{top_power_lem}
use Rattle.needed.specs.Needed.{Needed, target, part, baby_limit, top, small, NeededPower}
use Rattle.needed.specs.NeededList.{is_target}
use Rattle.needed.specs.inside.Marks.{Marked, greatest_target, mark_at, needed_marks, marked_from, count_marks, sweep_from}
use Rattle.needed.proofs.Needed.{needed_more}
use Rattle.needed.proofs.NeededList.{target_is, is_target_lem}
use Rattle.needed.proofs.MarkLaws.{marked_below, mark_length}
use Rattle.needed.proofs.SweepLaws.{sweep_length, sweep_marks}
use Rattle.needed.proofs.NeededMarks.{needed_length, marked_needed}
use Rattle.needed.proofs.MarkedPowers.{listed_marked, marked_count, marked_rising}
use Rattle.needed.proofs.PlaceLaws.{count_most}
use Rattle.needed.proofs.Promises.{needed_powers, union}
use Rattle.needed.proofs.RisingLists.{rising_same}
use Rattle.walk.specs.declared.plan.Head.{Head}
use Rattle.sets.specs.Union.{union_of}
use Rattle.sets.specs.Own.{own_split, own_powers}
use Rattle.sets.specs.SetPlan.{set_powers}
use Rattle.sets.specs.inside.Heads.{HeadFits, HeadsFit, SameBasis, PowersTo}
use Rattle.sets.specs.inside.Marking.{PlacesAdded, OwnTarget, TargetsAdded, TargetIn, TargetsUpto, Common, PowersCounted}
use Rattle.sets.proofs.Arrays.{any_head}
use Rattle.sets.proofs.Union.{merged_holds, union_rising}

-- ---- a mark more

set_forth : (marks : List Bool) (k m : ℕ) → Marked (set marks k true) m → Marked marks m ⊎ (m ≡ k)
set_forth marks k m marked = by (ℕ_discrete m k)
  where
    by : Dec (m ≡ k) → Marked marks m ⊎ (m ≡ k)
    by (yes same) = inr same
    by (no other) = inl (sym (get_or-set_other marks k m true false other) ∙ marked)

set_here : (marks : List Bool) (k m : ℕ) → k < length marks → m ≡ k → Marked (set marks k true) m
set_here marks k m inside same = ap (λ (i : ℕ). get_or (set marks k true) i false) same ∙ get_or-set_same marks k true false inside

set_old : (marks : List Bool) (k m : ℕ) → Marked marks m → Marked (set marks k true) m
set_old marks k m marked = by (ℕ_discrete m k)
  where
    by : Dec (m ≡ k) → Marked (set marks k true) m
    by (yes same) = set_here marks k m (omega (arith, marked_below marks m marked, same)) same
    by (no other) = get_or-set_other marks k m true false other ∙ marked

-- at a number above 1
module _ (marks : List Bool) (k m : ℕ) where
  mark_forth : Marked (mark_at k marks) m → Marked marks m ⊎ ((1 < m) × (m ≡ k))
  unfolding mark_at
  mark_forth marked = by (dec_lt 1 k)
    where
      by : Dec (1 < k) → Marked marks m ⊎ ((1 < m) × (m ≡ k))
      by (yes above) = ⊎_elim (λ old. inl old) (λ same. inr (omega arith, same)) (set_forth marks k m (rw (lt-ltb 1 k above) at marked))
      by (no low) = inl (rw (le-ltb 1 k (omega arith)) at marked)

  mark_old : Marked marks m → Marked (mark_at k marks) m
  unfolding mark_at
  mark_old marked = by (dec_lt 1 k)
    where
      by : Dec (1 < k) → Marked (mark_at k marks) m
      by (yes above) = rw (lt-ltb 1 k above) (set_old marks k m marked)
      by (no low) = rw (le-ltb 1 k (omega arith)) marked

  mark_here : k < length marks → 2 ≤ m → m ≡ k → Marked (mark_at k marks) m
  unfolding mark_at
  mark_here inside from same = rw (lt-ltb 1 k (omega arith)) (set_here marks k m inside same)

-- ---- the powers below the limit that are needed at once, place by place

module _ (parity : Parity) (top limit : ℕ) (marks : List Bool) where
  pub places_none : length marks ≡ count_limit → PlacesAdded parity top limit 0 marks marks
  places_none size = record { size = size; marked = λ m. (λ old. inl old, ⊎_elim (λ old. old) (λ none. absurd (omega (arith, none.0)))) }

  module _ {n : ℕ} {before : List Bool} (added : PlacesAdded parity top limit n marks before) where
    -- where a power is needed at once its mark is set
    pub places_set : n < count_limit → is_target parity top limit n ≡ true → PlacesAdded parity top limit (n + 1) marks (set before n true)
    places_set below is = record { size = length-set before n true ∙ added.size; marked = λ m. (forth m, back m) }
      where
        forth : (m : ℕ) → Marked (set before n true) m → Marked marks m ⊎ ((m < n + 1) × (is_target parity top limit m ≡ true))
        forth m marked =
            ⊎_elim
            (λ (old : Marked before m).
            ⊎_elim (λ first. inl first) (λ later. inr (omega (arith, later.0), later.1)) ((added.marked m).0 old))
            (λ (same : m ≡ n). inr (omega arith, ap (is_target parity top limit) same ∙ is))
            (set_forth before n m marked)

        back : (m : ℕ) → Marked marks m ⊎ ((m < n + 1) × (is_target parity top limit m ≡ true)) → Marked (set before n true) m
        back m = ⊎_elim (λ (old : Marked marks m). set_old before n m ((added.marked m).1 (inl old)))
            (λ (new : (m < n + 1) × (is_target parity top limit m ≡ true)).
            ⊎_elim (λ (same : m ≡ n). set_here before n m (omega (arith, added.size)) same)
            (λ (less : m < n). set_old before n m ((added.marked m).1 (inr (less, new.1))))
            (eq-or-lt_of_le {n = m} {m = n} (omega (arith, new.0))))

    -- and elsewhere nothing changes
    pub places_skip : is_target parity top limit n ≡ false → PlacesAdded parity top limit (n + 1) marks before
    places_skip is_not = record { size = added.size; marked = λ m. (forth m, back m) }
      where
        forth : (m : ℕ) → Marked before m → Marked marks m ⊎ ((m < n + 1) × (is_target parity top limit m ≡ true))
        forth m marked = ⊎_elim (λ old. inl old) (λ new. inr (omega (arith, new.0), new.1)) ((added.marked m).0 marked)

        back : (m : ℕ) → Marked marks m ⊎ ((m < n + 1) × (is_target parity top limit m ≡ true)) → Marked before m
        back m = ⊎_elim (λ (old : Marked marks m). (added.marked m).1 (inl old))
            (λ (new : (m < n + 1) × (is_target parity top limit m ≡ true)).
            ⊎_elim (λ (same : m ≡ n). absurd (false≢true (sym is_not ∙ sym (ap (is_target parity top limit) same) ∙ new.1)))
            (λ (less : m < n). (added.marked m).1 (inr (less, new.1)))
            (eq-or-lt_of_le {n = m} {m = n} (omega (arith, new.0))))

-- ---- the powers that a member needs at once

pub targets_added : (head : Head) → HeadFits head → {power limit : ℕ} {marks before after : List Bool}
    → power ≡ top_power head.degree → limit ≡ baby_limit head.degree (own_split head)
    → PlacesAdded head.parity power limit limit marks before → after ≡ mark_at power before
    → TargetsAdded head marks after
unfolding mark_at
targets_added head fits {power} {limit} {marks} {before} {after} power_is limit_own added after_is = record {
  size = ap length after_is ∙ mark_length power before ∙ added.size;
  marked = λ n. (forth n, back n);
}
  where
    test_own : (n : ℕ) → is_target head.parity power limit n ≡ is_target head.parity (top_power head.degree) (baby_limit head.degree (own_split head)) n
    test_own n = ap₂ (λ (t l : ℕ). is_target head.parity t l n) power_is limit_own

    within : power < count_limit
    within = omega (arith, power_is, (top_power_lem head.degree fits.degrees.from).within, fits.degrees.to)

    forth : (n : ℕ) → Marked after n → Marked marks n ⊎ OwnTarget head n
    forth n marked =
        ⊎_elim
        (λ (old : Marked before n).
        ⊎_elim (λ first. inl first)
        (λ (new : (n < limit) × (is_target head.parity power limit n ≡ true)).
        inr (target_is head.parity head.degree (own_split head) n (sym (test_own n) ∙ new.1)))
        ((added.marked n).0 old))
        (λ (here : (1 < n) × (n ≡ power)). inr (top (omega (arith, here.0)) (here.1 ∙ power_is)))
        (mark_forth before power n (sym (ap (λ (l : List Bool). get_or l n false) after_is) ∙ marked))

    back : (n : ℕ) → Marked marks n ⊎ OwnTarget head n → Marked after n
    back n = ⊎_elim (λ (old : Marked marks n). last n (mark_old before power n ((added.marked n).1 (inl old)))) (λ (new : OwnTarget head n). by n new)
      where
        last : (k : ℕ) → Marked (mark_at power before) k → Marked after k
        last k marked = ap (λ (l : List Bool). get_or l k false) after_is ∙ marked

        by : (k : ℕ) → OwnTarget head k → Marked after k
        by k (top from is) = last k (mark_here before power k (omega (arith, within, added.size)) from (is ∙ sym power_is))
        by k (small from below allowed) =
            let is = is_target_lem head.parity head.degree (own_split head) k (small from below allowed) in
            last k (mark_old before power k ((added.marked k).1 (inr (omega (arith, below, limit_own), test_own k ∙ is))))

-- ---- of one member after another

target_more : (xs : List Head) (head : Head) (n : ℕ) → TargetIn (xs ++ (head ∷ [])) n ↔ (TargetIn xs n ⊎ OwnTarget head n)
target_more xs head n = (forth xs, back xs)
  where
    forth : (ys : List Head) → TargetIn (ys ++ (head ∷ [])) n → TargetIn ys n ⊎ OwnTarget head n
    forth [] (inl own) = inr own
    forth [] (inr rest) = elim rest [ ]
    forth (y ∷ ys) (inl first) = inl (inl first)
    forth (y ∷ ys) (inr rest) = ⊎_elim (λ old. inl (inr old)) (λ new. inr new) (forth ys rest)

    back : (ys : List Head) → TargetIn ys n ⊎ OwnTarget head n → TargetIn (ys ++ (head ∷ [])) n
    back [] (inl none) = elim none [ ]
    back [] (inr own) = inl own
    back (y ∷ ys) (inl (inl first)) = inl first
    back (y ∷ ys) (inl (inr rest)) = inr (back ys (inl rest))
    back (y ∷ ys) (inr own) = inr (back ys (inr own))

no_marks : (k n : ℕ) → Marked (replicate k false) n → ⊥
no_marks zero n marked = false≢true marked
no_marks (suc k) zero marked = false≢true marked
no_marks (suc k) (suc n) marked = no_marks k n marked

pub targets_none : (heads : List Head) → TargetsUpto heads 0 (replicate count_limit false)
targets_none heads = record { size = length-replicate count_limit false; marked = λ n. (λ marked. no_marks count_limit n marked, λ none. absurd none) }

pub targets_more : {heads : List Head} {i : ℕ} {marks marks' : List Bool} → TargetsUpto heads i marks → i < length heads
    → TargetsAdded (get_or heads i any_head) marks marks' → TargetsUpto heads (i + 1) marks'
targets_more {heads} {i} {marks} {marks'} upto inside added =
    let head = get_or heads i any_head in
    let now = take_more heads i any_head inside in
    record {
      size = added.size;
      marked = λ n. (
        λ marked.
            subst (λ (l : List Head). TargetIn l n) (sym now)
            ((target_more (take i heads) head n).1
            (⊎_elim (λ (old : Marked marks n). inl ((upto.marked n).0 old)) (λ (new : OwnTarget head n). inr new) ((added.marked n).0 marked))),
        λ member.
            (added.marked n).1
            (⊎_elim (λ (old : TargetIn (take i heads) n). inl ((upto.marked n).1 old)) (λ (new : OwnTarget head n). inr new)
            ((target_more (take i heads) head n).0 (subst (λ (l : List Head). TargetIn l n) now member))),
      );
    }

-- ---- swept, they are the common powers

-- what members need of one basis is the union of what each needs
own_needed : (basis : Basis) (head : Head) → head.basis ≡ basis → (n : ℕ) → Needed basis (OwnTarget head) n ↔ Memᴰ n (own_powers head)
unfolding own_powers
own_needed basis head one n =
    let known = needed_powers head.parity head.basis head.degree (own_split head) in (
      λ needed. (known.listed n).1 (subst (λ (b : Basis). Needed b (OwnTarget head) n) (sym one) needed),
      λ member. subst (λ (b : Basis). Needed b (OwnTarget head) n) one ((known.listed n).0 member),
    )

nothing_needed : (basis : Basis) (n : ℕ) → Needed basis (TargetIn []) n → ⊥
nothing_needed basis n (target none) = none
nothing_needed basis n (part {n = whole} above needed is_part_lem) = nothing_needed basis whole needed

needed_common : (basis : Basis) (heads : List Head) → Each (λ (head : Head). head.basis ≡ basis) heads → (n : ℕ)
    → Needed basis (TargetIn heads) n ↔ Memᴰ n (union_of (map own_powers heads))
unfolding union_of
needed_common basis [] one n = (λ needed. absurd (nothing_needed basis n needed), λ member. absurd (Memᴰ.not-nil member))
needed_common basis (head ∷ heads) one n =
    let own = own_needed basis head one.0 n in
    let rest = needed_common basis heads one.1 n in
    let joined = union basis (OwnTarget head) (TargetIn heads) n in
    let merges = merged_holds (own_powers head) (union_of (map own_powers heads)) n in (
      λ needed. merges.1 (⊎_elim (λ (first : Needed basis (OwnTarget head) n). inl (own.0 first))
          (λ (later : Needed basis (TargetIn heads) n). inr (rest.0 later)) (joined.0 needed)),
      λ member. joined.1 (⊎_elim (λ (first : Memᴰ n (own_powers head)). inl (own.1 first))
          (λ (later : Memᴰ n (union_of (map own_powers heads))). inr (rest.1 later)) (merges.0 member)),
    )

-- a power that a member needs is at most the greatest that it may need
own_to : (head : Head) (m : ℕ) → NeededPower head.parity head.basis head.degree (own_split head) m → m ≤ greatest_target head.degree (own_split head)
own_to head m needed =
    let marks = needed_marks head.parity head.basis head.degree (own_split head) in
    let inside = marked_below marks m ((marked_needed head.parity head.basis head.degree (own_split head) m).1 needed) in
    omega (arith, needed_length head.parity head.basis head.degree (own_split head))

-- so no power that one of them needs at once is above the greatest
targets_to : (n : ℕ) (heads : List Head) → Each HeadFits heads → Each (λ (head : Head). greatest_target head.degree (own_split head) ≤ n) heads
    → (m : ℕ) → TargetIn heads m → m ≤ n
targets_to n [] fit to m none = elim none [ ]
targets_to n (head ∷ heads) fit to m (inl own) =
    omega (arith, own_to head m ((needed_powers head.parity head.basis head.degree (own_split head)).least.holds m own), to.0)
targets_to n (head ∷ heads) fit to m (inr rest) = targets_to n heads fit.1 to.1 m rest

-- past the last member the marks are those of all members
pub targets_all : {heads : List Head} {i : ℕ} {marks : List Bool} → TargetsUpto heads i marks → length heads ≤ i → TargetsUpto heads (length heads) marks
targets_all {heads} {i} {marks} upto past = record {
  size = upto.size;
  marked = λ n. subst (λ (l : List Head). Marked marks n ↔ TargetIn l n) (take_all i heads past ∙ sym (take-length heads)) (upto.marked n);
}

pub common_swept : {basis : Basis} {heads : List Head} {last : ℕ} {marks swept : List Bool} → HeadsFit heads → SameBasis basis heads
    → TargetsUpto heads (length heads) marks → PowersTo last heads → swept ≡ sweep_from basis last marks → Common heads swept
unfolding set_powers
common_swept {basis} {heads} {last} {marks} {swept} fit one targets to is =
    let targeted : (n : ℕ) → Marked marks n ↔ TargetIn heads n =
    λ n. subst (λ (l : List Head). Marked marks n ↔ TargetIn l n) (take-length heads) (targets.marked n) in
    let below : (i : ℕ) → Marked marks i → i ≤ last = λ i marked. targets_to last heads fit.each to.each i ((targeted i).0 marked) in
    let holds : (n : ℕ) → Marked swept n ↔ Memᴰ n (union_of (map own_powers heads)) = λ n. (
      λ marked. (needed_common basis heads one.each n).0 (needed_more (λ k. (targeted k).0) n
          ((sweep_marks basis last marks below n).0 (sym (ap (λ (l : List Bool). get_or l n false) is) ∙ marked))),
      λ member. ap (λ (l : List Bool). get_or l n false) is ∙ (sweep_marks basis last marks below n).1 (needed_more (λ k. (targeted k).1) n
          ((needed_common basis heads one.each n).1 member)),
    ) in
    record {
      size = ap length is ∙ sweep_length basis last marks ∙ targets.size;
      powers =
          rising_same (marked_from 0 swept) (union_of (map own_powers heads)) (marked_rising 0 swept) (union_rising (map own_powers heads))
          (λ n member. (holds n).0 ((listed_marked swept n).0 member)) (λ n member. (listed_marked swept n).1 ((holds n).1 member));
    }

-- ---- how many they are

-- the powers of members are at most the greatest that one may need
powers_to : (n : ℕ) (heads : List Head) → Each HeadFits heads → Each (λ (head : Head). greatest_target head.degree (own_split head) ≤ n) heads → (m : ℕ)
    → Memᴰ m (union_of (map own_powers heads)) → m ≤ n
unfolding union_of own_powers
powers_to n [] fit to m member = absurd (Memᴰ.not-nil member)
powers_to n (head ∷ heads) fit to m member =
    let known = needed_powers head.parity head.basis head.degree (own_split head) in
    ⊎_elim
    (λ (own : Memᴰ m (own_powers head)). omega (arith, own_to head m ((known.listed m).0 own), to.0))
    (λ (rest : Memᴰ m (union_of (map own_powers heads))). powers_to n heads fit.1 to.1 m rest)
    ((merged_holds (own_powers head) (union_of (map own_powers heads)) m).0 member)

-- so no place behind it is marked
none_behind : (k : ℕ) (marks : List Bool) → ((m : ℕ) → Marked marks m → m < k) → count_marks (take k marks) ≡ count_marks marks
unfolding count_marks
none_behind zero [] below = refl
none_behind zero (true ∷ marks) below = let clash = below 0 refl in absurd (omega arith)
none_behind zero (false ∷ marks) below = omega (arith, none_behind zero marks (λ m marked. let less = below (suc m) marked in omega arith))
none_behind (suc k) [] below = refl
none_behind (suc k) (mark ∷ marks) below =
    omega (arith, none_behind k marks (λ m marked. let less = below (suc m) marked in omega arith))

-- and all of them are among the first
pub all_counted : {heads : List Head} {last : ℕ} {marks : List Bool} → HeadsFit heads → Common heads marks → PowersTo last heads
    → count_marks (take (last + 1) marks) ≡ count_marks marks
unfolding set_powers
all_counted {heads} {last} {marks} fit common to =
    none_behind (last + 1) marks (λ m marked.
    let most = powers_to last heads fit.each to.each m (subst (Memᴰ m) common.powers ((listed_marked marks m).1 marked)) in
    omega arith)

pub powers_counted : {heads : List Head} {last powers : ℕ} {marks : List Bool} → HeadsFit heads → Common heads marks
    → PowersTo last heads → powers ≡ count_marks (take (last + 1) marks) → PowersCounted heads powers
powers_counted {heads} {last} {powers} {marks} fit common to is =
    let all = is ∙ all_counted fit common to in
    record {
      heads_fit = fit;
      powers_are = all ∙ marked_count 0 marks ∙ ap length common.powers;
      powers_most = omega (arith, all, count_most marks, common.size);
    }

-- ---- the greatest power

pub powers_none : (heads : List Head) → PowersTo 0 (take 0 heads)
powers_none heads = record { each = tt }

-- one member more, with its greatest power or with the greatest so far
pub powers_more : (heads : List Head) (i : ℕ) {n k : ℕ} → i < length heads → PowersTo n (take i heads) → n ≤ k
    → greatest_target (get_or heads i any_head).degree (own_split (get_or heads i any_head)) ≤ k
    → PowersTo k (take (i + 1) heads)
powers_more heads i {n} {k} inside to grows own =
    subst (PowersTo k) (sym (take_more heads i any_head inside)) (record { each = both (take i heads) to.each })
  where
    both : (xs : List Head) → Each (λ (head : Head). greatest_target head.degree (own_split head) ≤ n) xs
        → Each (λ (head : Head). greatest_target head.degree (own_split head) ≤ k) (xs ++ (get_or heads i any_head ∷ []))
    both [] none = (own, tt)
    both (x ∷ xs) each = (omega (arith, each.0), both xs each.1)

pub powers_all : {heads : List Head} {i n : ℕ} → PowersTo n (take i heads) → length heads ≤ i → PowersTo n heads
powers_all {heads} {i} {n} to past = subst (PowersTo n) (take_all i heads past) to
