-- The test of 36 holds exactly if two members differ in one of the settings that a set has in common. Kinds are told apart by their numbers, so two
-- members are alike exactly if their settings are the same; members that are each like the first are like one another; and where the test of all
-- fails, the first and one of the others differ.
use mathlib.Core.Path.{◌≡◌, refl, sym, ◌∙◌, subst}
use mathlib.Core.Logic.{⊎_elim, ◌↔◌}
use mathlib.Core.Bool.{Bool, true, false, not, cond, ◌&&◌, true≢false, false≢true}
use mathlib.Core.List.Memᴰ
use mathlib.Core.List.{List, [], ◌∷◌, Memᴰ}
use borrow.Author.Tests.{eqb-true, eq-eqb}
use lib.Dec.{eqb}
use Rattle.algebra.specs.EnumNumbers.{basis_number, parity_number}
use Rattle.algebra.specs.declared.Basis.{Basis}
use Rattle.algebra.specs.declared.Parity.{Parity}
use Rattle.algebra.proofs.EnumNumbers.{numbers_tell_apart}
use Rattle.number.proofs.BothHold.{and_left, and_right}
use Rattle.sets.specs.Members.{members_in, alike, alike_to, all_alike}
use Rattle.sets.specs.declared.member.Member.{Member}
use Rattle.sets.specs.declared.member.Members.{Members}
use Rattle.demands.specs.SetAccepts.{SameSettings}
use Rattle.demands.specs.SetTotal.{Unlike}

-- ---- the numbers of kinds

basis_self : (basis : Basis) → eqb (basis_number basis) (basis_number basis) ≡ true
basis_self basis = eq-eqb (basis_number basis) (basis_number basis) refl

parity_self : (parity : Parity) → eqb (parity_number parity) (parity_number parity) ≡ true
parity_self parity = eq-eqb (parity_number parity) (parity_number parity) refl

-- ---- two members

fold_same : (one other parities : Bool) → cond one (other && parities) (not other) ≡ true → one ≡ other
fold_same true true parities same = refl
fold_same true false parities same = absurd (false≢true same)
fold_same false true parities same = absurd (false≢true same)
fold_same false false parities same = refl

fold_parity : (one other parities : Bool) → cond one (other && parities) (not other) ≡ true → one ≡ true → parities ≡ true
fold_parity true other parities same folds = and_right other parities same
fold_parity false other parities same folds = absurd (false≢true folds)

alike_same : (one other : Member) → alike one other ≡ true → SameSettings one other
unfolding alike
alike_same one other same =
    let bases : Bool = eqb (basis_number one.basis) (basis_number other.basis) in
    let parities : Bool = eqb (parity_number one.parity) (parity_number other.parity) in
    let folds : Bool = cond one.fold (other.fold && parities) (not other.fold) in
    let rest = and_right bases folds same in
    record {
      basis = numbers_tell_apart.bases one.basis other.basis (eqb-true _ _ (and_left bases folds same));
      fold = fold_same one.fold other.fold parities rest;
      parity = λ folded. numbers_tell_apart.parities one.parity other.parity
          (eqb-true _ _ (fold_parity one.fold other.fold parities rest folded));
    }

fold_alike : (fold : Bool) (one other : Parity) → (fold ≡ true → one ≡ other)
    → cond fold (fold && eqb (parity_number one) (parity_number other)) (not fold) ≡ true
fold_alike true one other same = rw (same refl) (parity_self other)
fold_alike false one other same = refl

same_alike : (one other : Member) → SameSettings one other → alike one other ≡ true
unfolding alike
same_alike one other same =
    rw (same.basis, basis_self other.basis, sym same.fold) (fold_alike one.fold one.parity other.parity same.parity)

-- ---- all members

same_self : (one : Member) → SameSettings one one
same_self one = record { basis = refl; fold = refl; parity = λ folds. refl }

same_both : (first one other : Member) → SameSettings first one → SameSettings first other → SameSettings one other
same_both first one other left right = record {
  basis = sym left.basis ∙ right.basis;
  fold = sym left.fold ∙ right.fold;
  parity = λ folds. sym (left.parity (left.fold ∙ folds)) ∙ right.parity (left.fold ∙ folds);
}

each_alike : (first : Member) (members : List Member) → alike_to first members ≡ true → (one : Member) → Memᴰ one members → SameSettings first one
unfolding alike_to
each_alike first [] all one member = absurd (Memᴰ.not-nil member)
each_alike first (next ∷ members) all one member =
    ⊎_elim (λ (e : one ≡ next). rw e (alike_same first next (and_left (alike first next) (alike_to first members) all)))
    (λ (later : Memᴰ one members). each_alike first members (and_right (alike first next) (alike_to first members) all) one later)
    (Memᴰ.cases_cons member)

pub settings_same : (members : List Member) → all_alike members ≡ true → (one other : Member) → Memᴰ one members → Memᴰ other members
    → SameSettings one other
unfolding all_alike
settings_same [] have one other here there = absurd (Memᴰ.not-nil here)
settings_same (first ∷ members) have one other here there = same_both first one other (like one here) (like other there)
  where
    like : (m : Member) → Memᴰ m (first ∷ members) → SameSettings first m
    like m member =
        ⊎_elim (λ (e : m ≡ first). rw e (same_self first)) (λ (later : Memᴰ m members). each_alike first members have m later)
        (Memᴰ.cases_cons member)

all_alike_lem : (first : Member) (members : List Member) → ((one : Member) → Memᴰ one members → SameSettings first one) → alike_to first members ≡ true
unfolding alike_to
all_alike_lem first [] each = refl
all_alike_lem first (next ∷ members) each =
    rw (same_alike first next (each next (Memᴰ.head refl))) (all_alike_lem first members (λ one member. each one (Memᴰ.tail member)))

pub same_settings : (members : List Member) → ((one other : Member) → Memᴰ one members → Memᴰ other members → SameSettings one other)
    → all_alike members ≡ true
unfolding all_alike
same_settings [] same = refl
same_settings (first ∷ members) same = all_alike_lem first members (λ one member. same first one (Memᴰ.head refl) (Memᴰ.tail member))

-- ---- two that differ

-- one of some members differs from a first one
record Differs (first : Member) (members : List Member) : Type 0 where
  other : Member
  other_in : Memᴰ other members
  differ : SameSettings first other → ⊥

differs : (first : Member) (members : List Member) → alike_to first members ≡ false → Differs first members
unfolding alike_to
differs first [] not-all = absurd (true≢false not-all)
differs first (next ∷ members) not-all = by (alike first next) refl not-all (differs first members)
  where
    by : (same : Bool) → alike first next ≡ same → (alike first next && alike_to first members) ≡ false
        → (alike_to first members ≡ false → Differs first members) → Differs first (next ∷ members)
    by true is none rest =
        let later = rest (rw is at none) in
        record { other = later.other; other_in = Memᴰ.tail later.other_in; differ = later.differ }
    by false is none rest =
        record { other = next; other_in = Memᴰ.head refl; differ = λ same. true≢false (sym (same_alike first next same) ∙ is) }

first_unlike : (handed : Members) (members : List Member) → members_in handed ≡ members → all_alike members ≡ false → Unlike handed
unfolding all_alike
first_unlike handed [] are not-all = absurd (true≢false not-all)
first_unlike handed (first ∷ members) are not-all =
    let found = differs first members not-all in
    record {
      one = first;
      other = found.other;
      one_in = subst (Memᴰ first) (sym are) (Memᴰ.head refl);
      other_in = subst (Memᴰ found.other) (sym are) (Memᴰ.tail found.other_in);
      differ = found.differ;
    }

pub unlike_told : (handed : Members) → (all_alike (members_in handed) ≡ false) ↔ Unlike handed
unlike_told handed = (
  first_unlike handed (members_in handed) refl,
  λ unlike. by unlike (all_alike (members_in handed)) refl,
)
  where
    by : Unlike handed → (all : Bool) → all_alike (members_in handed) ≡ all → all ≡ false
    by unlike true is =
        absurd (unlike.differ (settings_same (members_in handed) is unlike.one unlike.other unlike.one_in unlike.other_in))
    by unlike false is = refl
