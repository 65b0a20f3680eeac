-- The common powers of a set are those that one of its members needs, rising: the union of rising lists holds what they hold (sets' `merged_holds`), and
-- each member's list holds its needed powers. Each member's are the least set for its targets, so with one basis their union is, too.
use mathlib.Core.Path.{◌≡◌, refl, sym, subst}
use mathlib.Core.Logic.{inl, inr, ⊎_elim}
use mathlib.Core.List.Memᴰ
use mathlib.Core.List.{List, [], ◌∷◌, map, Memᴰ}
use Prim.Native.Nat.{ℕ, ◌<◌}
use Rattle.algebra.specs.declared.Basis.{Basis}
use Rattle.needed.specs.Needed.{Part, NeededPower, Closed, Least}
use Rattle.needed.proofs.Promises.{needed_powers}
use Rattle.walk.specs.declared.plan.Head.{Head}
use Rattle.sets.specs.Own.{own_split, own_powers}
use Rattle.sets.specs.Union.{union_of}
use Rattle.sets.specs.SetPlan.{set_powers, common_steps, member_steps, set_steps, set_boundaries}
use Rattle.sets.proofs.Union.{merged_holds, union_rising}
use Rattle.demands.specs.SetPowers.{NeededBySome, needed_by, TargetOfSome, target_of, OneBasis, SetsShare, SetsInOrder}

-- a member more
needed_more : (head : Head) (heads : List Head) (n : ℕ) → NeededBySome heads n → NeededBySome (head ∷ heads) n
needed_more head heads n (needed_by one member needed) = needed_by one (Memᴰ.tail member) needed

listed_needed : (heads : List Head) (n : ℕ) → Memᴰ n (union_of (map own_powers heads)) → NeededBySome heads n
unfolding union_of own_powers
listed_needed [] n member = absurd (Memᴰ.not-nil member)
listed_needed (head ∷ heads) n member =
    ⊎_elim
    (λ (own : Memᴰ n (own_powers head)).
    needed_by head (Memᴰ.head refl) (((needed_powers head.parity head.basis head.degree (own_split head)).listed n).0 own))
    (λ (others : Memᴰ n (union_of (map own_powers heads))). needed_more head heads n (listed_needed heads n others))
    ((merged_holds (own_powers head) (union_of (map own_powers heads)) n).0 member)

needed_listed : (heads : List Head) (n : ℕ) (one : Head) → Memᴰ one heads
    → NeededPower one.parity one.basis one.degree (own_split one) n → Memᴰ n (union_of (map own_powers heads))
unfolding union_of own_powers
needed_listed [] n one member needed = absurd (Memᴰ.not-nil member)
needed_listed (head ∷ heads) n one member needed =
    (merged_holds (own_powers head) (union_of (map own_powers heads)) n).1
    (⊎_elim
    (λ (same : one ≡ head).
    inl (subst (λ (h : Head). Memᴰ n (own_powers h)) same
    (((needed_powers one.parity one.basis one.degree (own_split one)).listed n).1 needed)))
    (λ (later : Memᴰ one heads). inr (needed_listed heads n one later needed))
    (Memᴰ.cases_cons member))

-- ---- the least set

least_set : (heads : List Head) (basis : Basis) → OneBasis basis heads → Least basis (TargetOfSome heads) (NeededBySome heads)
least_set heads basis one_basis = record {
  holds = λ n target. holds n target;
  closed = λ n m above needed part. closed n m above part needed;
  least = λ Other has closed n needed. least Other has closed n needed;
}
  where
    holds : (n : ℕ) → TargetOfSome heads n → NeededBySome heads n
    holds n (target_of head member target) =
        needed_by head member ((needed_powers head.parity head.basis head.degree (own_split head)).least.holds n target)

    closed : (n m : ℕ) → 1 < n → Part basis n m → NeededBySome heads n → NeededBySome heads m
    closed n m above part (needed_by head member needed) =
        needed_by head member
        ((needed_powers head.parity head.basis head.degree (own_split head)).least.closed n m above needed
        (subst (λ (b : Basis). Part b n m) (sym (one_basis head member)) part))

    least : (Other : ℕ → Type 0) → ((n : ℕ) → TargetOfSome heads n → Other n) → Closed basis Other → (n : ℕ) → NeededBySome heads n → Other n
    least Other has closed n (needed_by head member needed) =
        (needed_powers head.parity head.basis head.degree (own_split head)).least.least Other (λ k target. has k (target_of head member target))
        (subst (λ (b : Basis). Closed b Other) (sym (one_basis head member)) closed) n needed

pub sets_share : SetsShare
unfolding set_powers
sets_share heads = record {
  listed = λ n. (listed_needed heads n, λ some. listed n some);
  rising = union_rising (map own_powers heads);
  least = least_set heads;
}
  where
    listed : (n : ℕ) → NeededBySome heads n → Memᴰ n (union_of (map own_powers heads))
    listed n (needed_by head member needed) = needed_listed heads n head member needed

pub sets_in_order : SetsInOrder
unfolding set_steps common_steps member_steps set_boundaries
sets_in_order heads = record { steps = refl; boundaries = refl }
