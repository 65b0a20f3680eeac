-- What marking does to a list of marks: it keeps its length and its marks, marks the parts of n and nothing else, and changes no place
-- from n on, since parts and distance are smaller than n.
use mathlib.Core.Path.{◌≡◌, refl, ap, ◌∙◌, subst}
use mathlib.Core.Bool.{Bool, true, false, cond}
use mathlib.Core.Logic.{◌⊎◌, inl, inr, ⊎_elim, ◌≢◌}
use mathlib.Core.List.{List, [], ◌∷◌}
use Prim.Native.Nat.{ℕ, zero, suc, ◌≤◌, ◌<◌}
use native.Mathlib.Omega.{arith}
use borrow.Author.Tests.{lt-ltb, ltb-true}
use lib.Dec.{ltb}
use lib.ListN.{length, get_or, set, length-set}
use lib.Seq.{get_or-set_same, get_or-set_other}
use Rattle.algebra.specs.declared.Basis.{Basis}
use Rattle.algebra.specs.declared.Basis.TheVariants.{Monomial, Chebyshev}
use Rattle.number.specs.Split.{parts_of}
use Rattle.needed.specs.Needed.{Part, first, second, apart}
use Rattle.needed.specs.inside.Marks.{Marked, mark_at, mark_apart, mark_parts, sweep_at}
use Rattle.number.proofs.SplitParts.{parted}
use Rattle.needed.proofs.Flags.{by_test}

pub marked_below : (marks : List Bool) (n : ℕ) → Marked marks n → n < length marks
marked_below [] n marked = let clash : ◌≡◌ {A = ℕ} 0 1 = cc in omega arith
marked_below (x ∷ marks) zero marked = omega arith
marked_below (x ∷ marks) (suc n) marked = let rest = marked_below marks n marked in omega arith

set_keeps : (marks : List Bool) (i m : ℕ) → Marked marks m → Marked (set marks i true) m
set_keeps [] i m marked = marked
set_keeps (x ∷ marks) zero zero marked = refl
set_keeps (x ∷ marks) zero (suc m) marked = marked
set_keeps (x ∷ marks) (suc i) zero marked = marked
set_keeps (x ∷ marks) (suc i) (suc m) marked = set_keeps marks i m marked

set_only : (marks : List Bool) (i m : ℕ) → Marked (set marks i true) m → (m ≡ i) ⊎ Marked marks m
set_only [] i m marked = inr marked
set_only (x ∷ marks) zero zero marked = inl refl
set_only (x ∷ marks) zero (suc m) marked = inr marked
set_only (x ∷ marks) (suc i) zero marked = inr marked
set_only (x ∷ marks) (suc i) (suc m) marked = ⊎_elim (λ same. inl (ap suc same)) (λ old. inr old) (set_only marks i m marked)

-- ---- one mark

module _ (i : ℕ) (marks : List Bool) where
  pub mark_length : length (mark_at i marks) ≡ length marks
  unfolding mark_at
  mark_length = by_test (λ (b : Bool). length (cond b (set marks i true) marks) ≡ length marks) (ltb 1 i) (λ is. length-set marks i true) (λ is. refl)

  mark_keeps : (m : ℕ) → Marked marks m → Marked (mark_at i marks) m
  unfolding mark_at
  mark_keeps m marked = by_test (λ (b : Bool). Marked (cond b (set marks i true) marks) m) (ltb 1 i) (λ is. set_keeps marks i m marked) (λ is. marked)

  mark_here : 1 < i → i < length marks → Marked (mark_at i marks) i
  unfolding mark_at
  mark_here above inside = rw (lt-ltb 1 i above) (get_or-set_same marks i true false inside)

  mark_other : (m : ℕ) → m ≢ i → get_or (mark_at i marks) m false ≡ get_or marks m false
  unfolding mark_at
  mark_other m other =
      by_test (λ (b : Bool). get_or (cond b (set marks i true) marks) m false ≡ get_or marks m false) (ltb 1 i)
      (λ is. get_or-set_other marks i m true false other)
      (λ is. refl)

  mark_only : (m : ℕ) → Marked (mark_at i marks) m → ((m ≡ i) × (1 < i)) ⊎ Marked marks m
  unfolding mark_at
  mark_only m marked =
      by_test (λ (b : Bool). Marked (cond b (set marks i true) marks) m → ((m ≡ i) × (1 < i)) ⊎ Marked marks m) (ltb 1 i)
      (λ is new. ⊎_elim (λ same. inl (same, ltb-true 1 i is)) (λ old. inr old) (set_only marks i m new))
      (λ is old. inr old) marked

-- ---- the distance

module _ (n : ℕ) (marks : List Bool) where
  pub apart_monomial : {basis : Basis} → basis ≡ Monomial → mark_apart basis n marks ≡ marks
  unfolding mark_apart
  apart_monomial in_monomial = rw in_monomial

  pub apart_chebyshev : {basis : Basis} → basis ≡ Chebyshev → mark_apart basis n marks ≡ mark_at (parts_of n).distance marks
  unfolding mark_apart
  apart_chebyshev in_chebyshev = rw in_chebyshev

  pub apart_length : (basis : Basis) → length (mark_apart basis n marks) ≡ length marks
  unfolding mark_apart
  apart_length Monomial = refl
  apart_length Chebyshev = mark_length (parts_of n).distance marks

  apart_keeps : (basis : Basis) (m : ℕ) → Marked marks m → Marked (mark_apart basis n marks) m
  unfolding mark_apart
  apart_keeps Monomial m marked = marked
  apart_keeps Chebyshev m marked = mark_keeps (parts_of n).distance marks m marked

  apart_other : (basis : Basis) (m : ℕ) → m ≢ (parts_of n).distance → get_or (mark_apart basis n marks) m false ≡ get_or marks m false
  unfolding mark_apart
  apart_other Monomial m other = refl
  apart_other Chebyshev m other = mark_other (parts_of n).distance marks m other

  apart_here : (basis : Basis) (m : ℕ) → basis ≡ Chebyshev → 1 < m → m ≡ (parts_of n).distance → m < length marks
      → Marked (mark_apart basis n marks) m
  unfolding mark_apart
  apart_here basis m in_chebyshev above is inside =
      let here : Marked (mark_at m marks) m = mark_here m marks above inside in
      rw (in_chebyshev, ← is) here

  apart_only : (basis : Basis) (m : ℕ) → Marked (mark_apart basis n marks) m → Part basis n m ⊎ Marked marks m
  unfolding mark_apart
  apart_only Monomial m marked = inr marked
  apart_only Chebyshev m marked =
      ⊎_elim (λ new. inl (apart refl (rw new.0 new.1) new.0)) (λ old. inr old)
      (mark_only (parts_of n).distance marks m marked)

-- ---- all parts

module _ (basis : Basis) (n : ℕ) (marks : List Bool) where
  -- the marks after the distance, and after the first part
  abbrev one_made : List Bool
  one_made = mark_apart basis n marks

  abbrev two_made : List Bool
  two_made = mark_at (parts_of n).a one_made

  parts_keep : (m : ℕ) → Marked marks m → Marked (mark_parts basis n marks) m
  unfolding mark_parts
  parts_keep m marked = mark_keeps (parts_of n).b two_made m (mark_keeps (parts_of n).a one_made m (apart_keeps n marks basis m marked))

  parts_length : length (mark_parts basis n marks) ≡ length marks
  unfolding mark_parts
  parts_length = mark_length (parts_of n).b two_made ∙ mark_length (parts_of n).a one_made ∙ apart_length n marks basis

  parts_here : (m : ℕ) → Part basis n m → m < length marks → Marked (mark_parts basis n marks) m
  unfolding mark_parts
  parts_here m (first above is) inside =
      let same_length = apart_length n marks basis in
      let here : Marked (mark_at m one_made) m = mark_here m one_made above (omega arith) in
      mark_keeps (parts_of n).b two_made m (subst (λ (x : ℕ). Marked (mark_at x one_made) m) is here)
  parts_here m (second above is) inside =
      let same_length = apart_length n marks basis in
      let same_length' = mark_length (parts_of n).a one_made in
      let here : Marked (mark_at m two_made) m = mark_here m two_made above (omega arith) in
      subst (λ (x : ℕ). Marked (mark_at x two_made) m) is here
  parts_here m (apart in_chebyshev above is) inside =
      mark_keeps (parts_of n).b two_made m (mark_keeps (parts_of n).a one_made m (apart_here n marks basis m in_chebyshev above is inside))

  parts_only : (m : ℕ) → Marked (mark_parts basis n marks) m → Part basis n m ⊎ Marked marks m
  unfolding mark_parts
  parts_only m marked =
      ⊎_elim (λ new. inl (second (rw new.0 new.1) new.0))
      (λ old. ⊎_elim (λ new. inl (first (rw new.0 new.1) new.0)) (apart_only n marks basis m) (mark_only (parts_of n).a one_made m old))
      (mark_only (parts_of n).b two_made m marked)

  parts_above : (m : ℕ) → 2 ≤ n → n ≤ m → get_or (mark_parts basis n marks) m false ≡ get_or marks m false
  unfolding mark_parts
  parts_above m from_two above =
      let two = parted n from_two in
      mark_other (parts_of n).b two_made m (omega arith) ∙ mark_other (parts_of n).a one_made m (omega arith) ∙ apart_other n marks basis m (omega arith)

-- ---- one place of the sweep

module _ (basis : Basis) (n : ℕ) (marks : List Bool) where
  pub place_length : length (sweep_at basis n marks) ≡ length marks
  unfolding sweep_at
  place_length =
      by_test (λ (b : Bool). length (cond b (mark_parts basis n marks) marks) ≡ length marks) (get_or marks n false)
      (λ is. parts_length basis n marks)
      (λ is. refl)

  pub place_keeps : (m : ℕ) → Marked marks m → Marked (sweep_at basis n marks) m
  unfolding sweep_at
  place_keeps m marked =
      by_test (λ (b : Bool). Marked (cond b (mark_parts basis n marks) marks) m) (get_or marks n false) (λ is. parts_keep basis n marks m marked) (λ is. marked)

  pub place_above : (m : ℕ) → 2 ≤ n → n ≤ m → get_or (sweep_at basis n marks) m false ≡ get_or marks m false
  unfolding sweep_at
  place_above m from_two above =
      by_test (λ (b : Bool). get_or (cond b (mark_parts basis n marks) marks) m false ≡ get_or marks m false) (get_or marks n false)
      (λ is. parts_above basis n marks m from_two above)
      (λ is. refl)

  pub place_here : (m : ℕ) → Marked marks n → Part basis n m → m < length marks → Marked (sweep_at basis n marks) m
  unfolding sweep_at
  place_here m marked part inside = rw marked (parts_here basis n marks m part inside)

  pub place_only : (m : ℕ) → Marked (sweep_at basis n marks) m → (Marked marks n × Part basis n m) ⊎ Marked marks m
  unfolding sweep_at
  place_only m marked =
      by_test (λ (b : Bool). Marked (cond b (mark_parts basis n marks) marks) m → (Marked marks n × Part basis n m) ⊎ Marked marks m) (get_or marks n false)
      (λ is new. ⊎_elim (λ part. inl (is, part)) (λ old. inr old) (parts_only basis n marks m new))
      (λ is old. inr old) marked

  pub place_marked : Marked marks n → sweep_at basis n marks ≡ mark_parts basis n marks
  unfolding sweep_at
  place_marked marked = rw marked

  pub place_unmarked : get_or marks n false ≡ false → sweep_at basis n marks ≡ marks
  unfolding sweep_at
  place_unmarked unmarked = rw unmarked
