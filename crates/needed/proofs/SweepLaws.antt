-- The sweep computes the least set. What it marks is needed, by the rule itself. Nothing is left out: a part is smaller than its whole,
-- so once the sweep has passed n no mark at n or above changes, and the parts of n stay marked.
use mathlib.Core.Path.{◌≡◌, refl, sym, ◌∙◌, subst}
use mathlib.Core.Bool.{Bool}
use mathlib.Core.Logic.{◌⊎◌, inl, inr, ⊎_elim, ◌↔◌}
use mathlib.Core.List.{List}
use Prim.Native.Nat.{ℕ, zero, suc, ◌-◌, ◌≤◌, ◌<◌}
use native.Mathlib.Nat.{eq-or-lt_of_le}
use native.Mathlib.Omega.{arith}
use lib.ListN.{length}
use Rattle.algebra.specs.declared.Basis.{Basis}
use Rattle.needed.specs.Needed.{Part, Needed, target, part}
use Rattle.needed.specs.inside.Marks.{Marked, sweep_at, sweep_from}
use Rattle.needed.proofs.Needed.{part_less}
use Rattle.needed.proofs.MarkLaws.{marked_below, place_length, place_keeps, place_above, place_here, place_only}

-- one place of the sweep, and the rest from the next lower
pub sweep_place : (basis : Basis) (n : ℕ) (marks : List Bool) → 1 < n → sweep_from basis n marks ≡ sweep_from basis (n - 1) (sweep_at basis n marks)
unfolding sweep_from
sweep_place basis zero marks above = absurd (omega arith)
sweep_place basis (suc zero) marks above = absurd (omega arith)
sweep_place basis (suc (suc n)) marks above = let lower : suc (suc n) - 1 ≡ suc n = omega arith in rw lower

pub sweep_end : (basis : Basis) (n : ℕ) (marks : List Bool) → n ≤ 1 → sweep_from basis n marks ≡ marks
unfolding sweep_from
sweep_end basis zero marks low = refl
sweep_end basis (suc zero) marks low = refl
sweep_end basis (suc (suc n)) marks low = absurd (omega arith)

pub sweep_length : (basis : Basis) (n : ℕ) (marks : List Bool) → length (sweep_from basis n marks) ≡ length marks
unfolding sweep_from
sweep_length basis zero marks = refl
sweep_length basis (suc zero) marks = refl
sweep_length basis (suc (suc n)) marks = sweep_length basis (suc n) (sweep_at basis (suc (suc n)) marks) ∙ place_length basis (suc (suc n)) marks

sweep_keeps : (basis : Basis) (n : ℕ) (marks : List Bool) (m : ℕ) → Marked marks m → Marked (sweep_from basis n marks) m
unfolding sweep_from
sweep_keeps basis zero marks m marked = marked
sweep_keeps basis (suc zero) marks m marked = marked
sweep_keeps basis (suc (suc n)) marks m marked =
    sweep_keeps basis (suc n) (sweep_at basis (suc (suc n)) marks) m (place_keeps basis (suc (suc n)) marks m marked)

-- every mark of the sweep is needed
sweep_sound : (basis : Basis) (Target : ℕ → Type 0) (n : ℕ) (marks : List Bool) → ((m : ℕ) → Marked marks m → Needed basis Target m)
    → (m : ℕ) → Marked (sweep_from basis n marks) m → Needed basis Target m
unfolding sweep_from
sweep_sound basis Target zero marks sound m marked = sound m marked
sweep_sound basis Target (suc zero) marks sound m marked = sound m marked
sweep_sound basis Target (suc (suc n)) marks sound m marked =
    sweep_sound basis Target (suc n) (sweep_at basis (suc (suc n)) marks)
    (λ i new.
    ⊎_elim (λ made. part (omega arith) (sound (suc (suc n)) made.0) made.1) (sound i) (place_only basis (suc (suc n)) marks i new))
    m marked

-- with each n above a bound the marks hold its parts
abbrev ClosedAbove : Basis → ℕ → List Bool → Type 0
ClosedAbove basis bound marks = (n m : ℕ) → bound < n → Marked marks n → Part basis n m → Marked marks m

place_closes : (basis : Basis) (k : ℕ) (marks : List Bool) → ClosedAbove basis (suc (suc k)) marks
    → ClosedAbove basis (suc k) (sweep_at basis (suc (suc k)) marks)
place_closes basis k marks closed n m above marked is_part_lem = by_place (eq-or-lt_of_le {n = suc (suc k)} {m = n} (omega arith))
  where
    before : Marked marks n
    before = sym (place_above basis (suc (suc k)) marks n (omega arith) (omega arith)) ∙ marked

    by_place : (suc (suc k) ≡ n) ⊎ (suc (suc k) < n) → Marked (sweep_at basis (suc (suc k)) marks) m
    by_place (inl here) =
        let inside : m < length marks = omega (arith, marked_below marks n before, part_less basis n m (omega arith) is_part_lem) in
        place_here basis (suc (suc k)) marks m (subst (Marked marks) (sym here) before) (subst (λ (x : ℕ). Part basis x m) (sym here) is_part_lem) inside
    by_place (inr higher) = place_keeps basis (suc (suc k)) marks m (closed n m higher before is_part_lem)

sweep_closes : (basis : Basis) (n : ℕ) (marks : List Bool) → ClosedAbove basis n marks → ClosedAbove basis 1 (sweep_from basis n marks)
unfolding sweep_from
sweep_closes basis zero marks closed = λ n m above. closed n m (omega arith)
sweep_closes basis (suc zero) marks closed = closed
sweep_closes basis (suc (suc n)) marks closed = sweep_closes basis (suc n) (sweep_at basis (suc (suc n)) marks) (place_closes basis n marks closed)

-- swept from a place above which they are closed, the marks are the least set: all of it, and nothing else
pub sweep_closed : (basis : Basis) (n : ℕ) (marks : List Bool) → ClosedAbove basis n marks → (m : ℕ)
    → Marked (sweep_from basis n marks) m ↔ Needed basis (Marked marks) m
sweep_closed basis n marks above m = (sweep_sound basis (Marked marks) n marks (λ i marked. target marked) m, complete m)
  where
    closed : ClosedAbove basis 1 (sweep_from basis n marks)
    closed = sweep_closes basis n marks above

    complete : (i : ℕ) → Needed basis (Marked marks) i → Marked (sweep_from basis n marks) i
    complete i (target marked) = sweep_keeps basis n marks i marked
    complete i (part {n = whole_part} above needed is_part_lem) = closed whole_part i above (complete whole_part needed) is_part_lem

-- so they are swept from the last mark or above
pub sweep_marks : (basis : Basis) (n : ℕ) (marks : List Bool) → ((i : ℕ) → Marked marks i → i ≤ n) → (m : ℕ)
    → Marked (sweep_from basis n marks) m ↔ Needed basis (Marked marks) m
sweep_marks basis n marks last m = sweep_closed basis n marks (λ i j above marked is_part_lem. let most = last i marked in absurd (omega arith)) m

pub sweep_least : (basis : Basis) (n : ℕ) (marks : List Bool) → length marks ≤ suc n → (m : ℕ)
    → Marked (sweep_from basis n marks) m ↔ Needed basis (Marked marks) m
sweep_least basis n marks whole m = sweep_marks basis n marks (λ i marked. let inside = marked_below marks i marked in omega arith) m
