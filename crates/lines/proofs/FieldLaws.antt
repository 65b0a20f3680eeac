-- Laws of the fields of a line: the first is the bytes up to the first tab, and the others are the fields of the bytes behind that tab. Without a tab
-- the line is one field.
use mathlib.Core.Path.{◌≡◌, refl, ap, sym, ◌∙◌}
use mathlib.Core.Logic.{◌≢◌}
use mathlib.Core.List.{List, [], ◌∷◌}
use Prim.Native.Nat.{ℕ, zero, suc, ◌+◌, ◌-◌, ◌<◌}
use native.Mathlib.Numerals.{add-one}
use native.Mathlib.Omega.{arith}
use borrow.Author.Tests.{ne_eqb}
use lib.ListN.{length, get_or, take, drop}
use Rattle.std.specs.List.{HoldsAt, AllWithin}
use Rattle.std.proofs.lemmas.List.{take_rest}
use Rattle.lines.specs.Bytes.{tab}
use Rattle.lines.specs.Fields.{fields}

pub up_to_tab : (xs : List ℕ) (i : ℕ) → i < length xs → get_or xs i 0 ≡ tab → ((k : ℕ) → k < i → get_or xs k 0 ≢ tab)
    → fields xs ≡ take i xs ∷ fields (drop (suc i) xs)
unfolding fields
up_to_tab [] i within is none = absurd (omega arith)
up_to_tab (b ∷ bs) zero within is none = rw is refl
up_to_tab (b ∷ bs) (suc i) within is none =
    rw (ne_eqb b tab (none 0 (omega arith)), up_to_tab bs i (omega arith) is (λ k h. none (suc k) (omega arith))) refl

pub without_tab : (xs : List ℕ) → ((k : ℕ) → k < length xs → get_or xs k 0 ≢ tab) → fields xs ≡ xs ∷ []
unfolding fields
without_tab [] none = refl
without_tab (b ∷ bs) none =
    rw (ne_eqb b tab (none 0 (omega arith)), without_tab bs (λ k h. none (suc k) (omega arith))) refl

-- what `position` finds in a line parts it so; `fields_in` reads the bytes behind the tab as a part of the line
pub parted : (line : List ℕ) (end : ℕ)
    → (end < length line) × HoldsAt (λ b. b ≡ tab) line end × AllWithin (λ b. b ≢ tab) line 0 end
    → fields line ≡ take end line ∷ fields (take (length line - (end + 1)) (drop (end + 1) line))
parted line end found =
    up_to_tab line end found.0 (found.1 0) (λ k h. found.2 k 0 (omega arith) h)
    ∙ ap (λ (bs : List ℕ). take end line ∷ fields bs) (sym (take_rest line (end + 1) ∙ rw add-one (λ i. drop (suc end) line)))

pub unparted : (line : List ℕ) → AllWithin (λ b. b ≢ tab) line 0 (length line) → fields line ≡ line ∷ []
unparted line none = without_tab line (λ k h. none k 0 (omega arith) h)
