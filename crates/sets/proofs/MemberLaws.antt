-- Members one after another, and the settings of two of them.
use mathlib.Core.Path.{◌≡◌, sym, ◌∙◌, ap, ap₂}
use mathlib.Core.Bool.{true, false, not, ◌&&◌}
use mathlib.Core.List.{List}
use Prim.Native.Nat.{ℕ, ◌+◌, ◌-◌, ◌≤◌, ◌<◌}
use native.Mathlib.Decide.{dec_lt}
use native.Mathlib.Omega.{arith}
use borrow.Author.Tests.{eq-eqb, ne_eqb, lt-ltb, le-ltb, not-true, not-false}
use lib.Dec.{ltb, eqb}
use lib.ListN.{length, get_or, drop, drop_of_length-le}
use Rattle.algebra.specs.EnumNumbers.{basis_number, parity_number}
use Rattle.sets.specs.Members.{total, handed_count, alike, alike_to}
use Rattle.sets.specs.declared.member.Member.{Member}
use Rattle.sets.proofs.Arrays.{no_member, from_place}

-- ---- settings

module _ (one other : Member) {m n : ℕ} (m_is : m ≡ basis_number one.basis) (n-is : n ≡ basis_number other.basis) where
  pub alike_bases : (m ≡ n → ⊥) → false ≡ alike one other
  unfolding alike
  alike_bases differ = sym (rw (ne_eqb (basis_number one.basis) (basis_number other.basis) (λ e. differ (m_is ∙ e ∙ sym n-is))))

  same_bases : m ≡ n → eqb (basis_number one.basis) (basis_number other.basis) ≡ true
  same_bases same = eq-eqb _ _ (sym m_is ∙ same ∙ n-is)

  pub alike_unfolded : m ≡ n → not one.fold ≡ true → not other.fold ≡ alike one other
  unfolding alike
  alike_unfolded same unfolded = sym (rw (same_bases same, not-true one.fold unfolded))

  pub alike_half : m ≡ n → not one.fold ≡ false → not other.fold ≡ true → false ≡ alike one other
  unfolding alike
  alike_half same folded unfolded = sym (rw (same_bases same, not-false one.fold folded, not-true other.fold unfolded))

  pub alike_folded : {p q : ℕ} → p ≡ parity_number one.parity → q ≡ parity_number other.parity → m ≡ n → not one.fold ≡ false
      → not other.fold ≡ false → eqb p q ≡ alike one other
  unfolding alike
  alike_folded p_is q-is same folded both =
      sym (rw (same_bases same, not-false one.fold folded, not-false other.fold both) (ap₂ eqb (sym p_is) (sym q-is)))

module _ (members : List Member) (i : ℕ) (inside : i < length members) where
  pub alike_next : (first : Member) → alike_to first (drop i members)
      ≡ (alike first (get_or members i no_member) && alike_to first (drop (i + 1) members))
  unfolding alike_to
  alike_next first = ap (alike_to first) (from_place no_member i members inside)

  -- ---- lengths

  pub count_next : handed_count (drop i members) ≡ (get_or members i no_member).count + handed_count (drop (i + 1) members)
  unfolding total
  count_next = ap handed_count (from_place no_member i members inside)

-- behind the last none is left
pub alike_end : (first : Member) (members : List Member) (i : ℕ) → length members ≤ i → alike_to first (drop i members) ≡ true
unfolding alike_to
alike_end first members i past = ap (alike_to first) (drop_of_length-le members past)

pub count_end : (members : List Member) (i : ℕ) → length members ≤ i → handed_count (drop i members) ≡ 0
unfolding total
count_end members i past = ap handed_count (drop_of_length-le members past)

-- one member's are taken off on both sides
pub less_both : (left count more : ℕ) → count ≤ left → ltb left (count + more) ≡ ltb (left - count) more
less_both left count more fits = by (dec_lt left (count + more))
  where
    by : Dec (left < count + more) → ltb left (count + more) ≡ ltb (left - count) more
    by (yes less) = lt-ltb left (count + more) less ∙ sym (lt-ltb (left - count) more (omega arith))
    by (no not-less) = le-ltb left (count + more) (omega arith) ∙ sym (le-ltb (left - count) more (omega arith))
