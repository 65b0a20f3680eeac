-- A cut at an even p leaves both parts the parity of the whole: places p + j and 2p - i have the parity of j and of i.
use mathlib.Core.Path.{◌≡◌, ◌∙◌, ap, ap₂}
use mathlib.Core.List.{List}
use mathlib.Core.Bool.{false}
use Prim.Native.Nat.{ℕ, zero, suc, ◌+◌, ◌-◌, ◌%◌, ◌≤◌, ◌<◌}
use native.Mathlib.Decide.{dec_lt}
use native.Mathlib.Omega.{arith}
use lib.ListN.{length, get_or, take, drop}
use lib.Seq.{get_or-take, get_or-drop}
use Rattle.algebra.specs.Allowed.{allows, HasParity}
use Rattle.algebra.specs.Cut.{doubled, cut_at}
use Rattle.algebra.specs.CutParity.{CutParity}
use Rattle.algebra.specs.Operations.{double}
use Rattle.algebra.specs.Ring.{Ring}
use Rattle.algebra.specs.declared.Basis.{Basis}
use Rattle.algebra.specs.declared.Basis.TheVariants.{Monomial, Chebyshev}
use Rattle.algebra.specs.declared.Parity.{Parity}
use Rattle.algebra.proofs.CutPlaces.{cut_low, cut_high, get_d_lowered, get_d_doubled_zero, get_d_doubled_suc}
use Rattle.algebra.proofs.Lists.{get_d_take_past}
use Rattle.algebra.proofs.Parities.{allows_same}
use Rattle.algebra.proofs.RingLaws as R

module _ {A : Type 0} (𝓡 : Ring A) (parity : Parity) (p : ℕ) (c : List A) (even : p % 2 ≡ 0) (under : p ≤ length c) (fits : HasParity 𝓡.ops parity c) where
  open 𝓡 use {ops}
  open ops use {zero as 𝟘, sub as ◌⊖◌}

  infixl 6 ◌⊖◌
  beyond : (j : ℕ) → allows parity j ≡ false → get_or (drop p c) j 𝟘 ≡ 𝟘
  beyond j w =
      let s : (p + j) % 2 ≡ j % 2 = omega arith in
      get_or-drop p c j 𝟘 ∙ fits (p + j) (allows_same parity (p + j) j s ∙ w)

  mirrored : (i : ℕ) → i < p → allows parity i ≡ false → get_or c (p + (p - i)) 𝟘 ≡ 𝟘
  mirrored i h w =
      let s : (p + (p - i)) % 2 ≡ i % 2 = omega arith in
      fits (p + (p - i)) (allows_same parity (p + (p - i)) i s ∙ w)

  -- low keeps the parity
  pub low_parity : (basis : Basis) → HasParity ops parity (take p (cut_at ops basis p c))
  unfolding cut_at
  low_parity basis j w = by_place (dec_lt j p) basis
    where
      by_place : Dec (j < p) → (basis : Basis) → get_or (take p (cut_at ops basis p c)) j 𝟘 ≡ 𝟘
      by_place (no h) basis = get_d_take_past p (cut_at ops basis p c) j 𝟘 (omega arith)
      by_place (yes h) Monomial = get_or-take p c j 𝟘 h ∙ fits j w
      by_place (yes h) Chebyshev = rw (cut_low ops p c under) (get_d_lowered 𝓡 p c under j h ∙ ap₂ ◌⊖◌ (fits j w) (mirrored j h w) ∙ R.sub_self 𝓡 𝟘)

  -- high keeps the parity
  pub high_parity : (basis : Basis) → HasParity ops parity (drop p (cut_at ops basis p c))
  unfolding cut_at
  high_parity Monomial j w = beyond j w
  high_parity Chebyshev j w = rw (cut_high ops p c under) (by_place j w)
    where
      by_place : (j : ℕ) → allows parity j ≡ false → get_or (doubled ops (drop p c)) j 𝟘 ≡ 𝟘
      by_place zero w = get_d_doubled_zero 𝓡 (drop p c) ∙ beyond 0 w
      by_place (suc j) w = get_d_doubled_suc 𝓡 (drop p c) j ∙ ap (double ops) (beyond (suc j) w) ∙ R.mul_zero 𝓡 _

pub cut_parity : {A : Type 0} (𝓡 : Ring A) → CutParity 𝓡
cut_parity 𝓡 parity basis p c even under fits =
    record { low = low_parity 𝓡 parity p c even under fits basis; high = high_parity 𝓡 parity p c even under fits basis }
