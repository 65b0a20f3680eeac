-- A map that keeps subtraction and doubling keeps the cut: each number after it is one of the coefficients, a difference of two of them or a double, and
-- taking parts of a list and turning it round do not look at the numbers.
use mathlib.Core.Path.{◌≡◌, refl, ap, ap₂, sym, ◌∙◌}
use mathlib.Core.List.{List, [], ◌∷◌, ◌++◌, map, map-append, reverse}
use Prim.Native.Nat.{ℕ, suc}
use lib.ListN.{take, drop}
use Rattle.algebra.specs.Operations.{Operations, double}
use Rattle.algebra.specs.Cut.{differences, doubled, lowered, cut_at}
use Rattle.algebra.specs.CutKept.{KeepsCuts, CutKept}
use Rattle.algebra.specs.Each.{Each}
use Rattle.algebra.specs.declared.Basis.{Basis}
use Rattle.algebra.specs.declared.Basis.TheVariants.{Monomial, Chebyshev}
use Rattle.algebra.proofs.Each.{each_take, each_drop, each_left, each_right, each_reverse, each_reversed}
use Rattle.algebra.proofs.Maps.{map_take, map_drop, map_reverse}

module _ {A B : Type 0} (P : A → Type 0) (𝓞 : Operations A) (𝓟 : Operations B) (φ : A → B) (keeps : KeepsCuts P 𝓞 𝓟 φ) where
  differences_kept : (c d : List A) → Each P c → Each P d → Each P (differences 𝓞 c d) → differences 𝓟 (map φ c) (map φ d) ≡ map φ (differences 𝓞 c d)
  unfolding differences
  differences_kept [] d g h r = refl
  differences_kept (a ∷ c) [] g h r = refl
  differences_kept (a ∷ c) (b ∷ d) g h r =
      ap₂ ◌∷◌ (keeps.subtracted a b g.0 h.0 r.0) (differences_kept c d g.1 h.1 r.1)

  doubles_kept : (c : List A) → Each P c → Each P (map (double 𝓞) c) → map (double 𝓟) (map φ c) ≡ map φ (map (double 𝓞) c)
  doubles_kept [] h r = refl
  doubles_kept (a ∷ c) h r = ap₂ ◌∷◌ (keeps.doubled a h.0 r.0) (doubles_kept c h.1 r.1)

  doubled_kept : (c : List A) → Each P c → Each P (doubled 𝓞 c) → doubled 𝓟 (map φ c) ≡ map φ (doubled 𝓞 c)
  unfolding doubled
  doubled_kept [] h r = refl
  doubled_kept (a ∷ c) h r = ap (φ a ∷◌) (doubles_kept c h.1 r.1)

  lowered_kept : (p : ℕ) (c : List A) → Each P c → Each P (lowered 𝓞 p c) → lowered 𝓟 p (map φ c) ≡ map φ (lowered 𝓞 p c)
  unfolding lowered
  lowered_kept p c h r =
      let near = reverse (take p c) in
      let far = drop (suc p) c in
      ap reverse
      (ap₂ (differences 𝓟) (ap reverse (map_take φ p c) ∙ map_reverse φ (take p c)) (map_drop φ (suc p) c)
      ∙ differences_kept near far (each_reverse P (take p c) (each_take P p c h)) (each_drop P (suc p) c h) (each_reversed P (differences 𝓞 near far) r))
      ∙ map_reverse φ (differences 𝓞 near far)

  kept : (basis : Basis) (p : ℕ) (c : List A) → Each P c → Each P (cut_at 𝓞 basis p c) → cut_at 𝓟 basis p (map φ c) ≡ map φ (cut_at 𝓞 basis p c)
  unfolding cut_at
  kept Monomial p c h r = refl
  kept Chebyshev p c h r =
      let low = lowered 𝓞 p c in
      let high = doubled 𝓞 (drop p c) in
      ap₂ ◌++◌ (lowered_kept p c h (each_left P low high r))
      (ap (doubled 𝓟) (map_drop φ p c) ∙ doubled_kept (drop p c) (each_drop P p c h) (each_right P low high r))
      ∙ sym (map-append φ low high)

pub cut_kept : (A B : Type 0) → CutKept A B
cut_kept A B P 𝓞 𝓟 φ keeps basis p c h r = kept P 𝓞 𝓟 φ keeps basis p c h r
