-- Steps as numbers in a buffer: four a step, one step behind the other; and the step of a power, where it is marked.
use mathlib.Core.Path.{◌≡◌, refl, ap, sym, ◌∙◌}
use mathlib.Core.Bool.{Bool, true, false, true≢false}
use mathlib.Core.List.{List, [], ◌∷◌}
use Prim.Native.Nat.{ℕ, ◌+◌, ◌*◌, ◌≤◌}
use native.Mathlib.Omega.{arith}
use lib.Seq.{sets}
use Rattle.std.specs.Prelude.{Ok}
use Rattle.number.specs.Split.{Parts, split_of, parts_in}
use Rattle.number.specs.Limits.{degree_limit}
use Rattle.number.specs.declared.split.Split.{Split}
use Rattle.number.proofs.SplitParts.{parted, split_accepted}
use Rattle.walk.specs.WalksHeld.{flat}
use Rattle.walk.specs.declared.plan.Instruction.TheVariants.{Make}
use Rattle.plan.specs.inside.Writing.{InstructionFits, PowerFits, PowerPut}

-- ---- the step of a power

pub power_unmarked : (marked : Bool) (n step : ℕ) (b : List ℕ) → marked ≡ false → PowerPut marked n step b step b
power_unmarked true n step b none = absurd (true≢false none)
power_unmarked false n step b none = record { numbers = refl; next = omega arith }

pub parts_asked : {marked : Bool} {n step : ℕ} {b : List ℕ} → PowerFits marked n step b → marked ≡ true → (2 ≤ n) × (n ≤ degree_limit)
parts_asked fits is_marked = (fits.from_two is_marked, omega (arith, fits.limit))

module _ (marked : Bool) {n step : ℕ} {b : List ℕ} {parts : Split} (fits : PowerFits marked n step b) (is_marked : marked ≡ true)
    (parts_are : parts_in (Ok parts) ≡ split_of n) where
  pub power_fits : InstructionFits step (Make n parts.a parts.b) b
  power_fits = by_mark marked fits is_marked
    where
      by_mark : (t : Bool) → PowerFits t n step b → t ≡ true → InstructionFits step (Make n parts.a parts.b) b
      by_mark true known is =
          let from = known.from_two refl in
          let within = known.limit in
          let accepted = parts_are ∙ split_accepted n from (omega arith) in
          let two = parted n from in
          let first = ap (λ (p : Parts). p.a) accepted in
          let second = ap (λ (p : Parts). p.b) accepted in
          record { places = omega (arith, known.places); narrow = (omega arith, omega arith, omega arith) }
      by_mark false known is = absurd (true≢false (sym is))

  pub power_marked : {b' : List ℕ} → b' ≡ sets b (4 * step) (1 ∷ n ∷ parts.a ∷ parts.b ∷ []) → PowerPut marked n step b (step + 1) b'
  unfolding flat
  power_marked {b'} put = by_mark marked fits is_marked
    where
      by_mark : (t : Bool) → PowerFits t n step b → t ≡ true → PowerPut t n step b (step + 1) b'
      by_mark true known is =
          let within = known.limit in
          let accepted = parts_are ∙ split_accepted n (known.from_two refl) (omega arith) in
          record { numbers = put ∙ ap (λ (p : Parts). sets b (4 * step) (1 ∷ n ∷ p.a ∷ p.b ∷ [])) accepted; next = refl }
      by_mark false known is = absurd (true≢false (sym is))
