-- The turns of the loop that copies coefficients: the first i places of the buffer hold the first i coefficients.
use mathlib.Core.Path.{◌≡◌, ap, ◌∙◌}
use mathlib.Core.List.{List}
use Prim.Native.Nat.{ℕ, ◌+◌, ◌≤◌, ◌<◌}
use native.Mathlib.Omega.{arith}
use lib.ListN.{length, get_or, set}
use lib.Seq.{sets}
use Rattle.algebra.proofs.Filling as filling

-- i of them are written
pub record Copied {A : Type 0} (c start out : List A) (i : ℕ) : Type 0 where
  pub within : i ≤ length c
  pub so_far : out ≡ filling.copied c start i

module _ {A : Type 0} {c start out : List A} {i : ℕ} (room : length c ≤ length start) (t : Copied c start out i) where
  pub copy_step : {v : A} → i < length c → v ≡ get_or c i v → Copied c start (set out i v) (i + 1)
  copy_step {v} more e = record {
    within = omega arith;
    so_far = ap (λ (l : List A). set l i v) t.so_far ∙ filling.copy_step c start i v v more room e;
  }

  pub copy_end : length c ≤ i → out ≡ sets start 0 c
  copy_end h = t.so_far ∙ filling.copy_end c start i (omega (arith, t.within)) room
