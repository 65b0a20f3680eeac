-- What interpolation sums ("Interpolation").
use Rattle.std.specs.Prelude.{◌≡◌, List, ℕ, ◌<◌, length, get_or}
use Rattle.algebra.specs.Operations.{Operations}
use Rattle.algebra.specs.Power.{cheb}
use Rattle.algebra.specs.Ring.{Ring}
use Rattle.algebra.specs.Value.{dot}
use Rattle.interpolation.specs.Interpolate.{sums_of}

-- the sum of value·T_j(node) over the nodes
abbrev pub node_sum : {A : Type 0} → Operations A → (j : ℕ) → (nodes values : List A) → A
node_sum 𝓞 j nodes values = dot 𝓞 (λ k. cheb 𝓞 (get_or nodes k 𝓞.zero) j) values

-- over every ring, before scaling, coefficient j is the sum of value·T_j(node) over the nodes
abbrev pub InterpolateLaw : {A : Type 0} → Ring A → Type 0
InterpolateLaw {A} 𝓡 = (nodes values : List A) (j : ℕ) → length nodes ≡ length values → j < length nodes
    → get_or (sums_of 𝓡.ops nodes values) j 𝓡.ops.zero ≡ node_sum 𝓡.ops j nodes values
