-- A list's sum, place by place: one law for each way out, by the definition at what was found.
use mathlib.Core.Path.{◌≡◌, ◌∙◌}
use mathlib.Core.List.{List}
use mathlib.Core.Option.{some, none}
use Prim.Native.Nat.{ℕ, ◌+◌, ◌≤◌, ◌<◌}
use native.Mathlib.Numerals.{add-one}
use lib.IntN.{ℤ, pos}
use lib.ListN.{length, get_or, drop, drop_of_length-le}
use lib.Seq.{drop-cons}
use Rattle.algebra.specs.declared.Parity.{Parity}
use Rattle.number.specs.Options.{◌then◌}
use Rattle.walk.specs.Rules.{Rules}
use Rattle.walk.specs.State.{Powers}
use Rattle.walk.specs.Load.{add_place, sum_from}

-- the sum from place j on
module _ (𝓡 : Rules ℕ) (parity : Parity) (powers : Powers ℕ) (list : List ℤ) (j sum : ℕ) where
  sum_place : j < length list
      → sum_from 𝓡 parity powers j sum (drop j list)
      ≡ (add_place 𝓡 parity powers j sum (get_or list j (pos 0)) then λ next. sum_from 𝓡 parity powers (j + 1) next (drop (j + 1) list))
  unfolding sum_from
  sum_place h = rw (add-one, drop-cons list j (pos 0))

  pub sum_missing : j < length list → add_place 𝓡 parity powers j sum (get_or list j (pos 0)) ≡ none
      → sum_from 𝓡 parity powers j sum (drop j list) ≡ none
  sum_missing h e = sum_place h ∙ rw e

  pub sum_next : (next : ℕ) → j < length list → add_place 𝓡 parity powers j sum (get_or list j (pos 0)) ≡ some next
      → sum_from 𝓡 parity powers j sum (drop j list) ≡ sum_from 𝓡 parity powers (j + 1) next (drop (j + 1) list)
  sum_next next h e = sum_place h ∙ rw e

  pub sum_done : length list ≤ j → sum_from 𝓡 parity powers j sum (drop j list) ≡ some sum
  unfolding sum_from
  sum_done h = rw (drop_of_length-le list h)
