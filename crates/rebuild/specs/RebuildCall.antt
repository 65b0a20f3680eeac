-- The rebuild call (document 02, Q-8): its tests in order, its answer, and what it leaves in the coefficient buffer.
use Rattle.std.specs.Prelude.{◌≡◌, Bool, true, false, not, ◌&&◌, List, [], ◌∷◌, ℕ, suc, ◌^◌, eqb, leb, ℤ, Result, length, take}
use Rattle.std.proofs.Math.Option.{Option, some, none}
use Rattle.std.proofs.lemmas.List.Edits.{sets}
use Rattle.algebra.specs.declared.Basis.{Basis}
use Rattle.algebra.specs.declared.Parity.{Parity}
use Rattle.number.specs.Limits.{plan_limit}
use Rattle.number.specs.Refusal.{Test, first_refusal, unless_refused}
use Rattle.number.specs.Refused.{numbered}
use Rattle.number.specs.Tests.{too_high, no_degree, no_room}
use Rattle.number.specs.declared.refusal.Refusal.{Refusal}
use Rattle.counts.specs.Choice.{split_for}
use Rattle.counts.specs.declared.choice.SplitStrategy.{SplitStrategy}
use Rattle.lists.specs.Tree.{plan_tree}
use Rattle.lists.specs.Arrange.{ends_of}
use Rattle.number.specs.Options.{missing}
use Rattle.rebuild.specs.Rebuild.{rebuilt}

-- whether the second list begins with the first
unfoldable pub begins : List ℕ → List ℕ → Bool
begins [] bounds = true
begins (e ∷ ends) [] = false
begins (e ∷ ends) (b ∷ bounds) = eqb e b && begins ends bounds

-- the list that is there, or the empty one
abbrev pub or_empty : Option (List ℤ) → List ℤ
or_empty (some c) = c
or_empty none = []

-- an answer in numbers: its refusal, or 0 with the number of coefficients
pub record Rebuilt : Type 0 where
  pub refusal : ℕ
  pub coefficients : ℕ

-- after a refusal zero in the other field
abbrev pub no_rebuilt : (refusal : ℕ) → Rebuilt
no_rebuilt refusal = record { refusal = refusal; coefficients = 0 }

-- what a result says of it
abbrev pub rebuilt_in : Result ℕ Refusal → Rebuilt
rebuilt_in = numbered (λ (n : ℕ). record { refusal = 0; coefficients = n }) no_rebuilt

-- the coefficients of this degree that are listed so, where every cut can be undone
unfoldable pub coefficients_from : SplitStrategy → Parity → Basis → (degree : ℕ) → (lists : List ℤ) → Option (List ℤ)
coefficients_from strategy parity basis degree lists = rebuilt basis (plan_tree strategy parity basis degree) (take (suc degree) lists)

module _ (strategy : SplitStrategy) (parity : Parity) (basis : Basis) (degree base : ℕ) (lists : List ℤ) (bounds : List ℕ) where
  -- whether base and list lengths are those of the settings, and neither the boundaries nor the lists end too early. Places beyond aren't read.
  unfoldable pub matches_settings : Bool
  matches_settings =
      eqb base (2 ^ split_for strategy parity basis degree)
      && (begins (ends_of (plan_tree strategy parity basis degree) 0 (suc degree)) bounds && leb (suc degree) (length lists))

  -- 33: base or list lengths are those of other settings, or a buffer of the lists ends too early
  abbrev pub other_settings : Test
  other_settings = (not matches_settings, 33)

  -- 34: a cut that can't be undone
  abbrev pub cannot_undo : Test
  cannot_undo = (missing (coefficients_from strategy parity basis degree lists), 34)

  module _ (out : List ℤ) where
    -- 2, 1, 33, 34, then 21 for a buffer without a place for each coefficient
    abbrev pub rebuild_tests : List Test
    rebuild_tests =
        too_high plan_limit degree
        ∷ no_degree degree
        ∷ other_settings
        ∷ cannot_undo
        ∷ no_room (length out) (suc degree)
        ∷ []

    -- the number of the first that holds, or 0
    unfoldable pub rebuild_refusal : ℕ
    rebuild_refusal = first_refusal rebuild_tests

    -- the answer: how many coefficients there are
    unfoldable pub rebuild_answer : Rebuilt
    rebuild_answer = unless_refused rebuild_refusal (record { refusal = 0; coefficients = suc degree }) (no_rebuilt rebuild_refusal)

    -- the coefficient buffer: the coefficients in its first places, and the places beyond unchanged; after a refusal all of it unchanged
    unfoldable pub rebuild_coefficients : List ℤ
    rebuild_coefficients = unless_refused rebuild_refusal (sets out 0 (or_empty (coefficients_from strategy parity basis degree lists))) out

    -- what a call says, and what it leaves in the buffer
    pub record RebuildCall (r : Rebuilt) (out' : List ℤ) : Type 0 where
      pub answer : r ≡ rebuild_answer
      pub coefficients : out' ≡ rebuild_coefficients
