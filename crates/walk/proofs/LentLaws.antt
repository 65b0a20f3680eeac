-- The walk of a lent plan, and the call's answer: one law for each way out, by the definition at the tests that were made.
use mathlib.Core.Path.{◌≡◌, sym}
use mathlib.Core.List.{List}
use mathlib.Core.Bool.{true, false}
use mathlib.Core.Option.{Option, some, none}
use Prim.Native.Nat.{ℕ, ◌/◌, ◌≤◌, ◌<◌}
use Rattle.std.proofs.Common.{inl, inr}
use Rattle.std.proofs.lemmas.Bool.{cases_lt}
use borrow.Author.Tests.{le-leb, lt-leb, lt-ltb, le-ltb}
use lib.IntN.{ℤ}
use lib.ListN.{length}
use Rattle.std.specs.Prelude.{Option as Answer, Some, None, ok_or}
use Rattle.number.specs.declared.refusal.Refusal.TheVariants.{Unwalkable}
use Rattle.number.specs.Refusal.{unless_refused}
use Rattle.walk.specs.Limits.{modulus_limit}
use Rattle.walk.specs.Rules.{Rules}
use Rattle.walk.specs.Walk.{walk_of}
use Rattle.walk.specs.Lent.{lent_steps, lent_lists, bounds_rise, lent_walk}
use Rattle.walk.specs.Trial.{no_trial, trial_walk, trial_refusal, trial_of, trial_in}
use Rattle.walk.specs.inside.Found.{found}
use Rattle.walk.specs.inside.Modulus.{IsModulus}
use Rattle.walk.specs.declared.plan.Head.{Head}

-- the head's counts are within their buffers
pub record Counts (head : Head) (c b s : ℕ) : Type 0 where
  pub coefficients : head.coefficients ≤ c
  pub lists : head.lists ≤ b
  pub steps : head.steps ≤ s / 4

module _ {A : Type 0} (𝓡 : Rules A) (head : Head) (cs : List ℤ) (bs ss : List ℕ) (x : ℤ) where
  pub few_coefficients : length cs < head.coefficients → none ≡ lent_walk 𝓡 head cs bs ss x
  unfolding lent_walk
  few_coefficients h = rw (lt-leb head.coefficients (length cs) h)

  pub few_bounds : head.coefficients ≤ length cs → length bs < head.lists → none ≡ lent_walk 𝓡 head cs bs ss x
  unfolding lent_walk
  few_bounds g h = rw (le-leb head.coefficients (length cs) g, lt-leb head.lists (length bs) h)

  pub few_steps : head.coefficients ≤ length cs → head.lists ≤ length bs → length ss / 4 < head.steps → none ≡ lent_walk 𝓡 head cs bs ss x
  unfolding lent_walk
  few_steps f g h =
      rw (le-leb head.coefficients (length cs) f, le-leb head.lists (length bs) g, lt-leb head.steps (length ss / 4) h)

  module _ (fit : Counts head (length cs) (length bs) (length ss)) where
    -- the walk that is left to the steps
    abbrev pub stepped : Option A
    stepped =
        walk_of 𝓡 head.parity head.basis (lent_lists head cs bs) (lent_steps head ss) (𝓡.input head.transform (𝓡.point x))

    pub not_rising : bounds_rise head bs ≡ false → none ≡ lent_walk 𝓡 head cs bs ss x
    unfolding lent_walk
    not_rising e =
        rw (
          le-leb head.coefficients (length cs) fit.coefficients,
          le-leb head.lists (length bs) fit.lists,
          le-leb head.steps (length ss / 4) fit.steps,
          e,
        )

    pub stuck : bounds_rise head bs ≡ true → stepped ≡ none → none ≡ lent_walk 𝓡 head cs bs ss x
    unfolding lent_walk
    stuck e f =
        rw (
          le-leb head.coefficients (length cs) fit.coefficients,
          le-leb head.lists (length bs) fit.lists,
          le-leb head.steps (length ss / 4) fit.steps,
          e,
          f,
        )

    pub walked : (v : A) → bounds_rise head bs ≡ true → stepped ≡ some v
        → some (𝓡.output head.transform (𝓡.point x) v) ≡ lent_walk 𝓡 head cs bs ss x
    unfolding lent_walk
    walked v e f =
        rw (
          le-leb head.coefficients (length cs) fit.coefficients,
          le-leb head.lists (length bs) fit.lists,
          le-leb head.steps (length ss / 4) fit.steps,
          e,
          f,
        )

-- the answer, by the modulus and the walk
module _ (head : Head) (cs : List ℤ) (bs ss : List ℕ) (x : ℤ) (m : ℕ) where
  modulus_low : m < 2 → no_trial 11 ≡ trial_of head cs bs ss x m
  unfolding trial_of trial_refusal unless_refused
  modulus_low h = rw (lt-ltb m 2 h)

  modulus_high : 2 ≤ m → modulus_limit < m → no_trial 11 ≡ trial_of head cs bs ss x m
  unfolding trial_of trial_refusal unless_refused
  modulus_high g h = rw (le-ltb m 2 g, lt-ltb modulus_limit m h)

  pub modulus_refused : (IsModulus m → ⊥) → no_trial 11 ≡ trial_of head cs bs ss x m
  modulus_refused bad = elim (cases_lt m 2) [
    | inl low ↦ modulus_low low
    | inr from_two ↦ elim (cases_lt modulus_limit m) [
      | inl high ↦ modulus_high from_two high
      | inr most ↦ absurd (bad (record { low = from_two; high = most }))
    ]
  ]

  module _ (h : IsModulus m) where
    no_walk : trial_walk head cs bs ss x m ≡ none → no_trial 24 ≡ trial_of head cs bs ss x m
    unfolding trial_of trial_refusal unless_refused
    no_walk e = rw (le-ltb m 2 h.low, le-ltb modulus_limit m h.high, e)

    walk_answers : (v : ℕ) → trial_walk head cs bs ss x m ≡ some v → record { refusal = 0; remainder = v } ≡ trial_of head cs bs ss x m
    unfolding trial_of trial_refusal unless_refused
    walk_answers v e = rw (le-ltb m 2 h.low, le-ltb modulus_limit m h.high, e)

    -- by what the program's walk found
    pub walk_answered : (o : Answer ℕ) → found o ≡ trial_walk head cs bs ss x m → trial_in (ok_or o Unwalkable) ≡ trial_of head cs bs ss x m
    walk_answered (Some v) e = walk_answers v (sym e)
    walk_answered None e = no_walk (sym e)
