-- Refusal 34 in the words of document 02, Q-8: "when at some cut a doubled coefficient is odd or a rebuilt number is beyond i64". It may be any cut of the
-- tree, an inner one too, and any number of the part that is rebuilt there.
use Rattle.std.specs.Prelude.{◌≡◌, Bool, true, false, List, ◌↔◌, ℕ, suc, ◌≤◌, ◌<◌, ℤ, pos, length, get_or, take, drop}
use Rattle.std.proofs.Math.Option.{some}
use Rattle.algebra.specs.declared.Basis.{Basis}
use Rattle.algebra.specs.declared.Parity.{Parity}
use Rattle.number.specs.Limits.{plan_limit}
use Rattle.counts.specs.declared.choice.SplitStrategy.{SplitStrategy}
use Rattle.lists.specs.Tree.{Tree, cut, plan_tree}
use Rattle.rebuild.specs.Undo.{is_even, fits_i64, doubled_in, before_cut}
use Rattle.rebuild.specs.Rebuild.{rebuilt}
use Rattle.rebuild.specs.RebuildCall.{Rebuilt, matches_settings, RebuildCall}

-- a number of a list that does not pass a test
pub record Fails (test : ℤ → Bool) (numbers : List ℤ) : Type 0 where
  pub place : ℕ
  pub inside : place < length numbers
  pub fails : test (get_or numbers place (pos 0)) ≡ false

-- the lists of a tree can't be rebuilt: at this cut, whose two parts were rebuilt to low and high, a doubled coefficient is odd, or a rebuilt number is
-- beyond i64; or they can't be at a cut of the first part, or at one of the second
pub data StopsAt (basis : Basis) : Tree → (lists : List ℤ) → Type 0 where
  odd : {p : ℕ} {first second : Tree} {lists low high : List ℤ} → rebuilt basis first (take p lists) ≡ some low
      → rebuilt basis second (drop p lists) ≡ some high → Fails is_even (doubled_in basis high) → StopsAt basis (cut p first second) lists
  beyond : {p : ℕ} {first second : Tree} {lists low high : List ℤ} → rebuilt basis first (take p lists) ≡ some low
      → rebuilt basis second (drop p lists) ≡ some high → Fails fits_i64 (before_cut basis low high) → StopsAt basis (cut p first second) lists
  in_first : {p : ℕ} {first second : Tree} {lists : List ℤ} → StopsAt basis first (take p lists) → StopsAt basis (cut p first second) lists
  in_second : {p : ℕ} {first second : Tree} {lists : List ℤ} → StopsAt basis second (drop p lists) → StopsAt basis (cut p first second) lists

-- what refusal 34 says: the degree is within the limits, base and lists are those of the settings, and there is such a cut
pub record Stopped (strategy : SplitStrategy) (parity : Parity) (basis : Basis) (degree base : ℕ) (lists : List ℤ) (bounds : List ℕ) : Type 0 where
  pub from_one : 1 ≤ degree
  pub to_limit : degree ≤ plan_limit
  pub settings : matches_settings strategy parity basis degree base lists bounds ≡ true
  pub stops : StopsAt basis (plan_tree strategy parity basis degree) (take (suc degree) lists)

-- the call refuses with 34 exactly then
abbrev pub StoppedRefused : Type 0
StoppedRefused = (strategy : SplitStrategy) (parity : Parity) (basis : Basis) (degree base : ℕ) (lists : List ℤ) (bounds : List ℕ) (out : List ℤ)
    (r : Rebuilt) (out' : List ℤ) → RebuildCall strategy parity basis degree base lists bounds out r out'
    → (r.refusal ≡ 34) ↔ Stopped strategy parity basis degree base lists bounds
