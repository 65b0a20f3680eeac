-- Lines put one after another: the next one goes behind those that are put, none begins behind the end of the whole text, and in the end all are put.
use mathlib.Core.Path.{◌≡◌, refl, ap, sym, ◌∙◌}
use mathlib.Core.List.{List, [], ◌∷◌, ◌++◌, append_assoc, append-nil}
use Prim.Native.Nat.{ℕ, zero, suc, ◌+◌, ◌<◌, ◌≤◌, ◌^◌}
use native.Mathlib.Numerals.{add-one}
use native.Mathlib.Omega.{arith}
use lib.ListN.{length, get_or, take, length-append}
use lib.Seq.{take_all}
use Rattle.lists.specs.Lists.{joined}
use Rattle.texts.specs.Put.{Put}
use Rattle.texts.proofs.PutLaws.{put_none, put_then, put_same}

-- the lines before line n, and line n behind them
joined_more : (n : ℕ) (ts : List (List ℕ)) → joined (take n ts) ++ get_or ts n [] ≡ joined (take (suc n) ts)
unfolding joined
joined_more zero [] = refl
joined_more zero (t ∷ ts) = sym (append-nil t)
joined_more (suc n) [] = refl
joined_more (suc n) (t ∷ ts) = append_assoc t (joined (take n ts)) (get_or ts n []) ∙ ap (λ (l : List ℕ). t ++ l) (joined_more n ts)

-- they are no longer than all
joined_most : (n : ℕ) (ts : List (List ℕ)) → length (joined (take n ts)) ≤ length (joined ts)
unfolding joined
joined_most zero ts = omega arith
joined_most (suc n) [] = omega arith
joined_most (suc n) (t ∷ ts) = omega (arith, joined_most n ts, length-append t (joined (take n ts)), length-append t (joined ts))

-- ---- the loop: the lines before line k are put from place `from` on

pub lines_start : (from : ℕ) (out : List ℕ) → Put out from (joined []) out from
unfolding joined
lines_start from out = put_none out from

module _ (lines : List (List ℕ)) (from k : ℕ) {first out : List ℕ} {at : ℕ} (put : Put first from (joined (take k lines)) out at) where
  -- where line k begins
  pub line_begins : from + length (joined lines) < 2 ^ 63 → at < 2 ^ 63
  line_begins ends = omega (arith, put.next, joined_most k lines)

  pub lines_more : {left : List ℕ} {r : ℕ} → Put out at (get_or lines k []) left r → Put first from (joined (take (k + 1) lines)) left r
  lines_more line = rw add-one (put_same (put_then put line) (joined_more k lines))

  pub lines_end : length lines ≤ k → Put first from (joined lines) out at
  lines_end past = put_same put (ap joined (take_all k lines past))
