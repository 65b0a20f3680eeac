-- Laws of the table: a line of the letters of a setting, with the chain and the bits of these letters, is that of the setting; and one more line, or one
-- more degree's lines, put behind those before.
use mathlib.Core.Path.{◌≡◌, refl, sym, ap, ◌∙◌}
use mathlib.Core.List.{List, [], ◌++◌, append-nil, append_assoc}
use Prim.Native.Nat.{ℕ, zero, suc, ◌+◌, ◌-◌, ◌≤◌}
use native.Mathlib.Numerals.{add-one}
use native.Mathlib.Omega.{arith}
use lib.ListN.{length, take}
use Rattle.lines.proofs.BufferHolds.{stores_back}
use Rattle.texts.specs.Put.{Put}
use Rattle.chains.specs.Letters.{letters_at}
use Rattle.chains.specs.ZeroChain.{zero_chain, closed_bits}
use Rattle.chains.specs.Line.{chain_line}
use Rattle.chains.specs.Table.{line_at, lines_from, degree_text, degrees_from}
use Rattle.chains.specs.declared.letters.Letters.{Letters}

pub line_is : (degree k : ℕ) {letters : Letters} {chain bits : ℕ} → letters ≡ letters_at k → chain ≡ (zero_chain letters degree).weight
    → bits ≡ (closed_bits letters degree).bits → chain_line degree letters chain bits ≡ line_at degree k
unfolding line_at
line_is degree k letters_are chain_is bits_are = rw (chain_is, bits_are, letters_are)

-- one more text behind a number of texts
module _ (text : ℕ → List ℕ) (texts_from : (first count : ℕ) → List ℕ) (none : (first : ℕ) → texts_from first 0 ≡ [])
    (more : (first count : ℕ) → texts_from first (suc count) ≡ text first ++ texts_from (suc first) count) where
  texts_behind : (first count last : ℕ) → last ≡ first + count → texts_from first count ++ text last ≡ texts_from first (suc count)
  texts_behind first zero last is =
      let same : last ≡ first = omega arith in
      rw (none first, more first 0, none (suc first), same) (sym (append-nil (text first)))
  texts_behind first (suc count) last is =
      let is_later : last ≡ suc first + count = omega arith in
      let later = texts_behind (suc first) count last is_later in
      rw (more first (suc count), more first count)
      (append_assoc (text first) (texts_from (suc first) count) (text last) ∙ ap (λ (rest : List ℕ). text first ++ rest) later)

pub lines_behind : (degree k : ℕ) → lines_from degree 0 k ++ line_at degree k ≡ lines_from degree 0 (k + 1)
unfolding lines_from
lines_behind degree k =
    rw add-one (texts_behind (line_at degree) (lines_from degree) (λ first. refl) (λ first count. refl) 0 k k (omega arith))

pub degrees_behind : (degree : ℕ) → 2 ≤ degree → degrees_from 2 (degree - 2) ++ degree_text degree ≡ degrees_from 2 (degree + 1 - 2)
unfolding degrees_from
degrees_behind degree from =
    let count = degree - 2 in
    let more : degree + 1 - 2 ≡ suc count = omega arith in
    rw more (texts_behind degree_text degrees_from (λ first. refl) (λ first count. refl) 2 count degree (omega arith))

-- no line is put yet
pub no_lines : (degree : ℕ) → lines_from degree 0 0 ≡ []
unfolding lines_from
no_lines degree = refl

pub no_degrees : degrees_from 2 0 ≡ []
unfolding degrees_from
no_degrees = refl

-- a text that is put at the start of a buffer and ends within it stands there
pub put_front : {out text left : List ℕ} {r : ℕ} → Put out 0 text left r → r ≤ length out → take r left ≡ text
put_front {out} {text} {left} {r} put room =
    let next : r ≡ length text = omega (arith, put.next) in
    let fits : length text ≤ length out = omega (arith, next, room) in
    rw (put.buffer, next) (stores_back out text fits)
