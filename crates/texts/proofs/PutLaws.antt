-- Text in a buffer: one text put behind another is the two joined, and the buffer keeps its length.
use mathlib.Core.Path.{◌≡◌, refl, ap, ◌∙◌}
use mathlib.Core.List.{List, [], ◌++◌}
use Prim.Native.Nat.{ℕ, ◌+◌}
use native.Mathlib.Omega.{arith}
use lib.ListN.{length, length-append}
use lib.Seq.{sets, length-sets}
use Rattle.lists.proofs.Arranging.{sets_append}
use Rattle.texts.specs.Put.{Put}
use Rattle.texts.specs.inside.EndsIn64Bits.{EndsIn64Bits}

-- no text, and one text behind another
pub put_none : (out : List ℕ) (at : ℕ) → Put out at [] out at
put_none out at = record { buffer = refl; next = omega arith }

pub put_then : {out out' out'' xs ys : List ℕ} {at r s : ℕ} → Put out at xs out' r → Put out' r ys out'' s → Put out at (xs ++ ys) out'' s
put_then {out} {out'} {out''} {xs} {ys} {at} {r} {s} p q =
    record {
      buffer = q.buffer ∙ (λ j. sets (p.buffer j) (p.next j) ys) ∙ sets_append out xs ys at (at + length xs) refl;
      next = omega (arith, p.next, q.next, length-append xs ys);
    }

-- the buffer keeps its length
pub put_length : {out out' text : List ℕ} {at r : ℕ} → Put out at text out' r → length out' ≡ length out
put_length {out} {out'} {text} {at} p = ap (λ (l : List ℕ). length l) p.buffer ∙ length-sets out at text

-- the same text, said otherwise
pub put_same : {out out' xs ys : List ℕ} {at r : ℕ} → Put out at xs out' r → xs ≡ ys → Put out at ys out' r
put_same {out} {out'} {xs} {ys} {at} {r} p e =
    record { buffer = p.buffer ∙ ap (λ (t : List ℕ). sets out at t) e; next = p.next ∙ ap (λ (t : List ℕ). at + length t) e }

-- where a text ends: said otherwise, and in its first part
pub ends_same : (at : ℕ) {xs ys : List ℕ} → xs ≡ ys → EndsIn64Bits at xs → EndsIn64Bits at ys
ends_same at e h = rw e at h

pub ends_first : (at : ℕ) (xs ys : List ℕ) → EndsIn64Bits at (xs ++ ys) → EndsIn64Bits at xs
ends_first at xs ys h = omega (arith, length-append xs ys)
