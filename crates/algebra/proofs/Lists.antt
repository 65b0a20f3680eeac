-- Elements of a reversed list and of two lists joined, and the first of equal ones, where lib.Seq and lib.ListN have no law; by recursion on the list.
use mathlib.Core.Path.{◌≡◌, refl, ap, ◌∙◌}
use mathlib.Core.List.{List, [], ◌∷◌, ◌++◌, reverse, reverse-cons}
use Prim.Native.Nat.{ℕ, zero, suc, ◌+◌, ◌≤◌, ◌<◌}
use native.Mathlib.Omega.{arith}
use lib.ListN.{length, get_or, take, replicate, length-reverse, length-take, get_or-append, get_or-eq_default}
use lib.Seq.{get_or_at, get_or-append-add}

module _ {A : Type 0} where
  -- place k from the front is place m from the back
  pub get_d_reverse : (xs : List A) (m k : ℕ) (d : A) → k + suc m ≡ length xs → get_or (reverse xs) k d ≡ get_or xs m d
  get_d_reverse [] m k d e = absurd (omega arith)
  get_d_reverse (x ∷ xs) zero k d e =
      let l : length (reverse xs) ≡ k = omega (arith, length-reverse xs) in
      rw reverse-cons (get_or_at (reverse xs) x [] d k l)
  get_d_reverse (x ∷ xs) (suc m) k d e =
      let l : k < length (reverse xs) = omega (arith, length-reverse xs) in
      rw reverse-cons (get_or-append (reverse xs) (x ∷ []) d k l ∙ get_d_reverse xs m k d (omega arith))

  -- a place beyond the first of two lists
  pub get_d_right : (xs ys : List A) (n i : ℕ) (d : A) → i ≡ length xs + n → get_or (xs ++ ys) i d ≡ get_or ys n d
  get_d_right xs ys n i d e = ap (λ (j : ℕ). get_or (xs ++ ys) j d) e ∙ get_or-append-add xs ys n d

  -- a place beyond those taken
  pub get_d_take_past : (n : ℕ) (xs : List A) (j : ℕ) (d : A) → n ≤ j → get_or (take n xs) j d ≡ d
  get_d_take_past n xs j d h = get_or-eq_default (take n xs) d (omega (arith, length-take n xs))

  -- the first n of equal elements
  pub take_replicate : (a : A) (n k : ℕ) → n ≤ k → take n (replicate k a) ≡ replicate n a
  take_replicate a zero k h = refl
  take_replicate a (suc n) zero h = absurd (omega arith)
  take_replicate a (suc n) (suc k) h = ap (a ∷◌) (take_replicate a n k (omega arith))
