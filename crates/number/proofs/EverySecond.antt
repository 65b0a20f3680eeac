-- Every second element of a list: one more of them, those left after i, and the one at place i, each from any place on.
use mathlib.Core.Path.{◌≡◌, refl, sym, ap, ◌∙◌}
use mathlib.Core.List.{List, [], ◌∷◌}
use Prim.Native.Nat.{ℕ, zero, suc, ◌+◌, ◌*◌, ◌/◌, ◌<◌, ◌≤◌}
use native.Mathlib.Omega.{arith}
use lib.ListN.{length, get_or, drop, drop_of_length-le, length-drop}
use lib.Seq.{drop-cons, drop-drop, drop-nil, get_or-drop}
use Rattle.algebra.specs.Fold.{every_second}
use Rattle.algebra.proofs.FoldPlaces.{length_every_second, get_d_every_second}

module _ {A : Type 0} where
  every_second_cons : (a : A) (l : List A) → every_second (a ∷ l) ≡ a ∷ every_second (drop 1 l)
  unfolding every_second
  every_second_cons a [] = refl
  every_second_cons a (b ∷ l) = refl

  -- the first, and those of the list two on
  pub every_second_step : (c : List A) (i : ℕ) (d : A) → i < length c → every_second (drop i c) ≡ get_or c i d ∷ every_second (drop (i + 2) c)
  every_second_step c i d h =
      let two_on : suc i + 1 ≡ i + 2 = omega arith in
      rw (drop-cons c i d h) (every_second_cons (get_or c i d) (drop (suc i) c) ∙ rw (drop-drop 1 (suc i) c, two_on))

  -- past the last place there is none
  pub every_second_end : (c : List A) (i : ℕ) → length c ≤ i → every_second (drop i c) ≡ []
  unfolding every_second
  every_second_end c i h = ap every_second (drop_of_length-le c h)

  drop_every_second : (i : ℕ) (c : List A) → drop i (every_second c) ≡ every_second (drop (2 * i) c)
  unfolding every_second
  drop_every_second zero c = refl
  drop_every_second (suc i) [] = drop-nil (suc i) ∙ ap every_second (sym (drop-nil (2 * suc i)))
  drop_every_second (suc i) (a ∷ []) =
      let past : length (a ∷ []) ≤ 2 * suc i = omega arith in
      drop-nil i ∙ ap every_second (sym (drop_of_length-le (a ∷ []) past))
  drop_every_second (suc i) (a ∷ b ∷ c) =
      let two_more : 2 * suc i ≡ suc (suc (2 * i)) = omega arith in
      drop_every_second i c ∙ rw two_more

  -- those left after i, from place `from` on
  pub drop_every_second_from : (from i : ℕ) (c : List A) → drop i (every_second (drop from c)) ≡ every_second (drop (2 * i + from) c)
  drop_every_second_from from i c =
      let place : from + 2 * i ≡ 2 * i + from = omega arith in
      drop_every_second i (drop from c) ∙ ap every_second (drop-drop (2 * i) from c ∙ ap (λ (k : ℕ). drop k c) place)

  -- the one at place i, from place `from` on
  pub get_d_every_second_from : (from i : ℕ) (c : List A) (d : A) → get_or (every_second (drop from c)) i d ≡ get_or c (2 * i + from) d
  get_d_every_second_from from i c d =
      let place : from + 2 * i ≡ 2 * i + from = omega arith in
      get_d_every_second (drop from c) i d ∙ get_or-drop from c (2 * i) d ∙ ap (λ (k : ℕ). get_or c k d) place

  -- how many there are from the second on
  pub length_odd_places : (c : List A) → length (every_second (drop 1 c)) ≡ length c / 2
  length_odd_places c = omega (arith, length_every_second (drop 1 c), length-drop 1 c)
