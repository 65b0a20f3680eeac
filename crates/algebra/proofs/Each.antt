-- What holds of each element of a list holds of each in its parts, in two lists joined and in a reversed one. By recursion on the list.
use mathlib.Core.List.{List, [], ◌∷◌, ◌++◌, reverse, reverse-cons, reverse-reverse}
use Prim.Native.Nat.{ℕ, zero, suc}
use lib.ListN.{take, drop}
use Rattle.algebra.specs.Each.{Each}

module _ {A : Type 0} (P : A → Type 0) where
  -- what every element has
  pub each_any : ((a : A) → P a) → (c : List A) → Each P c
  each_any any [] = tt
  each_any any (a ∷ c) = (any a, each_any any c)

  pub each_take : (p : ℕ) (c : List A) → Each P c → Each P (take p c)
  each_take zero c h = tt
  each_take (suc p) [] h = tt
  each_take (suc p) (a ∷ c) h = (h.0, each_take p c h.1)

  pub each_drop : (p : ℕ) (c : List A) → Each P c → Each P (drop p c)
  each_drop zero c h = h
  each_drop (suc p) [] h = tt
  each_drop (suc p) (a ∷ c) h = each_drop p c h.1

  pub each_append : (c d : List A) → Each P c → Each P d → Each P (c ++ d)
  each_append [] d g h = h
  each_append (a ∷ c) d g h = (g.0, each_append c d g.1 h)

  -- and back from two joined
  pub each_left : (c d : List A) → Each P (c ++ d) → Each P c
  each_left [] d h = tt
  each_left (a ∷ c) d h = (h.0, each_left c d h.1)

  pub each_right : (c d : List A) → Each P (c ++ d) → Each P d
  each_right [] d h = h
  each_right (a ∷ c) d h = each_right c d h.1

  pub each_reverse : (c : List A) → Each P c → Each P (reverse c)
  each_reverse [] h = tt
  each_reverse (a ∷ c) h = rw (reverse-cons a) (each_append (reverse c) (a ∷ []) (each_reverse c h.1) (h.0, tt))

  pub each_reversed : (c : List A) → Each P (reverse c) → Each P c
  each_reversed c h = rw (reverse-reverse c) at (each_reverse (reverse c) h)
