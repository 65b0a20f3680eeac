-- The sum of two polynomials of one length, and the multiple of a polynomial by a number: place by place.
use mathlib.Core.List.{List, map, zip_with}
use Rattle.algebra.specs.Operations.{Operations}

module _ {A : Type 0} (𝓞 : Operations A) where
  -- c_j + d_j
  abbrev pub sum_of : (c d : List A) → List A
  sum_of c d = zip_with 𝓞.add c d

  -- k·c_j
  abbrev pub multiple_of : (k : A) → List A → List A
  multiple_of k c = map (𝓞.mul k) c
