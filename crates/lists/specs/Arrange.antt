-- What a tree makes of a polynomial's coefficients: the lists one after another, their lengths, and the places where they end.
use Rattle.std.specs.Prelude.{List, [], ◌∷◌, ◌++◌, ℕ, ◌+◌, ◌-◌, take, drop}
use Rattle.algebra.specs.Operations.{Operations}
use Rattle.algebra.specs.Cut.{cut_at}
use Rattle.algebra.specs.declared.Basis.{Basis}
use Rattle.lists.specs.Tree.{Tree, leaf, cut}

-- the coefficients in their places: at a cut low is arranged first, and then high
unfoldable pub arranged : {A : Type 0} → Operations A → Basis → Tree → List A → List A
arranged 𝓞 basis leaf c = c
arranged 𝓞 basis (cut p low high) c =
    arranged 𝓞 basis low (take p (cut_at 𝓞 basis p c)) ++ arranged 𝓞 basis high (drop p (cut_at 𝓞 basis p c))

-- how many lists there are
unfoldable pub leaves_of : Tree → ℕ
leaves_of leaf = 1
leaves_of (cut p low high) = leaves_of low + leaves_of high

-- the lengths of the lists of n coefficients
unfoldable pub lengths_of : Tree → (n : ℕ) → List ℕ
lengths_of leaf n = n ∷ []
lengths_of (cut p low high) n = lengths_of low p ++ lengths_of high (n - p)

-- boundary i is the place just past list i; the n coefficients stand from place `at` on
unfoldable pub ends_of : Tree → (at n : ℕ) → List ℕ
ends_of leaf at n = (at + n) ∷ []
ends_of (cut p low high) at n = ends_of low at p ++ ends_of high (at + p) (n - p)
