-- What a number from 0 to 255 is read as: the kind that has this number, or, where it stands for no kind, the number itself, which is above the last one.
use Rattle.std.specs.Prelude.{◌≡◌, ℕ, ◌<◌, Result, MatchResult}
use Rattle.algebra.specs.declared.UnknownKind.{UnknownKind}

abbrev pub Decodes : {K : Type 0} → (number : K → ℕ) → (last : ℕ) → (n : ℕ) → Result K UnknownKind → Type 0
Decodes number last n r = MatchResult r (λ kind. number kind ≡ n) (λ e. (e.0 ≡ n) × (last < n))
