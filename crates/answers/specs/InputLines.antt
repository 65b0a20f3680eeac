-- The lines of an input are what its line feeds part: no line has a line feed, and with one behind each line that had it they are the input again.
use Rattle.std.specs.Prelude.{◌≡◌, Bool, true, ◌&&◌, not, List, [], ◌∷◌, ◌++◌, ℕ, eqb}
use Rattle.lines.specs.Bytes.{line_feed}
use Rattle.answers.specs.Input.{ended, unended}

-- a line without a line feed
unfoldable pub no_feed : (line : List ℕ) → Bool
no_feed [] = true
no_feed (b ∷ bs) = not (eqb b line_feed) && no_feed bs

unfoldable pub no_feeds : (lines : List (List ℕ)) → Bool
no_feeds [] = true
no_feeds (line ∷ lines) = no_feed line && no_feeds lines

-- lines one after another, a line feed behind each
unfoldable pub with_feeds : (lines : List (List ℕ)) → List ℕ
with_feeds [] = []
with_feeds (line ∷ lines) = line ++ (line_feed ∷ with_feeds lines)

pub record InputLines : Type 0 where
  pub parted : (input : List ℕ) → no_feeds (ended [] input) ≡ true
  pub rest_parted : (input : List ℕ) → no_feed (unended [] input) ≡ true
  pub joins : (input : List ℕ) → with_feeds (ended [] input) ++ unended [] input ≡ input
  -- and lines made into an input are its lines
  pub parts : (lines : List (List ℕ)) (rest : List ℕ) → no_feeds lines ≡ true → no_feed rest ≡ true → ended [] (with_feeds lines ++ rest) ≡ lines
  pub rests : (lines : List (List ℕ)) (rest : List ℕ) → no_feed rest ≡ true → unended [] (with_feeds lines ++ rest) ≡ rest
