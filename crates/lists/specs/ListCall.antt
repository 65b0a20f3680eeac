-- The list calls (docs/RULES.md, "Factorising and listing" and "Refusals"): their tests in order, their answer, and what they leave in the buffers.
use Rattle.std.specs.Prelude.{◌≡◌, List, [], ◌∷◌, ℕ, ◌^◌, Result, length}
use Rattle.std.proofs.lemmas.List.Edits.{sets}
use Rattle.algebra.specs.declared.Basis.{Basis}
use Rattle.algebra.specs.declared.Parity.{Parity}
use Rattle.number.specs.Limits.{plan_limit}
use Rattle.number.specs.Numbers.{Numbers}
use Rattle.number.specs.Refusal.{Test, first_refusal, unless_refused}
use Rattle.number.specs.Refused.{numbered}
use Rattle.number.specs.Tests.{degree_of, too_high, no_degree, too_large, no_room, no_boundaries}
use Rattle.number.specs.declared.refusal.Refusal.{Refusal}
use Rattle.counts.specs.Choice.{split_for}
use Rattle.counts.specs.declared.choice.SplitStrategy.{SplitStrategy}
use Rattle.lists.specs.Tree.{Tree, plan_tree}
use Rattle.lists.specs.Arrange.{arranged, leaves_of, ends_of}
use Rattle.lists.specs.declared.call.Listing.{Listing}

-- an answer in numbers: its refusal, or 0 with the degree, the base and the numbers of coefficients and lists
pub record Listed : Type 0 where
  pub refusal : ℕ
  pub degree : ℕ
  pub base : ℕ
  pub coefficients : ℕ
  pub lists : ℕ

-- after a refusal zero in every other field
abbrev pub no_lists : (refusal : ℕ) → Listed
no_lists refusal = record { refusal = refusal; degree = 0; base = 0; coefficients = 0; lists = 0 }

-- what a result says of it
abbrev pub listed_in : Result Listing Refusal → Listed
listed_in = numbered (λ (listing : Listing). record {
  refusal = 0;
  degree = listing.degree;
  base = listing.base;
  coefficients = listing.coefficients;
  lists = listing.lists;
}) no_lists

module _ {A : Type 0} (numbers : Numbers A) (strategy : SplitStrategy) (parity : Parity) (basis : Basis) (c out : List A) (bounds : List ℕ) where
  -- how the coefficients are cut into lists
  abbrev tree : Tree
  tree = plan_tree strategy parity basis (degree_of c)

  -- 2, 1, 3, then 21 and 22 for buffers without a place for each coefficient and a boundary for each list
  abbrev pub list_tests : List Test
  list_tests =
      too_high plan_limit (degree_of c)
      ∷ no_degree (degree_of c)
      ∷ too_large numbers c
      ∷ no_room (length out) (length c)
      ∷ no_boundaries (length bounds) (leaves_of tree)
      ∷ []

  -- the number of the first that holds, or 0
  unfoldable pub list_refusal : ℕ
  list_refusal = first_refusal list_tests

  -- the answer: degree, base, and how many coefficients and lists there are
  unfoldable pub list_answer : Listed
  list_answer = unless_refused list_refusal (record {
    refusal = 0;
    degree = degree_of c;
    base = 2 ^ split_for strategy parity basis (degree_of c);
    coefficients = length c;
    lists = leaves_of tree;
  }) (no_lists list_refusal)

  -- the coefficient buffer: the lists one after another in its first places, and the places beyond unchanged; after a refusal all of it unchanged
  unfoldable pub list_coefficients : List A
  list_coefficients = unless_refused list_refusal (sets out 0 (arranged numbers.ops basis tree c)) out

  -- the boundary buffer: the place just past each list in its first places, and the places beyond unchanged; after a refusal all of it unchanged
  unfoldable pub list_boundaries : List ℕ
  list_boundaries = unless_refused list_refusal (sets bounds 0 (ends_of tree 0 (length c))) bounds

  -- what a call says, and what it leaves in the two buffers
  pub record ListCall (r : Listed) (out' : List A) (bounds' : List ℕ) : Type 0 where
    pub answer : r ≡ list_answer
    pub coefficients : out' ≡ list_coefficients
    pub boundaries : bounds' ≡ list_boundaries
