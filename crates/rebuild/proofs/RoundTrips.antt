-- Both round trips over plain values: of a polynomial within the limits, whose lists stand at the front of buffers, and of what a rebuild call left.
-- Listing and planning both leave such lists.
use mathlib.Core.Path.{◌≡◌, refl, sym, ◌∙◌, ap, ap₂}
use mathlib.Core.Bool.{true, false≢true}
use mathlib.Core.List.{List, [], ◌∷◌, ◌++◌}
use mathlib.Core.Option.{some, some-injective}
use Prim.Native.Nat.{ℕ, suc, ◌-◌, ◌≤◌, ◌^◌}
use native.Mathlib.Omega.{arith}
use borrow.Author.Tests.{eqb-true, eq-eqb}
use lib.Dec.{eqb}
use lib.IntN.{ℤ}
use lib.ListN.{length, take}
use lib.Seq.{sets, length-sets, length-take-le}
use Rattle.algebra.specs.Operations.{whole_ops}
use Rattle.algebra.specs.declared.Basis.{Basis}
use Rattle.algebra.specs.declared.Parity.{Parity}
use Rattle.number.specs.Tests.{degree_of}
use Rattle.number.proofs.BothHold.{and_left, and_right}
use Rattle.counts.specs.Choice.{split_for}
use Rattle.counts.specs.declared.choice.SplitStrategy.{SplitStrategy}
use Rattle.lists.specs.Tree.{Tree, plan_tree}
use Rattle.lists.specs.Arrange.{arranged, leaves_of, ends_of}
use Rattle.lists.specs.ListCall.{Listed}
use Rattle.lists.proofs.Arranging.{length_ends}
use Rattle.lists.proofs.ListCall.{front, front_take}
use Rattle.lists.proofs.Standing.{plan_sound, Stands, whole, sound, arranged_length, lists_are}
use Rattle.rebuild.specs.Rebuild.{rebuilt}
use Rattle.rebuild.specs.RebuildCall.{Rebuilt, begins, rebuild_answer, rebuild_coefficients, RebuildCall}
use Rattle.rebuild.specs.Promises.{GivesAgain, ListsAgain}
use Rattle.rebuild.proofs.RebuildLaws.{rebuilt_arranged, length_rebuilt, arranged_rebuilt}
use Rattle.rebuild.proofs.RebuildTests.{Passed, passed_of, passed_answer, passed_buffer}

-- ---- boundaries at the front

begins_with : (es bs : List ℕ) → begins es (es ++ bs) ≡ true
unfolding begins
begins_with [] bs = refl
begins_with (e ∷ es) bs = rw (eq-eqb e e refl) (begins_with es bs)

begins_take : (es bs : List ℕ) → begins es bs ≡ true → take (length es) bs ≡ es
unfolding begins
begins_take [] bs is = refl
begins_take (e ∷ es) [] is = absurd (false≢true is)
begins_take (e ∷ es) (b ∷ bs) is =
    ap₂ ◌∷◌ (sym (eqb-true e b (and_left (eqb e b) (begins es bs) is))) (begins_take es bs (and_right (eqb e b) (begins es bs) is))

-- ---- a polynomial whose lists stand at the front of buffers

module _ {strategy : SplitStrategy} {parity : Parity} {basis : Basis} {c lists : List ℤ} {bounds : List ℕ} {lists' : List ℤ} {bounds' : List ℕ}
    (stands : Stands strategy parity basis c lists bounds lists' bounds') where
  abbrev tree : Tree
  tree = plan_tree strategy parity basis (degree_of c)

  abbrev base : ℕ
  base = 2 ^ split_for strategy parity basis (degree_of c)

  again : rebuilt basis tree (arranged whole_ops basis tree c) ≡ some c
  again = rebuilt_arranged basis base tree c (sound stands) stands.doubles

  ends_length : length (ends_of tree 0 (length c)) ≤ length bounds
  ends_length = omega (arith, length_ends tree 0 (length c), stands.boundaries)

  -- a rebuild call with its settings passes
  passes : (room : ℕ) → length c ≤ room → Passed strategy parity basis (degree_of c) base lists' bounds' room
  passes room fits = record {
    degrees = stands.degrees;
    settings = record {
      base_is = refl;
      ends_are = rw (whole stands, stands.ended, front (ends_of tree 0 (length c)) bounds ends_length) (begins_with (ends_of tree 0 (length c)) _);
      places = rw stands.listed (omega (arith, length-sets lists 0 (arranged whole_ops basis tree c), whole stands, stands.room));
    };
    c = c;
    c_is = ap (λ (n : ℕ). rebuilt basis tree (take n lists')) (whole stands) ∙ ap (rebuilt basis tree) (lists_are stands) ∙ again;
    room_is = omega (arith, whole stands);
  }

  -- and gives the coefficients again
  pub gives_again : {degree b : ℕ} {out : List ℤ} {s : Rebuilt} {out' : List ℤ} → degree ≡ degree_of c → b ≡ base
      → RebuildCall strategy parity basis degree b lists' bounds' out s out' → length c ≤ length out → GivesAgain c out s out'
  unfolding passes
  gives_again {degree} {b} {out} {s} {out'} degree_is base_is call fits =
      let facts = passes (length out) fits in
      record {
        answer =
            call.answer
            ∙ ap₂ (λ (d k : ℕ). rebuild_answer strategy parity basis d k lists' bounds' out) degree_is base_is
            ∙ passed_answer strategy parity basis (degree_of c) base lists' bounds' out facts
            ∙ ap (λ (n : ℕ). record { refusal = 0; coefficients = n }) (whole stands);
        coefficients =
            call.coefficients
            ∙ ap₂ (λ (d k : ℕ). rebuild_coefficients strategy parity basis d k lists' bounds' out) degree_is base_is
            ∙ passed_buffer strategy parity basis (degree_of c) base lists' bounds' out facts;
      }

-- two polynomials with the same lists are the same
module _ {strategy : SplitStrategy} {parity : Parity} {basis : Basis} {c d out : List ℤ} {ends : List ℕ} {out' : List ℤ} {ends' : List ℕ}
    {room : List ℤ} {marks : List ℕ} {room' : List ℤ} {marks' : List ℕ} (first : Stands strategy parity basis c out ends out' ends')
    (second : Stands strategy parity basis d room marks room' marks') where
  pub same_lists : take (length c) out' ≡ take (length d) room' → c ≡ d
  same_lists same =
      let arranged_same : arranged whole_ops basis (tree first) c ≡ arranged whole_ops basis (tree second) d =
      sym (lists_are first) ∙ same ∙ lists_are second in
      let size : length c ≡ length d = sym (arranged_length first) ∙ ap length arranged_same ∙ arranged_length second in
      let trees : tree first ≡ tree second = ap (λ (n : ℕ). plan_tree strategy parity basis (n - 1)) size in
      some-injective c d (sym (again first) ∙ ap₂ (rebuilt basis) trees arranged_same ∙ again second)

-- ---- what a rebuild call that wasn't refused left, taken again

module _ {strategy : SplitStrategy} {parity : Parity} {basis : Basis} {degree base : ℕ} {lists : List ℤ} {bounds : List ℕ} {c : List ℤ} {s : Rebuilt}
    {c' : List ℤ} (call : RebuildCall strategy parity basis degree base lists bounds c s c') (made : s.refusal ≡ 0) where
  pub rebuilt_facts : Passed strategy parity basis degree base lists bounds (length c)
  rebuilt_facts = passed_of strategy parity basis degree base lists bounds c (ap (λ (x : Rebuilt). x.refusal) (sym call.answer) ∙ made)

  abbrev made_tree : Tree
  made_tree = plan_tree strategy parity basis degree

  taken : length (take (suc degree) lists) ≡ suc degree
  taken = length-take-le (suc degree) lists rebuilt_facts.settings.places

  pub rebuilt_size : length rebuilt_facts.c ≡ suc degree
  rebuilt_size = length_rebuilt basis made_tree (take (suc degree) lists) rebuilt_facts.c rebuilt_facts.c_is ∙ taken

  pub count_is : s.coefficients ≡ suc degree
  count_is =
      ap (λ (x : Rebuilt). x.coefficients) (call.answer ∙ passed_answer strategy parity basis degree base lists bounds c rebuilt_facts)

  pub buffer_is : c' ≡ sets c 0 rebuilt_facts.c
  buffer_is = call.coefficients ∙ passed_buffer strategy parity basis degree base lists bounds c rebuilt_facts

  -- they stand at the front of the buffer
  front_is : take s.coefficients c' ≡ rebuilt_facts.c
  front_is =
      ap₂ take count_is buffer_is
      ∙ front_take rebuilt_facts.c c (suc degree) rebuilt_size rebuilt_facts.room_is

  -- their lists and their boundaries
  arranged_again : arranged whole_ops basis made_tree rebuilt_facts.c ≡ take (suc degree) lists
  arranged_again =
      arranged_rebuilt basis (2 ^ split_for strategy parity basis degree) made_tree (take (suc degree) lists) rebuilt_facts.c
      (rw taken (plan_sound strategy parity basis degree rebuilt_facts.degrees)) rebuilt_facts.c_is

  ended_again : ends_of made_tree 0 (suc degree) ≡ take (leaves_of made_tree) bounds
  ended_again =
      sym (begins_take (ends_of made_tree 0 (suc degree)) bounds rebuilt_facts.settings.ends_are)
      ∙ ap (λ (n : ℕ). take n bounds) (length_ends made_tree 0 (suc degree))

  size : length (take s.coefficients c') ≡ suc degree
  size = ap length front_is ∙ rebuilt_size

  degree_same : degree_of (take s.coefficients c') ≡ degree
  degree_same = omega (arith, size)

  pub listed_front : arranged whole_ops basis (plan_tree strategy parity basis (degree_of (take s.coefficients c'))) (take s.coefficients c')
      ≡ take (suc degree) lists
  listed_front =
      ap₂ (λ (d : ℕ) (l : List ℤ). arranged whole_ops basis (plan_tree strategy parity basis d) l) degree_same front_is ∙ arranged_again

  pub ended_front : ends_of (plan_tree strategy parity basis (degree_of (take s.coefficients c'))) 0 (length (take s.coefficients c'))
      ≡ take (leaves_of made_tree) bounds
  ended_front = ap₂ (λ (d n : ℕ). ends_of (plan_tree strategy parity basis d) 0 n) degree_same size ∙ ended_again

  module _ {out : List ℤ} {ends : List ℕ} {out' : List ℤ} {ends' : List ℕ}
      (stands : Stands strategy parity basis (take s.coefficients c') out ends out' ends') where
    pub lists_again : {r : Listed}
        → r ≡ record {
          refusal = 0;
          degree = degree_of (take s.coefficients c');
          base = 2 ^ split_for strategy parity basis (degree_of (take s.coefficients c'));
          coefficients = length (take s.coefficients c');
          lists = leaves_of (plan_tree strategy parity basis (degree_of (take s.coefficients c')));
        } → ListsAgain degree base lists bounds out ends r out' ends'
    lists_again {r} is = record {
      degree_is = ap (λ (x : Listed). x.degree) is ∙ degree_same;
      base_is =
          ap (λ (x : Listed). x.base) is
          ∙ ap (λ (d : ℕ). 2 ^ split_for strategy parity basis d) degree_same
          ∙ sym rebuilt_facts.settings.base_is;
      coefficients =
          stands.listed
          ∙ ap (sets out 0)
          (listed_front ∙ ap (λ (n : ℕ). take n lists) (sym (ap (λ (x : Listed). x.coefficients) is ∙ size)));
      boundaries =
          stands.ended
          ∙ ap (sets ends 0)
          (ended_front
          ∙ ap (λ (n : ℕ). take n bounds)
          (sym (ap (λ (x : Listed). x.lists) is ∙ ap (λ (d : ℕ). leaves_of (plan_tree strategy parity basis d)) degree_same)));
    }
