-- Refusal 34 exactly if rebuilding stops at some cut. By induction over the tree: where both parts are rebuilt, the two tests of the cut decide.
use mathlib.Core.Path.{◌≡◌, refl, sym, ◌∙◌, ap}
use mathlib.Core.Bool.{Bool, true, false, not, ◌&&◌, and-false, true≢false}
use mathlib.Core.List.{List, [], ◌∷◌}
use mathlib.Core.Option.{Option, some, none, none-ne-some}
use Prim.Native.Nat.{ℕ, zero, suc, ◌<◌}
use native.Mathlib.Omega.{arith}
use borrow.Author.Tests.{ltb-false, eqb-false, le-ltb, ne_eqb, not-false}
use lib.Dec.{eqb, ltb}
use lib.IntN.{ℤ, pos}
use lib.ListN.{length, get_or, take, drop}
use Rattle.algebra.specs.declared.Basis.{Basis}
use Rattle.algebra.specs.declared.Parity.{Parity}
use Rattle.number.specs.Limits.{plan_limit}
use Rattle.number.specs.Options.{◌then◌, when, missing}
use Rattle.number.specs.Refusal.{first_refusal}
use Rattle.number.proofs.Options.{missing_none}
use Rattle.counts.specs.declared.choice.SplitStrategy.{SplitStrategy}
use Rattle.lists.specs.Tree.{Tree, leaf, cut, plan_tree}
use Rattle.rebuild.specs.Undo.{is_even, fits_i64, every, doubled_in, before_cut, can_undo, undone}
use Rattle.rebuild.specs.Rebuild.{rebuilt}
use Rattle.rebuild.specs.RebuildCall.{Rebuilt, matches_settings, coefficients_from, rebuild_refusal}
use Rattle.rebuild.specs.StopsAt.{Fails, StopsAt, odd, beyond, in_first, in_second, Stopped, StoppedRefused}
use Rattle.rebuild.proofs.RebuildTests.{answer_refusal_lem}

-- ---- a test of every number

module _ (test : ℤ → Bool) where
  -- one that doesn't hold of all fails at some place
  fails_cons : (x : ℤ) (xs : List ℤ) (t : Bool) → test x ≡ t → (t && every test xs) ≡ false → (every test xs ≡ false → Fails test xs)
      → Fails test (x ∷ xs)
  fails_cons x xs true is rest later =
      let found = later rest in
      record { place = suc found.place; inside = omega (arith, found.inside); fails = found.fails }
  fails_cons x xs false is rest later = record { place = 0; inside = omega arith; fails = is }

  fails_at_lem : (xs : List ℤ) → every test xs ≡ false → Fails test xs
  unfolding every
  fails_at_lem [] none_is = absurd (true≢false none_is)
  fails_at_lem (x ∷ xs) none_is = fails_cons x xs (test x) refl none_is (fails_at_lem xs)

  -- and the other way
  at_fails : (xs : List ℤ) (i : ℕ) → i < length xs → test (get_or xs i (pos 0)) ≡ false → every test xs ≡ false
  unfolding every
  at_fails [] i inside fails = absurd (omega arith)
  at_fails (x ∷ xs) zero inside fails = rw fails
  at_fails (x ∷ xs) (suc i) inside fails = rw (at_fails xs i (omega arith) fails) (and-false (test x))

-- ---- the tree

-- one cut whose parts are rebuilt
stops_here : (basis : Basis) (p : ℕ) (first second : Tree) (lists low high : List ℤ) → rebuilt basis first (take p lists) ≡ some low
    → rebuilt basis second (drop p lists) ≡ some high → undone basis low high ≡ none → StopsAt basis (cut p first second) lists
unfolding undone can_undo
stops_here basis p first second lists low high low_is high_is =
    by_tests (every is_even (doubled_in basis high)) (every fits_i64 (before_cut basis low high)) refl refl
  where
    by_tests : (a b : Bool) → every is_even (doubled_in basis high) ≡ a → every fits_i64 (before_cut basis low high) ≡ b
        → when (a && b) (some (before_cut basis low high)) ≡ none → StopsAt basis (cut p first second) lists
    by_tests true true even held is = absurd (none-ne-some (before_cut basis low high) (sym is))
    by_tests true false even held is = beyond low_is high_is (fails_at_lem fits_i64 (before_cut basis low high) held)
    by_tests false b even held is = odd low_is high_is (fails_at_lem is_even (doubled_in basis high) even)

stops : (basis : Basis) (tree : Tree) (lists : List ℤ) → rebuilt basis tree lists ≡ none → StopsAt basis tree lists
unfolding rebuilt
stops basis leaf lists is = absurd (none-ne-some lists (sym is))
stops basis (cut p first second) lists is =
    by_first (rebuilt basis first (take p lists)) refl is (stops basis first (take p lists)) (stops basis second (drop p lists))
  where
    Stops : Tree → List ℤ → Type 0
    Stops tree l = rebuilt basis tree l ≡ none → StopsAt basis tree l

    by_second : (low : List ℤ) (o : Option (List ℤ)) → rebuilt basis first (take p lists) ≡ some low → rebuilt basis second (drop p lists) ≡ o
        → (o then λ high. undone basis low high) ≡ none → Stops second (drop p lists) → StopsAt basis (cut p first second) lists
    by_second low (some high) low_is high_is is inner = stops_here basis p first second lists low high low_is high_is is
    by_second low none low_is high_is is inner = in_second (inner high_is)

    by_first : (o : Option (List ℤ)) → rebuilt basis first (take p lists) ≡ o
        → (o then λ low. rebuilt basis second (drop p lists) then λ high. undone basis low high) ≡ none → Stops first (take p lists)
        → Stops second (drop p lists) → StopsAt basis (cut p first second) lists
    by_first (some low) low_is is outer inner = by_second low (rebuilt basis second (drop p lists)) low_is refl is inner
    by_first none low_is is outer inner = in_first (outer low_is)

then_none : {X Y : Type 0} (o : Option X) (f : X → Option Y) → ((v : X) → f v ≡ none) → (o then f) ≡ none
then_none (some v) f none_is = none_is v
then_none none f none_is = refl

stopped : (basis : Basis) (tree : Tree) (lists : List ℤ) → StopsAt basis tree lists → rebuilt basis tree lists ≡ none
unfolding rebuilt undone can_undo
stopped basis leaf lists stop = elim stop [ ]
stopped basis (cut p first second) lists (odd {low = low} {high = high} low_is high_is fails) =
    rw (low_is, high_is, at_fails is_even (doubled_in basis high) fails.place fails.inside fails.fails)
stopped basis (cut p first second) lists (beyond {low = low} {high = high} low_is high_is fails) =
    rw (
      low_is,
      high_is,
      at_fails fits_i64 (before_cut basis low high) fails.place fails.inside fails.fails,
      and-false (every is_even (doubled_in basis high)),
    )
stopped basis (cut p first second) lists (in_first stop) = rw (stopped basis first (take p lists) stop)
stopped basis (cut p first second) lists (in_second stop) =
    then_none (rebuilt basis first (take p lists)) _ (λ low. rw (stopped basis second (drop p lists) stop))

-- ---- the call

-- 34 is the number of the fourth of five tests
only_fourth : (a b c d e : Bool) → first_refusal ((a, 2) ∷ (b, 1) ∷ (c, 33) ∷ (d, 34) ∷ (e, 21) ∷ []) ≡ 34
    → (a ≡ false) × ((b ≡ false) × ((c ≡ false) × (d ≡ true)))
only_fourth true b c d e is = absurd (omega arith)
only_fourth false true c d e is = absurd (omega arith)
only_fourth false false true d e is = absurd (omega arith)
only_fourth false false false true e is = (refl, (refl, (refl, refl)))
only_fourth false false false false true is = absurd (omega arith)
only_fourth false false false false false is = absurd (omega arith)

module _ (strategy : SplitStrategy) (parity : Parity) (basis : Basis) (degree base : ℕ) (lists : List ℤ) (bounds : List ℕ) (out : List ℤ) where
  refused_stops : rebuild_refusal strategy parity basis degree base lists bounds out ≡ 34 → Stopped strategy parity basis degree base lists bounds
  unfolding rebuild_refusal coefficients_from
  refused_stops is =
      let cannot = missing (rebuilt basis (plan_tree strategy parity basis degree) (take (suc degree) lists)) in
      let tests = only_fourth (ltb plan_limit degree) (eqb degree 0) (not (matches_settings strategy parity basis degree base lists bounds)) cannot
      (ltb (length out) (suc degree)) is in
      let several = eqb-false degree 0 tests.1.0 in
      record {
        from_one = omega arith;
        to_limit = ltb-false plan_limit degree tests.0;
        settings = not-false (matches_settings strategy parity basis degree base lists bounds) tests.1.1.0;
        stops = stops basis (plan_tree strategy parity basis degree) (take (suc degree) lists) (missing_none _ tests.1.1.1);
      }

  stops_refused : Stopped strategy parity basis degree base lists bounds → rebuild_refusal strategy parity basis degree base lists bounds out ≡ 34
  unfolding rebuild_refusal coefficients_from
  stops_refused facts =
      let several = facts.from_one in
      rw (
        le-ltb plan_limit degree facts.to_limit,
        ne_eqb degree 0 (λ (is : degree ≡ 0). omega arith),
        facts.settings,
        stopped basis (plan_tree strategy parity basis degree) (take (suc degree) lists) facts.stops,
      )

pub stopped_refused : StoppedRefused
stopped_refused strategy parity basis degree base lists bounds out r out' call =
    let refusal_is : r.refusal ≡ rebuild_refusal strategy parity basis degree base lists bounds out =
    ap (λ (x : Rebuilt). x.refusal) call.answer ∙ answer_refusal_lem strategy parity basis degree base lists bounds out in (
      (λ is. refused_stops strategy parity basis degree base lists bounds out (sym refusal_is ∙ is)),
      (λ facts. refusal_is ∙ stops_refused strategy parity basis degree base lists bounds out facts),
    )
