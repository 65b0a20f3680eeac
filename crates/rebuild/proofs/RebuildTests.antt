-- The rebuild call over plain values: the answer and the buffer at each of its ways out, and what a call that isn't refused has passed.
use mathlib.Core.Path.{◌≡◌, refl, sym, ◌∙◌, ap}
use mathlib.Core.Bool.{Bool, true, false, ◌&&◌}
use mathlib.Core.List.{List}
use mathlib.Core.Option.{Option, some}
use Prim.Native.Nat.{ℕ, zero, suc, ◌≤◌, ◌<◌, ◌^◌}
use native.Mathlib.Omega.{arith}
use borrow.Author.Tests.{lt-ltb, le-ltb, ltb-false, eqb-true, eqb-false, eq-eqb, ne_eqb, leb-true, le-leb, not-false}
use lib.Dec.{eqb, ltb, leb}
use lib.IntN.{ℤ}
use lib.ListN.{length, take}
use lib.Seq.{sets, length-take-le}
use Rattle.std.specs.Prelude.{Result, Ok, Err}
use Rattle.std.specs.Result.{IsErrAnd}
use Rattle.algebra.specs.declared.Basis.{Basis}
use Rattle.algebra.specs.declared.Parity.{Parity}
use Rattle.number.specs.Limits.{plan_limit}
use Rattle.number.specs.Options.{when}
use Rattle.number.specs.Refused.{refusal_number}
use Rattle.number.specs.Tests.{degree_of}
use Rattle.number.specs.declared.refusal.Refusal.{Refusal}
use Rattle.number.specs.inside.Between.{Between}
use Rattle.number.proofs.BothHold.{and_left, and_right}
use Rattle.number.proofs.Options.{missing_some}
use Rattle.number.proofs.FirstRefusal.{none_holds, refusal_of, when_refused, when_accepted}
use Rattle.counts.specs.Choice.{split_for}
use Rattle.counts.specs.declared.choice.SplitStrategy.{SplitStrategy}
use Rattle.lists.specs.Tree.{Tree, plan_tree}
use Rattle.lists.specs.Arrange.{ends_of}
use Rattle.rebuild.specs.Rebuild.{rebuilt}
use Rattle.rebuild.specs.RebuildCall.{Rebuilt, begins, no_rebuilt, matches_settings, coefficients_from, rebuild_tests}
use Rattle.rebuild.specs.RebuildCall.{rebuilt_in, rebuild_refusal, rebuild_answer, rebuild_coefficients, RebuildCall}
use Rattle.rebuild.specs.inside.Rebuilding.{coefficients_at, Written}

-- base and lists of the settings
pub record Settings (strategy : SplitStrategy) (parity : Parity) (basis : Basis) (degree base : ℕ) (lists : List ℤ) (bounds : List ℕ) : Type 0 where
  pub base_is : base ≡ 2 ^ split_for strategy parity basis degree
  pub ends_are : begins (ends_of (plan_tree strategy parity basis degree) 0 (suc degree)) bounds ≡ true
  pub places : suc degree ≤ length lists

module _ (strategy : SplitStrategy) (parity : Parity) (basis : Basis) (degree base : ℕ) (lists : List ℤ) (bounds : List ℕ) where
  abbrev tree : Tree
  tree = plan_tree strategy parity basis degree

  abbrev base_test : Bool
  base_test = eqb base (2 ^ split_for strategy parity basis degree)

  abbrev ends_test : Bool
  ends_test = begins (ends_of tree 0 (suc degree)) bounds

  abbrev place_test : Bool
  place_test = leb (suc degree) (length lists)

  pub settings_of : matches_settings strategy parity basis degree base lists bounds ≡ true → Settings strategy parity basis degree base lists bounds
  unfolding matches_settings
  settings_of has = record {
    base_is = eqb-true base (2 ^ split_for strategy parity basis degree) (and_left base_test (ends_test && place_test) has);
    ends_are = and_left ends_test place_test (and_right base_test (ends_test && place_test) has);
    places = leb-true (suc degree) (length lists) (and_right ends_test place_test (and_right base_test (ends_test && place_test) has));
  }

  pub of_settings : Settings strategy parity basis degree base lists bounds → matches_settings strategy parity basis degree base lists bounds ≡ true
  unfolding matches_settings
  of_settings has =
      rw (eq-eqb base (2 ^ split_for strategy parity basis degree) has.base_is, has.ends_are, le-leb (suc degree) (length lists) has.places)

  -- the tests one after another
  pub other_base : (base ≡ 2 ^ split_for strategy parity basis degree → ⊥) → false ≡ matches_settings strategy parity basis degree base lists bounds
  unfolding matches_settings
  other_base differs = rw (ne_eqb base (2 ^ split_for strategy parity basis degree) differs)

  module _ (base_is : base ≡ 2 ^ split_for strategy parity basis degree) where
    pub other_ends : ends_test ≡ false → false ≡ matches_settings strategy parity basis degree base lists bounds
    unfolding matches_settings
    other_ends differ = rw (eq-eqb base (2 ^ split_for strategy parity basis degree) base_is, differ)

    pub by_places : ends_test ≡ true → ltb degree (length lists) ≡ matches_settings strategy parity basis degree base lists bounds
    unfolding matches_settings
    by_places same = rw (eq-eqb base (2 ^ split_for strategy parity basis degree) base_is, same)

  -- the coefficients at the split of the settings, from the first n numbers
  pub written_from : {n split k : ℕ} {out out' : List ℤ} → n ≡ suc degree → n ≤ length lists → split ≡ split_for strategy parity basis degree
      → Written (coefficients_at strategy basis split (take n lists)) (length (take n lists)) out k out'
      → Written (coefficients_from strategy parity basis degree lists) (suc degree) out k out'
  unfolding coefficients_at coefficients_from
  written_from {n} n-is inside split_is written =
      let size : length (take n lists) ≡ suc degree = length-take-le n lists inside ∙ n-is in
      let part : degree_of (take n lists) ≡ degree = omega (arith, size) in
      rw (part, split_is, size, n-is) at written

  module _ (out : List ℤ) where
    -- ---- the ways out

    pub call_refused : {k : ℕ} {r : Rebuilt} → 0 < k → rebuild_refusal strategy parity basis degree base lists bounds out ≡ k → r ≡ no_rebuilt k
        → RebuildCall strategy parity basis degree base lists bounds out r out
    unfolding rebuild_answer rebuild_coefficients
    call_refused above is r_is = record {
      answer = r_is ∙ ap no_rebuilt (sym is) ∙ when_refused _ _ _ (rw is above);
      coefficients = when_refused _ _ _ (rw is above);
    }

    pub refused_high : {r : Rebuilt} → plan_limit < degree → r ≡ no_rebuilt 2 → RebuildCall strategy parity basis degree base lists bounds out r out
    unfolding rebuild_refusal
    refused_high high = call_refused (omega arith) (rw (lt-ltb plan_limit degree high))

    pub refused_none : {r : Rebuilt} → degree ≡ 0 → r ≡ no_rebuilt 1 → RebuildCall strategy parity basis degree base lists bounds out r out
    unfolding rebuild_refusal
    refused_none zero_is = call_refused (omega arith) (rw (le-ltb plan_limit degree (omega arith), eq-eqb degree 0 zero_is))

    module _ (degrees : Between 1 degree plan_limit) where
      some_degree : eqb degree 0 ≡ false
      some_degree = ne_eqb degree 0 (λ (is : degree ≡ 0). omega (arith, degrees.from))

      pub refused_settings : {r : Rebuilt} → matches_settings strategy parity basis degree base lists bounds ≡ false → r ≡ no_rebuilt 33
          → RebuildCall strategy parity basis degree base lists bounds out r out
      unfolding rebuild_refusal
      refused_settings other = call_refused (omega arith) (rw (le-ltb plan_limit degree degrees.to, some_degree, other))

      module _ (has : matches_settings strategy parity basis degree base lists bounds ≡ true) where
        -- the last two tests decide the answer, and what is written behind them is what the call leaves
        module _ {k : ℕ} {out' : List ℤ} (written : Written (coefficients_from strategy parity basis degree lists) (suc degree) out k out') where
          last_refusal : rebuild_refusal strategy parity basis degree base lists bounds out ≡ k
          unfolding rebuild_refusal
          last_refusal = rw (le-ltb plan_limit degree degrees.to, some_degree, has) (sym written.refusal)

          last_buffer : out' ≡ rebuild_coefficients strategy parity basis degree base lists bounds out
          unfolding rebuild_coefficients
          last_buffer = rw last_refusal written.coefficients

          pub refused_last : {r : Rebuilt} → 0 < k → r ≡ no_rebuilt k → RebuildCall strategy parity basis degree base lists bounds out r out'
          unfolding rebuild_answer
          refused_last above r_is = record {
            answer = r_is ∙ rw last_refusal (when_refused _ _ _ above);
            coefficients = last_buffer;
          }

          pub call_made : {r : Rebuilt} → k ≡ 0 → r ≡ record { refusal = 0; coefficients = suc degree }
              → RebuildCall strategy parity basis degree base lists bounds out r out'
          unfolding rebuild_answer
          call_made accepted r_is = record {
            answer = r_is ∙ when_accepted _ _ (last_refusal ∙ accepted);
            coefficients = last_buffer;
          }

        -- an accepted call
        module _ {c : List ℤ} (c_is : coefficients_from strategy parity basis degree lists ≡ some c) (room : suc degree ≤ length out) where
          none_refused : rebuild_refusal strategy parity basis degree base lists bounds out ≡ 0
          unfolding rebuild_refusal
          none_refused = rw (le-ltb plan_limit degree degrees.to, some_degree, has, c_is, le-ltb (length out) (suc degree) room)

          pub answer_is : rebuild_answer strategy parity basis degree base lists bounds out ≡ record { refusal = 0; coefficients = suc degree }
          unfolding rebuild_answer
          answer_is = sym (when_accepted _ _ none_refused)

          pub coefficients_are : rebuild_coefficients strategy parity basis degree base lists bounds out ≡ sets out 0 c
          unfolding rebuild_coefficients
          coefficients_are = sym (when_accepted _ _ none_refused) ∙ rw c_is

-- the answer of a refusal that is handed on
pub handed : (refusal : Refusal) (r : Result ℕ Refusal) → IsErrAnd r (λ (f : Refusal). f ≡ refusal) → rebuilt_in r ≡ no_rebuilt (refusal_number refusal)
handed refusal (Ok n) told = absurd told
handed refusal (Err f) told = ap (λ (e : Refusal). no_rebuilt (refusal_number e)) told

-- ---- the last two tests, of what was rebuilt, where it is there

module _ {found : Option (List ℤ)} {count : ℕ} {out : List ℤ} (there : Bool) (c : List ℤ) (found-is : found ≡ when there (some c)) where
  pub cannot_undo_lem : there ≡ false → Written found count out 34 out
  cannot_undo_lem missed = record {
    refusal = rw (found-is, missed);
    coefficients = when_refused _ _ _ (omega arith);
  }

  module _ (held : there ≡ true) where
    pub too_short : length out < count → Written found count out 21 out
    too_short short = record {
      refusal = rw (found-is, held, lt-ltb (length out) count short);
      coefficients = when_refused _ _ _ (omega arith);
    }

    pub found_written : {out' : List ℤ} → count ≤ length out → out' ≡ sets out 0 c → Written found count out 0 out'
    found_written long out_is = record {
      refusal = rw (found-is, held, le-ltb (length out) count long);
      coefficients = out_is ∙ rw (found-is, held) (when_accepted _ _ refl);
    }

-- ---- what a call that isn't refused has passed

pub record Passed (strategy : SplitStrategy) (parity : Parity) (basis : Basis) (degree base : ℕ) (lists : List ℤ) (bounds : List ℕ) (room : ℕ)
    : Type 0 where
  pub degrees : Between 1 degree plan_limit
  pub settings : Settings strategy parity basis degree base lists bounds
  pub c : List ℤ
  pub c_is : rebuilt basis (plan_tree strategy parity basis degree) (take (suc degree) lists) ≡ some c
  pub room_is : suc degree ≤ room

module _ (strategy : SplitStrategy) (parity : Parity) (basis : Basis) (degree base : ℕ) (lists : List ℤ) (bounds : List ℕ) (out : List ℤ) where
  pub answer_refusal_lem : (rebuild_answer strategy parity basis degree base lists bounds out).refusal
      ≡ rebuild_refusal strategy parity basis degree base lists bounds out
  unfolding rebuild_answer
  answer_refusal_lem = refusal_of (rebuild_refusal strategy parity basis degree base lists bounds out) _ _ (λ (r : Rebuilt). r.refusal) refl refl

  pub passed_of : (rebuild_answer strategy parity basis degree base lists bounds out).refusal ≡ 0
      → Passed strategy parity basis degree base lists bounds (length out)
  unfolding rebuild_refusal coefficients_from
  passed_of made =
      let holds = none_holds (rebuild_tests strategy parity basis degree base lists bounds out)
      (omega arith, (omega arith, (omega arith, (omega arith, (omega arith, tt))))) (sym answer_refusal_lem ∙ made) in
      let there = missing_some (rebuilt basis (plan_tree strategy parity basis degree) (take (suc degree) lists)) holds.1.1.1.0 in
      record {
        degrees = record {
          from = positive degree (eqb-false degree 0 holds.1.0);
          to = ltb-false plan_limit degree holds.0;
        };
        settings = settings_of strategy parity basis degree base lists bounds
            (not-false (matches_settings strategy parity basis degree base lists bounds) holds.1.1.0);
        c = there.value;
        c_is = there.is;
        room_is = ltb-false (length out) (suc degree) holds.1.1.1.1.0;
      }
    where
      positive : (n : ℕ) → (n ≡ 0 → ⊥) → 1 ≤ n
      positive zero given = absurd (given refl)
      positive (suc n) given = omega arith

  -- its answer and buffer
  pub passed_answer : Passed strategy parity basis degree base lists bounds (length out)
      → rebuild_answer strategy parity basis degree base lists bounds out ≡ record { refusal = 0; coefficients = suc degree }
  unfolding coefficients_from
  passed_answer facts =
      answer_is strategy parity basis degree base lists bounds out facts.degrees
      (of_settings strategy parity basis degree base lists bounds facts.settings) facts.c_is facts.room_is

  pub passed_buffer : (facts : Passed strategy parity basis degree base lists bounds (length out))
      → rebuild_coefficients strategy parity basis degree base lists bounds out ≡ sets out 0 facts.c
  unfolding coefficients_from
  passed_buffer facts =
      coefficients_are strategy parity basis degree base lists bounds out facts.degrees
      (of_settings strategy parity basis degree base lists bounds facts.settings) facts.c_is facts.room_is
