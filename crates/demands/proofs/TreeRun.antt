-- The loads and combines of a tree run (docs/RULES.md, "Steps"), and push one value: that of its coefficients. A leaf pushes its list's value,
-- since the powers that its parity allows are there and all other coefficients are zero; a cut joins the values of its parts by the cut law. By
-- induction over a sound tree.
use mathlib.Core.Path.{◌≡◌, refl, sym, ◌∙◌, ap, ap₂, subst}
use mathlib.Core.List.{List, [], ◌∷◌, ◌++◌, append_assoc}
use mathlib.Core.Bool.{Bool, true, false, cond, ◌&&◌}
use mathlib.Core.Option.{some}
use Prim.Native.Nat.{ℕ, suc, ◌+◌, ◌-◌, ◌^◌, ◌%◌, ◌≤◌, ◌<◌}
use native.Mathlib.Nat.{zero-add, two-pow-succ}
use native.Mathlib.Omega.{arith}
use borrow.Author.Tests.{lt-ltb}
use lib.Dec.{eqb}
use lib.IntN.{ℤ, pos, ◌+ℤ◌, ◌*ℤ◌}
use lib.ListN.{length, get_or, take, drop, length-append}
use lib.Seq.{get_or_at}
use Rattle.algebra.specs.Operations.{whole_ops}
use Rattle.algebra.specs.Allowed.{allows, HasParity}
use Rattle.algebra.specs.Cut.{cut_at}
use Rattle.algebra.specs.CutParity.{PartsKeep}
use Rattle.algebra.specs.Power.{power}
use Rattle.algebra.specs.Value.{dot, value}
use Rattle.algebra.specs.declared.Basis.{Basis}
use Rattle.algebra.specs.declared.Parity.{Parity}
use Rattle.algebra.proofs.CutLaw.{cut_law}
use Rattle.algebra.proofs.CutParity.{cut_parity}
use Rattle.algebra.proofs.Integers.{integers}
use Rattle.algebra.proofs.RingLaws as R
use Rattle.algebra.proofs.Sums.{dot_nil, dot_cons}
use Rattle.lists.specs.Tree.{Tree, leaf, cut}
use Rattle.lists.specs.Arrange.{leaves_of}
use Rattle.lists.specs.TreeFacts.{Sound, high_cuts}
use Rattle.lists.specs.Lists.{lists_of}
use Rattle.lists.proofs.Arranging.{low_size, high_size}
use Rattle.walk.specs.Limits.{waiting_limit}
use Rattle.walk.specs.Rules.{exact_rules}
use Rattle.walk.specs.State.{Powers, Lists}
use Rattle.walk.specs.Load.{add_place, sum_from, push_of, load_of}
use Rattle.walk.specs.Combine.{join_of, combine_of}
use Rattle.walk.specs.Walk.{act_of, run_of}
use Rattle.walk.specs.WalksHeld.{numbered}
use Rattle.plan.specs.PlanSteps.{load_step, combine_step, combine_kind, tree_steps}
use Rattle.demands.proofs.RunThen.{run_then}

-- ---- kinds and lists

-- a kind that combines
data Combines : ℕ → Type 0 where
  encrypted : Combines 3
  plain : Combines 4

combines : (plain : Bool) (high : Tree) → Combines (combine_kind plain high)
unfolding combine_kind
combines x high = by (x && eqb (leaves_of high) 1)
  where
    by : (t : Bool) → Combines (cond t 4 3)
    by true = plain
    by false = encrypted

numbered_at : (before : List (List ℤ)) (c : List ℤ) (after : List (List ℤ)) (i : ℕ) → length before ≡ i
    → numbered (before ++ (c ∷ after)) i ≡ some c
numbered_at before c after i e =
    let h : i < length (before ++ (c ∷ after)) = omega (arith, length-append before (c ∷ after)) in
    rw (lt-ltb i (length (before ++ (c ∷ after))) h) (ap some (get_or_at before c after [] i e))

count_lists : (basis : Basis) (tree : Tree) (c : List ℤ) → length (lists_of whole_ops basis tree c) ≡ leaves_of tree
unfolding lists_of leaves_of
count_lists basis leaf c = refl
count_lists basis (cut p low high) c = rw length-append (ap₂ ◌+◌ (count_lists basis low (take p (cut_at whole_ops basis p c)))
    (count_lists basis high (drop p (cut_at whole_ops basis p c))))

-- ---- a list's value

-- the powers that count are there, and the coefficients that do not count are zero
sum_is : (parity : Parity) (powers : Powers ℤ) (b : ℕ → ℤ) (j : ℕ) (s : ℤ) (c : List ℤ)
    → ((k : ℕ) → k < length c → allows parity (j + k) ≡ true → powers (j + k) ≡ some (b k))
    → ((k : ℕ) → allows parity (j + k) ≡ false → get_or c k (pos 0) ≡ pos 0)
    → sum_from exact_rules parity powers j s c ≡ some (s +ℤ dot whole_ops b c)
unfolding sum_from add_place
sum_is parity powers b j s [] there zeros = ap some (sym (integers.add-zero s) ∙ ap (s +ℤ◌) (sym (dot_nil whole_ops b)))
sum_is parity powers b j s (c ∷ cs) there zeros =
    go (allows parity j) refl (λ s'. sum_is parity powers (λ k. b (suc k)) (suc j) s' cs
    (λ k h a. let e : suc j + k ≡ j + suc k = omega arith in rw e (there (suc k) (omega arith) (rw e at a)))
    (λ k a. let e : suc j + k ≡ j + suc k = omega arith in zeros (suc k) (rw e at a)))
  where
    here : allows parity j ≡ true → powers j ≡ some (b 0)
    here e = let z : j + 0 ≡ j = omega arith in rw z at (there 0 (omega arith) (rw z e))

    nothing : allows parity j ≡ false → c ≡ pos 0
    nothing e = let z : j + 0 ≡ j = omega arith in zeros 0 (rw z e)

    go : (t : Bool) → allows parity j ≡ t
        → ((s' : ℤ) → sum_from exact_rules parity powers (suc j) s' cs ≡ some (s' +ℤ dot whole_ops (λ k. b (suc k)) cs))
        → sum_from exact_rules parity powers j s (c ∷ cs) ≡ some (s +ℤ dot whole_ops b (c ∷ cs))
    go true e rest = rw (e, here e) (rest (s +ℤ c *ℤ b 0) ∙ ap some
        (integers.add_assoc s (c *ℤ b 0) (dot whole_ops (λ k. b (suc k)) cs) ∙ ap (s +ℤ◌) (sym (dot_cons integers b c cs))))
    go false e rest =
        rw e (rest s ∙ ap some (ap (s +ℤ◌) (sym (dot_cons integers b c cs ∙ ap (λ v. v *ℤ b 0 +ℤ dot whole_ops (λ k. b (suc k)) cs) (nothing e)
        ∙ ap (◌+ℤ dot whole_ops (λ k. b (suc k)) cs) (R.zero-mul integers (b 0)) ∙ R.zero-add integers (dot whole_ops (λ k. b (suc k)) cs)))))

-- ---- one step

module _ (parity : Parity) (basis : Basis) (lists : Lists) where
  run_load : (powers : Powers ℤ) (waiting : List ℤ) (i : ℕ) (c : List ℤ) (v : ℤ) → lists i ≡ some c
      → sum_from exact_rules parity powers 0 (pos 0) c ≡ some v → length waiting < waiting_limit
      → run_of exact_rules parity basis lists (load_step i ∷ []) (record { powers = powers; waiting = waiting })
      ≡ some (record { powers = powers; waiting = v ∷ waiting })
  unfolding run_of act_of load_of push_of
  run_load powers waiting i c v e f h = rw (e, f, lt-ltb (length waiting) waiting_limit h)

  run_combine : (powers : Powers ℤ) (waiting : List ℤ) (kind p : ℕ) (high low t : ℤ) → Combines kind → powers p ≡ some t
      → run_of exact_rules parity basis lists (combine_step kind p ∷ []) (record { powers = powers; waiting = high ∷ low ∷ waiting })
      ≡ some (record { powers = powers; waiting = (high *ℤ t +ℤ low) ∷ waiting })
  unfolding run_of act_of combine_of join_of
  run_combine powers waiting kind p high low t encrypted e = rw e
  run_combine powers waiting kind p high low t plain e = rw e

-- ---- a tree

even_power : (p level : ℕ) → p ≡ 2 ^ suc level → p % 2 ≡ 0
even_power p level e = omega (arith, two-pow-succ level)

-- the powers that the lists and the combines of n coefficients use are there, and right
pub record Serves (parity : Parity) (basis : Basis) (y : ℤ) (base n : ℕ) (powers : Powers ℤ) : Type 0 where
  pub listed : (j : ℕ) → j < base → j < n → allows parity j ≡ true → powers j ≡ some (power whole_ops basis y j)
  pub combined : (level : ℕ) → 2 ^ suc level < n → powers (2 ^ suc level) ≡ some (power whole_ops basis y (2 ^ suc level))

module _ (parity : Parity) (basis : Basis) (all : List (List ℤ)) (y : ℤ) (base : ℕ) (powers : Powers ℤ) where
  pub run_tree : (tree : Tree) (mark : Bool) (i n : ℕ) (c waiting : List ℤ) (before after : List (List ℤ))
      → Serves parity basis y base n powers → Sound base tree n → length c ≡ n → HasParity whole_ops parity c
      → length waiting + suc (high_cuts tree) ≤ waiting_limit
      → all ≡ before ++ (lists_of whole_ops basis tree c ++ after) → length before ≡ i
      → run_of exact_rules parity basis (numbered all) (tree_steps mark tree i) (record { powers = powers; waiting = waiting })
      ≡ some (record { powers = powers; waiting = value whole_ops basis y c ∷ waiting })
  unfolding tree_steps high_cuts lists_of
  run_tree leaf mark i n c waiting before after serves sound size fits room at from =
      run_load parity basis (numbered all) powers waiting i c (value whole_ops basis y c) (rw at (numbered_at before c after i from)) summed (omega arith)
    where
      summed : sum_from exact_rules parity powers 0 (pos 0) c ≡ some (value whole_ops basis y c)
      summed =
          sum_is parity powers (power whole_ops basis y) 0 (pos 0) c
          (λ j h a. rw zero-add (serves.listed j (omega (arith, sound.within_base)) (omega arith) (rw zero-add at a)))
          (λ j a. fits j (rw zero-add at a))
          ∙ ap some (R.zero-add integers (value whole_ops basis y c))
  run_tree (cut p lo hi) mark i n c waiting before after serves sound size fits room at from =
      run_then exact_rules parity basis (numbered all) (tree_steps false lo i) _ _ _ _
      (run_tree lo false i p low waiting before (lists_of whole_ops basis hi high ++ after) (fewer p (omega (arith, sound.under)))
      sound.low low_length parts.low (omega arith) low_at from)
      (run_then exact_rules parity basis (numbered all) (tree_steps mark hi (i + leaves_of lo)) _ _ _ _
      (run_tree hi mark (i + leaves_of lo) (n - p) high (value whole_ops basis y low ∷ waiting) (before ++ lists_of whole_ops basis lo low) after
      (fewer (n - p) (omega arith)) sound.high high_length parts.high (omega arith) high_at high_from)
      (run_combine parity basis (numbered all) powers waiting (combine_kind mark hi) p (value whole_ops basis y high) (value whole_ops basis y low)
      (power whole_ops basis y p) (combines mark hi) made
      ∙ ap (λ v. some (record { powers = powers; waiting = v ∷ waiting })) joined))
    where
      low : List ℤ
      low = take p (cut_at whole_ops basis p c)

      high : List ℤ
      high = drop p (cut_at whole_ops basis p c)

      below : p < length c
      below = omega (arith, sound.under)

      under : p ≤ length c
      under = omega arith

      parts : PartsKeep integers parity basis p c
      parts = cut_parity integers parity basis p c (even_power p sound.level sound.power) under fits

      fewer : (m : ℕ) → m ≤ n → Serves parity basis y base m powers
      fewer m h = record { listed = λ j b l a. serves.listed j b (omega arith) a; combined = λ level l. serves.combined level (omega arith) }

      low_length : length low ≡ p
      low_length = low_size whole_ops basis p c below

      high_length : length high ≡ n - p
      high_length = high_size whole_ops basis p c below ∙ ap (◌- p) size

      low_at : all ≡ before ++ (lists_of whole_ops basis lo low ++ (lists_of whole_ops basis hi high ++ after))
      low_at = at ∙ ap (before ++◌) (append_assoc (lists_of whole_ops basis lo low) (lists_of whole_ops basis hi high) after)

      high_at : all ≡ (before ++ lists_of whole_ops basis lo low) ++ (lists_of whole_ops basis hi high ++ after)
      high_at = low_at ∙ sym (append_assoc before (lists_of whole_ops basis lo low) (lists_of whole_ops basis hi high ++ after))

      high_from : length (before ++ lists_of whole_ops basis lo low) ≡ i + leaves_of lo
      high_from = length-append before (lists_of whole_ops basis lo low) ∙ ap₂ ◌+◌ from (count_lists basis lo low)

      made : powers p ≡ some (power whole_ops basis y p)
      made = subst (λ q. powers q ≡ some (power whole_ops basis y q)) (sym sound.power)
          (serves.combined sound.level (omega (arith, sound.power, sound.under)))

      joined : value whole_ops basis y high *ℤ power whole_ops basis y p +ℤ value whole_ops basis y low ≡ value whole_ops basis y c
      joined =
          integers.add_comm (value whole_ops basis y high *ℤ power whole_ops basis y p) (value whole_ops basis y low)
          ∙ ap (value whole_ops basis y low +ℤ◌) (integers.mul_comm (value whole_ops basis y high) (power whole_ops basis y p))
          ∙ sym (cut_law integers y p c basis under (omega (arith, sound.half)))
