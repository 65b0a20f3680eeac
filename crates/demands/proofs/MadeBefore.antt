-- A walk that runs uses only powers that were made (walk's `walks_use_made`): each step's are among 0, 1 and those that the steps before it made. By
-- recursion over these steps such a power is 0, or 1, or made by one of them. A plan's walk runs, so this holds of it.
use mathlib.Core.Path.{◌≡◌, refl, ap, sym, subst, ◌∙◌}
use mathlib.Core.Logic.{◌⊎◌, inl, inr, ⊎_elim}
use mathlib.Core.Bool.{Bool, true, ◌&&◌, false≢true}
use mathlib.Core.List.Memᴰ
use mathlib.Core.List.{List, [], ◌∷◌, ◌++◌, append-nil, append_assoc, Memᴰ}
use mathlib.Core.Option.{Option, some}
use Prim.Native.Nat.{ℕ, zero, suc}
use native.Mathlib.Omega.{arith}
use borrow.Author.Tests.{eqb-true, ne_eqb}
use lib.Dec.{eqb}
use lib.IntN.{ℤ, pos}
use lib.ListN.{length}
use Rattle.std.proofs.lemmas.Bool.{or_cases}
use Rattle.algebra.specs.declared.Basis.{Basis}
use Rattle.algebra.specs.declared.Parity.{Parity}
use Rattle.number.specs.Options.{◌then◌}
use Rattle.number.proofs.BothHold.{and_left, and_right}
use Rattle.number.proofs.Options.{then_some, when_some}
use Rattle.walk.specs.Kinds.{kind_of}
use Rattle.walk.specs.Rules.{exact_rules}
use Rattle.walk.specs.State.{Lists}
use Rattle.walk.specs.Walk.{walk_of}
use Rattle.walk.specs.Lent.{lent_lists, lent_steps, counts_fit, bounds_rise, lent_walk}
use Rattle.walk.specs.Uses.{uses_of}
use Rattle.walk.specs.UsesMade.{is_among, all_among, made_by, made_after, UsesMade}
use Rattle.walk.specs.declared.plan.Step.{Step}
use Rattle.walk.proofs.UsesMade.{walks_use_made}
use Rattle.demands.specs.MadeBefore.{Usable, constant, input, made, MadeBefore, RunsMadeBefore, PlansMadeBefore}
use Rattle.demands.proofs.Right.{plans_right}

-- ---- numbers among others

each_among : (ns ms : List ℕ) → all_among ns ms ≡ true → (m : ℕ) → Memᴰ m ns → is_among m ms ≡ true
unfolding all_among
each_among [] ms all m member = absurd (Memᴰ.not-nil member)
each_among (n ∷ ns) ms all m member =
    ⊎_elim (λ (at : m ≡ n). ap (λ (k : ℕ). is_among k ms) at ∙ and_left (is_among n ms) (all_among ns ms) all)
    (λ (rest : Memᴰ m ns). each_among ns ms (and_right (is_among n ms) (all_among ns ms) all) m rest) (Memᴰ.cases_cons member)

-- ---- one step more

-- what is made after a step was made before, or the step, of kind 1, made it
step_made : (kind x n : ℕ) (before : List ℕ) → is_among n (made_by (kind_of kind) x before) ≡ true → (is_among n before ≡ true) ⊎ ((kind ≡ 1) × (n ≡ x))
unfolding is_among
step_made zero x n before among = inl among
step_made (suc zero) x n before among =
    ⊎_elim (λ (new : eqb n x ≡ true). inr (refl, eqb-true n x new)) (λ (old : is_among n before ≡ true). inl old) (or_cases (eqb n x) (is_among n before) among)
step_made (suc (suc zero)) x n before among = inl among
step_made (suc (suc (suc zero))) x n before among = inl among
step_made (suc (suc (suc (suc zero)))) x n before among = inl among
step_made (suc (suc (suc (suc (suc kind))))) x n before among = inl among

usable_more : (before : List Step) (step : Step) (m : ℕ) → Usable before m → Usable (before ++ (step ∷ [])) m
usable_more before step m (constant e) = constant e
usable_more before step m (input e) = input e
usable_more before step m (made maker member is_make makes) = made maker (Memᴰ.append_left (step ∷ []) member) is_make makes

-- ---- step after step

module _ (parity : Parity) (basis : Basis) (lists : Lists) (step : Step) (later : List Step) where
  used_made : (earlier before : List Step) (powers : List ℕ) → ((n : ℕ) → is_among n powers ≡ true → Usable before n)
      → UsesMade parity basis lists powers (earlier ++ (step ∷ later))
      → (m : ℕ) → Memᴰ m (uses_of parity basis lists step) → Usable (before ++ earlier) m
  used_made [] before powers known uses m used = rw append-nil (known m (each_among (uses_of parity basis lists step) powers uses.0 m used))
  used_made (first ∷ earlier) before powers known uses m used =
      subst (λ (l : List Step). Usable l m) (append_assoc before (first ∷ []) earlier)
      (used_made earlier (before ++ (first ∷ [])) (made_after first powers)
      (λ n among. by n (step_made first.kind first.x n powers among)) uses.1 m used)
    where
      by : (n : ℕ) → (is_among n powers ≡ true) ⊎ ((first.kind ≡ 1) × (n ≡ first.x)) → Usable (before ++ (first ∷ [])) n
      by n (inl old) = usable_more before first n (known n old)
      by n (inr new) = made first (Memᴰ.append_right before (Memᴰ.head {x = first} refl)) new.0 (sym new.1)

-- at the start there are powers 0 and 1
start_usable : (n : ℕ) → is_among n (0 ∷ 1 ∷ []) ≡ true → Usable [] n
unfolding is_among
start_usable zero among = constant refl
start_usable (suc zero) among = input refl
start_usable (suc (suc n)) among =
    let not_0 = ne_eqb (suc (suc n)) 0 (λ (e : suc (suc n) ≡ 0). omega arith) in
    let not_1 = ne_eqb (suc (suc n)) 1 (λ (e : suc (suc n) ≡ 1). omega arith) in
    absurd (false≢true (rw (not_0, not_1) at among))

made_before : (parity : Parity) (basis : Basis) (lists : Lists) (steps : List Step) → UsesMade parity basis lists (0 ∷ 1 ∷ []) steps
    → MadeBefore parity basis lists steps
made_before parity basis lists steps uses earlier step later parts m used =
    used_made parity basis lists step later earlier [] (0 ∷ 1 ∷ []) start_usable
    (subst (λ (l : List Step). UsesMade parity basis lists (0 ∷ 1 ∷ []) l) parts uses) m used

-- ---- lent plans

pub runs_made_before : (A : Type 0) → RunsMadeBefore A
unfolding lent_walk
runs_made_before A 𝓡 head coefficients bounds steps point v e =
    let lists = lent_lists head coefficients bounds in
    let y : A = 𝓡.input head.transform (𝓡.point point) in
    let walk : Option A = walk_of 𝓡 head.parity head.basis lists (lent_steps head steps) y in
    let out : A → Option A = λ u. some (𝓡.output head.transform (𝓡.point point) u) in
    let fits : Bool = counts_fit head (length coefficients) (length bounds) (length steps) && bounds_rise head bounds in
    let walked = then_some walk out v (when_some fits (walk then out) v e) in
    made_before head.parity head.basis lists (lent_steps head steps)
    (walks_use_made A 𝓡 head.parity head.basis lists (lent_steps head steps) y walked.value walked.is)

pub plans_made_before : PlansMadeBefore
plans_made_before strategy parity basis folded c a b out bounds steps r out' bounds' steps' brings call =
    let right = plans_right strategy parity basis folded c a b out bounds steps r out' bounds' steps' brings call in
    runs_made_before ℤ exact_rules r.head out' bounds' steps' (pos 0) _ (right.walks (pos 0)).exact
