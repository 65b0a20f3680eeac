-- What `then`, `when` and `missing` make of an image, and of one another. By cases of what is there.
use mathlib.Core.Path.{◌≡◌, refl}
use mathlib.Core.Bool.{Bool, true, false, not, ◌||◌, ◌&&◌}
use mathlib.Core.Option.{Option, some, none}
use Prim.Native.Nat.{ℕ}
use native.Mathlib.Omega.{arith}
use Rattle.number.specs.Options.{◌then◌, when, missing, image}

pub then_image : {X X' Y Y' : Type 0} (f : X → X') (h : Y → Y') (o : Option X) (o' : Option X') (g : X → Option Y) (g' : X' → Option Y')
    → o' ≡ image f o → ((v : X) → g' (f v) ≡ image h (g v)) → (o' then g') ≡ image h (o then g)
then_image f h (some v) o' g g' e k = rw e (k v)
then_image f h none o' g g' e k = rw e

pub when_image : {Y Y' : Type 0} (h : Y → Y') (t : Bool) (o : Option Y) (o' : Option Y') → o' ≡ image h o → when t o' ≡ image h (when t o)
when_image h true o o' e = e
when_image h false o o' e = refl

-- where g makes the images of what f makes, so it does of what may not be there
pub image_then : {X Y : Type 0} (h : Y → Y) (o : Option X) (f g : X → Option Y) → ((u : X) → g u ≡ image h (f u)) → (o then g) ≡ image h (o then f)
image_then h (some u) f g k = k u
image_then h none f g k = refl

-- nothing is there if the second of two tests does not hold
pub when_fails : {X : Type 0} (t : Bool) (o : Option X) → when (t && false) o ≡ none
when_fails true o = refl
when_fails false o = refl

pub missing_image : {A B : Type 0} (f : A → B) (o : Option A) → missing (image f o) ≡ missing o
missing_image f (some v) = refl
missing_image f none = refl

pub then_alike : {X Y : Type 0} (o : Option X) {f g : X → Option Y} → ((v : X) → f v ≡ g v) → (o then f) ≡ (o then g)
then_alike (some v) k = k v
then_alike none k = refl

pub then_assoc : {X Y Z : Type 0} (o : Option X) (f : X → Option Y) (g : Y → Option Z) → (o then f then g) ≡ (o then λ v. f v then g)
then_assoc (some v) f g = refl
then_assoc none f g = refl

-- what comes after is always there
pub missing_then : {X Y : Type 0} (o : Option X) (f : X → Y) → missing (o then λ v. some (f v)) ≡ missing o
missing_then (some v) f = refl
missing_then none f = refl

pub missing_when : {X : Type 0} (t : Bool) (o : Option X) → missing (when t o) ≡ (not t || missing o)
missing_when true o = refl
missing_when false o = refl

-- what was found under a test, carried on
pub lift : {X Y : Type 0} (ok : Bool) (v : X) (f : X → Y) (wanted : Option X) → when ok (some v) ≡ wanted
    → when ok (some (f v)) ≡ (wanted then λ u. some (f u))
lift true v f wanted e = rw (← e)
lift false v f wanted e = rw (← e)

-- ---- an answer that is there: so is what it was made of

pub same_some : {X : Type 0} {u v : X} → some u ≡ some v → u ≡ v
same_some e = cc

pub record Both {X Y : Type 0} (o : Option X) (f : X → Option Y) (r : Y) : Type 0 where
  pub value : X
  pub is : o ≡ some value
  pub next : f value ≡ some r

pub then_some : {X Y : Type 0} (o : Option X) (f : X → Option Y) (r : Y) → (o then f) ≡ some r → Both o f r
then_some (some v) f r e = record { value = v; is = refl; next = e }
then_some none f r e = let same : ◌≡◌ {A = ℕ} 0 1 = cc in absurd (omega arith)

pub when_some : {X : Type 0} (t : Bool) (o : Option X) (r : X) → when t o ≡ some r → o ≡ some r
when_some true o r e = e
when_some false o r e = let same : ◌≡◌ {A = ℕ} 0 1 = cc in absurd (omega arith)

pub when_holds : {X : Type 0} (t : Bool) (o : Option X) (r : X) → when t o ≡ some r → t ≡ true
when_holds true o r e = refl
when_holds false o r e = let same : ◌≡◌ {A = ℕ} 0 1 = cc in absurd (omega arith)

-- ---- whether an answer is there

pub missing_none : {X : Type 0} (o : Option X) → missing o ≡ true → o ≡ none
missing_none none e = refl
missing_none (some v) e = let same : ◌≡◌ {A = ℕ} 0 1 = cc in absurd (omega arith)

pub record IsThere {X : Type 0} (o : Option X) : Type 0 where
  pub value : X
  pub is : o ≡ some value

pub missing_some : {X : Type 0} (o : Option X) → missing o ≡ false → IsThere o
missing_some none e = let same : ◌≡◌ {A = ℕ} 0 1 = cc in absurd (omega arith)
missing_some (some v) e = record { value = v; is = refl }

-- ---- an answer r that f makes of another

pub record CameFrom {X : Type 0} (f : X → X) (o : Option X) (r : X) : Type 0 where
  pub value : X
  pub is : o ≡ some value
  pub to : f value ≡ r

pub came_from : {X : Type 0} (f : X → X) (o : Option X) (r : X) → image f o ≡ some r → CameFrom f o r
came_from f (some v) r e = record { value = v; is = refl; to = same_some e }
came_from f none r e = let same : ◌≡◌ {A = ℕ} 0 1 = cc in absurd (omega arith)
