-- What numbers from C are read as: what they mean if every kind is known, else refusal 43.
use Rattle.std.specs.Prelude.{◌≡◌, Bool, true, false, ℕ, Result, MatchResult}
use Rattle.number.specs.declared.refusal.Refusal.{Refusal}
use Rattle.number.specs.declared.refusal.Refusal.TheVariants.{UnknownKind}
use Rattle.counts.specs.declared.settings.Settings.{Settings}
use Rattle.flat.specs.Kinds.{strategy_numbered, parity_numbered, basis_numbered}

abbrev pub Reads : {X : Type 0} → (known : Bool) → (meant : X) → Result X Refusal → Type 0
Reads known meant r = MatchResult r (λ x. (known ≡ true) × (x ≡ meant)) (λ refusal. (known ≡ false) × (refusal ≡ UnknownKind))

-- the settings that three numbers mean
abbrev pub settings_meant : (strategy parity basis : ℕ) → Settings
settings_meant strategy parity basis = record { strategy = strategy_numbered strategy; parity = parity_numbered parity; basis = basis_numbered basis }
