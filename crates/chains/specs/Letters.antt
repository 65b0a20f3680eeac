-- The order of the settings (docs/RULES.md, "Lines of chains"): basis M C, parity F E O, strategy D M, the last changing fastest.
use Rattle.std.specs.Prelude.{[], ◌∷◌, ℕ, ◌/◌, ◌%◌, get_or}
use Rattle.lines.specs.Bytes.{letter_c, letter_d, letter_e, letter_f, letter_m, letter_o}
use Rattle.chains.specs.declared.letters.Letters.{Letters}

-- the letters of setting k, from 0 to 11
unfoldable pub letters_at : (k : ℕ) → Letters
letters_at k = record {
  basis = get_or (letter_m ∷ letter_c ∷ []) (k / 6 % 2) 0;
  parity = get_or (letter_f ∷ letter_e ∷ letter_o ∷ []) (k / 2 % 3) 0;
  strategy = get_or (letter_d ∷ letter_m ∷ []) (k % 2) 0;
}
