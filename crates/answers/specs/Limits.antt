-- The limits of answers: the places that the lent buffers need, and the longest text. The code has them as constants of the same names.
use Rattle.std.specs.Prelude.{ℕ}

-- bytes of a line that are kept: one more than it may have, so that a too long line is told
abbrev pub line_room : ℕ
line_room = 65536

-- coefficients of a line that are kept: one more than a plan may have, so that a line with too many is told
abbrev pub coefficient_room : ℕ
coefficient_room = 4097

-- places for the lists and the boundaries of every plan
abbrev pub list_room : ℕ
list_room = 4096

-- places for the steps of every plan: at most 4,096 powers, 4,096 loads, 4,096 combines, of four numbers each
abbrev pub step_room : ℕ
step_room = 49152

-- the most bytes of an answer: 128 for the head, 24 a coefficient and 17 a step at most
abbrev pub text_limit : ℕ
text_limit = 307311

-- places for text: room for three such answers at least
abbrev pub text_room : ℕ
text_room = 1048576
