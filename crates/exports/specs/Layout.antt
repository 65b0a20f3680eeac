-- The number of the layouts: which fields the structs for C have, and which arguments the calls.
use Rattle.std.specs.Prelude.{ℕ}

-- 10: the layouts since request Q-10, which added the set calls with their members and their answer. Request Q-11 added the conversion call and its answer,
-- and changed nothing that was there. The next change of a struct or a signature makes it 11
abbrev pub layout_number : ℕ
layout_number = 10
