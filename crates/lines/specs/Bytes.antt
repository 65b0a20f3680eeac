-- The bytes that lines are made of, those read and those printed (docs/RULES.md, "Lines of planlines"), by their numbers in ASCII.
use Rattle.std.specs.Prelude.{ℕ}

-- between two fields
abbrev pub tab : ℕ
tab = 9

-- at the end of a line
abbrev pub line_feed : ℕ
line_feed = 10

-- a sign, and the first and the last digit
abbrev pub minus : ℕ
minus = 45

abbrev pub digit0 : ℕ
digit0 = 48

abbrev pub digit9 : ℕ
digit9 = 57

-- the capital letters of the settings
abbrev pub letter_c : ℕ
letter_c = 67

abbrev pub letter_d : ℕ
letter_d = 68

abbrev pub letter_e : ℕ
letter_e = 69

abbrev pub letter_f : ℕ
letter_f = 70

abbrev pub letter_m : ℕ
letter_m = 77

abbrev pub letter_n : ℕ
letter_n = 78

abbrev pub letter_o : ℕ
letter_o = 79

abbrev pub letter_y : ℕ
letter_y = 89

-- the letters that printed lines begin with
abbrev pub letter_b : ℕ
letter_b = 66

abbrev pub letter_g : ℕ
letter_g = 71

abbrev pub letter_h : ℕ
letter_h = 72

abbrev pub letter_l : ℕ
letter_l = 76

abbrev pub letter_p : ℕ
letter_p = 80

abbrev pub letter_q : ℕ
letter_q = 81

abbrev pub letter_r : ℕ
letter_r = 82
