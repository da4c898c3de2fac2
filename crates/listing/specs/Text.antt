-- Numbers and lines as bytes. Document 01, "The session program"; document 02, Ask 1.
use Rattle.std.specs.Prelude.{cond, ◌++◌, List, ◌∷◌, [], ◌%◌, ◌+◌, ◌/◌, suc, zero, ℕ, ltb, drop, length, take}

-- the codes of characters
abbrev pub newline : ℕ
newline = 10

abbrev pub blank : ℕ
blank = 32

-- the code of the digit d
abbrev pub digit_code : ℕ → ℕ
digit_code d = 48 + d

-- the decimal digits of n, the most significant first; at most k of them
unfoldable pub digits : ℕ → ℕ → List ℕ
digits zero n = []
digits (suc k) n = cond (ltb n 10) (digit_code n ∷ []) (digits k (n / 10) ++ (digit_code (n % 10) ∷ []))

-- a number in decimal, without leading zeros: n has fewer than n + 1 digits, or is 0
unfoldable pub decimal : ℕ → List ℕ
decimal n = digits (suc n) n

-- words, a blank before each
abbrev pub words : List (List ℕ) → List ℕ
words [] = []
words (w ∷ ws) = blank ∷ (w ++ words ws)

-- a line: its name, its words, a newline
abbrev pub line : List ℕ → List (List ℕ) → List ℕ
line name ws = name ++ (words ws ++ (newline ∷ []))

-- the names of lines
abbrev pub name_call : List ℕ
name_call = 99 ∷ 97 ∷ 108 ∷ 108 ∷ []

abbrev pub name_end : List ℕ
name_end = 101 ∷ 110 ∷ 100 ∷ []

abbrev pub name_set : List ℕ
name_set = 115 ∷ 101 ∷ 116 ∷ []

abbrev pub name_file : List ℕ
name_file = 102 ∷ 105 ∷ 108 ∷ 101 ∷ []

abbrev pub name_ext : List ℕ
name_ext = 101 ∷ 120 ∷ 116 ∷ []

-- "shown as -1"
abbrev pub minus_one : List ℕ
minus_one = 45 ∷ 49 ∷ []

-- 02: "a hole is listed as -2"
abbrev pub minus_two : List ℕ
minus_two = 45 ∷ 50 ∷ []

-- a text in a lent buffer, from its front on, as much of it as fits; the bytes behind it stay
unfoldable pub into_buffer : List ℕ → List ℕ → List ℕ
into_buffer text out = take (length out) text ++ drop (length text) out
