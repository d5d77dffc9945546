-- What are the lines of a text, and the parts of a line?
-- Assumes nothing.
use Rattle.std.specs.Prelude.{ℕ, suc, Bool, true, false, cond, ◌&&◌, List, [], ◌∷◌, ◌++◌, eqb, get_or}

-- the bytes of a text
abbrev pub Bytes : Type 0
Bytes = List ℕ

-- '\t' and '\n'
abbrev pub tab : ℕ
tab = 9

abbrev pub newline : ℕ
newline = 10

-- a byte put in front of the first piece
abbrev pub onto : ℕ → List Bytes → List Bytes
onto b [] = (b ∷ []) ∷ []
onto b (p ∷ ps) = (b ∷ p) ∷ ps

-- the pieces between separators; an empty rest has `rest`
unfoldable pub cut : ℕ → List Bytes → Bytes → List Bytes
cut sep rest [] = rest
cut sep rest (b ∷ t) = cond (eqb b sep) ([] ∷ cut sep rest t) (onto b (cut sep rest t))

-- lines: each ends in one newline, which the last may lack; an empty text has none. And line i, from 0: empty where
-- there is none
abbrev pub lines : Bytes → List Bytes
lines t = cut newline [] t

abbrev pub line_at : ℕ → Bytes → Bytes
line_at i t = get_or (lines t) i []

-- parts: one more than there are separators; and part k, from 0
abbrev pub parts : ℕ → Bytes → List Bytes
parts sep t = cut sep ([] ∷ []) t

abbrev pub part : ℕ → ℕ → Bytes → Bytes
part sep k t = get_or (parts sep t) k []

-- the parts joined again
abbrev pub joined : ℕ → List Bytes → Bytes
joined sep [] = []
joined sep (p ∷ []) = p
joined sep (p ∷ q ∷ ps) = p ++ sep ∷ joined sep (q ∷ ps)

-- the bytes before the first separator: all where there is none
unfoldable pub piece_length : ℕ → Bytes → ℕ
piece_length sep [] = 0
piece_length sep (b ∷ t) = cond (eqb b sep) 0 (suc (piece_length sep t))

-- two texts are byte for byte the same
unfoldable pub same : Bytes → Bytes → Bool
same [] [] = true
same [] (b ∷ t) = false
same (a ∷ s) [] = false
same (a ∷ s) (b ∷ t) = eqb a b && same s t

-- each byte passes a test
unfoldable pub every : (ℕ → Bool) → Bytes → Bool
every test [] = true
every test (b ∷ t) = test b && every test t
