-- What is a record? A kind and a name, parted by a tab.
-- Assumes nothing.
use Rattle.std.specs.Prelude.{ℕ, ◌-◌, ◌^◌, Bool, false, cond, ◌&&◌, ◌||◌, [], ◌∷◌, leb, ltb, eqb, length, Option, Some, None, unwrap_or}
use Rattle.decimal.specs.Decimal.{is_digit}
use Rattle.decimal.specs.Read.{read_number}
use Rattle.text.specs.Text.{Bytes, tab, parts, part, same, every}

abbrev pub most_bytes : ℕ
most_bytes = 255

-- the kinds as numbers, and 4 for none
abbrev pub folder : ℕ
folder = 0

abbrev pub wrt : ℕ
wrt = 1

abbrev pub con : ℕ
con = 2

abbrev pub ign : ℕ
ign = 3

abbrev pub no_kind : ℕ
no_kind = 4

-- "Kinds: folder, wrt, con (a name held in a consolidated commits file), ign"
abbrev pub folder_text : Bytes
folder_text = 102 ∷ 111 ∷ 108 ∷ 100 ∷ 101 ∷ 114 ∷ []

abbrev pub wrt_text : Bytes
wrt_text = 119 ∷ 114 ∷ 116 ∷ []

abbrev pub con_text : Bytes
con_text = 99 ∷ 111 ∷ 110 ∷ []

abbrev pub ign_text : Bytes
ign_text = 105 ∷ 103 ∷ 110 ∷ []

unfoldable pub kind_number : Bytes → ℕ
kind_number k =
    cond (same k folder_text) folder
    (cond (same k wrt_text) wrt
    (cond (same k con_text) con
    (cond (same k ign_text) ign no_kind)))

-- "uuid 1 to 64 letters, digits or hyphens"
unfoldable pub is_uuid_byte : ℕ → Bool
is_uuid_byte b = is_digit b || ((leb 65 b && leb b 90) || ((leb 97 b && leb b 122) || eqb b 45))

unfoldable pub is_uuid : Bytes → Bool
is_uuid u = leb 1 (length u) && (leb (length u) 64 && every is_uuid_byte u)

-- "decimal without leading zeros, below 2^63"
abbrev pub time_in : Bytes → Option ℕ
time_in t = read_number (2 ^ 63 - 1) t

abbrev pub are_times : Option ℕ → Option ℕ → Bool
are_times None b = false
are_times (Some a) None = false
are_times (Some a) (Some b) = leb a b

-- "v 16 to 21": a number of at most 21, and at least 16
abbrev pub version_in : Bytes → Option ℕ
version_in v = read_number 21 v

-- '_'
abbrev pub underscore : ℕ
underscore = 95

abbrev pub piece : ℕ → Bytes → Bytes
piece k name = part underscore k name

-- "Names are `__t1_t2_uuid_v` with t1 at most t2"
unfoldable pub is_name : Bytes → Bool
is_name name =
    eqb (length (parts underscore name)) 6
    && (eqb (length (piece 0 name)) 0
    && (eqb (length (piece 1 name)) 0
    && (are_times (time_in (piece 2 name)) (time_in (piece 3 name))
    && (is_uuid (piece 4 name)
    && leb 16 (unwrap_or (version_in (piece 5 name)) 0)))))

-- t2
unfoldable pub time_of : Bytes → ℕ
time_of name = unwrap_or (time_in (piece 3 name)) 0

-- "kind and name parted by a tab"
unfoldable pub kind_of : Bytes → ℕ
kind_of line = kind_number (part tab 0 line)

unfoldable pub name_of : Bytes → Bytes
name_of line = part tab 1 line

-- "at most 255 bytes"
unfoldable pub is_record : Bytes → Bool
is_record line =
    leb (length line) most_bytes
    && (eqb (length (parts tab line)) 2
    && (ltb (kind_of line) no_kind
    && is_name (name_of line)))
