-- What do the definitions say of worked cases? All by computation.
-- Assumes nothing.
use mathlib.Core.Path.{◌≡◌, refl}
use mathlib.Core.Bool.{true, false}
use mathlib.Core.List.{[], ◌∷◌, ◌++◌}
use Prim.Native.Nat.{ℕ}
use lib.ListN.{replicate}
use Rattle.answers.specs.Runs.{over}
use Rattle.answers.specs.Refusals.{refusal, none, bad_line, repeated}
use Rattle.answers.specs.Checks.{first}
use Rattle.answers.specs.Laid.{laid}
use Rattle.decimal.specs.Decimal.{value_from, all_digits, starts_well, is_decimal}
use Rattle.decimal.specs.Read.{read_number}
use Rattle.text.specs.Text.{Bytes, tab, newline, cut, lines, same, every}
use Rattle.commits.specs.Records.{folder_text, wrt_text, con_text, ign_text, underscore, kind_number, is_uuid_byte, is_uuid, is_name, time_of, kind_of, name_of, is_record}
use Rattle.commits.specs.Committed.{some, numbers, line_refusal, listing_refusal, names, counts, listed, committed_lines, committed_answer}

-- ---- names and lines, put together
abbrev name : Bytes → Bytes → Bytes → Bytes → Bytes
name first last uuid version =
    underscore ∷ underscore ∷ (first ++ (underscore ∷ (last ++ (underscore ∷ (uuid ++ (underscore ∷ version))))))

abbrev line : Bytes → Bytes → Bytes
line kind named = kind ++ (tab ∷ named)

abbrev ended : Bytes → Bytes → Bytes
ended l rest = l ++ (newline ∷ rest)

-- `1`, `2`, `16`, `21`, `ab` and 2^63 - 1
abbrev one : Bytes
one = 49 ∷ []

abbrev two : Bytes
two = 50 ∷ []

abbrev sixteen : Bytes
sixteen = 49 ∷ 54 ∷ []

abbrev twenty-one : Bytes
twenty-one = 50 ∷ 49 ∷ []

abbrev ab : Bytes
ab = 97 ∷ 98 ∷ []

abbrev most : Bytes
most = 57 ∷ 50 ∷ 50 ∷ 51 ∷ 51 ∷ 55 ∷ 50 ∷ 48 ∷ 51 ∷ 54 ∷ 56 ∷ 53 ∷ 52 ∷ 55 ∷ 55 ∷ 53 ∷ 56 ∷ 48 ∷ 55 ∷ []

abbrev past : Bytes
past = 57 ∷ 50 ∷ 50 ∷ 51 ∷ 51 ∷ 55 ∷ 50 ∷ 48 ∷ 51 ∷ 54 ∷ 56 ∷ 53 ∷ 52 ∷ 55 ∷ 55 ∷ 53 ∷ 56 ∷ 48 ∷ 56 ∷ []

abbrev early : Bytes
early = name one two ab sixteen

abbrev late : Bytes
late = name (48 ∷ []) (55 ∷ []) (71 ∷ 45 ∷ 57 ∷ []) twenty-one

abbrev dropped : Bytes
dropped = name (51 ∷ []) (52 ∷ []) ab twenty-one

-- ---- lines 0 and 6 count: a wrt names the first, which an ign doesn't cancel, and a con and no ign the other; the last line
-- has no newline
abbrev listing : Bytes
listing =
    ended (line folder_text early) (ended (line wrt_text early)
    (ended (line folder_text dropped) (ended (line con_text dropped) (ended (line ign_text dropped)
    (ended (line ign_text early) (ended (line folder_text late) (line con_text late)))))))

found :
    (committed_answer listing 7 ≡ record { number = 0; place = 0; found = 2 })
    × (committed_lines listing 7 ≡ 0 ∷ 6 ∷ []) × (committed_lines listing 6 ≡ 0 ∷ []) × (committed_lines listing 1 ≡ [])
    × (laid (committed_lines listing 7) (9 ∷ 9 ∷ 9 ∷ []) ≡ 0 ∷ 6 ∷ 9 ∷ [])
    × (laid (committed_lines listing 7) (9 ∷ []) ≡ 0 ∷ []) × (laid (committed_lines listing 7) [] ≡ [])
unfolding over first value_from all_digits starts_well is_decimal read_number cut same every kind_number is_uuid_byte is_uuid is_name time_of kind_of name_of is_record some numbers line_refusal listing_refusal names counts listed committed_lines committed_answer
found = (refl, refl, refl, refl, refl, refl, refl)

-- ---- each field at its ends: times of 0 and of 2^63 - 1, uuids of one byte and of 64, versions 16 and 21
records :
    (is_record (line folder_text early) ≡ true)
    × (is_record (line wrt_text (name (48 ∷ []) (48 ∷ []) (45 ∷ []) twenty-one)) ≡ true)
    × (is_record (line con_text (name most most (90 ∷ 122 ∷ 48 ∷ 57 ∷ 45 ∷ []) sixteen)) ≡ true)
    × (is_record (line ign_text (name one one (replicate {A = ℕ} 64 97) twenty-one)) ≡ true)
unfolding value_from all_digits starts_well is_decimal read_number cut same every kind_number is_uuid_byte is_uuid is_name kind_of name_of is_record
records = (refl, refl, refl, refl)

-- ---- and past them: no line at all, no tab, no name, a capital, a blank for the tab, t1 above t2, a leading zero, one underscore
-- too few and one too many at the start and in the middle, no uuid, versions 15, 22 and 016, none, a part too few; a tab and a
-- carriage return at the end, two tabs, 2^63, an uuid of 65 bytes, a full stop, a sign, a blank at the start
no-records :
    (is_record [] ≡ false)
    × (is_record folder_text ≡ false)
    × (is_record (line folder_text []) ≡ false)
    × (is_record (line (70 ∷ 111 ∷ 108 ∷ 100 ∷ 101 ∷ 114 ∷ []) early) ≡ false)
    × (is_record (folder_text ++ (32 ∷ early)) ≡ false)
    × (is_record (line folder_text (name two one ab sixteen)) ≡ false)
    × (is_record (line folder_text (name (48 ∷ one) two ab sixteen)) ≡ false)
    × (is_record (line folder_text (underscore ∷ (one ++ (underscore ∷ (two ++ (underscore ∷ (ab ++ (underscore ∷ sixteen)))))))) ≡ false)
    × (is_record (line folder_text (underscore ∷ early)) ≡ false)
    × (is_record (line folder_text (name one two (97 ∷ underscore ∷ 98 ∷ []) sixteen)) ≡ false)
    × (is_record (line folder_text (name one two [] sixteen)) ≡ false)
    × (is_record (line folder_text (name one two ab (49 ∷ 53 ∷ []))) ≡ false)
    × (is_record (line folder_text (name one two ab (50 ∷ 50 ∷ []))) ≡ false)
    × (is_record (line folder_text (name one two ab (48 ∷ sixteen))) ≡ false)
    × (is_record (line folder_text (name one two ab [])) ≡ false)
    × (is_record (line folder_text (underscore ∷ underscore ∷ (one ++ (underscore ∷ (two ++ (underscore ∷ ab)))))) ≡ false)
    × (is_record (line folder_text early ++ (tab ∷ [])) ≡ false)
    × (is_record (line folder_text early ++ (13 ∷ [])) ≡ false)
    × (is_record (line folder_text (tab ∷ early)) ≡ false)
    × (is_record (line folder_text (name one past ab sixteen)) ≡ false)
    × (is_record (line folder_text (name one one (replicate {A = ℕ} 65 97) twenty-one)) ≡ false)
    × (is_record (line folder_text (name one two (97 ∷ 46 ∷ 98 ∷ []) sixteen)) ≡ false)
    × (is_record (line folder_text (name (45 ∷ one) two ab sixteen)) ≡ false)
    × (is_record (line folder_text (name (43 ∷ one) two ab sixteen)) ≡ false)
    × (is_record (32 ∷ line folder_text early) ≡ false)
unfolding value_from all_digits starts_well is_decimal read_number cut same every kind_number is_uuid_byte is_uuid is_name kind_of name_of is_record
no-records = (refl, refl, refl, refl, refl, refl, refl, refl, refl, refl, refl, refl, refl, refl, refl, refl, refl, refl, refl, refl, refl, refl, refl, refl, refl)

-- ---- an empty listing, a line, one newline alone, an empty second line, a repeated record before a bad line and after one
refusals :
    (listing_refusal (lines []) ≡ none)
    × (listing_refusal (lines (ended (line folder_text early) [])) ≡ none)
    × (listing_refusal (lines (newline ∷ [])) ≡ refusal bad_line 0)
    × (listing_refusal (lines (ended (line folder_text early) (newline ∷ []))) ≡ refusal bad_line 1)
    × (listing_refusal (lines (ended (line folder_text early) (ended (line wrt_text early) (ended (line folder_text early) (120 ∷ []))))) ≡ refusal repeated 2)
    × (listing_refusal (lines (ended (line folder_text early) (ended (120 ∷ []) (line folder_text early)))) ≡ refusal bad_line 1)
unfolding over first value_from all_digits starts_well is_decimal read_number cut same every kind_number is_uuid_byte is_uuid is_name kind_of name_of is_record some line_refusal listing_refusal
refusals = (refl, refl, refl, refl, refl, refl)
