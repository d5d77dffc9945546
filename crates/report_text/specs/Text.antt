-- What does the report say, as a text of bytes?
-- Assumes nothing.
use Rattle.std.specs.Prelude.{ℕ, Bool, ◌||◌, cond, List, [], ◌∷◌, ◌++◌, ltb, eqb, length, get_or, Option, Some, None}
use Rattle.answers.specs.Refusals as refusals
use Rattle.answers.specs.Runs.{join}
use Rattle.answers.specs.Checks.{first}
use Rattle.answers.specs.declared.Refusal.{Refusal}
use Rattle.footer.specs.Answer.{checked_answer, cells_of}
use Rattle.lists.specs.declared.TileOffsets.{TileOffsets}
use Rattle.lists.specs.Offsets.{offsets_answer, extent_at}
use Rattle.rtree.specs.declared.Opened.{Opened}
use Rattle.query.specs.declared.Answer.{Answer}
use Rattle.rtree.specs.Opening.{open_answer}
use Rattle.query.specs.Query.{query_answer, found_at}
use Rattle.text.specs.Text.{tab, newline}
use Rattle.text.specs.Write.{field}
use Rattle.report_text.specs.declared.Asked.{Asked}
use Rattle.report_text.specs.Asked.{asked_of}

-- `too long`
abbrev pub too_long_text : List ℕ
too_long_text = 116 ∷ 111 ∷ 111 ∷ 32 ∷ 108 ∷ 111 ∷ 110 ∷ 103 ∷ newline ∷ []

-- a word, and then a number with a tab or a newline
abbrev pub piece : List ℕ → ℕ → ℕ → List ℕ
piece word n end = word ++ field n end

-- `refused`, number, place
abbrev pub refused_word : List ℕ
refused_word = 114 ∷ 101 ∷ 102 ∷ 117 ∷ 115 ∷ 101 ∷ 100 ∷ tab ∷ []

unfoldable pub refused_text : ℕ → ℕ → List ℕ
refused_text number place = piece refused_word number tab ++ field place newline

-- `tiles`, n, `found`, k, `looked`, m
abbrev pub tiles_word : List ℕ
tiles_word = 116 ∷ 105 ∷ 108 ∷ 101 ∷ 115 ∷ tab ∷ []

abbrev pub found_word : List ℕ
found_word = 102 ∷ 111 ∷ 117 ∷ 110 ∷ 100 ∷ tab ∷ []

abbrev pub looked_word : List ℕ
looked_word = 108 ∷ 111 ∷ 111 ∷ 107 ∷ 101 ∷ 100 ∷ tab ∷ []

unfoldable pub header_text : ℕ → ℕ → ℕ → List ℕ
header_text n k m = (piece tiles_word n tab ++ piece found_word k tab) ++ piece looked_word m newline

-- tile, offset, extent, cells
unfoldable pub row_text : ℕ → ℕ → ℕ → ℕ → List ℕ
row_text tile offset extent cells =
    ((field tile tab ++ field offset tab) ++ field extent tab) ++ field cells newline

-- the line of a tile, with n, the last tile's cells, C, S and the offsets list
abbrev pub tile_text : ℕ → ℕ → ℕ → ℕ → List ℕ → ℕ → List ℕ
tile_text n last c S offsets i =
    row_text i (extent_at n S offsets i).offset (extent_at n S offsets i).extent (cells_of n last c i)

-- the lines of the first so many of a list of tiles
abbrev pub tiles_text : ℕ → ℕ → ℕ → ℕ → List ℕ → List ℕ → ℕ → List ℕ
tiles_text n last c S offsets tiles m = join (λ k. tile_text n last c S offsets (get_or tiles k 0)) 0 m

-- the most bytes of a file
abbrev pub most_bytes : ℕ
most_bytes = 65_536

-- No text is longer: a header and 8,192 lines, which no tree of so many bytes has the tiles for, of 84 bytes each.
abbrev pub most_text : ℕ
most_text = 688_212

-- opening and the query, of what the description file says
module _ (a : Asked) (footer tree : List ℕ) where
  abbrev pub opened : Opened
  opened = open_answer a.description a.file_size footer tree

  abbrev pub answered : Answer
  answered = query_answer a.description opened.tiles tree a.window

  abbrev pub found_tiles : List ℕ
  found_tiles = found_at a.description opened.tiles tree a.window

  -- the last tile's cells, which the footer says
  abbrev pub the_last_cells : ℕ
  the_last_cells = (checked_answer a.description a.file_size footer).last_cells

module _ (a : Asked) (footer tree offsets : List ℕ) where
  abbrev pub offsets_listed : TileOffsets
  offsets_listed = offsets_answer (opened a footer tree).tiles a.data_size offsets

  -- the first of these that refuses: opening, the offsets, the query
  unfoldable pub files_refusal : Refusal
  files_refusal = first (
      refusals.refusal (opened a footer tree).number (opened a footer tree).place
      ∷ refusals.refusal offsets_listed.number offsets_listed.place
      ∷ refusals.refusal (answered a footer tree).number (answered a footer tree).place
      ∷ []
      )

  -- the header, and a line for each found tile
  unfoldable pub listing_text : List ℕ
  listing_text =
      header_text (opened a footer tree).tiles (length (found_tiles a footer tree)) (answered a footer tree).looked
      ++ tiles_text (opened a footer tree).tiles (the_last_cells a footer tree) a.description.capacity a.data_size
      offsets (found_tiles a footer tree) (length (found_tiles a footer tree))

  -- the refusal, or else the listing
  unfoldable pub asked_text : List ℕ
  asked_text = cond (eqb files_refusal.number 0) listing_text (refused_text files_refusal.number files_refusal.place)

-- the first of these that refuses: the description file, where it does not say what it has to, and then those
unfoldable pub report_refusal : Option Asked → List ℕ → List ℕ → List ℕ → Refusal
report_refusal None footer tree offsets = refusals.refusal refusals.description 0
report_refusal (Some a) footer tree offsets = files_refusal a footer tree offsets

-- the text of that refusal, or else the listing
unfoldable pub answer_text : Option Asked → List ℕ → List ℕ → List ℕ → List ℕ
answer_text None footer tree offsets =
    let r = report_refusal None footer tree offsets in refused_text r.number r.place
answer_text (Some a) footer tree offsets = asked_text a footer tree offsets

module _ (description footer tree offsets : List ℕ) where
  abbrev pub is_long : Bool
  is_long =
      ltb most_bytes (length description)
      || ltb most_bytes (length footer)
      || ltb most_bytes (length tree)
      || ltb most_bytes (length offsets)

  unfoldable pub report_text : List ℕ
  report_text = cond is_long too_long_text (answer_text (asked_of description) footer tree offsets)
