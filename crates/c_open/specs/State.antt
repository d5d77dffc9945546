-- The state of a tree that arrives in parts, as an array of numbers.
-- Assumes nothing.
use Rattle.std.specs.Prelude.{ℕ, ◌+◌, ◌*◌, List, [], ◌∷◌, get_or}
use Rattle.answers.specs.Runs.{join}
use Rattle.order.specs.Little.{little, bytes_of}
use Rattle.description.specs.declared.Description.{Description}
use Rattle.description.specs.declared.Dimension.{Dimension}
use Rattle.description.specs.Kinds.{datatype, kind_of_datatype}
use Rattle.description.specs.Description.{kind_at}
use Rattle.parts_state.specs.declared.Cursor.{Cursor}
use Rattle.parts_state.specs.declared.Parts.{Parts}

-- Eight bytes in each of eight places; and 64 bytes as the eight numbers.
unfoldable pub bytes_in : List ℕ → ℕ → List ℕ
bytes_in state at = join (λ i. bytes_of 8 (get_or state (at + i) 0)) 0 8

unfoldable pub words_of : List ℕ → List ℕ
words_of bytes = join (λ i. little bytes (i * 8) 8 ∷ []) 0 8

-- The kinds of Datatype numbers in four places.
unfoldable pub kinds_in : List ℕ → ℕ → List Dimension
kinds_in state at = join (λ i. record { kind = kind_of_datatype (get_or state (at + i) 0) } ∷ []) 0 4

-- The Datatype numbers of four kinds.
unfoldable pub kind_numbers : List Dimension → List ℕ
kind_numbers kinds = join (λ i. datatype (kind_at kinds i) ∷ []) 0 4

-- The state that an array holds.
unfoldable pub description_in : List ℕ → Description
description_in state =
    let at : ℕ → ℕ = λ i. get_or state i 0 in
    record { dimensions = at 3; kinds = kinds_in state 4; fields = at 8; capacity = at 9 }

unfoldable pub cursor_of : List ℕ → Cursor
cursor_of state =
    let at : ℕ → ℕ = λ i. get_or state i 0 in
    record {
      number = at 0;
      place = at 1;
      which = at 2;
      fanout = at 12;
      levels = at 13;
      level = at 14;
      counted = at 15;
      count = at 16;
      index = at 17;
      own = at 18;
      parents = at 19;
      done = at 20;
      kept = at 21;
      box_number = at 22;
      box_place = at 23;
    }

unfoldable pub state_of : List ℕ → Parts
state_of state =
    let at : ℕ → ℕ = λ i. get_or state i 0 in
    record {
      description = description_in state;
      tiles = at 10;
      domain = bytes_in state 24;
      stated = at 11;
      cursor = cursor_of state;
      held = bytes_in state 32;
    }

-- The numbers that are no list, in their places, with those of the kinds.
abbrev pub state_places : Parts → List ℕ → List ℕ
state_places s kinds =
    let c = s.cursor in
    c.number
    ∷ c.place
    ∷ c.which
    ∷ s.description.dimensions
    ∷ get_or kinds 0 0
    ∷ get_or kinds 1 0
    ∷ get_or kinds 2 0
    ∷ get_or kinds 3 0
    ∷ s.description.fields
    ∷ s.description.capacity
    ∷ s.tiles
    ∷ s.stated
    ∷ c.fanout
    ∷ c.levels
    ∷ c.level
    ∷ c.counted
    ∷ c.count
    ∷ c.index
    ∷ c.own
    ∷ c.parents
    ∷ c.done
    ∷ c.kept
    ∷ c.box_number
    ∷ c.box_place
    ∷ []
