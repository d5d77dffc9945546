-- The steps of a block and of a finish: with which numbers they are safe, and what of the bytes each of them takes.
-- Nothing here is promised to a caller.
-- Assumes nothing.
use Rattle.std.specs.Prelude.{ℕ, ◌+◌, ◌-◌, ◌*◌, ◌≤◌, ◌<◌, min, ◌≡◌, Option, None, Some, List, length, take, drop}
use Rattle.std.proofs.lemmas.List.Edits.{sets}
use Rattle.answers.specs.Refusals as refusals
use Rattle.description.specs.declared.Description.{Description}
use Rattle.description.specs.Description.{bytes_of_box}
use Rattle.description.specs.Limits.{most_tiles, most_fanout}
use Rattle.tree.specs.Shape.{shape_of}
use Rattle.rtree.specs.declared.Opened.{Opened}
use Rattle.parts_state.specs.declared.Cursor.{Cursor}
use Rattle.parts_state.specs.declared.Parts.{Parts}
use Rattle.parts_state.specs.Parts.{parts_answer}
use Rattle.parts_state.specs.Code.State.{item_bytes, Going, Holds}
use Rattle.parts.specs.Code.Cursor.{with_cursor, moved}

-- more than any work buffer needs
abbrev pub most_work : ℕ
most_work = 1_099_511_627_776

-- Numbers with which a step over `left` bytes is safe.
pub record InRange (stated b : ℕ) (c : Cursor) (left : ℕ) : Type 0 where
  pub most : c.count ≤ most_tiles
  pub within : c.index ≤ c.count
  pub fanout : c.fanout ≤ most_fanout
  pub own : c.own ≤ most_work
  pub parents : c.parents ≤ most_work
  pub part : c.kept < item_bytes b c.counted
  pub room : left ≤ stated - (c.done + c.kept)

-- So many boxes of a level, as they are taken: the next of it, and no more than it has left.
pub record RunOf (s : Parts) (b : ℕ) (c : Cursor) (bytes : List ℕ) (m : ℕ) : Type 0 where
  pub width : b ≡ bytes_of_box s.description
  pub range : InRange s.stated b c (length bytes)
  pub size : length bytes ≡ m * b
  pub few : m ≤ c.count - c.index
  pub counted : 0 < c.counted

-- so many bytes: none where nothing is told
abbrev pub held_of : Option ℕ → ℕ
held_of None = 0
held_of (Some have) = have

-- Of what comes next, of which `kept` bytes are held, so many are held then: none, where it stands whole in the block.
pub record Gathered (held : List ℕ) (kept : ℕ) (bytes : List ℕ) (item have : ℕ) (after : List ℕ) : Type 0 where
  pub room : length after ≡ length held
  pub none : have ≡ 0 → (kept ≡ 0) × (item ≤ length bytes)
  pub some : 0 < have → have ≡ kept + min (item - kept) (length bytes)
  pub pasted : after ≡ sets held kept (take (have - kept) bytes)

-- the bytes of the inner boxes, as code works them out of the shape
abbrev pub inner_in : ℕ → ℕ → ℕ → ℕ
inner_in f n b = b * ((shape_of f n b).boxes - n)

-- bytes that stand in a body from place p on
abbrev pub Reads : List ℕ → ℕ → List ℕ → Type 0
Reads body p bytes = take (length bytes) (drop p body) ≡ bytes

-- All of the bytes taken: what holds of a body, of which they are the next, holds with them.
abbrev pub Takes : Parts → List ℕ → List ℕ → Parts → List ℕ → Type 0
Takes s work bytes r after =
    (d : Description) (F : ℕ) (footer : List ℕ) (stated : ℕ) (body : List ℕ) (p : ℕ)
    → Holds d F footer stated body work s p → Reads body p bytes → p + length bytes ≤ stated
    → Holds d F footer stated body after r (p + length bytes)

-- Some of them taken.
pub record Part (d : Description) (F : ℕ) (footer : List ℕ) (stated : ℕ) (body after : List ℕ) (r : Parts)
    (p most : ℕ) : Type 0 where
  pub taken : ℕ
  pub some : 0 < taken
  pub few : taken ≤ most
  pub holds : Holds d F footer stated body after r (p + taken)

abbrev pub TakesSome : Parts → List ℕ → List ℕ → Parts → List ℕ → Type 0
TakesSome s work bytes r after =
    (d : Description) (F : ℕ) (footer : List ℕ) (stated : ℕ) (body : List ℕ) (p : ℕ)
    → Holds d F footer stated body work s p → Reads body p bytes → p + length bytes ≤ stated
    → Part d F footer stated body after r p (length bytes)

-- A number, or some boxes, of which no byte is held.
abbrev pub TakesItem : Parts → List ℕ → List ℕ → Parts → List ℕ → Type 0
TakesItem s work bytes r after =
    (d : Description) (F : ℕ) (footer : List ℕ) (stated : ℕ) (body : List ℕ) (p : ℕ)
    → s.cursor.number ≡ 0 → Going d F footer stated body work s p → s.cursor.kept ≡ 0 → Reads body p bytes
    → p + length bytes ≤ stated
    → Holds d F footer stated body after r (p + length bytes)

-- What comes next taken whole, of `item` bytes, and of boxes maybe more.
pub record Whole (d : Description) (F : ℕ) (footer : List ℕ) (stated : ℕ) (body after : List ℕ) (r : Parts)
    (p item most : ℕ) : Type 0 where
  pub taken : ℕ
  pub least : item ≤ taken
  pub few : taken ≤ most
  pub holds : Holds d F footer stated body after r (p + taken)

abbrev pub TakesWhole : Parts → Cursor → List ℕ → List ℕ → ℕ → Cursor → List ℕ → Type 0
TakesWhole s c work bytes item r after =
    (held : List ℕ) (d : Description) (F : ℕ) (footer : List ℕ) (stated : ℕ) (body : List ℕ) (p : ℕ)
    → Going d F footer stated body work (with_cursor s held c) p → Reads body p bytes → p + length bytes ≤ stated
    → Whole d F footer stated body after (with_cursor s held r) p item (length bytes)

-- A number, which goes to no buffer.
abbrev pub TakesNumber : Parts → ℕ → Cursor → List ℕ → Cursor → Type 0
TakesNumber s room c bytes r =
    (held work : List ℕ) → length work ≡ room → TakesItem (with_cursor s held c) work bytes (with_cursor s held r) work

-- Some boxes of a level, whatever is held of what comes next; where the level has more of them, the next is next.
pub record TakesRun (s : Parts) (c : Cursor) (work bytes : List ℕ) (m : ℕ) (r : Cursor) (after : List ℕ) : Type 0 where
  pub room : length after ≡ length work
  pub next : c.index + m < c.count
      → r ≡ moved c (c.index + m) (c.done + length bytes) (refusals.refusal r.box_number r.box_place)
  pub took : (held : List ℕ) → TakesItem (with_cursor s held c) work bytes (with_cursor s held r) after

-- Held bytes and work buffer keep their lengths.
pub record SameRoom (held work after-held after : List ℕ) : Type 0 where
  pub to-hold : length after-held ≡ length held
  pub to-work : length after ≡ length work

-- Bytes at their place in the work buffer, unless they are of leaves, or it has no room.
pub record Stored (work : List ℕ) (level to : ℕ) (bytes after : List ℕ) : Type 0 where
  pub room : length after ≡ length work
  pub none : level ≡ 0 → after ≡ work
  pub some : 0 < level → to + length bytes ≤ length work → after ≡ sets work to bytes

-- Fewer than eight bytes came, and no more come.
abbrev pub Ends : Parts → ℕ → Opened → Type 0
Ends s room r =
    (d : Description) (F : ℕ) (footer : List ℕ) (stated : ℕ) (body work : List ℕ)
    → s.cursor.fanout ≡ 0 → length work ≡ room → Going d F footer stated body work s (length body)
    → r ≡ parts_answer d F footer stated room body
