-- The lines of a listing as they are kept in a table, with chains of lines whose names have the same hash. Nothing here is
-- promised to a caller.
-- Assumes nothing.
use Rattle.std.specs.Prelude.{ℕ, zero, suc, ◌+◌, ◌-◌, ◌*◌, ◌%◌, ◌^◌, ◌≤◌, ◌<◌, ◌≡◌, true, cond, List, [], ◌∷◌, eqb, length, get_or, take, drop, Option, Some, None}
use Rattle.answers.specs.Refusals.{none}
use Rattle.text.specs.Text.{Bytes, lines}
use Rattle.commits.specs.declared.Kind.{Kind}
use Rattle.commits.specs.declared.Record.{Record}
use Rattle.commits.specs.declared.Row.{Row}
use Rattle.commits.specs.Records.{folder, wrt, con, ign, no_kind, is_name, time_of, is_record, kind_of, name_of}
use Rattle.commits.specs.Committed.{line_in, most_lines, listing_refusal}

-- the number of a kind, and of what is read as one
abbrev pub kind_code : Kind → ℕ
kind_code Kind.Folder = folder
kind_code Kind.Wrt = wrt
kind_code Kind.Con = con
kind_code Kind.Ign = ign

abbrev pub number_read : Option Kind → ℕ
number_read None = no_kind
number_read (Some k) = kind_code k

-- t2 of what is a name
abbrev pub name_read : Bytes → Option ℕ
name_read n = cond (is_name n) (Some (time_of n)) None

-- a record, as it is read
pub record ReadRecord (l : Bytes) (r : Record) : Type 0 where
  pub fine : is_record l ≡ true
  pub inside : r.name ≤ length l
  pub name : drop r.name l ≡ name_of l
  pub kind : kind_code r.kind ≡ kind_of l
  pub time : r.time ≡ time_of (name_of l)

-- the chain of a name, by its last 32 bytes
unfoldable pub hash_from : ℕ → Bytes → ℕ
hash_from h [] = h
hash_from h (b ∷ t) = hash_from ((31 * h + b) % 2 ^ 32) t

unfoldable pub chain_of : Bytes → ℕ
chain_of name = hash_from 0 (drop (length name - 32) name) % 1024

-- the last of the first i lines that is in chain h, counted from 1, or 0
unfoldable pub last_in : List Bytes → ℕ → ℕ → ℕ
last_in ls h zero = 0
last_in ls h (suc i) = cond (eqb (chain_of (name_of (line_in ls i))) h) (suc i) (last_in ls h i)

-- a line: where its name stands, its kind, its time and its chain
pub record RowOf (t l : Bytes) (r : Row) : Type 0 where
  pub forward : r.start ≤ r.end
  pub inside : r.end ≤ length t
  pub name : take (r.end - r.start) (drop r.start t) ≡ name_of l
  pub kind : kind_code r.kind ≡ kind_of l
  pub late : r.time ≡ time_of (name_of l)
  pub in-chain : r.chain ≡ chain_of (name_of l)

-- row i of a table
abbrev pub no_row : Row
no_row = record { start = 0; end = 0; kind = Kind.Folder; time = 0; chain = 0 }

abbrev pub row_at : List Row → ℕ → Row
row_at rows i = get_or rows i no_row

-- the first n lines have their rows
pub record Table (t : Bytes) (n : ℕ) (rows : List Row) : Type 0 where
  pub size : length rows ≡ most_lines
  pub few : n ≤ most_lines
  pub there : n ≤ length (lines t)
  pub row : (i : ℕ) → i < n → RowOf t (line_in (lines t) i) (row_at rows i)

-- each of them leads to the one before it in its chain
pub record Chains (t : Bytes) (n : ℕ) (next : List ℕ) : Type 0 where
  pub size : length next ≡ most_lines
  pub leads : (i : ℕ) → i < n → get_or next i 0 ≡ last_in (lines t) (chain_of (name_of (line_in (lines t) i))) i

-- and the last of each chain is known
pub record Heads (t : Bytes) (n : ℕ) (heads : List ℕ) : Type 0 where
  pub size : length heads ≡ most_lines
  pub last : (h : ℕ) → h < most_lines → get_or heads h 0 ≡ last_in (lines t) h n

pub record Index (t : Bytes) (n : ℕ) (rows : List Row) (next heads : List ℕ) : Type 0 where
  pub table : Table t n rows
  pub chains : Chains t n next
  pub ends : Heads t n heads

-- the whole listing
pub record ReadListing (t : Bytes) (n : ℕ) (rows : List Row) (next heads : List ℕ) : Type 0 where
  pub clear : listing_refusal (lines t) ≡ none
  pub index : Index t n rows next heads
  pub whole : n ≡ length (lines t)
