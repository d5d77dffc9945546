-- What is written of a record, piece after piece. Nothing here is promised to a caller.
-- Assumes nothing.
use Rattle.std.specs.Prelude.{ℕ, Bool, cond, ◌&&◌, [], ◌∷◌, ◌++◌, eqb, Option, Some, None}
use Rattle.text.specs.Text.{Bytes, tab, newline}
use Rattle.text.specs.Write.{field}
use Rattle.replay.specs.declared.Pair.{Pair}
use Rattle.replay.specs.declared.Compared.{Compared}
use Rattle.replay.specs.Replay.{same_word, differs_word, compared_text, bad_text}

-- what came of a record
abbrev pub outcome_text : ℕ → Option Compared → Bytes
outcome_text i None = bad_text i
outcome_text i (Some r) = compared_text i r.logged.found r.logged.looked r.now.found r.now.looked

-- and its line
abbrev pub outcome_line : ℕ → Option Compared → Bytes
outcome_line i r = outcome_text i r ++ newline ∷ []

-- both numbers
abbrev pub agreed : Compared → Bool
agreed r = eqb r.logged.found r.now.found && eqb r.logged.looked r.now.looked

-- two numbers, and the byte after them
abbrev pub pair_text : Pair → ℕ → Bytes
pair_text p end = field p.found tab ++ field p.looked end

-- `same` or `differs`, and a tab
abbrev pub verdict : Bool → Bytes
verdict same = cond same (same_word ++ tab ∷ []) (differs_word ++ tab ∷ [])
