-- What is a list of tile offsets or of tile sizes, and when is it refused before and in its entries?
-- Assumes nothing.
use Rattle.std.specs.Prelude.{ℕ, ◌+◌, ◌*◌, Bool, not, List, [], ◌∷◌, ltb, eqb, length}
use Rattle.answers.specs.Refusals.{bytes, tiles, count}
use Rattle.answers.specs.Checks.{check, first, each}
use Rattle.answers.specs.declared.Refusal.{Refusal}
use Rattle.description.specs.Limits.{least_tiles, outside}
use Rattle.description.specs.Rules.{Rules, current}
use Rattle.order.specs.Little.{little}

-- "Both bodies: u64 count, then that many u64." Entry i, from 0.
abbrev pub entry : List ℕ → ℕ → ℕ
entry s i = little s (8 + 8 * i) 8

-- "Checks: 10; fewer than 8 bytes, 2; 17; not 8 + 8n bytes, 2", for entries of any width
unfoldable pub list_refusal_by : Rules → ℕ → ℕ → List ℕ → Refusal
list_refusal_by rules n width s = first (
    check (outside least_tiles rules.tiles n) tiles 0
    ∷ check (ltb (length s) 8) bytes (length s)
    ∷ check (not (eqb (little s 0 8) n)) count 0
    ∷ check (not (eqb (length s) (8 + width * n))) bytes (length s)
    ∷ []
    )

abbrev pub list_refusal : ℕ → ℕ → List ℕ → Refusal
list_refusal = list_refusal_by current

-- "then entries in order, and the first entry that breaks a rule ends the check": whether entry i breaks it, for any i
unfoldable pub entries_refusal_by : Rules → (ℕ → Bool) → ℕ → ℕ → List ℕ → Refusal
entries_refusal_by rules breaks number n s =
    first (list_refusal_by rules n 8 s ∷ each (λ i. check (breaks i) number (8 + 8 * i)) 0 n ∷ [])

abbrev pub entries_refusal : (ℕ → Bool) → ℕ → ℕ → List ℕ → Refusal
entries_refusal = entries_refusal_by current
