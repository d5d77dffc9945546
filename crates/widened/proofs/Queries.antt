-- Each old query that wasn't refused, widened, has the same answer of the widened tree and leaves the same in every
-- buffer (`same-query`), over every body of the right shape. It passed the checks of the description, of n, of the
-- window and of the shape; widened, each passes by this library's rules, and the walk is the same.
-- Assumes nothing.
use mathlib.Core.Path.{◌≡◌, refl, ap, ◌∙◌}
use mathlib.Core.Bool.{Bool, true, false, cond}
use mathlib.Core.List.{List}
use Prim.Native.Nat.{ℕ}
use native.Mathlib.Omega.{arith}
use lib.Dec.{eqb}
use lib.ListN.{length}
use borrow.Author.Tests.{eqb-true, eq-eqb}
use Rattle.answers.specs.Refusals.{none}
use Rattle.answers.specs.Refusals as refusals
use Rattle.answers.specs.declared.Refusal.{Refusal}
use Rattle.answers.proofs.Checks.{both-clear, clear, check-clear, past, past-check, ended}
use Rattle.description.specs.declared.Description.{Description}
use Rattle.description.specs.Limits.{least_tiles, most_tiles, outside}
use Rattle.description.specs.Description.{bytes_of_box, limits_refusal}
use Rattle.description.specs.Rules.{Rules, before}
use Rattle.description.proofs.Limits.{within}
use Rattle.boxes.specs.declared.Window.{Window}
use Rattle.boxes.specs.Windows.{window_refusal}
use Rattle.boxes.proofs.Windows.{window-kind}
use Rattle.rtree.specs.Body.{shape_refusal}
use Rattle.rtree.proofs.Passed.{Passed, passed}
use Rattle.query.specs.declared.Answer.{Answer}
use Rattle.query.specs.Query.{asked_refusal, asked_refusal_by, query_refusal, query_refusal_by}
use Rattle.query.specs.Query.{query_answer, query_answer_by, query_buffer, query_buffer_by, refused_answer, looked_at, found_at}
use Rattle.widened.specs.Widened.{widened_window, widened_description, widened_body}
use Rattle.widened.proofs.Tree.{tree_shape, tree-looked, tree-found}
use Rattle.widened.proofs.Windows.{described-widened, window-widened}

-- an answer that refuses nothing comes from checks that refuse nothing
pub not-refused : (rules : Rules) (d : Description) (n : ℕ) (body : List ℕ) (w : Window)
    → (query_answer_by rules d n body w).number ≡ 0 → (query_refusal_by rules d n body w).number ≡ 0
unfolding query_answer_by
not-refused rules d n body w h = go (eqb refused.number 0) refl h
  where
    refused : Refusal
    refused = query_refusal_by rules d n body w

    good : Answer
    good = record { number = 0; place = 0; found = length (found_at d n body w); looked = looked_at d n body w }

    go : (t : Bool) → eqb refused.number 0 ≡ t
        → (cond t good (refused_answer refused)).number ≡ 0 → refused.number ≡ 0
    go true e h = eqb-true refused.number 0 e
    go false e h = h

-- what the old query passed
pub record Asked (d : Description) (n : ℕ) (body : List ℕ) (w : Window) : Type 0 where
  pub described : (limits_refusal d).number ≡ 0
  pub tiles : outside least_tiles most_tiles n ≡ false
  pub window : (window_refusal d w).number ≡ 0
  pub shape : Passed n (bytes_of_box d) body

module _ (d : Description) (n : ℕ) (body : List ℕ) (w : Window) (h : (query_refusal_by before d n body w).number ≡ 0) where
  pub asked : Asked d n body w
  unfolding query_refusal_by asked_refusal_by
  asked =
      let both = both-clear (asked_refusal_by before d n w) (shape_refusal n (bytes_of_box d) body) h in
      let a = clear _ _ both.0 in
      let b = clear _ _ a.1 in
      let c = clear _ _ b.1 in
      let tiles : outside least_tiles most_tiles n ≡ false = check-clear _ refusals.tiles 0 (omega arith) b.0 in
      let limits = within least_tiles most_tiles n tiles in
      record {
        described = (both-clear (limits_refusal d) none a.0).0;
        tiles = tiles;
        window = c.0;
        shape = passed n (bytes_of_box d) body limits.0 limits.1 both.1;
      }

  abbrev d' : Description
  d' = widened_description d

  abbrev body' : List ℕ
  body' = widened_body d n body

  abbrev w' : Window
  w' = widened_window w

  pub still-none : query_refusal d' n body' w' ≡ none
  unfolding query_refusal_by asked_refusal_by
  still-none =
      let number : Refusal → ℕ = λ e. e.number in
      let front : asked_refusal d' n w' ≡ none =
      past _ _ (ap number (described-widened d asked.described))
      ∙ past-check _ _ _ _ asked.tiles
      ∙ past _ _ (ap number (window-widened d w asked.window))
      ∙ ended in
      rw front (tree_shape d n body asked.shape)

  same-walk : (found_at d' n body' w' ≡ found_at d n body w) × (looked_at d' n body' w' ≡ looked_at d n body w)
  same-walk =
      let alike = window-kind d w asked.window in
      (tree-found d n body asked.shape w alike, tree-looked d n body asked.shape w alike)

  pub same_answer : query_answer d' n body' w' ≡ query_answer_by before d n body w
  unfolding query_answer_by
  same_answer = rw (still-none, eq-eqb _ 0 h, same-walk.0, same-walk.1)

  pub same-buffer : (out : List ℕ) → query_buffer d' n body' w' out ≡ query_buffer_by before d n body w out
  unfolding query_buffer_by
  same-buffer out = rw (still-none, eq-eqb _ 0 h, same-walk.0)

-- Each old query that wasn't refused, widened the same way, finds the same tiles with the same looked-at number: over
-- the widened tree and with the widened description the whole answer and every buffer are those of the old query.
pub same-query : (d : Description) (n : ℕ) (body : List ℕ) (w : Window) → (query_answer_by before d n body w).number ≡ 0
    → (query_answer (widened_description d) n (widened_body d n body) (widened_window w) ≡ query_answer_by before d n body w)
    × ((out : List ℕ)
    → query_buffer (widened_description d) n (widened_body d n body) (widened_window w) out ≡ query_buffer_by before d n body w out)
same-query d n body w h =
    let clear = not-refused before d n body w h in
    (same_answer d n body w clear, same-buffer d n body w clear)
