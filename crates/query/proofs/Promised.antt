-- What does a query promise? One that isn't refused has passed every check (`Cleared`): so the window has the description's kinds and no NaN, what the code sees
-- is what the definition says (`seen-meeting`), and the tree has the right shape. All that `query` promises then follows from what it answers
-- and leaves in the buffer (`promised`), by the tree's laws; over an accepted tree a box that meets has a parent that meets (`contained`).
-- Assumes nothing.
use Prim.Native.Nat.{ℕ, ◌-◌, ◌^◌, ◌≤◌, ◌<◌}
use mathlib.Core.Path.{◌≡◌, refl, fun_ext, ap, sym, ◌∙◌}
use mathlib.Core.Bool.{Bool, true, false, cond}
use mathlib.Core.List.{List}
use native.Mathlib.Omega.{arith}
use lib.Dec.{eqb}
use lib.ListN.{length}
use borrow.Author.Tests.{eq-eqb, ne_eqb, eqb-true}
use Rattle.answers.specs.Refusals.{refusal}
use Rattle.answers.specs.declared.Refusal.{Refusal}
use Rattle.answers.specs.Laid.{laid}
use Rattle.answers.proofs.Checks.{go_on, halt, both-clear, clear, check-clear}
use Rattle.description.specs.declared.Description.{Description}
use Rattle.description.specs.Limits.{least_tiles, most_tiles, Sizes}
use Rattle.description.specs.Description.{sides_of, bytes_of_box}
use Rattle.description.proofs.Limits.{Kept, within, kept}
use Rattle.boxes.specs.declared.Window.{Window}
use Rattle.boxes.specs.Windows.{window_refusal}
use Rattle.windows.specs.Code.Carried.{ends_of_window, Fitting}
use Rattle.ranges.specs.Ranges.{kind_of}
use Rattle.boxes.specs.Boxes.{range_in}
use Rattle.boxes.proofs.Boxes.{box-meets-around}
use Rattle.tree.specs.Shape.{boxes, height, levels, body_bytes, shape_of}
use Rattle.tree.specs.Walk.{Contained}
use Rattle.tree.specs.Code.Run.{State}
use Rattle.tree.proofs.Demand3.{at-most, counted, listed}
use Rattle.tree.proofs.Table.{shape-levels, count_at}
use Rattle.rtree.specs.Body.{fanout_of, levels_of, box_at, shape_refusal}
use Rattle.rtree.specs.Opening.{Accepted}
use Rattle.rtree.specs.Code.Shaped.{IsShaped}
use Rattle.rtree.specs.declared.Shaped.{Shaped}
use Rattle.rtree.proofs.Passed.{passed, shaped-within}
use Rattle.rtree.proofs.Nested.{nested}
use Rattle.query.specs.declared.Answer.{Answer}
use Rattle.query.specs.declared.Walk.{Walk}
use Rattle.query.specs.Query.{asked_refusal, asked_refusal_by, query_refusal, query_refusal_by, meeting, looked_at, found_at, refused_answer, query_answer, query_answer_by, query_buffer, query_buffer_by, flat_count_of, Lists, Bounded, Promises}
use Rattle.query.specs.declared.Asked.{Asked}
use Rattle.query.specs.Code.Walking.{Ground, ground, tiles_in, seen, state, children_walked, root_walked, Grounded, ChildRow, RootRow, asked_of, shaped_ground}
use Rattle.query.proofs.Root.{comes-to, root-row}
use Rattle.query.proofs.Window.{Fit, carries, meets-same}

-- what a query that isn't refused has passed
pub record Cleared (d : Description) (n : ℕ) (body : List ℕ) (w : Window) : Type 0 where
  pub described : Kept d
  pub windowed : (window_refusal d w).number ≡ 0
  pub sizes : Sizes n (fanout_of body)
  pub deep : levels_of body ≡ levels (fanout_of body) n
  pub whole : length body ≡ body_bytes (fanout_of body) n (bytes_of_box d)

-- the clauses of `query`, in their order
abbrev pub Promised : Description → ℕ → List ℕ → Window → Answer → List ℕ → List ℕ → Type 0
Promised d n body w r before after =
    (r ≡ query_answer d n body w)
    × ((after ≡ query_buffer d n body w before)
    × ((Accepted d n body → r.number ≡ 0 → Lists d n body w r before after)
    × ((Accepted d n body → r.number ≡ 0 → r.looked ≡ flat_count_of d n body w)
    × (r.number ≡ 0 → Bounded n body r))))

-- description, tiles, window
passed-asked : (d : Description) (n : ℕ) (w : Window) → (asked_refusal d n w).number ≡ 0
    → Kept d × ((least_tiles ≤ n) × (n ≤ most_tiles)) × ((window_refusal d w).number ≡ 0)
unfolding asked_refusal_by
passed-asked d n w h =
    let a = clear _ _ h in
    let b = clear _ _ a.1 in
    (kept d a.0, within least_tiles most_tiles n (check-clear _ _ _ (omega arith) b.0), (clear _ _ b.1).0)

-- what does not change in the walk, as the code makes it
abbrev pub ground_of : Description → ℕ → List ℕ → Window → Ground
ground_of d n body w =
    ground body (shape_of (fanout_of body) n (bytes_of_box d)).table (fanout_of body) (bytes_of_box d) (sides_of d.dimensions) d.kinds
    (ends_of_window w.sides (sides_of d.dimensions))

module _ (d : Description) (n : ℕ) (body : List ℕ) (w : Window) where
  pub passed-all : (query_refusal d n body w).number ≡ 0 → Cleared d n body w
  unfolding query_refusal_by
  passed-all h =
      let a = both-clear (asked_refusal d n w) (shape_refusal n (bytes_of_box d) body) h in
      let asked = passed-asked d n w a.0 in
      let shape = passed n (bytes_of_box d) body asked.1.0 asked.1.1 a.1 in
      record {
        described = asked.0;
        windowed = asked.2;
        sizes = shape.sized;
        deep = shape.leveled;
        whole = shape.whole;
      }

  -- the checks in their order, as the code goes through them
  pub asked-refusal : {r : Refusal} → r ≡ asked_refusal d n w → (r.number ≡ 0 → ⊥) → r ≡ query_refusal d n body w
  unfolding query_refusal_by
  asked-refusal e some = e ∙ sym (halt (asked_refusal d n w) (shape_refusal n (bytes_of_box d) body) (rw e at some))

  pub shape-refusal : (asked_refusal d n w).number ≡ 0 → {r : Shaped} → IsShaped d n body r → refusal r.number r.place ≡ query_refusal d n body w
  unfolding query_refusal_by
  shape-refusal asked s =
      let tiles = (passed-asked d n w asked).1 in
      rw (s.number, s.place)
      (shaped-within d n body tiles.0 tiles.1 ∙ sym (go_on (asked_refusal d n w) (shape_refusal n (bytes_of_box d) body) asked))

  module _ (p : Cleared d n body w) where
    -- the root's level is there
    some_level : {r : Shaped} → IsShaped d n body r → 1 ≤ r.shape.levels
    unfolding levels
    some_level s = rw (s.shape, shape-levels p.sizes (bytes_of_box d) p.described.most_bytes) (omega arith)

    root-distance : {r : Shaped} → IsShaped d n body r → r.shape.levels - 1 ≡ height (fanout_of body) n
    unfolding levels
    root-distance s = rw (s.shape, shape-levels p.sizes (bytes_of_box d) p.described.most_bytes) (omega arith)

    tiles-in : tiles_in (ground_of d n body w) ≡ n
    unfolding boxes
    tiles-in = count_at p.sizes (bytes_of_box d) p.described.most_bytes 0 (omega arith)

    module _ (fit : Fit d w p.windowed) where
      pub grounded : Grounded (ground_of d n body w)
      unfolding bytes_of_box
      grounded = record {
        sizes = rw tiles-in p.sizes;
        wide = p.described.some_bytes;
        narrow = p.described.most_bytes;
        sides = refl;
        whole = rw tiles-in p.whole;
        tabled = rw tiles-in;
        window = carries d w p.windowed fit;
      }

      -- what the code sees
      seen-meeting : seen (ground_of d n body w) ≡ meeting d n body w
      unfolding seen meeting
      seen-meeting = fun_ext (λ j. fun_ext (λ k. rw tiles-in (meets-same d w p.windowed fit (box_at n (bytes_of_box d) body j k))))

      -- the code's walk: its row has a `Row`, and it comes to what the definition says
      module _ {g : Ground} (same : g ≡ ground_of d n body w) {depth : ℕ} (deep : depth ≡ height (fanout_of body) n) (out : List ℕ) where
        root : depth ≡ height (fanout_of body) (tiles_in (ground_of d n body w))
        root = rw tiles-in deep

        walk-row-asked : length body < 2 ^ 64 → ChildRow g depth 0 (0, 0, out)
        walk-row-asked fits = rw same (root-row grounded out root fits)

        walk-comes-to : children_walked g depth 0 (0, 0, out)
            ≡ (looked_at d n body w, length (found_at d n body w), laid (found_at d n body w) out)
        walk-comes-to = rw same (comes-to grounded out root ∙ rw (tiles-in, seen-meeting))

  -- over an accepted tree a box that meets has a parent that meets
  pub contained : Accepted d n body → Contained (fanout_of body) n (meeting d n body w) (height (fanout_of body) n)
  unfolding meeting
  contained a j k below there m =
      box-meets-around d.kinds (sides_of d.dimensions) _ _ w.sides (nested d n body a j k below there) m

  -- what is answered and left, where the query is refused
  module _ {r : Refusal} (e : r ≡ query_refusal d n body w) (some : r.number ≡ 0 → ⊥) where
    refused-answer : refused_answer r ≡ query_answer d n body w
    unfolding query_answer_by
    refused-answer = rw (← e, ne_eqb r.number 0 some)

    refused-buffer : (out : List ℕ) → out ≡ query_buffer d n body w out
    unfolding query_buffer_by
    refused-buffer out = rw (← e, ne_eqb r.number 0 some)

  -- and where it isn't
  module _ (clear : (query_refusal d n body w).number ≡ 0) where
    clear-answer : query_answer d n body w ≡ record { number = 0; place = 0; found = length (found_at d n body w); looked = looked_at d n body w }
    unfolding query_answer_by
    clear-answer = rw (eq-eqb (query_refusal d n body w).number 0 clear)

    clear-buffer : (out : List ℕ) → query_buffer d n body w out ≡ laid (found_at d n body w) out
    unfolding query_buffer_by
    clear-buffer out = rw (eq-eqb (query_refusal d n body w).number 0 clear)

  pub answer-clear : (query_answer d n body w).number ≡ 0 → (query_refusal d n body w).number ≡ 0
  unfolding query_answer_by
  answer-clear h = go (eqb (query_refusal d n body w).number 0) refl h
    where
      good : Answer
      good = record { number = 0; place = 0; found = length (found_at d n body w); looked = looked_at d n body w }

      go : (t : Bool) → eqb (query_refusal d n body w).number 0 ≡ t
          → (cond t good (refused_answer (query_refusal d n body w))).number ≡ 0 → (query_refusal d n body w).number ≡ 0
      go true e h = eqb-true (query_refusal d n body w).number 0 e
      go false e h = h

  -- what follows from the answer and the buffer
  module _ {r : Answer} (told : r ≡ query_answer d n body w) where
    no-refusal : r.number ≡ 0 → (query_refusal d n body w).number ≡ 0
    no-refusal z = answer-clear (rw told at z)

    tree_lists : Accepted d n body → r.number ≡ 0 → (before : List ℕ) {after : List ℕ} → after ≡ query_buffer d n body w before
        → Lists d n body w r before after
    tree_lists a z before left =
        let clear = no-refusal z in
        let sizes = (passed-all clear).sizes in
        let same = listed (fanout_of body) n (meeting d n body w) sizes.least sizes.some (contained a) in
        record {
          found = ap (λ (x : Answer). x.found) (told ∙ clear-answer clear) ∙ ap length same;
          buffer = left ∙ clear-buffer clear before ∙ rw same;
        }

    tree-counts : Accepted d n body → r.number ≡ 0 → r.looked ≡ flat_count_of d n body w
    tree-counts a z =
        let clear = no-refusal z in
        let sizes = (passed-all clear).sizes in
        ap (λ (x : Answer). x.looked) (told ∙ clear-answer clear)
        ∙ counted (fanout_of body) n (meeting d n body w) sizes.least sizes.some (contained a)

    tree-bounds : r.number ≡ 0 → Bounded n body r
    tree-bounds z =
        let clear = no-refusal z in
        let sizes = (passed-all clear).sizes in
        let many : r.looked ≡ looked_at d n body w = ap (λ (x : Answer). x.looked) (told ∙ clear-answer clear) in
        rw (many, (passed-all clear).deep) (at-most (fanout_of body) n (meeting d n body w) sizes.least sizes.some)

    promised : (before : List ℕ) {after : List ℕ} → after ≡ query_buffer d n body w before → Promised d n body w r before after
    promised before left = (told, (left, ((λ a z. tree_lists a z before left), (tree-counts, tree-bounds))))

  -- answer and buffer give all of it
  pub keeps : {r : Answer} → r ≡ query_answer d n body w → (before : List ℕ) {after : List ℕ} → after ≡ query_buffer d n body w before
      → Promises d n body w r before after
  keeps told before left = record {
    answer = told;
    buffer = left;
    listing = λ a z. tree_lists told a z before left;
    count = tree-counts told;
    bound = tree-bounds told;
  }

  -- `query` as it refuses, and as it answers what the walk comes to
  pub refusing : {r : Refusal} → r ≡ query_refusal d n body w → (r.number ≡ 0 → ⊥) → {a : Answer} → a ≡ refused_answer r
      → (out : List ℕ) → Promised d n body w a out out
  refusing e some told out = promised (told ∙ refused-answer e some) out (refused-buffer e some out)

  answering : (clear : (query_refusal d n body w).number ≡ 0) (out : List ℕ) {walk : Walk} {left : List ℕ}
      → state walk left ≡ (looked_at d n body w, length (found_at d n body w), laid (found_at d n body w) out)
      → Promised d n body w (record { number = 0; place = 0; found = walk.found; looked = walk.count }) out left
  answering clear out {walk} {left} all =
      promised
      (rw (ap (λ (s : State). s.1) all, ap (λ (s : State). s.0) all) (sym (clear-answer clear)))
      out
      (ap (λ (s : State). s.2) all ∙ sym (clear-buffer clear out))

  -- as the code goes about it: its checks passed, and it carries the window
  module _ (asked : (asked_refusal d n w).number ≡ 0) {s : Shaped} (shaped : IsShaped d n body s) (whole : s.number ≡ 0)
      {a : Asked} (is : a ≡ asked_of d w) (fitting : Fitting (λ i. kind_of (range_in w.sides i)) a.ends a.dimensions) where
    all-clear : (query_refusal d n body w).number ≡ 0
    all-clear = ap (λ (r : Refusal). r.number) (sym (shape-refusal asked shaped)) ∙ whole

    cleared : Cleared d n body w
    cleared = passed-all all-clear

    fit-here : Fit d w cleared.windowed
    fit-here = rw is at fitting

    same-ground : shaped_ground d s body a ≡ ground_of d n body w
    same-ground = rw (shaped.shape, shaped.fanout, is)

    pub row : (out : List ℕ) → length body < 2 ^ 64 → RootRow (shaped_ground d s body a) s.shape.levels out
    row out fits =
        (some_level cleared shaped, walk-row-asked cleared fit-here same-ground (root-distance cleared shaped) out fits)

    pub walking : (out : List ℕ) {walk : Walk} {left : List ℕ} → state walk left ≡ root_walked (shaped_ground d s body a) s.shape.levels out
        → Promised d n body w (record { number = 0; place = 0; found = walk.found; looked = walk.count }) out left
    walking out e =
        answering all-clear out (e ∙ walk-comes-to cleared fit-here same-ground (root-distance cleared shaped) out)
