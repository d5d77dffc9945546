-- No tree looks at less than the one that is written. A written leaf equals the accepted tree's; and where every written box of a level lies inside
-- the accepted tree's box at its place, so does every box of the level above: the accepted parent holds its children, so it holds what lies inside
-- them, and the written parent is the least box that does (`written-inside`). So a written box meets a window only where the other tree's does, and the
-- walk goes nowhere that the other's doesn't go.
-- Assumes nothing.
use mathlib.Core.Path.{◌≡◌, refl, sym, ap, ◌∙◌}
use mathlib.Core.Bool.{Bool, true, false, cond}
use mathlib.Core.List.{List}
use Prim.Native.Nat.{ℕ, zero, suc, ◌/◌, ◌≤◌, ◌<◌}
use native.Mathlib.Omega.{arith}
use lib.Dec.{eqb}
use lib.ListN.{length}
use Rattle.answers.specs.Refusals.{none}
use Rattle.answers.specs.declared.Refusal.{Refusal}
use Rattle.description.specs.declared.Description.{Description}
use Rattle.description.specs.Limits.{Sizes}
use Rattle.description.specs.Description.{sides_of, bytes_of_box}
use Rattle.description.specs.Rules.{current}
use Rattle.boxes.specs.declared.Window.{Window}
use Rattle.boxes.specs.Boxes.{box_inside, box_meets}
use Rattle.boxes.proofs.Boxes.{box-meets-around}
use Rattle.boxes.proofs.Holding.{box-inside-trans, same_meets}
use Rattle.tree.specs.Shape.{boxes, height}
use Rattle.tree.specs.Walk.{Contained}
use Rattle.tree.proofs.Counts.{child-there, child-parent}
use Rattle.tree.proofs.Root.{height-one}
use Rattle.tree.proofs.Fewer.{fewer, same-tiles}
use Rattle.footer.specs.Fields.{domain_bytes}
use Rattle.rtree.specs.declared.Opened.{Opened}
use Rattle.rtree.specs.Body.{fanout_of, shape_refusal, box_at}
use Rattle.rtree.specs.Opening.{Accepted}
use Rattle.rtree.proofs.Nested.{opened, nested}
use Rattle.rtree.proofs.Sound.{accepted-shape, accepted-passed, accepted-root}
use Rattle.query.specs.declared.Answer.{Answer}
use Rattle.query.specs.Query.{query_refusal, meeting, looked_at, found_at, refused_answer, query_answer, query_buffer, query_refusal_by, query_answer_by, query_buffer_by}
use Rattle.query.proofs.Promised.{contained}
use Rattle.written.specs.Body.{written_box, written_body}
use Rattle.written.specs.SameLeaves.{leaves_of, SameLeaves, NoMore}
use Rattle.written.proofs.Body.{body-fanout, body-box, body-shape}
use Rattle.written.proofs.Boxes.{parent-least}
use Rattle.written.proofs.Opened.{Packed, opens_by}
use Rattle.written.proofs.Tree.{written-packed}
use Rattle.written.proofs.SameLeaves.{own-leaves, same-cleared}

module _ (d : Description) (n : ℕ) (body : List ℕ) (a : Accepted d n body) (leaves : List ℕ) (same : SameLeaves d n body leaves) where
  abbrev f : ℕ
  f = fanout_of body

  abbrev b : ℕ
  b = bytes_of_box d

  abbrev m : ℕ
  m = sides_of d.dimensions

  abbrev box : ℕ → ℕ → List ℕ
  box = written_box d n f leaves

  abbrev written : List ℕ
  written = written_body d n f leaves

  p : Packed d n f box
  p = written-packed d n f leaves (same-cleared d n body a leaves same)

  z : Sizes n f
  z = (accepted-passed d n body a).sized

  some : 0 < f
  some = omega (arith, z.least)

  -- a written box lies inside the accepted tree's box at its place
  written-inside : (j k : ℕ) → j ≤ height f n → k < boxes f n j → box_inside d.kinds m (box j k) (box_at n b body j k) ≡ true
  unfolding written_box boxes
  written-inside zero k h l = (same.equal k l).0
  written-inside (suc j) k h l =
      parent-least d n f leaves some same.whole j k l (box_at n b body (suc j) k) (λ c from to.
      let there : c < boxes f n j = child-there f n j k c from to in
      let parent : c / f ≡ k = child-parent f n j k c from to in
      box-inside-trans d.kinds m (box j c) (box_at n b body j c) (box_at n b body (suc j) k)
      (written-inside j c (omega arith) there) (rw parent at (nested d n body a j c h there)))

  -- so the written tree is accepted with the footer that the other is accepted with
  pub still-accepted : Accepted d n written
  still-accepted =
      let foot = opened d a.file a.footer body a.passed in
      let one = height-one f n z.least z.some in
      let holds = box-inside-trans d.kinds m (box (height f n) 0) (box_at n b body (height f n) 0) (domain_bytes d a.footer)
      (written-inside (height f n) 0 (omega arith) (omega arith)) (accepted-root d n body a) in
      let told = opens_by p current a.file a.footer foot.0 (sym foot.2 ∙ a.tiles) holds in
      record {
        footer = a.footer;
        file = a.file;
        passed = ap (λ (o : Opened). o.number) told;
        tiles = ap (λ (o : Opened). o.tiles) told;
      }

  fanout : fanout_of written ≡ f
  fanout = body-fanout f n box z

  shape : shape_refusal n b written ≡ none
  shape = body-shape f n b box p.sized z

  module _ (w : Window) where
    abbrev here : ℕ → ℕ → Bool
    here = meeting d n written w

    abbrev there : ℕ → ℕ → Bool
    there = meeting d n body w

    meets-box : (j k : ℕ) → j ≤ height f n → k < boxes f n j → here j k ≡ box_meets d.kinds m (box j k) w.sides
    unfolding meeting
    meets-box j k h l = rw (body-box f n b box p.sized z j k h l)

    implies : (j k : ℕ) → j ≤ height f n → k < boxes f n j → here j k ≡ true → there j k ≡ true
    unfolding meeting
    implies j k h l e =
        box-meets-around d.kinds m (box j k) (box_at n b body j k) w.sides (written-inside j k h l) (sym (meets-box j k h l) ∙ e)

    looks-less : looked_at d n written w ≤ looked_at d n body w
    looks-less = rw fanout (fewer f n here there z.least z.some implies)

    leaf-same : (k : ℕ) → k < n → here 0 k ≡ there 0 k
    unfolding meeting written_box boxes
    leaf-same k l =
        meets-box 0 k (omega arith) l
        ∙ same_meets d.kinds m (box 0 k) (box_at n b body 0 k) w.sides (same.equal k l).0 (same.equal k l).1

    here-contained : Contained f n here (height f n)
    here-contained = rw fanout at (contained d n written w still-accepted)

    same-found : found_at d n written w ≡ found_at d n body w
    same-found = rw fanout (same-tiles f n here there z.least z.some here-contained (contained d n body w a) leaf-same)

    same-refusal : query_refusal d n written w ≡ query_refusal d n body w
    unfolding query_refusal_by
    same-refusal = rw (shape, accepted-shape d n body a)

    -- what the answers and the buffers come to, by one test
    abbrev refused : Refusal
    refused = query_refusal d n body w

    abbrev told : ℕ → ℕ → Answer
    told found looked = record { number = 0; place = 0; found = found; looked = looked }

    answer-there : query_answer d n body w ≡ cond (eqb refused.number 0) (told (length (found_at d n body w)) (looked_at d n body w)) (refused_answer refused)
    unfolding query_answer_by
    answer-there = refl

    answer-here : query_answer d n written w
        ≡ cond (eqb refused.number 0) (told (length (found_at d n body w)) (looked_at d n written w)) (refused_answer refused)
    unfolding query_answer_by
    answer-here = rw (same-refusal, same-found)

    buffer-same : (out : List ℕ) → query_buffer d n written w out ≡ query_buffer d n body w out
    unfolding query_buffer_by
    buffer-same out = rw (same-refusal, same-found)

    -- Of every accepted tree, and of leaves that equal its own, for every window: the tree that is written from them, with the same description, n and f, is
    -- refused where the accepted tree is, with the same number and place; it looks at no more boxes, and finds the same tiles in the same order.
    pub no-tree-looks-at-less : NoMore d n body written w
    no-tree-looks-at-less = go (eqb refused.number 0) answer-there answer-here
      where
        go : (t : Bool)
            → query_answer d n body w ≡ cond t (told (length (found_at d n body w)) (looked_at d n body w)) (refused_answer refused)
            → query_answer d n written w ≡ cond t (told (length (found_at d n body w)) (looked_at d n written w)) (refused_answer refused)
            → NoMore d n body written w
        go true e h = record {
          number = rw (e, h);
          place = rw (e, h);
          looked = rw (e, h) looks-less;
          found = rw (e, h);
          buffer = buffer-same;
        }
        go false e h = record {
          number = rw (e, h);
          place = rw (e, h);
          looked = rw (e, h) (omega arith);
          found = rw (e, h);
          buffer = buffer-same;
        }

-- and of the tree's own leaves, byte by byte
pub own-leaves-look-at-least : (d : Description) (n : ℕ) (body : List ℕ) (a : Accepted d n body) (w : Window)
    → NoMore d n body (written_body d n (fanout_of body) (leaves_of d n body)) w
own-leaves-look-at-least d n body a = no-tree-looks-at-less d n body a (leaves_of d n body) (own-leaves d n body a)
