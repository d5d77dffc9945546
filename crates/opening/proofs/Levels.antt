-- What is left of a body's checks once its shape passed? The first box against the domain, and then level by level
-- (`body-rest`); the table tells where each level and the one below it stand, and they are there (`root-there`,
-- `level-there`), so what is said of a level's rows is what the level says (`level-said`).
-- Assumes nothing.
use mathlib.Core.Path.{◌≡◌, refl, ap, sym, ◌∙◌}
use mathlib.Core.List.{List}
use Prim.Native.Nat.{ℕ, suc, ◌+◌, ◌-◌, ◌*◌, ◌≤◌, ◌<◌}
use native.Mathlib.Omega.{arith}
use lib.ListN.{get_or}
use Rattle.answers.specs.Refusals.{refusal, none, outside_domain}
use Rattle.answers.specs.Runs.{over}
use Rattle.answers.specs.Checks.{otherwise, each}
use Rattle.answers.specs.declared.Refusal.{Refusal}
use Rattle.answers.proofs.Runs.{over-ext}
use Rattle.answers.proofs.Checks.{go_on, halt, regroup, both-clear}
use Rattle.description.specs.declared.Description.{Description}
use Rattle.description.specs.Description.{bytes_of_box}
use Rattle.description.specs.Limits.{least_tiles, most_tiles, Sizes}
use Rattle.tree.specs.Shape.{boxes, height, levels, level_start}
use Rattle.tree.proofs.Root.{height-one}
use Rattle.tree.proofs.Places.{start-root, level-inside}
use Rattle.tree.proofs.Table.{shape-levels, start-at, count_at}
use Rattle.rtree.specs.declared.Shaped.{Shaped}
use Rattle.rtree.specs.Body.{fanout_of, shape_refusal}
use Rattle.rtree.specs.Opening.{root_refusal, level_refusal, boxes_refusal, body_refusal}
use Rattle.rtree.specs.Code.Shaped.{tiles_refusal, IsShaped}
use Rattle.rtree.proofs.Passed.{Passed, box-bytes-most, shaped-passed, shaped-within}
use Rattle.opening.specs.Code.Stored.{run_refusal, table_refusal, Run, TwoLevels}
use Rattle.opening.proofs.Rows.{rows-level}

alone : (r t : Refusal) → otherwise (otherwise r none) t ≡ otherwise r t
alone r t = regroup r none t

module _ {d : Description} {n : ℕ} {body : List ℕ} {r : Shaped} (s : IsShaped d n body r) where
  -- the shape's refusal is the body's
  pub body_refused : (domain : List ℕ) → least_tiles ≤ n → n ≤ most_tiles → (r.number ≡ 0 → ⊥)
      → refusal r.number r.place ≡ body_refusal d n domain body
  unfolding body_refusal
  body_refused domain some most h =
      let same = shaped-within d n body some most in
      rw (s.number, s.place, same)
      (sym (halt (shape_refusal n (bytes_of_box d) body) _ (λ e. h (s.number ∙ rw same e))))

  module _ (h : r.number ≡ 0) where
    abbrev f : ℕ
    f = fanout_of body

    abbrev B : ℕ
    B = bytes_of_box d

    -- the root's distance
    abbrev top : ℕ
    top = r.shape.levels - 1

    passed : Passed n B body
    passed = shaped-passed d n body (sym s.number ∙ h)

    z : Sizes n f
    z = passed.sized

    all-levels : r.shape.levels ≡ levels f n
    all-levels = rw s.shape (shape-levels z B (box-bytes-most d))

    pub some_level : 1 ≤ r.shape.levels
    unfolding levels
    some_level = omega (arith, all-levels)

    top-height : top ≡ height f n
    unfolding levels
    top-height = omega (arith, all-levels)

    -- the first box, and then level by level
    abbrev below_root : Refusal
    below_root = each (λ l. level_refusal d n body (top - suc l)) 0 top

    module _ (domain : List ℕ) where
      body-rest : body_refusal d n domain body ≡ otherwise (run_refusal d body domain outside_domain 16 0 1) below_root
      unfolding body_refusal boxes_refusal root_refusal run_refusal over
      body-rest =
          let all = both-clear (tiles_refusal n) (shape_refusal n B body) (sym s.number ∙ h) in
          go_on (shape_refusal n B body) (boxes_refusal d n body domain) all.1
          ∙ rw (top-height, start-root f n B, alone)

    module _ {b : ℕ} (own : b ≡ bytes_of_box d) (some : 0 < bytes_of_box d) where
      level-run : (j : ℕ) → j ≤ height f n → Run d body b (level_start f n B j) 0 (boxes f n j)
      level-run j near = record {
        own = own;
        some = rw own some;
        there = rw (own, passed.whole) (omega (arith, level-inside f n B j near));
      }

      pub root-there : Run d body b 16 0 1
      root-there =
          rw (start-root f n B, height-one f n z.least z.some) at (level-run (height f n) (omega arith))

      -- the level at distance top - l, as the table has it, and the one below it
      module _ (l : ℕ) (below : l < top) where
        abbrev at : ℕ → ℕ
        at i = get_or r.shape.table i 0

        next : suc (top - l - 1) ≡ top - l
        next = omega arith

        level-at : (j : ℕ) → j ≤ top → (at (2 * j) ≡ level_start f n B j) × (at (2 * j + 1) ≡ boxes f n j)
        level-at j near =
            let there : j ≤ height f n = omega (arith, top-height) in
            let few = box-bytes-most d in
            rw s.shape (start-at z B few j there, count_at z B few j there)

        pub level-there : TwoLevels d body r.shape.table b r.fanout (top - l)
        unfolding boxes
        level-there =
            let parents = level-at (top - l) (omega arith) in
            let children = level-at (top - l - 1) (omega arith) in
            record {
              some = omega arith;
              rows =
                  rw (parents.0, parents.1, children.0, children.1, s.fanout) (record {
                    above = level-run (top - l) (omega (arith, top-height));
                    below = level-run (top - l - 1) (omega (arith, top-height));
                    least = omega (arith, z.least);
                    rounded = sym (ap (boxes f n) next);
                  });
            }

        pub level-said : {told : Refusal}
            → told ≡ table_refusal d body r.shape.table r.fanout (top - l)
            → told ≡ level_refusal d n body (top - suc l)
        level-said e =
            let parents = level-at (top - l) (omega arith) in
            let children = level-at (top - l - 1) (omega arith) in
            let down : top - suc l ≡ top - l - 1 = omega arith in
            e
            ∙ rw (parents.0, parents.1, children.0, children.1, s.fanout, down)
            (rw next at (rows-level d n body (top - l - 1) (omega (arith, z.least))))

      -- as code goes through them
      pub boxes-said : (domain : List ℕ)
          → otherwise (run_refusal d body domain outside_domain 16 0 1) (each (λ l. table_refusal d body r.shape.table r.fanout (top - l)) 0 top)
          ≡ body_refusal d n domain body
      boxes-said domain =
          rw (over-ext otherwise none (λ l. table_refusal d body r.shape.table r.fanout (top - l)) (λ l. level_refusal d n body (top - suc l)) 0 top
          (λ l from to. level-said l (omega arith) refl))
          (sym (body-rest domain))
