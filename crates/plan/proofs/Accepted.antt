-- The plan of a list that is checked: all that is said of a plan holds of an accepted list's, which answers the same
-- with the check and without; its bytes are at most S, so that 64 bits hold them.
-- Assumes nothing.
use Rattle.std.proofs.Common.{◌≡◌, ℕ, ◌+◌, ◌-◌, ◌%◌, ◌^◌, ◌<◌, ◌≤◌, Bool, List, [], ◌∷◌, arith}
use native.Mathlib.Decide.{dec_lt}
use Rattle.lists.specs.Offsets.{offsets_refusal, EndToEnd, offset_of, extent_of}
use Rattle.lists.specs.VarOffsets.{var_offsets_refusal}
use Rattle.entries.proofs.Extents.{extents, var-extents}
use Rattle.plan.specs.declared.Range.{Range}
use Rattle.plan.specs.Plan.{occurs, total, tile_bytes, read_ranges}
use Rattle.plan.specs.Plan.{plan_answer, plan_output, var_plan_answer, var_plan_output, plan_at, output_at}
use Rattle.plan.specs.Laws.{All, Apart, Edges, Plan}
use Rattle.plan.proofs.Laws.{read-plan, list-tiles}

-- ---- ranges that lie apart and end by S have no more bytes than that
within : (g S from : ℕ) (rs : List Range) → Apart g from rs → All (λ r. r.end ≤ S) rs → total rs ≤ S - from
unfolding Apart All total
within g S from [] p q = omega arith
within g S from (r ∷ rs) p q = omega (arith, p.0, p.1, q.0, within g S (r.end + g + 1) rs p.2 q.1)

ends : (S : ℕ) (named : ℕ → Bool) (tile : ℕ → Range) (n : ℕ) → ((i : ℕ) → i < n → (tile i).end ≤ S) → (rs : List Range)
    → All (Edges named tile n) rs → All (λ r. r.end ≤ S) rs
unfolding All
ends S named tile n low [] p = tt
ends S named tile n low (r ∷ rs) p =
    (rw p.0.ends (low p.0.last.number p.0.last.below), ends S named tile n low rs p.1)

module _ (n S : ℕ) (s : List ℕ) (g : ℕ) (run : List ℕ) where
  tile-within : EndToEnd n S s → (i : ℕ) → i < n → offset_of n s i + extent_of n S s i ≤ S
  tile-within e i h = go (dec_lt i (n - 1))
    where
      go : Dec (i < n - 1) → offset_of n s i + extent_of n S s i ≤ S
      go (yes l) = omega (arith, (list-tiles n S s e).rising i (n - 1) l (omega arith), e.last)
      go (no l) =
          let z : i ≡ n - 1 = omega arith in
          rw z (omega (arith, e.last))

  pub bytes-within : EndToEnd n S s → total (read_ranges n S s g run) ≤ S
  bytes-within e =
      let p = read-plan n S s g run e in
      omega (
        arith,
        within g S 0 (read_ranges n S s g run) p.apart
            (ends S (occurs run) (tile_bytes n S s) n (tile-within e) (read_ranges n S s g run) p.edges),
      )

  pub accepted-plan : (offsets_refusal n S s).number ≡ 0 → Plan g (occurs run) (tile_bytes n S s) n
  accepted-plan e = read-plan n S s g run (extents n S s e).run

  pub var-accepted-plan : (var_offsets_refusal n S s).number ≡ 0 → Plan g (occurs run) (tile_bytes n S s) n
  var-accepted-plan e = read-plan n S s g run (var-extents n S s e)

  pub accepted-bytes : S < 2 ^ 64 → EndToEnd n S s → total (read_ranges n S s g run) % 2 ^ 64 ≡ total (read_ranges n S s g run)
  accepted-bytes h e = omega (arith, bytes-within e)

  -- ---- with the check of an accepted list and without
  module _ (room : ℕ) (out : List ℕ) where
    pub same_answer : (offsets_refusal n S s).number ≡ 0 → (plan_answer n S s g run room ≡ plan_at n S s g run room)
        × (plan_output n S s g run room out ≡ output_at n S s g run room out)
    same_answer e = (rw e, rw e)

    pub var-same-answer : (var_offsets_refusal n S s).number ≡ 0 → (var_plan_answer n S s g run room ≡ plan_at n S s g run room)
        × (var_plan_output n S s g run room out ≡ output_at n S s g run room out)
    var-same-answer e = (rw e, rw e)
