-- The loop's invariant: what stands after i windows, as `specs/Code/Run.antt` has it. Assumes nothing.
use Rattle.std.proofs.Common.{◌≡◌, length}
use Rattle.batch.specs.Code.Run.{used_at, buffer_at, answers_at}
use Rattle.batch.proofs.query_all.Given as goal

abbrev pub invariant-loop-i : goal.invariant-loop-i
invariant-loop-i l = record {
  used : l.used ≡ used_at l.description l.tiles l.body l.windows (length l.fn.out) l.i;
  buffer : l.out ≡ buffer_at l.description l.tiles l.body l.windows l.fn.out l.i;
  answers : l.answers ≡ answers_at l.description l.tiles l.body l.windows l.fn.answers l.i;
}
