-- `parts::open_in_blocks` meets its contract: a block takes the next of the body's bytes, and once none is left all are
-- taken. Assumes nothing.
use mathlib.Core.Path.{◌≡◌, refl, ap, sym, ◌∙◌}
use mathlib.Core.List.{List, [], ◌++◌, append_assoc, append-nil}
use Prim.Native.Nat.{ℕ}
use lib.ListN.{length}
use Rattle.std.specs.declared.slice.Chunks.{Chunks}
use Rattle.std.proofs.lemmas.List.{nil_from_length}
use Rattle.parts.proofs.open_in_blocks.Goals as goal

pub loop-bytes-init : goal.loop-bytes-init
loop-bytes-init c = (
  refl,
  λ d begun. ([], ap (λ (k : Chunks ℕ). k.rest.now) c.into_iter-bytes-iterator.ensures.into_iter_gives ∙ c.chunks-bytes-items.ensures.rest, begun c.args.work.now),
)

pub loop-bytes-preserved : goal.loop-bytes-preserved
loop-bytes-preserved c =
    let i = c.loop-bytes.invariant in
    let x = c.args in
    let next = c.in-Some.bytes.now in (
      c.block-s.ensures.room ∙ i.0,
      λ d begun.
          let t = i.1 d begun in (
            t.0 ++ next,
            append_assoc t.0 next c.next.new.self.rest.now ∙ ap (λ (l : List ℕ). t.0 ++ l) (sym c.in-Some.ensures.steps.1.0) ∙ t.1,
            c.block-s.ensures.took d x.file_size x.footer.now (length x.body.now) t.0 t.2,
          ),
    )

pub returns : goal.returns
returns c =
    let i = c.loop-bytes.invariant in
    let x = c.args in
    let t = i.1 x.description c.start-s.ensures in
    let all : t.0 ≡ x.body.now = sym (append-nil t.0) ∙ ap (λ (l : List ℕ). t.0 ++ l) (sym (nil_from_length _ c.in-None.ensures.steps.1.0)) ∙ t.1 in
    rw i.0 at (c.finish.ensures x.description x.file_size x.footer.now (length x.body.now) x.body.now (rw all at t.2))
