-- `report_text::read_asked` meets its contract: line after line. Assumes nothing.
use mathlib.Core.Path.{◌≡◌, refl, sym, ◌∙◌}
use Prim.Native.Nat.{◌+◌}
use native.Mathlib.Omega.{arith}
use Rattle.text.specs.Text.{line_at}
use Rattle.text.proofs.Lines.{first-line}
use Rattle.decimal.proofs.Steps.{read-most}
use Rattle.description.specs.Limits.{most_dimensions}
use Rattle.report_text.specs.Asked.{dimensions_at}
use Rattle.report_text.specs.Code.Reading.{Next}
use Rattle.report_text.proofs.Reading.{next-at, unread-dimensions, unread-widths, unread-fields, unread-capacity, unread-size, unread-bytes, unread-sides, unread-end, unread-description, asked-read, told-refused, told-clear}
use Rattle.report_text.proofs.read_asked.Goals as goal

pub returns-in_err-dimensions : goal.returns-in_err-dimensions
returns-in_err-dimensions c =
    let t = c.args.text.now in
    let start : Next t 0 (record { text = c.args.text; at = 0 }) = record { same = refl; here = first-line t } in
    rw c.from_residual.ensures (unread-dimensions t (c.in_err-dimensions.ensures t 0 start).0)

pub read_kinds-requires : goal.read_kinds-requires
read_kinds-requires c =
    let t = c.args.text.now in
    let start : Next t 0 (record { text = c.args.text; at = 0 }) = record { same = refl; here = first-line t } in
    let D = c.in_ok-dimensions.dimensions in
    let first = c.in_ok-dimensions.ensures t 0 start in
    let own : D ≡ dimensions_at t = rw (← first.0) in
    read-most most_dimensions (line_at 0 t) (sym first.0)

pub returns-in_err-kinds : goal.returns-in_err-kinds
returns-in_err-kinds c =
    let t = c.args.text.now in
    let start : Next t 0 (record { text = c.args.text; at = 0 }) = record { same = refl; here = first-line t } in
    let D = c.in_ok-dimensions.dimensions in
    let first = c.in_ok-dimensions.ensures t 0 start in
    let own : D ≡ dimensions_at t = rw (← first.0) in
    rw c.from_residual-in_err-kinds.ensures (unread-widths t own (c.in_err-kinds.ensures t first.1))

pub returns-in_err-fields : goal.returns-in_err-fields
returns-in_err-fields c =
    let t = c.args.text.now in
    let start : Next t 0 (record { text = c.args.text; at = 0 }) = record { same = refl; here = first-line t } in
    let D = c.in_ok-dimensions.dimensions in
    let first = c.in_ok-dimensions.ensures t 0 start in
    let own : D ≡ dimensions_at t = rw (← first.0) in
    let kinds = c.in_ok-kinds.ensures t first.1 in
    let fields = c.in_err-fields.ensures t (1 + D) kinds.next in
    rw c.from_residual-in_err-fields.ensures (unread-fields t own fields.0)

pub returns-in_err-capacity : goal.returns-in_err-capacity
returns-in_err-capacity c =
    let t = c.args.text.now in
    let start : Next t 0 (record { text = c.args.text; at = 0 }) = record { same = refl; here = first-line t } in
    let D = c.in_ok-dimensions.dimensions in
    let first = c.in_ok-dimensions.ensures t 0 start in
    let own : D ≡ dimensions_at t = rw (← first.0) in
    let kinds = c.in_ok-kinds.ensures t first.1 in
    let fields = c.in_ok-fields.ensures t (1 + D) kinds.next in
    let capacity = c.in_err-capacity.ensures t (2 + D) (next-at t fields.1 (omega arith)) in
    rw c.from_residual-in_err-capacity.ensures (unread-capacity t own capacity.0)

pub returns-in_err-file_size : goal.returns-in_err-file_size
returns-in_err-file_size c =
    let t = c.args.text.now in
    let start : Next t 0 (record { text = c.args.text; at = 0 }) = record { same = refl; here = first-line t } in
    let D = c.in_ok-dimensions.dimensions in
    let first = c.in_ok-dimensions.ensures t 0 start in
    let own : D ≡ dimensions_at t = rw (← first.0) in
    let kinds = c.in_ok-kinds.ensures t first.1 in
    let fields = c.in_ok-fields.ensures t (1 + D) kinds.next in
    let capacity = c.in_ok-capacity.ensures t (2 + D) (next-at t fields.1 (omega arith)) in
    let file_size = c.in_err-file_size.ensures t (3 + D) (next-at t capacity.1 (omega arith)) in
    rw c.from_residual-in_err-file_size.ensures (unread-size t own file_size.0)

pub returns-in_err-data_size : goal.returns-in_err-data_size
returns-in_err-data_size c =
    let t = c.args.text.now in
    let start : Next t 0 (record { text = c.args.text; at = 0 }) = record { same = refl; here = first-line t } in
    let D = c.in_ok-dimensions.dimensions in
    let first = c.in_ok-dimensions.ensures t 0 start in
    let own : D ≡ dimensions_at t = rw (← first.0) in
    let kinds = c.in_ok-kinds.ensures t first.1 in
    let fields = c.in_ok-fields.ensures t (1 + D) kinds.next in
    let capacity = c.in_ok-capacity.ensures t (2 + D) (next-at t fields.1 (omega arith)) in
    let file_size = c.in_ok-file_size.ensures t (3 + D) (next-at t capacity.1 (omega arith)) in
    let data_size = c.in_err-data_size.ensures t (4 + D) (next-at t file_size.1 (omega arith)) in
    rw c.from_residual-in_err-data_size.ensures (unread-bytes t own data_size.0)

pub read_window-requires : goal.read_window-requires
read_window-requires c =
    let t = c.args.text.now in
    let start : Next t 0 (record { text = c.args.text; at = 0 }) = record { same = refl; here = first-line t } in
    let D = c.in_ok-dimensions.dimensions in
    let first = c.in_ok-dimensions.ensures t 0 start in
    let own : D ≡ dimensions_at t = rw (← first.0) in
    read-most most_dimensions (line_at 0 t) (sym first.0)

pub returns-in_err-sides : goal.returns-in_err-sides
returns-in_err-sides c =
    let t = c.args.text.now in
    let start : Next t 0 (record { text = c.args.text; at = 0 }) = record { same = refl; here = first-line t } in
    let D = c.in_ok-dimensions.dimensions in
    let first = c.in_ok-dimensions.ensures t 0 start in
    let own : D ≡ dimensions_at t = rw (← first.0) in
    let kinds = c.in_ok-kinds.ensures t first.1 in
    let fields = c.in_ok-fields.ensures t (1 + D) kinds.next in
    let capacity = c.in_ok-capacity.ensures t (2 + D) (next-at t fields.1 (omega arith)) in
    let file_size = c.in_ok-file_size.ensures t (3 + D) (next-at t capacity.1 (omega arith)) in
    let data_size = c.in_ok-data_size.ensures t (4 + D) (next-at t file_size.1 (omega arith)) in
    rw c.from_residual-in_err-sides.ensures (unread-sides t own (c.in_err-sides.ensures t (next-at t data_size.1 (omega arith)) kinds.filled_kinds))

pub returns-then-lines-text : goal.returns-then-lines-text
returns-then-lines-text c =
    let t = c.args.text.now in
    let start : Next t 0 (record { text = c.args.text; at = 0 }) = record { same = refl; here = first-line t } in
    let D = c.in_ok-dimensions.dimensions in
    let first = c.in_ok-dimensions.ensures t 0 start in
    let own : D ≡ dimensions_at t = rw (← first.0) in
    let kinds = c.in_ok-kinds.ensures t first.1 in
    let fields = c.in_ok-fields.ensures t (1 + D) kinds.next in
    let capacity = c.in_ok-capacity.ensures t (2 + D) (next-at t fields.1 (omega arith)) in
    let file_size = c.in_ok-file_size.ensures t (3 + D) (next-at t capacity.1 (omega arith)) in
    let data_size = c.in_ok-data_size.ensures t (4 + D) (next-at t file_size.1 (omega arith)) in
    let sides = c.in_ok-sides.ensures t (next-at t data_size.1 (omega arith)) kinds.filled_kinds in
    unread-end t own sides c.if-lines-text.true

pub returns-then-is_err : goal.returns-then-is_err
returns-then-is_err c =
    let t = c.args.text.now in
    let start : Next t 0 (record { text = c.args.text; at = 0 }) = record { same = refl; here = first-line t } in
    let D = c.in_ok-dimensions.dimensions in
    let first = c.in_ok-dimensions.ensures t 0 start in
    let own : D ≡ dimensions_at t = rw (← first.0) in
    let kinds = c.in_ok-kinds.ensures t first.1 in
    let fields = c.in_ok-fields.ensures t (1 + D) kinds.next in
    let capacity = c.in_ok-capacity.ensures t (2 + D) (next-at t fields.1 (omega arith)) in
    let file_size = c.in_ok-file_size.ensures t (3 + D) (next-at t capacity.1 (omega arith)) in
    let data_size = c.in_ok-data_size.ensures t (4 + D) (next-at t file_size.1 (omega arith)) in
    unread-description t own kinds fields.0 capacity.0 (told-refused c.check.result c.check.ensures (sym c.is_err.ensures.value ∙ c.if-is_err.true))

pub returns : goal.returns
returns c =
    let t = c.args.text.now in
    let start : Next t 0 (record { text = c.args.text; at = 0 }) = record { same = refl; here = first-line t } in
    let D = c.in_ok-dimensions.dimensions in
    let first = c.in_ok-dimensions.ensures t 0 start in
    let own : D ≡ dimensions_at t = rw (← first.0) in
    let kinds = c.in_ok-kinds.ensures t first.1 in
    let fields = c.in_ok-fields.ensures t (1 + D) kinds.next in
    let capacity = c.in_ok-capacity.ensures t (2 + D) (next-at t fields.1 (omega arith)) in
    let file_size = c.in_ok-file_size.ensures t (3 + D) (next-at t capacity.1 (omega arith)) in
    let data_size = c.in_ok-data_size.ensures t (4 + D) (next-at t file_size.1 (omega arith)) in
    let sides = c.in_ok-sides.ensures t (next-at t data_size.1 (omega arith)) kinds.filled_kinds in
    asked-read t own kinds fields.0 capacity.0 file_size.0 data_size.0 sides c.if-lines-text.false (told-clear c.check.result c.check.ensures (sym c.is_err.ensures.value ∙ c.if-is_err.false))
