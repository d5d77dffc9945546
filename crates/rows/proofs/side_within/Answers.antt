-- `rows::side_within` meets its contract: only a sound range is held against the other. Assumes nothing.
use mathlib.Core.Path.{refl, sym, ap, ◌∙◌}
use mathlib.Core.Bool.{Bool, ◌&&◌}
use Rattle.ranges.specs.Ranges.{ends_of, range_at, inside}
use Rattle.rows.proofs.Held.{read-within}
use Rattle.rows.proofs.side_within.Goals as goal

pub returns-then-not-is_sound : goal.returns-then-not-is_sound
returns-then-not-is_sound c =
    read-within _ c.args.bytes.now c.args.outer.now c.args.at (λ j. (c.type_inv.bytes j).fits)
    (λ j. (c.type_inv.outer j).fits) _ (range_at c.args.kind c.args.outer.now c.args.at) c.read-range.ensures refl
    (ap (λ (x : Bool). x && inside (ends_of c.read-range.result) (ends_of (range_at c.args.kind c.args.outer.now c.args.at))) (sym c.if-not-is_sound.true ∙ c.is_sound.ensures))

pub returns : goal.returns
returns c =
    read-within _ c.args.bytes.now c.args.outer.now c.args.at (λ j. (c.type_inv.bytes j).fits)
    (λ j. (c.type_inv.outer j).fits) _ _ c.read-range.ensures c.read.ensures
    (c.inside.ensures ∙ ap (λ (x : Bool). x && inside (ends_of c.read-range.result) (ends_of c.read.result))
    (sym c.if-not-is_sound.false ∙ c.is_sound.ensures))
