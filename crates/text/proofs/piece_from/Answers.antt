-- `text::piece_from` meets its contract. Assumes nothing.
use native.Mathlib.Omega.{arith}
use lib.ListN.{drop, length-drop}
use Rattle.text.proofs.Pieces.{piece-le}
use Rattle.text.proofs.piece_from.Goals as goal

pub slice_bounds-result-end-2 : goal.slice_bounds-result-end-2
slice_bounds-result-end-2 c =
    let x = c.args in
    omega (arith, c.piece_end-end.ensures.0, piece-le x.separator (drop x.at x.text.now), length-drop x.at x.text.now)
