-- `commits::read_name` meets its contract: the places where the parts end say which parts there are. Assumes nothing.
use Rattle.std.proofs.Common.{◌∙◌}
use Rattle.commits.proofs.Read.{other-parts, first-none, last-none, version-none, six-parts}
use Rattle.commits.proofs.read_name.Goals as goal

pub returns-then-end_5-name : goal.returns-then-end_5-name
returns-then-end_5-name c =
    other-parts
    (record {
      end-0 = c.piece_end-end_0.ensures.0;
      end-1 = c.piece_end-end_1.ensures.0;
      end-2 = c.piece_end-end_2.ensures.0;
      end-3 = c.piece_end-end_3.ensures.0;
      end-4 = c.piece_end-end_4.ensures.0;
      end-5 = c.piece_end-end_5.ensures.0;
    })
    c.if-end_5-name.true

pub returns-in_err-first : goal.returns-in_err-first
returns-in_err-first c =
    c.from_residual.ensures
    ∙ first-none
    (record {
      end-0 = c.piece_end-end_0.ensures.0;
      end-1 = c.piece_end-end_1.ensures.0;
      end-2 = c.piece_end-end_2.ensures.0;
      end-3 = c.piece_end-end_3.ensures.0;
      end-4 = c.piece_end-end_4.ensures.0;
      end-5 = c.piece_end-end_5.ensures.0;
    })
    c.if-end_5-name.false
    c.in_err-first.ensures

pub returns-in_err-last : goal.returns-in_err-last
returns-in_err-last c =
    c.from_residual-in_err-last.ensures
    ∙ last-none
    (record {
      end-0 = c.piece_end-end_0.ensures.0;
      end-1 = c.piece_end-end_1.ensures.0;
      end-2 = c.piece_end-end_2.ensures.0;
      end-3 = c.piece_end-end_3.ensures.0;
      end-4 = c.piece_end-end_4.ensures.0;
      end-5 = c.piece_end-end_5.ensures.0;
    })
    c.if-end_5-name.false
    c.in_ok-first.ensures
    c.in_err-last.ensures

pub returns-in_err-version : goal.returns-in_err-version
returns-in_err-version c =
    c.from_residual-in_err-version.ensures
    ∙ version-none
    (record {
      end-0 = c.piece_end-end_0.ensures.0;
      end-1 = c.piece_end-end_1.ensures.0;
      end-2 = c.piece_end-end_2.ensures.0;
      end-3 = c.piece_end-end_3.ensures.0;
      end-4 = c.piece_end-end_4.ensures.0;
      end-5 = c.piece_end-end_5.ensures.0;
    })
    c.if-end_5-name.false
    c.in_ok-first.ensures
    c.in_ok-last.ensures
    c.in_err-version.ensures

pub returns : goal.returns
returns c =
    c.then_some.ensures
    ∙ six-parts
    (record {
      end-0 = c.piece_end-end_0.ensures.0;
      end-1 = c.piece_end-end_1.ensures.0;
      end-2 = c.piece_end-end_2.ensures.0;
      end-3 = c.piece_end-end_3.ensures.0;
      end-4 = c.piece_end-end_4.ensures.0;
      end-5 = c.piece_end-end_5.ensures.0;
    })
    c.if-end_5-name.false
    c.in_ok-first.ensures
    c.in_ok-last.ensures
    c.in_ok-version.ensures
    c.is_uuid-uuid.ensures
