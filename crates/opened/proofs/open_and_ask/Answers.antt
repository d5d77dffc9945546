-- `opened::open_and_ask` meets its contract: what is asked of is what opening holds. Assumes nothing.
use Rattle.std.proofs.Common.{ℕ, List, subst}
use Rattle.description.specs.declared.Description.{Description}
use Rattle.query.specs.Query.{Promises}
use Rattle.opened.specs.Held.{held_tiles}
use Rattle.opened.proofs.Keeping.{without-premise}
use Rattle.opened.proofs.open_and_ask.Goals as goal

pub returns : goal.returns
returns c =
    let x = c.args in
    let t = c.open_tree.result in
    let r = c.ask.result in
    let zs = c.ask.new.out in
    let e = c.open_tree.ensures in
    without-premise x.description x.file_size x.footer.now x.body.now
    (subst (λ (l : List ℕ). Promises x.description (held_tiles x.description x.file_size x.footer.now x.body.now) l x.window r x.out.now zs) e.0
    (subst (λ (n : ℕ). Promises x.description n t.body.now x.window r x.out.now zs) e.1.0
    (subst (λ (d : Description). Promises d t.tiles t.body.now x.window r x.out.now zs) e.1.1 c.ask.ensures)))
