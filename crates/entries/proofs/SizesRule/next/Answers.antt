-- `entries::SizesRule::next` meets its contract: the sum up to an entry is the one before it and the entry's size.
-- Assumes nothing.
use Rattle.std.proofs.Common.{◌≡◌, ℕ, ◌+◌, ◌-◌, ◌^◌, ◌<◌, Option, Some, None, ◌∙◌, arith, lt-ltb, le-ltb}
use Rattle.std.specs.Option.{SomeIff}
use Rattle.answers.specs.Runs.{sum}
use Rattle.lists.specs.Sizes.{size_breaks}
use Rattle.entries.specs.Code.Rules.{so_far, Stepped}
use Rattle.entries.proofs.Entries.{sum-next}
use Rattle.entries.proofs.SizesRule.next.Goals as goal

sized : (at now x : ℕ) (o : Option ℕ) → SomeIff o (now + x < 2 ^ 64) (now + x) → Stepped size_breaks so_far at now x o
sized at now x None past g i a b e =
    let z : sum g 0 (i + 1) ≡ now + x = sum-next g i ∙ rw (b, e) in
    rw (z, lt-ltb (2 ^ 64 - 1) (now + x) (omega (arith, past)))
sized at now x (Some v) fits g i a b e =
    let z : sum g 0 (i + 1) ≡ now + x = sum-next g i ∙ rw (b, e) in
    rw (z, le-ltb (2 ^ 64 - 1) (now + x) (omega (arith, fits.0)), fits.1)

pub returns : goal.returns
returns c = sized c.args._at c.args.before c.args.x c.checked_add.result c.checked_add.ensures
