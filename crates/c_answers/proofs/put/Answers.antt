-- `c_answers::put` meets its contract: the part is the list, and the rest stays. Assumes nothing.
use Rattle.std.proofs.Common.{◌≡◌, ℕ, ◌+◌, ◌-◌, ◌≤◌, List, ◌++◌, length, take, drop, append_assoc, sym, ap, ◌∙◌, arith}
use Rattle.std.proofs.lemmas.List.Edits.{sets, sets-eq}
use borrow.Rule.Slice.PartMut.{put_mid, Post-is}
use Rattle.c_answers.proofs.put.Goals as goal

put-part : (xs part vs : List ℕ) (at : ℕ) → part ≡ vs → at + length vs ≤ length xs
    → put_mid at (at + length vs - at) xs part ≡ sets xs at vs
put-part xs part vs at e h =
    rw e
    (ap (λ rest. take at xs ++ (vs ++ rest)) (Post-is at (at + length vs) xs (omega arith))
    ∙ sym (append_assoc (take at xs) vs (drop (at + length vs) xs))
    ∙ sym (sets-eq vs xs at h))

pub returns : goal.returns
returns c = put-part _ _ _ c.args.at c.copy_from_slice.ensures.after (omega arith)
