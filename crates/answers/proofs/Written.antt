-- An array is written list after list from its first place on (`more`), until it holds those lists and nothing else
-- (`whole`). A list is written value by value: the values still to come over what stands there now are all values over
-- what stood there first. And an array that is made place by place of a list's values is that list (`listed`).
-- Assumes nothing.
use Rattle.std.proofs.Common.{◌≡◌, ℕ, suc, ◌+◌, ◌<◌, ◌≤◌, List, [], ◌∷◌, ◌++◌, length, get_or, drop, set, sym, refl, ◌∙◌, append-nil, zero-add, add-one, arith, length-append, drop_of_length-le, drop-cons, ext_get_or}
use lib.Seq.{sets, sets-eq, drop-length}
use Rattle.answers.specs.Runs.{join}
use Rattle.answers.proofs.Filled.{row-length, row_at}
use Rattle.answers.proofs.Laid.{sets-append}

-- one more value
pub value-next : (answer vs : List ℕ) (at i : ℕ) → i < length vs
    → sets (set answer (at + i) (get_or vs i 0)) (at + (i + 1)) (drop (i + 1) vs) ≡ sets answer (at + i) (drop i vs)
value-next answer vs at i h =
    let p : at + (i + 1) ≡ suc (at + i) = omega arith in
    rw (p, add-one i, drop-cons vs i 0 h)

-- and none
pub values-done : (answer vs : List ℕ) (at i : ℕ) → length vs ≤ i → sets answer at (drop i vs) ≡ answer
values-done answer vs at i h = rw (drop_of_length-le vs {i = i} h)

-- what an array holds that held l, after so many places were written
pub record Written (l answer : List ℕ) (at : ℕ) (vs : List ℕ) : Type 0 where
  pub holds : answer ≡ sets l 0 vs
  pub long : length vs ≡ at

pub begun : (l : List ℕ) → Written l l 0 []
begun l = record { holds = refl; long = refl }

pub more : {l answer next vs : List ℕ} {at m : ℕ} → Written l answer at vs → (ws : List ℕ) → next ≡ sets answer at ws → length ws ≡ m
    → Written l next (at + m) (vs ++ ws)
more {l} {answer} {next} {vs} {at} w ws e h = record {
  holds = let p : 0 + length vs ≡ at = omega (arith, w.long) in rw (sets-append l 0 vs ws, ← w.holds, p) e;
  long = rw (length-append vs ws, w.long, h);
}

pub whole : {l answer vs : List ℕ} {at : ℕ} → Written l answer at vs → length l ≡ at → answer ≡ vs
whole {l} {answer} {vs} w h =
    let e : 0 + length vs ≡ length l = omega (arith, w.long) in
    w.holds ∙ sets-eq vs l 0 (omega (arith, w.long)) ∙ rw (e, drop-length l) (append-nil vs)

pub listed : {A : Type 0} (g : ℕ → A) (l : List A) (m : ℕ) (d : A) → length l ≡ m → ((i : ℕ) → i < m → g i ≡ get_or l i d)
    → join (λ i. g i ∷ []) 0 m ≡ l
listed g l m d size same =
    ext_get_or d (join (λ i. g i ∷ []) 0 m) l (row-length g 0 m ∙ sym size)
    (λ i h.
    let near : i < m = rw (row-length g 0 m) at h in
    row_at g 0 m i d near ∙ rw zero-add (same i near))
