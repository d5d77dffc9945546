-- What is known of accepted values of a var field? The starts are in order, and the values joined are the buffer.
-- Assumes nothing.
use mathlib.Core.Path.{◌≡◌, refl, sym, ap, ◌∙◌}
use mathlib.Core.Bool.{Bool, true, false, not, cond}
use mathlib.Core.List.{List, [], ◌++◌, append_assoc, append-nil}
use Prim.Native.Nat.{ℕ, zero, suc, ◌+◌, ◌-◌, ◌*◌, ◌≤◌, ◌<◌}
use native.Mathlib.Decide.{dec_lt}
use native.Mathlib.Nat.{zero-add, add_assoc, add-zero}
use native.Mathlib.Numerals.{add-one}
use native.Mathlib.Omega.{arith}
use lib.Dec.{ltb, eqb}
use lib.ListN.{length, take, drop, length-drop}
use lib.Seq.{take-add, take_all, drop-drop}
use borrow.Author.Tests.{lt-ltb, le-ltb, ltb-false, le-leb, lt-leb, ne_eqb}
use Rattle.answers.specs.Refusals.{none, the_tile_offsets}
use Rattle.answers.specs.Runs.{over, sum, join}
use Rattle.answers.proofs.Runs.{over-snoc}
use Rattle.answers.proofs.Checks.{past, clear, each_none, last}
use Rattle.lists.specs.Lists.{entry}
use Rattle.lists.specs.Offsets.{offset_of, end_of, extent_of, EndToEnd}
use Rattle.lists.specs.VarOffsets.{var_breaks, starts_refusal}
use Rattle.entries.proofs.Entries.{starts-decide}
use Rattle.entries.proofs.Extents.{end_to_end, starts-in-order}
use Rattle.description.proofs.Tests.{neither}
use Rattle.tile_metadata.specs.Bodies.{buffer_size, buffer, layout_refusal}
use Rattle.tile_metadata.proofs.Bodies.{Laid, laid}
use Rattle.tile_metadata.proofs.Turns.{values-keep, none-break}
use Rattle.var_values.specs.VarValues.{var_values_refusal, nowhere, var_place_of, var_place_answer, var_value_of, var_value_answer}

-- ---- sums and joins of one more
sum-next : (g : ℕ → ℕ) (i : ℕ) → sum g 0 (i + 1) ≡ sum g 0 i + g i
sum-next g i = rw (add-one i) (over-snoc ◌+◌ 0 add_assoc zero-add add-zero g 0 i ∙ rw zero-add)

join-next : {A : Type 0} (g : ℕ → List A) (i : ℕ) → join g 0 (i + 1) ≡ join g 0 i ++ g i
join-next g i = rw (add-one i) (over-snoc ◌++◌ [] append_assoc (λ a. refl) append-nil g 0 i ∙ rw zero-add)

-- ---- accepted values
pub record Sound (n : ℕ) (s : List ℕ) : Type 0 where
  pub layout : Laid 8 n s
  pub first : entry s 0 ≡ 0
  pub within : (i : ℕ) → i < n → entry s i ≤ buffer_size 8 n s
  pub starts : EndToEnd n (buffer_size 8 n s) s

pub sound : (n : ℕ) (s : List ℕ) → (var_values_refusal n s).number ≡ 0 → Sound n s
unfolding var_values_refusal
sound n s h =
    let a = clear _ _ h in
    let b = clear _ _ a.1 in
    let l = laid 8 n s a.0 in
    let keep = values-keep (var_breaks (buffer_size 8 n s) (entry s)) the_tile_offsets 8 n (omega arith) b.0 in
    let o = starts-in-order n (buffer_size 8 n s) s (omega arith) keep in
    record {
      layout = l;
      first = o.starts;
      within = λ i l. ltb-false _ _ (neither (cond (eqb i 0) (not (eqb (entry s i) 0)) (ltb (entry s i) (entry s (i - 1)))) (ltb (buffer_size 8 n s) (entry s i)) (keep i (omega arith) (omega arith))).1;
      starts = end_to_end n (buffer_size 8 n s) s o;
    }

-- ---- as code goes through the checks
module _ (n : ℕ) (s : List ℕ) where
  pub starts-say : (layout_refusal 8 n s).number ≡ 0 → var_values_refusal n s ≡ starts_refusal n (buffer_size 8 n s) s
  unfolding var_values_refusal
  starts-say h =
      let l = laid 8 n s h in
      past _ _ h ∙ last _ (each_none _ 0 n) ∙ sym (starts-decide n (buffer_size 8 n s) s (omega arith))

-- ---- starts that never fall
-- start j is not above the next one; behind the last one stands the buffer's size
abbrev pub Rises : List ℕ → ℕ → Type 0
Rises s j = entry s j ≤ entry s (j + 1)

-- none of them is above what stands k further
not-above : (s : List ℕ) (n k i : ℕ) → i + k ≡ n → ((j : ℕ) → j < n → Rises s j) → entry s i ≤ entry s n
not-above s n zero i e rise =
    let same : i ≡ n = omega arith in
    omega (arith, ap (entry s) same)
not-above s n (suc k) i e rise =
    let next = not-above s n k (i + 1) (omega arith) rise in
    omega (arith, rise i (omega arith), next)

pub starts-keep : (n : ℕ) (s : List ℕ) → (layout_refusal 8 n s).number ≡ 0 → entry s 0 ≡ 0 → ((j : ℕ) → j < n → Rises s j) → var_values_refusal n s ≡ none
unfolding var_values_refusal
starts-keep n s h first rise = past _ _ h ∙ last _ (each_none _ 0 n) ∙ none-break _ the_tile_offsets 8 n keeps
  where
    keeps : (i : ℕ) → i < n → var_breaks (buffer_size 8 n s) (entry s) i ≡ false
    keeps zero l = rw (first, le-ltb (entry s n) 0 (omega arith))
    keeps (suc i) l =
        let e : suc i - 1 ≡ i = omega arith in
        let f : i + 1 ≡ suc i = add-one i in
        rw (ne_eqb (suc i) 0 (λ z. omega arith), e, le-ltb (entry s (suc i)) (entry s i) (rw f at (rise i (omega arith))), le-ltb (entry s n) (entry s (suc i)) (not-above s n (n - suc i) (suc i) (omega arith) rise))

-- ---- where a value starts, and how many bytes it has
pub there : {offset end extent : ℕ} (n : ℕ) (s : List ℕ) (i : ℕ) → i < n → offset ≡ entry s i → end ≡ end_of n (buffer_size 8 n s) s i → extent ≡ end - offset
    → (offset ≡ offset_of n s i) × (extent ≡ extent_of n (buffer_size 8 n s) s i)
unfolding offset_of extent_of
there n s i h p q r = let some = lt-ltb i n h in (rw some p, rw some (r ∙ rw (q, p)))

-- ---- where a value lies
module _ (n : ℕ) (s : List ℕ) (i : ℕ) where
  abbrev offset : ℕ
  offset = offset_of n s i

  abbrev extent : ℕ
  extent = extent_of n (buffer_size 8 n s) s i

  pub no_place : (i < n → length s < 16 + 8 * n + (offset + extent)) → var_place_of n s i ≡ nowhere
  unfolding var_place_of
  no_place h = go (dec_lt i n)
    where
      go : Dec (i < n) → var_place_of n s i ≡ nowhere
      go (yes l) = rw (lt-ltb i n l, lt-leb (16 + 8 * n + (offset + extent)) (length s) (h l))
      go (no l) = rw (le-ltb i n (omega arith))

  pub has-place : i < n → 16 + 8 * n + (offset + extent) ≤ length s
      → var_place_of n s i ≡ record { offset = 16 + 8 * n + offset; extent = extent }
  unfolding var_place_of
  has-place l h = rw (lt-ltb i n l, le-leb (16 + 8 * n + (offset + extent)) (length s) h)

  -- in the body, whatever bytes those are
  pub place-within : (var_place_of n s i).offset + (var_place_of n s i).extent ≤ length s
  place-within = go (dec_lt i n) (dec_lt (length s) (16 + 8 * n + (offset + extent)))
    where
      go : Dec (i < n) → Dec (length s < 16 + 8 * n + (offset + extent)) → (var_place_of n s i).offset + (var_place_of n s i).extent ≤ length s
      go (yes l) (no h) = let fits : 16 + 8 * n + (offset + extent) ≤ length s = omega arith in rw (has-place l fits) (omega arith)
      go (yes l) (yes h) = rw (no_place (λ _. h)) (omega arith)
      go (no l) h = rw (no_place (λ m. absurd (l m))) (omega arith)

-- the value is the part that is told, with the check and without it
pub at_place : (n : ℕ) (s : List ℕ) (i : ℕ) → take (var_place_of n s i).extent (drop (var_place_of n s i).offset s) ≡ var_value_of n s i
unfolding var_value_of
at_place n s i = refl

pub answer-at-place : (n : ℕ) (s : List ℕ) (i : ℕ)
    → take (var_place_answer n s i).extent (drop (var_place_answer n s i).offset s) ≡ var_value_answer n s i
answer-at-place n s i = go (eqb (var_values_refusal n s).number 0)
  where
    go : (b : Bool) → take (cond b (var_place_of n s i) nowhere).extent (drop (cond b (var_place_of n s i) nowhere).offset s) ≡ cond b (var_value_of n s i) []
    go true = at_place n s i
    go false = refl

-- nowhere of 0 tiles, and so no bytes
pub none-of-none : (s : List ℕ) (i : ℕ) → var_place_of 0 s i ≡ nowhere
none-of-none s i = no_place 0 s i (λ l. absurd (omega arith))

pub no_value : (s : List ℕ) (i : ℕ) → var_value_of 0 s i ≡ []
unfolding var_value_of
no_value s i = rw (none-of-none s i)

-- ---- the values joined
module _ (n : ℕ) (s : List ℕ) (sound : Sound n s) where
  abbrev size : ℕ
  size = buffer_size 8 n s

  -- a value ends in the buffer
  start-within : (i : ℕ) → i < n → offset_of n s i ≤ size
  unfolding offset_of
  start-within i h = rw (lt-ltb i n h) (sound.within i h)

  ends-within : (i : ℕ) → i < n → offset_of n s i + extent_of n size s i ≤ size
  ends-within i l = go (dec_lt (i + 1) n)
    where
      go : Dec (i + 1 < n) → offset_of n s i + extent_of n size s i ≤ size
      go (yes h) = omega (arith, sound.starts.next i h, start-within (i + 1) h)
      go (no h) = let e : i ≡ n - 1 = omega arith in rw e (omega (arith, sound.starts.last))

  -- so it is that part of the buffer
  value-is : (i : ℕ) → i < n → var_value_of n s i ≡ take (extent_of n size s i) (drop (offset_of n s i) (buffer 8 n s))
  unfolding var_value_of
  value-is i l = rw (has-place n s i l (omega (arith, sound.layout.bytes, ends-within i l)), drop-drop)

  -- the extents before tile i add up to its start
  before : (i : ℕ) → i < n → sum (extent_of n size s) 0 i ≡ offset_of n s i
  unfolding over offset_of
  before zero h = rw (lt-ltb 0 n h) (sym sound.first)
  before (suc i) h = rw (add-one i) at (step i (omega arith) (before i (omega arith)))
    where
      step : (i : ℕ) → i + 1 < n → sum (extent_of n size s) 0 i ≡ offset_of n s i → sum (extent_of n size s) 0 (i + 1) ≡ offset_of n s (i + 1)
      step i l e = sum-next (extent_of n size s) i ∙ ap (λ (x : ℕ). x + extent_of n size s i) e ∙ sound.starts.next i l

  -- so the values before tile i are the buffer up to there
  joined-before : (i : ℕ) → i ≤ n → join (var_value_of n s) 0 i ≡ take (sum (extent_of n size s) 0 i) (buffer 8 n s)
  unfolding over
  joined-before zero h = refl
  joined-before (suc i) h = rw (add-one i) at (step i (omega arith) (joined-before i (omega arith)))
    where
      step : (i : ℕ) → i < n → join (var_value_of n s) 0 i ≡ take (sum (extent_of n size s) 0 i) (buffer 8 n s)
          → join (var_value_of n s) 0 (i + 1) ≡ take (sum (extent_of n size s) 0 (i + 1)) (buffer 8 n s)
      step i l e =
          join-next (var_value_of n s) i
          ∙ rw (e, value-is i l, sum-next (extent_of n size s) i, take-add (sum (extent_of n size s) 0 i) (extent_of n size s i) (buffer 8 n s), before i l)

  pub values-joined : join (var_value_of n s) 0 n ≡ buffer 8 n s
  values-joined =
      joined-before n (omega arith)
      ∙ rw sound.starts.total (take_all size (buffer 8 n s) (omega (arith, sound.layout.bytes, length-drop (16 + 8 * n) s)))
