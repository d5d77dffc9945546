-- A batch as C lends it: each window has its own bytes, and after i windows the answer run holds the records of those i, five numbers each, and what it
-- held before in its other places.
-- Assumes nothing.
use mathlib.Core.Path.{◌≡◌, refl, ap, sym, ◌∙◌}
use mathlib.Core.Bool.{Bool, true, false, ◌&&◌, cond}
use mathlib.Core.List.{List, [], ◌∷◌, ◌++◌, append_assoc, append-nil}
use Prim.Native.Nat.{ℕ, zero, suc, ◌+◌, ◌-◌, ◌*◌, ◌/◌, ◌<◌, ◌≤◌}
use native.Mathlib.Nat.{zero-add, mul-le-mul_right, suc-mul}
use native.Mathlib.Numerals.{add-one}
use native.Mathlib.Omega.{arith}
use lib.Dec.{eqb}
use lib.ListN.{length, get_or, take, drop, length-append, length-drop}
use lib.Seq.{sets, sets-eq, take_at, drop-append-add, drop-drop}
use borrow.Author.Tests.{eqb-true}
use Rattle.answers.specs.Refusals.{runs}
use Rattle.answers.specs.Runs.{over, join}
use Rattle.answers.proofs.Runs.{over-snoc}
use Rattle.answers.proofs.Filled.{row-length, row_at}
use Rattle.answers.proofs.Laid.{laid-length}
use Rattle.description.specs.declared.Description.{Description}
use Rattle.description.specs.Description.{sides_of, bytes_of_box}
use Rattle.description.proofs.Sides.{start-most}
use Rattle.boxes.specs.declared.Window.{Window}
use Rattle.c_arguments.specs.Described.{numbered_dimensions}
use Rattle.batch.specs.declared.Asked.{Asked}
use Rattle.batch.specs.declared.Batch.{Batch}
use Rattle.batch.specs.Batch.{no_window, used_by, asked_from, asked_buffer, found_by_all, found_before, batch_buffer}
use Rattle.batch.specs.Code.Run.{used_at, buffer_at}
use Rattle.batch.proofs.Run.{used-at, buffer-at, buffer-all}
use Rattle.batch.proofs.Windows.{each-promised}
use Rattle.c_query.specs.Lent.{window_bytes, lent_batch, window_at, windows_of, batch_places, record_at, record_places, LentAnswered}

pub width-most : (numbers : List ℕ) → window_bytes numbers ≤ 64
unfolding bytes_of_box
width-most numbers = omega (arith, start-most (numbered_dimensions numbers) (sides_of (length numbers)))

-- the windows that are asked have their bytes and their places
pub lent-whole : (width bytes places : ℕ)
    → (let m = (lent_batch width bytes places).windows in (m * width ≤ bytes) × (5 * m ≤ places))
unfolding lent_batch
lent-whole width bytes places = go (eqb places (5 * (places / 5))) (eqb bytes (places / 5 * width)) refl refl
  where
    made : Bool → Batch
    made t = cond t (record { number = 0; place = 0; windows = places / 5 }) (record { number = runs; place = 0; windows = 0 })

    go : (s t : Bool) → eqb places (5 * (places / 5)) ≡ s → eqb bytes (places / 5 * width) ≡ t
        → (let m = (made (s && t)).windows in (m * width ≤ bytes) × (5 * m ≤ places))
    go true true a b =
        let whole = eqb-true bytes (places / 5 * width) b in
        let even = eqb-true places (5 * (places / 5)) a in
        (omega (arith, whole), omega (arith, even))
    go true false a b = (omega arith, omega arith)
    go false t a b = (omega arith, omega arith)

module _ (d : Description) (numbers bytes : List ℕ) (count : ℕ) where
  pub windows-length : length (windows_of d numbers bytes count) ≡ count
  unfolding windows_of
  windows-length = row-length (window_at d numbers bytes) 0 count

  pub window-at : (i : ℕ) → i < count → get_or (windows_of d numbers bytes count) i no_window ≡ window_at d numbers bytes i
  unfolding windows_of
  window-at i h = row_at (window_at d numbers bytes) 0 count i no_window h ∙ rw zero-add

  pub bytes-there : count * window_bytes numbers ≤ length bytes → (i : ℕ) → i < count
      → i * window_bytes numbers + window_bytes numbers ≤ length bytes
  bytes-there whole i h = omega (arith, mul-le-mul_right (window_bytes numbers) h, suc-mul i (window_bytes numbers))

  -- all of them
  pub buffer-done : (n : ℕ) (body out : List ℕ)
      → buffer_at d n body (windows_of d numbers bytes count) out count ≡ batch_buffer d n body (windows_of d numbers bytes count) out
  buffer-done n body out =
      ap (buffer_at d n body (windows_of d numbers bytes count) out) (sym windows-length) ∙ buffer-all d n body (windows_of d numbers bytes count) out

module _ (d : Description) (n : ℕ) (body : List ℕ) (ws : List Window) (out : List ℕ) where
  abbrev room : ℕ
  room = length out

  abbrev records : ℕ → List ℕ
  records i = join (record_at d n body ws room) 0 i

  one-length : (i : ℕ) → length (record_at d n body ws room i) ≡ 5
  unfolding record_at
  one-length i = refl

  more-records : (i : ℕ) → records (suc i) ≡ records i ++ record_at d n body ws room i
  more-records i = over-snoc ◌++◌ [] append_assoc (λ _. refl) append-nil (record_at d n body ws room) 0 i ∙ rw zero-add

  pub records-length : (i : ℕ) → length (records i) ≡ 5 * i
  unfolding over
  records-length zero = refl
  records-length (suc i) = rw (more-records i, length-append (records i) (record_at d n body ws room i), records-length i, one-length i) (omega arith)

  -- one more record
  pub stored : (old : List ℕ) (i : ℕ) → 5 * i + 5 ≤ length old
      → sets (records i ++ drop (5 * i) old) (5 * i) (record_at d n body ws room i) ≡ records (i + 1) ++ drop (5 * (i + 1)) old
  stored old i h =
      let rest = drop (5 * i) old in
      let there : 5 * i + length (record_at d n body ws room i) ≤ length (records i ++ rest) =
      rw (one-length i, length-append (records i) rest, records-length i, length-drop (5 * i) old) (omega arith)
      in
      let five : 5 * i + 5 ≡ length (records i) + 5 = omega (arith, records-length i) in
      let next : 5 * (i + 1) ≡ 5 * i + 5 = omega arith in
      sets-eq (record_at d n body ws room i) (records i ++ rest) (5 * i) there
      ∙ rw (take_at (records i) rest (5 * i) (records-length i), one-length i, five, drop-append-add (records i) rest 5, drop-drop 5 (5 * i) old, next, add-one, more-records i, append_assoc)

  pub same-places : (old : List ℕ) (i : ℕ) → 5 * i ≤ length old → length (records i ++ drop (5 * i) old) ≡ length old
  same-places old i h = rw (length-append (records i) (drop (5 * i) old), records-length i, length-drop (5 * i) old) (omega arith)

  pub buffer-length : (i : ℕ) → i ≤ length ws → length (buffer_at d n body ws out i) ≡ room
  buffer-length i h = ap length (buffer-at d n body ws out i h) ∙ laid-length (found_by_all d n body (take i ws)) out

  -- one turn: the window at its place, asked with what stands after the windows before it
  module _ (i : ℕ) (h : i < length ws) {w : Window} (this : w ≡ get_or ws i no_window) {used : ℕ} (so_far : used ≡ used_at d n body ws room i)
      {left : List ℕ} (laid : left ≡ buffer_at d n body ws out i) {asked : Asked} (told : asked ≡ asked_from d n body w (length left) used) where
    same-room : length left ≡ room
    same-room = ap length laid ∙ buffer-length i (omega arith)

    is : asked ≡ asked_from d n body (get_or ws i no_window) room (used_at d n body ws room i)
    is = told ∙ rw (same-room, this, so_far)

    pub turn-used : asked.used ≡ used_at d n body ws room (i + 1)
    turn-used = rw (is, add-one)

    pub turn-buffer : {after : List ℕ} → after ≡ asked_buffer d n body w left used → after ≡ buffer_at d n body ws out (i + 1)
    turn-buffer e = e ∙ rw (this, laid, so_far, add-one)

    pub not-fewer : used ≤ asked.used
    unfolding asked_from
    not-fewer = rw told (omega arith)

    -- its record
    told-record : asked.answer.number ∷ asked.answer.place ∷ asked.answer.found ∷ asked.answer.looked ∷ (asked.used - used) ∷ []
        ≡ record_at d n body ws room i
    unfolding record_at asked_from
    told-record =
        let u = used_at d n body ws room i in
        let rest : room - u ≡ room - found_before d n body ws i = omega (arith, used-at d n body ws room i (omega arith)) in
        let more : u + used_by d n body (get_or ws i no_window) (room - u) - u ≡ used_by d n body (get_or ws i no_window) (room - u) = omega arith in
        rw (is, so_far, more, rest)

    pub turn-record : (old : List ℕ) → 5 * i + 5 ≤ length old → {now : List ℕ} → now ≡ records i ++ drop (5 * i) old → {after : List ℕ}
        → after ≡ sets now (5 * i) (asked.answer.number ∷ asked.answer.place ∷ asked.answer.found ∷ asked.answer.looked ∷ (asked.used - used) ∷ [])
        → after ≡ records (i + 1) ++ drop (5 * (i + 1)) old
    turn-record old fit so e = e ∙ rw so (ap (sets (records i ++ drop (5 * i) old) (5 * i)) told-record ∙ stored old i fit)

-- what the exported function promises follows from what the batch has once its windows are asked
pub promised : (d : Description) (n : ℕ) (body numbers bytes old out : List ℕ) {e : Description} → e ≡ d
    → {width : ℕ} → width ≡ window_bytes numbers → {b : Batch} → b ≡ lent_batch width (length bytes) (length old)
    → {told left : List ℕ}
    → told ≡ record_places e n body (windows_of e numbers bytes b.windows) (length out) ++ drop (5 * b.windows) old
    → left ≡ batch_buffer e n body (windows_of e numbers bytes b.windows) out
    → LentAnswered d n body numbers bytes (batch_places b) old told out left
promised d n body numbers bytes old out same w lent answered laid =
    let count = (lent_batch (window_bytes numbers) (length bytes) (length old)).windows in
    let so = rw (same, lent, w) at laid in
    record {
      batch = rw (lent, w);
      answers = rw (same, lent, w) at answered ∙ rw (windows-length d numbers bytes count);
      buffer = so;
      promises = rw so (each-promised d n body (windows_of d numbers bytes count) out);
    }
