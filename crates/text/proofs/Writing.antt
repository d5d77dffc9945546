-- Texts written one after the other: what is seen of two texts is what is seen of both.
-- Assumes nothing.
use mathlib.Core.Path.{◌≡◌, refl, ap, sym, ◌∙◌}
use mathlib.Core.List.{[], ◌∷◌, ◌++◌}
use mathlib.Core.Logic.{◌⊎◌, inl, inr}
use Prim.Native.Nat.{ℕ, suc, ◌+◌, ◌-◌, ◌^◌, ◌≤◌, ◌<◌, min}
use borrow.Rule.Slice.PartMut.{put_mid}
use native.Mathlib.Decide.{dec_le}
use native.Mathlib.Omega.{arith}
use lib.ListN.{length, take, drop, set, length-append, length-drop, length-take, drop_of_length-le}
use Rattle.std.proofs.lemmas.List.{drop-drop, take-append-drop}
use mathlib.Core.List.{append_assoc}
use lib.Seq.{sets, sets-eq, length-sets, set_out, drop-append-le, drop-append-add, take-append_seam}
use Rattle.answers.specs.Laid.{laid}
use Rattle.answers.proofs.Laid.{sets-append, sets-whole}
use Rattle.decimal.specs.Decimal.{decimal}
use Rattle.decimal.specs.Write.{put}
use Rattle.decimal.proofs.Put.{put-fits}
use Rattle.decimal.proofs.Written.{twenty-digits}
use Rattle.text.specs.Text.{Bytes}
use Rattle.text.specs.Write.{field, seen}
use Rattle.text.specs.Code.Places.{Wrote}

-- ---- the bytes that fall into the buffer
pub sets-none : (out word : Bytes) (place i : ℕ) → length word ≤ i → sets out place (drop i word) ≡ out
sets-none out word place i h = rw (drop_of_length-le word {i = i} h)

sets-past : (out : Bytes) (place : ℕ) (t : Bytes) → length out ≤ place → sets out place t ≡ out
sets-past out place [] h = refl
sets-past out place (b ∷ t) h = rw (set_out out place b h, sets-past out (suc place) t (omega arith))

-- as many as there are, or as there is room for
sets-fit : (out : Bytes) (place n : ℕ) (t : Bytes) → place + n ≤ length out → n ≤ length t → (length t ≤ n) ⊎ (length out ≤ place + n)
    → put_mid place n out (take n t) ≡ sets out place t
sets-fit out place n t h l all =
    let size : length (take n t) ≡ n = simp length-take (omega arith) in
    let known : sets out place (take n t) ≡ take place out ++ (take n t ++ drop n (drop place out))
    = sets-eq (take n t) out place (omega (arith, size)) ∙ rw (size, drop-drop n place out, append_assoc) in
    let whole : sets out place t ≡ sets out place (take n t)
    = ap (sets out place) (sym (take-append-drop n t)) ∙ (sets-append out place (take n t) (drop n t) ∙ go all) in
    sym (whole ∙ known)
  where
    go : (length t ≤ n) ⊎ (length out ≤ place + n)
        → sets (sets out place (take n t)) (place + length (take n t)) (drop n t) ≡ sets out place (take n t)
    go (inl few) = sets-none (sets out place (take n t)) t (place + length (take n t)) n few
    go (inr full) =
        let size : length (take n t) ≡ n = simp length-take (omega arith) in
        sets-past (sets out place (take n t)) (place + length (take n t)) (drop n t) (omega (arith, size, length-sets out place (take n t)))

-- past the end of the buffer there is no room
sets-full : (out : Bytes) (place : ℕ) (t : Bytes) {p n : ℕ} → length out ≤ place → p ≡ length out → n ≡ 0
    → put_mid p n out (take n t) ≡ sets out place t
sets-full out place t h e z = rw (e, z) (take-append-drop (length out) out ∙ sym (sets-past out place t h))

-- from a place on, or from the end
drop-least : (word : Bytes) (i s : ℕ) → s ≡ min i (length word) → drop s word ≡ drop i word
drop-least word i s e = go (dec_le i (length word))
  where
    go : Dec (i ≤ length word) → drop s word ≡ drop i word
    go (yes h) =
        let z : s ≡ i = omega arith in
        rw z
    go (no h) = drop_of_length-le word {i = s} (omega arith) ∙ sym (drop_of_length-le word {i = i} (omega arith))

pub stored : (out word : Bytes) (place i : ℕ) {p s n k j : ℕ} → p ≡ min place (length out) → s ≡ min i (length word)
    → n ≡ min (length word - s) (length out - p) → k ≡ n → j ≡ n → put_mid p k out (take j (drop s word)) ≡ sets out place (drop i word)
stored out word place i {p} {s} {n} e f g k j = rw (k, j, ← (drop-least word i s f)) (go (dec_le place (length out)) (dec_le (length word - s) n))
  where
    size : length (drop s word) ≡ length word - s
    size = length-drop s word

    go : Dec (place ≤ length out) → Dec (length word - s ≤ n) → put_mid p n out (take n (drop s word)) ≡ sets out place (drop s word)
    go (yes h) (yes l) =
        let z : p ≡ place = omega arith in
        rw z (sets-fit out place n (drop s word) (omega arith) (omega (arith, size)) (inl (omega (arith, size))))
    go (yes h) (no l) =
        let z : p ≡ place = omega arith in
        rw z (sets-fit out place n (drop s word) (omega arith) (omega (arith, size)) (inr (omega arith)))
    go (no h) l = sets-full out place (drop s word) (omega arith) (omega arith) (omega arith)

-- ---- what is seen
module _ (from : ℕ) where
  seen-append : (out : Bytes) (at : ℕ) (xs ys : Bytes) → seen from out at (xs ++ ys) ≡ seen from (seen from out at xs) (at + length xs) ys
  unfolding seen
  seen-append out at xs ys = go (dec_le (from - at) (length xs))
    where
      go : Dec (from - at ≤ length xs)
          → sets out (at - from) (drop (from - at) (xs ++ ys))
          ≡ sets (sets out (at - from) (drop (from - at) xs)) (at + length xs - from) (drop (from - (at + length xs)) ys)
      go (yes h) =
          let z : from - (at + length xs) ≡ 0 = omega arith in
          let y : at + length xs - from ≡ at - from + length (drop (from - at) xs) = omega (arith, length-drop (from - at) xs) in
          rw (z, y, drop-append-le (from - at) xs ys h) (sets-append out (at - from) (drop (from - at) xs) ys)
      go (no h) =
          let z : from - at ≡ length xs + (from - (at + length xs)) = omega arith in
          let y : at + length xs - from ≡ at - from = omega arith in
          rw (drop_of_length-le xs {i = from - at} (omega arith), y)
          (ap (λ (n : ℕ). sets out (at - from) (drop n (xs ++ ys))) z
          ∙ ap (λ (x : Bytes). sets out (at - from) x) (drop-append-add xs ys (from - (at + length xs))))

  pub seen_size : (out : Bytes) (at : ℕ) (t : Bytes) → length (seen from out at t) ≡ length out
  unfolding seen
  seen_size out at t = length-sets out (at - from) (drop (from - at) t)

  -- of a text that is written from its first byte on
  pub seen-laid : (t out : Bytes) → seen from out 0 t ≡ laid (drop from t) out
  unfolding seen
  seen-laid t out =
      let z : 0 - from ≡ 0 = omega arith in
      let y : from - 0 ≡ from = omega arith in
      rw (z, y) (sets-whole out (drop from t))

  -- from the buffer's first byte on
  pub seen-sets : (out : Bytes) (at : ℕ) (t : Bytes) → from ≤ at → sets out (at - from) t ≡ seen from out at t
  unfolding seen
  seen-sets out at t h =
      let z : from - at ≡ 0 = omega arith in
      rw z

  -- past the buffer's end
  pub seen-past : (out : Bytes) (at : ℕ) (t : Bytes) → length out ≤ at - from → out ≡ seen from out at t
  unfolding seen
  seen-past out at t h = sym (sets-past out (at - from) (drop (from - at) t) h)

-- ---- one text after the other
pub wrote-append : {from : ℕ} {before middle after xs ys : Bytes} {at next end : ℕ}
    → Wrote from before at xs middle next → Wrote from middle next ys after end → Wrote from before at (xs ++ ys) after end
wrote-append {from} {before} {middle} {after} {xs} {ys} {at} {next} {end} p q = record {
  place = q.place ∙ omega (arith, p.place, length-append xs ys);
  there = q.there ∙ rw (p.there, p.place) (sym (seen-append from before at xs ys));
}

pub wrote-size : {from : ℕ} {before after t : Bytes} {at next : ℕ} → Wrote from before at t after next → length after ≡ length before
wrote-size {from} {before} {after} {t} {at} w = ap length w.there ∙ seen_size from before at t

pub wrote_nothing : (from : ℕ) (out : Bytes) (at : ℕ) → Wrote from out at [] out at
unfolding seen
wrote_nothing from out at = record {
  place = omega arith;
  there = sym (sets-none out [] (at - from) (from - at) (omega arith));
}

-- as `write` and `write_field` answer
pub wrote : (from : ℕ) (before : Bytes) (at : ℕ) (t : Bytes) {after : Bytes} {count : ℕ} → (count ≡ length t) × (after ≡ seen from before at t)
    → Wrote from before at t after (at + count)
wrote from before at t e = record { place = ap (λ n. at + n) e.0; there = e.1 }

-- ---- a number and the byte after it
pub field-short : (n end : ℕ) → n < 2 ^ 64 → length (field n end) ≤ 21
field-short n end h = omega (arith, twenty-digits n h, length-append (decimal n) (end ∷ []))

module _ (n end : ℕ) (small : n < 2 ^ 64) (out : Bytes) (at : ℕ) (room : at + 21 ≤ length out) {middle : Bytes} {count : ℕ}
    (many : count ≡ length (decimal n)) (digits : middle ≡ put out at (decimal n)) where
  there : middle ≡ sets out at (decimal n)
  there = digits ∙ sym (put-fits out at (decimal n) (omega (arith, twenty-digits n small)))

  pub field_room : at + count < length middle
  field_room = omega (arith, many, twenty-digits n small, ap length there, length-sets out at (decimal n))

  pub field-count : count + 1 ≡ length (field n end)
  field-count = omega (arith, many, length-append (decimal n) (end ∷ []))

  pub field_stored : set middle (at + count) end ≡ sets out at (field n end)
  field_stored = rw (there, many) (sym (sets-append out at (decimal n) (end ∷ [])))

-- what was stored from the first place on is read back
module _ (t places : Bytes) (room : length t ≤ length places) {count : ℕ} {after : Bytes} (many : count ≡ length t) (stored : after ≡ sets places 0 t) where
  pub stored_there : count ≤ length after
  stored_there = omega (arith, ap length stored, length-sets places 0 t)

  pub stored-read : take count after ≡ t
  stored-read = rw (many, stored, sets-eq t places 0 (omega arith)) (take-append_seam t (drop (0 + length t) places))
