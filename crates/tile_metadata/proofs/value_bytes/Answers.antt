-- `tile_metadata::value_bytes` meets its contract: where the word of eight bytes that a value ends in is there, so is
-- the value, and where a value starts past the end there is nothing. Assumes nothing.
use Rattle.std.proofs.Common.{◌≡◌, ◌+◌, ◌*◌, ◌-◌, ◌/◌, ◌≤◌, ◌<◌, ◌∙◌, ℕ, List, [], sym, refl, arith, min, length}
use Rattle.std.proofs.Common.{take, drop, add-zero, length-drop, take_all}
use Rattle.std.proofs.Math.Nat.{lt-div-mul-add, div-mul-le_self, le-div_iff_mul-le, min-eq_left, min-eq_right}
use native.Mathlib.Nat.{mul-le-mul, le_refl}
use native.Mathlib.Decide.{dec_lt}
use Rattle.order.specs.Little.{little}
use Rattle.order.proofs.Little.{little-past, little-drop}
use Rattle.tile_metadata.proofs.Asked.{value_there, value-past}
use Rattle.tile_metadata.proofs.value_bytes.Goals as goal

-- a value ends no later than the word that it ends in
reach : (w i : ℕ) → 1 ≤ w → w ≤ 8 → w * i + w ≤ 8 * (i / (8 / w)) + 8
reach w i some most =
    let k = 8 / w in
    let one : 1 ≤ k = (le-div_iff_mul-le {k = w} {x = 1} {y = 8} some).1 (omega arith) in
    let next : i + 1 ≤ i / k * k + k = omega (arith, lt-div-mul-add {a = i} {b = k} one) in
    let fit : k * w ≤ 8 = div-mul-le_self 8 w in
    omega (arith, mul-le-mul (le_refl w) next, mul-le-mul (le_refl (i / k)) fit, fit)

-- what is left from a place on, or from the end
left : (s : List ℕ) (a w : ℕ) → little (take (length s - a) (drop a s)) 0 w ≡ little s a w
left s a w =
    let short : length (drop a s) ≤ length s - a = rw length-drop (le_refl (length s - a)) in
    rw (take_all (length s - a) (drop a s) short) (rw add-zero at (little-drop s a 0 w))

cut : (s : List ℕ) (a w : ℕ) → little s (min a (length s)) w ≡ little s a w
cut s a w = go (dec_lt a (length s))
  where
    go : Dec (a < length s) → little s (min a (length s)) w ≡ little s a w
    go (yes h) = let short : a ≤ length s = omega arith in rw (min-eq_left short) refl
    go (no h) =
        let past : length s ≤ a = omega arith in
        rw (min-eq_right past) (little-past s (length s) w (le_refl (length s)) ∙ sym (little-past s a w past))

pub returns-then-tiles-i : goal.returns-then-tiles-i
returns-then-tiles-i c = little-past [] 0 c.args.width (omega arith) ∙ value-past _ _ _ _ c.if-tiles-i.true

pub own_bytes-requires : goal.own_bytes-requires
own_bytes-requires c =
    let a = c.args in
    omega (arith, reach a.width a.i c.requires.some c.requires.most, c.if-word-length.true)

pub returns-then-word-length : goal.returns-then-word-length
returns-then-word-length c = c.own_bytes.ensures ∙ value_there _ _ _ _ c.if-tiles-i.false

pub returns-then-length-width : goal.returns-then-length-width
returns-then-length-width c =
    let a = c.args in
    let n = length a.body.now in
    let after = lt-div-mul-add {a = n} c.requires.some in
    let low = mul-le-mul (le_refl a.width) c.if-length-width.true in
    let past : n ≤ 8 + a.width * a.i = omega (arith, after, low, c.requires.most) in
    little-past [] 0 a.width (omega arith) ∙ sym (little-past a.body.now (8 + a.width * a.i) a.width past)
    ∙ value_there _ _ _ _ c.if-tiles-i.false

pub returns : goal.returns
returns c =
    let a = c.args in
    rw c.min.ensures
    (left a.body.now (min (8 + a.width * a.i) (length a.body.now)) a.width
    ∙ cut a.body.now (8 + a.width * a.i) a.width
    ∙ value_there _ _ _ _ c.if-tiles-i.false)
