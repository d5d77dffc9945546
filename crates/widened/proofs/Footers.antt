-- Is there a footer that the widened tree is accepted with? The old one with its domain widened is, in a file that is
-- longer by as much as the domain grew (`footer-accepted`): the fields before the domain stand where they stood, those
-- after it have moved together, each passes the check that it passed, and the length field is the new one. So where
-- opening took the old pair, it takes the widened pair, and answers the same n, f and L (`pair-opens`).
-- Assumes nothing.
use mathlib.Core.Path.{◌≡◌, refl, sym, ap, ◌∙◌}
use mathlib.Core.Bool.{Bool, true, false, not}
use mathlib.Core.List.{List, ◌++◌, append_assoc}
use Prim.Native.Nat.{ℕ, ◌+◌, ◌-◌, ◌*◌, ◌^◌, ◌≤◌, ◌<◌}
use native.Mathlib.Nat.{add-zero}
use native.Mathlib.Omega.{arith}
use lib.Dec.{ltb, eqb}
use lib.ListN.{length, get_or, take, drop, length-append, length-take, length-drop}
use lib.Seq.{take_at, drop_at, take_all, drop-drop, get_or-take, get_or-drop}
use borrow.Author.Tests.{eq-eqb, not-false, ltb-true, lt-ltb, le-ltb}
use Rattle.answers.specs.Refusals.{none}
use Rattle.answers.specs.Refusals as refusals
use Rattle.answers.specs.Checks.{check, first}
use Rattle.answers.specs.declared.Refusal.{Refusal}
use Rattle.answers.proofs.Checks.{check-clear, past, past-check, ended, each-clear, all-clear}
use Rattle.answers.proofs.Joined.{part-of-part, part_in}
use Rattle.order.specs.Little.{little, bytes_of}
use Rattle.order.proofs.Bytes.{bytes-length, little-same, little-found}
use Rattle.description.specs.declared.Description.{Description}
use Rattle.description.specs.Limits.{least_version, most_version, least_name, most_name, least_tiles, most_tiles, outside}
use Rattle.description.specs.Description.{side_start, sides_of, bytes_of_box}
use Rattle.description.specs.Rules.{current, before}
use Rattle.description.proofs.Limits.{not-outside}
use Rattle.boxes.specs.Boxes.{ranges_refusal}
use Rattle.footer.specs.Fields.{start, footer_bytes, name_size_of, byte_of, number_of, tiles_of, last_cells_of, domain_bytes}
use Rattle.footer.specs.Fields.{no_flag, flag_is, number_outside, file_offsets_refusal}
use Rattle.footer.specs.declared.Entry.{Entry}
use Rattle.footer.specs.Checks.{sparse_by, footer_refusal}
use Rattle.footer.specs.Code.Places.{head_checks, size_checks, checks_before_tiles, checks_from_tiles}
use Rattle.footer.proofs.Fields.{footer-bytes, start-dense, start-domain, start-tiles, null-domain-next, length_last, After, after}
use Rattle.footer.proofs.Offsets.{offsets_run}
use Rattle.footer.proofs.Parts.{footer-parts}
use Rattle.footer.proofs.Passed.{PassedBy, passed-by}
use Rattle.rtree.specs.Opening.{open_answer, open_answer_by}
use Rattle.rtree.proofs.Passed.{box-bytes-most}
use Rattle.rtree.proofs.Nested.{opened-by}
use Rattle.widened.specs.Widened.{widened_description, widened_box, widened_body}
use Rattle.widened.specs.Footers.{widened_fields, widened_footer}
use Rattle.widened.proofs.Boxes.{box-length, box-sound}
use Rattle.widened.proofs.Windows.{limits-widened, widened-unretired}
use Rattle.widened.proofs.Tree.{tree-root}
use Rattle.widened.proofs.Opened.{accepted-answer, opened-passed, widened-opens, root-held}

-- a byte that stands at two places
byte-same : (s t : List ℕ) (at to : ℕ) → take 1 (drop at s) ≡ take 1 (drop to t) → get_or s at 0 ≡ get_or t to 0
byte-same s t at to e = sym (own s at) ∙ ap (λ (l : List ℕ). get_or l 0 0) e ∙ own t to
  where
    own : (l : List ℕ) (k : ℕ) → get_or (take 1 (drop k l)) 0 0 ≡ get_or l k 0
    own l k = get_or-take 1 (drop k l) 0 0 (omega arith) ∙ get_or-drop k l 0 0 ∙ rw add-zero

-- a check passes wherever it is placed
placed : (t : Bool) (number from to : ℕ) → (check t number from).number ≡ 0 → (check t number to).number ≡ 0
placed true number from to h = h
placed false number from to h = h

module _ (s t : List ℕ) (at to : ℕ) where
  flag-kept : get_or s at 0 ≡ get_or t to 0 → (no_flag t to).number ≡ 0 → (no_flag s at).number ≡ 0
  unfolding no_flag
  flag-kept e h = rw e (placed (ltb 1 (get_or t to 0)) refusals.flag to at h)

  is-kept : (flag number : ℕ) → get_or s at 0 ≡ get_or t to 0 → (flag_is t flag number to).number ≡ 0 → (flag_is s flag number at).number ≡ 0
  unfolding flag_is
  is-kept flag number e h = rw e (placed (eqb (get_or t to 0) flag) number to at h)

  number-kept : (width least most number : ℕ) → little s at width ≡ little t to width
      → (number_outside t width least most number to).number ≡ 0 → (number_outside s width least most number at).number ≡ 0
  unfolding number_outside
  number-kept width least most number e h = rw e (placed (outside least most (little t to width)) number to at h)

  offsets-kept : (limit limit' count : ℕ) → limit ≤ limit'
      → ((i : ℕ) → i < count → little s (at + 8 * i) 8 ≡ little t (to + 8 * i) 8)
      → (file_offsets_refusal t limit count to).number ≡ 0 → file_offsets_refusal s limit' count at ≡ none
  unfolding file_offsets_refusal
  offsets-kept limit limit' count most same h =
      all-clear _ 0 count (λ i a l.
      let here = same i (omega arith) in
      let under = ltb-true (little t (to + 8 * i) 8) limit (not-false _ (check-clear _ refusals.offset _ (omega arith) (each-clear _ 0 count h i a l))) in
      rw (lt-ltb (little s (at + 8 * i) 8) limit' (omega arith)))

-- a number that is within its limits passes
number-passes : (s : List ℕ) (width least most number at : ℕ) → least ≤ little s at width → little s at width ≤ most
    → (number_outside s width least most number at).number ≡ 0
unfolding number_outside
number-passes s width least most number at a b = rw (not-outside least most (little s at width) a b)

-- ---- the widened footer
module _ (d : Description) (F : ℕ) (footer : List ℕ) (p : PassedBy (sparse_by before d) d F footer) where
  abbrev s : ℕ
  s = name_size_of footer

  abbrev m : ℕ
  m = sides_of d.dimensions

  abbrev d' : Description
  d' = widened_description d

  abbrev footer' : List ℕ
  footer' = widened_footer d footer

  -- the bytes of the fields after the domain, up to the length field
  abbrev behind : ℕ
  behind = 42 + 88 * d.fields

  pub size : length footer ≡ 14 + s + bytes_of_box d + (behind + 8)
  size = p.all-bytes ∙ omega (arith, footer-bytes d footer)

  late-fields : After d footer (start d footer "tiles") d.fields
  late-fields = after d footer (start d footer "tiles") d.fields refl refl

  abbrev front : List ℕ
  front = take (14 + s) footer

  abbrev box : List ℕ
  box = widened_box d.kinds m (domain_bytes d footer)

  abbrev rest : List ℕ
  rest = take behind (drop (14 + s + bytes_of_box d) footer)

  abbrev last : List ℕ
  last = bytes_of 8 (length (widened_fields d footer))

  fields-are : widened_fields d footer ≡ front ++ (box ++ rest)
  unfolding widened_fields
  fields-are =
      let between : start d footer "length" - start d footer "tiles" ≡ behind =
      omega (arith, length_last d footer, footer-bytes d footer, start-tiles d footer) in
      rw (between, start-domain d footer, start-tiles d footer)

  pub domain-length : length (domain_bytes d footer) ≡ bytes_of_box d
  domain-length = simp (length-take, length-drop) (omega (arith, size, start-domain d footer))

  domain-sides : length (domain_bytes d footer) ≡ side_start d.kinds m
  unfolding bytes_of_box
  domain-sides = domain-length

  front_length : length front ≡ 14 + s
  front_length = simp length-take (omega (arith, size))

  wide-length : length box ≡ bytes_of_box d'
  unfolding bytes_of_box
  wide-length = box-length d.kinds m (domain_bytes d footer) domain-length

  rest-length : length rest ≡ behind
  rest-length = simp (length-take, length-drop) (omega (arith, size))

  pub fields-length : length (widened_fields d footer) ≡ 14 + s + bytes_of_box d' + behind
  fields-length =
      rw fields-are (length-append front (box ++ rest) ∙ omega (arith, length-append box rest, front_length, wide-length, rest-length))

  -- the pieces one after the other
  whole : footer' ≡ front ++ (box ++ (rest ++ last))
  whole =
      ap (λ (l : List ℕ). l ++ last) fields-are
      ∙ append_assoc front (box ++ rest) last
      ∙ ap (λ (l : List ℕ). front ++ l) (append_assoc box rest last)

  from-domain : drop (14 + s) footer' ≡ box ++ (rest ++ last)
  from-domain = ap (drop (14 + s)) whole ∙ drop_at front (box ++ (rest ++ last)) (14 + s) front_length

  from-tiles : drop (14 + s + bytes_of_box d') footer' ≡ rest ++ last
  from-tiles =
      sym (drop-drop (bytes_of_box d') (14 + s) footer')
      ∙ ap (drop (bytes_of_box d')) from-domain
      ∙ drop_at box (rest ++ last) (bytes_of_box d') wide-length

  -- a part before the domain stands where it stood, and one after it has moved with it
  pub early : (k w : ℕ) → k + w ≤ 14 + s → take w (drop k footer') ≡ take w (drop k footer)
  early k w l =
      let same : take (14 + s) footer' ≡ front = ap (take (14 + s)) whole ∙ take_at front (box ++ (rest ++ last)) (14 + s) front_length in
      sym (part-of-part footer' k w (14 + s) l) ∙ rw same (part-of-part footer k w (14 + s) l)

  pub late : (k w : ℕ) → k + w ≤ behind → take w (drop (14 + s + bytes_of_box d' + k) footer') ≡ take w (drop (14 + s + bytes_of_box d + k) footer)
  late k w l =
      let same : take behind (drop (14 + s + bytes_of_box d') footer') ≡ rest = rw from-tiles (take_at rest last behind rest-length) in
      sym (part_in footer' (14 + s + bytes_of_box d') k w behind l) ∙ rw same (part_in footer (14 + s + bytes_of_box d) k w behind l)

  pub same_name : name_size_of footer' ≡ name_size_of footer
  same_name = little-same footer' footer 4 4 8 (early 4 8 (omega arith))

  tiles-start : start d' footer' "tiles" ≡ 14 + s + bytes_of_box d'
  tiles-start = omega (arith, start-tiles d' footer', same_name)

  late-fields' : After d' footer' (start d' footer' "tiles") d.fields
  late-fields' = after d' footer' (start d' footer' "tiles") d.fields refl refl

  -- a number, and a byte, so many bytes after the tile number's start
  pub moved : (k w : ℕ) → k + w ≤ 42 + 88 * d.fields
      → little footer' (start d' footer' "tiles" + k) w ≡ little footer (start d footer "tiles" + k) w
  moved k w l = rw (tiles-start, start-tiles d footer) (little-same footer' footer _ _ w (late k w l))

  moved-byte : (k : ℕ) → k + 1 ≤ behind → get_or footer' (start d' footer' "tiles" + k) 0 ≡ get_or footer (start d footer "tiles" + k) 0
  moved-byte k l = rw (tiles-start, start-tiles d footer) (byte-same footer' footer _ _ (late k 1 l))

  pub same_version : little footer' (start d' footer' "version") 4 ≡ little footer (start d footer "version") 4
  unfolding start
  same_version = little-same footer' footer 0 0 4 (early 0 4 (omega arith))

  same-name-size : number_of d' footer' "name size" ≡ number_of d footer "name size"
  unfolding start
  same-name-size = same_name

  pub same-dense : byte_of d' footer' "dense" ≡ byte_of d footer "dense"
  same-dense =
      rw (start-dense d' footer', same_name, start-dense d footer) (byte-same footer' footer (12 + s) (12 + s) (early (12 + s) 1 (omega arith)))

  pub same-null : byte_of d' footer' "null domain" ≡ byte_of d footer "null domain"
  same-null =
      rw (← (null-domain-next d' footer'), ← (null-domain-next d footer), start-dense d' footer', same_name, start-dense d footer)
      (byte-same footer' footer (12 + s + 1) (12 + s + 1) (early (12 + s + 1) 1 (omega arith)))

  pub same-tiles : tiles_of d' footer' ≡ tiles_of d footer
  same-tiles = rw (add-zero (start d' footer' "tiles"), add-zero (start d footer "tiles")) at (moved 0 8 (omega arith))

  pub same-cells : last_cells_of d' footer' ≡ last_cells_of d footer
  same-cells = rw (← late-fields'.last-cells, ← late-fields.last-cells) (moved 8 8 (omega arith))

  pub same-timestamps : byte_of d' footer' "timestamps" ≡ byte_of d footer "timestamps"
  same-timestamps = rw (← late-fields'.timestamps, ← late-fields.timestamps) (moved-byte 16 (omega arith))

  pub same-deletes : byte_of d' footer' "deletes" ≡ byte_of d footer "deletes"
  same-deletes = rw (← late-fields'.deletes, ← late-fields.deletes) (moved-byte 17 (omega arith))

  pub size' : length footer' ≡ 14 + s + bytes_of_box d' + (behind + 8)
  size' = length-append (widened_fields d footer) _ ∙ omega (arith, fields-length, bytes-length 8 (length (widened_fields d footer)))

  total' : footer_bytes d' footer' ≡ 14 + s + bytes_of_box d' + (behind + 8)
  total' = omega (arith, footer-bytes d' footer', same_name)

  pub wide-domain : domain_bytes d' footer' ≡ widened_box d.kinds (sides_of d.dimensions) (domain_bytes d footer)
  wide-domain = rw (start-domain d' footer', same_name, from-domain) (take_at box (rest ++ last) (bytes_of_box d') wide-length)

  pub length-field : little footer' (start d' footer' "length") 8 ≡ length (widened_fields d footer)
  length-field =
      let x = length (widened_fields d footer) in
      let small : x < 256 ^ 8 =
      omega (arith, fields-length, p.head.most-name, box-bytes-most d', p.head.description.most-fields) in
      let found : take 8 (drop x footer') ≡ bytes_of 8 x =
      rw (drop_at (widened_fields d footer) (bytes_of 8 x) x refl) (take_all 8 (bytes_of 8 x) (omega (arith, bytes-length 8 x))) in
      let here : start d' footer' "length" ≡ x = omega (arith, length_last d' footer', total', fields-length) in
      rw here (little-found footer' x 8 x small found)

  -- ---- its checks, in the parts that they are gone through
  abbrev own : Entry
  own = sparse_by current d'

  head-none : first (head_checks own d' footer') ≡ none
  head-none =
      let number : Refusal → ℕ = λ e. e.number in
      past _ _ (ap number (limits-widened d) ∙ p.head.limits)
      ∙ past _ _ (ap number (widened-unretired d).silent)
      ∙ past-check _ _ _ _ (le-ltb (length footer') 12 (omega (arith, size')))
      ∙ past _ _ (number-kept footer' footer (start d' footer' "version") (start d footer "version") 4 least_version most_version refusals.version
      same_version p.head.version)
      ∙ past _ _ (number-kept footer' footer (start d' footer' "name size") (start d footer "name size") 8 least_name most_name refusals.the_name_size
      same-name-size p.head.name-size)
      ∙ ended

  before-none : first (checks_before_tiles own d' footer') ≡ none
  before-none =
      past _ _ (flag-kept footer' footer _ _ same-dense p.dense)
      ∙ past _ _ (is-kept footer' footer _ _ 1 refusals.dense same-dense p.not_flag)
      ∙ past _ _ (flag-kept footer' footer _ _ same-null p.null-domain)
      ∙ past _ _ (is-kept footer' footer _ _ 1 refusals.the_null_domain same-null p.not_null)
      ∙ past _ _ (ap (λ (r : Refusal). r.number) sound)
      ∙ ended
    where
      sound : ranges_refusal d'.kinds m (domain_bytes d' footer') (start d' footer' "domain") ≡ none
      sound = rw wide-domain (box-sound d.kinds m (domain_bytes d footer) domain-sides (start d footer "domain") (start d' footer' "domain") p.ranges)

  module _ (F' : ℕ) (more : F + bytes_of_box (widened_description d) ≤ F' + bytes_of_box d) where
    sizes-none : first (size_checks own d' footer' F') ≡ none
    sizes-none =
        let all : not (eqb (length footer') (footer_bytes d' footer')) ≡ false = rw (eq-eqb _ _ (size' ∙ sym total')) in
        let total = footer-bytes d footer in
        let in-file = p.in-file in
        past-check _ _ _ _ all ∙ past-check _ _ _ _ (le-ltb F' (footer_bytes d' footer') (omega (arith, total'))) ∙ ended

    offsets-none : file_offsets_refusal footer' (F' - footer_bytes d' footer') (8 * d.fields + 3) (start d' footer' "R-tree") ≡ none
    offsets-none =
        offsets-kept footer' footer (start d' footer' "R-tree") (start d footer "R-tree") (F - footer_bytes d footer) (F' - footer_bytes d' footer') (8 * d.fields + 3)
        (omega (arith, total', footer-bytes d footer)) entry p.offsets
      where
        entry : (i : ℕ) → i < 8 * d.fields + 3 → little footer' (start d' footer' "R-tree" + 8 * i) 8 ≡ little footer (start d footer "R-tree" + 8 * i) 8
        entry i l =
            let t = 18 + 24 * d.fields + 8 * i in
            let there : start d' footer' "R-tree" + 8 * i ≡ start d' footer' "tiles" + t = omega (arith, late-fields'.rtree) in
            let here : start d footer "R-tree" + 8 * i ≡ start d footer "tiles" + t = omega (arith, late-fields.rtree) in
            rw (there, here) (moved t 8 (omega arith))

    from-none : first (checks_from_tiles own d' footer' F') ≡ none
    from-none =
        let number : Refusal → ℕ = λ e. e.number in
        let cells = p.last refl in
        let less : length (widened_fields d footer) ≡ footer_bytes d' footer' - 8 = omega (arith, fields-length, total') in
        let field : not (eqb (little footer' (start d' footer' "length") 8) (footer_bytes d' footer' - 8)) ≡ false =
        rw (eq-eqb _ _ (length-field ∙ less)) in
        past _ _ (number-passes footer' 8 least_tiles most_tiles refusals.tiles (start d' footer' "tiles") (rw same-tiles p.some-tiles) (rw same-tiles p.most-tiles))
        ∙ past _ _ (number-passes footer' 8 1 d.capacity refusals.the_last_cells (start d' footer' "last cells") (rw same-cells cells.0) (rw same-cells cells.1))
        ∙ past _ _ (flag-kept footer' footer _ _ same-timestamps p.timestamps)
        ∙ past _ _ (flag-kept footer' footer _ _ same-deletes p.deletes)
        ∙ offsets_run own d' F' footer'
        ∙ past _ _ (ap number offsets-none)
        ∙ past-check _ _ _ _ field
        ∙ ended

    -- In a file that is longer by at least as much as the domain grew, the widened footer is accepted.
    pub footer-accepted : footer_refusal (widened_description d) F' (widened_footer d footer) ≡ none
    footer-accepted = footer-parts own d' F' footer' ∙ rw (head-none, sizes-none, before-none, from-none)

-- Where opening took the old pair just before float32 was retired, it takes the widened pair, in a file that is longer
-- by at least as much as the domain grew, and answers the same n, f and L.
pub pair-opens : (d : Description) (F : ℕ) (footer body : List ℕ) → (open_answer_by before d F footer body).number ≡ 0
    → (F' : ℕ) → F + bytes_of_box (widened_description d) ≤ F' + bytes_of_box d
    → open_answer (widened_description d) F' (widened_footer d footer) (widened_body d (tiles_of d footer) body) ≡ open_answer_by before d F footer body
pair-opens d F footer body h F' more =
    let p = passed-by (sparse_by before d) d F footer (opened-by before d F footer body h).0 in
    let t = opened-passed d F footer body h in
    let root = tree-root d (tiles_of d footer) body t in
    widened-opens d F footer body h F' (widened_footer d footer)
    (ap (λ (r : Refusal). r.number) (footer-accepted d F footer p F' more)) (same-tiles d F footer p)
    (rw (root, wide-domain d F footer p) (root-held d F footer body h (domain-length d F footer p)))
    ∙ rw (← t.leveled) (sym (accepted-answer before d F footer body h))
