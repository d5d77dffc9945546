-- The widened footer is stored in four pieces (`footer-stored`); and what converting a footer answers, by what its
-- check told.
-- Assumes nothing.
use mathlib.Core.Path.{◌≡◌, sym, ap, ◌∙◌}
use mathlib.Core.List.{List, ◌++◌, append_assoc}
use Prim.Native.Nat.{ℕ, ◌+◌, ◌-◌, ◌*◌, ◌≤◌, ◌<◌}
use native.Mathlib.Nat.{zero-add}
use native.Mathlib.Omega.{arith}
use lib.ListN.{length, take, drop, length-append, length-take, length-drop}
use lib.Seq.{sets, sets-eq}
use Rattle.answers.specs.Refusals as refusals
use Rattle.order.specs.Little.{bytes_of}
use Rattle.description.specs.declared.Description.{Description}
use Rattle.description.specs.Description.{sides_of, bytes_of_box}
use Rattle.footer.specs.declared.Checked.{Checked}
use Rattle.footer.specs.Fields.{start, name_size_of}
use Rattle.footer.specs.Checks.{sparse_by, footer_refusal_by}
use Rattle.footer.specs.Answer.{refused_checked, checked_answer_by}
use Rattle.footer.proofs.Fields.{footer-bytes, start-domain, start-tiles, length_last}
use Rattle.footer.proofs.Passed.{PassedBy, passed-by, number_by, refused-by, ready_by}
use Rattle.description.specs.Rules.{before}
use Rattle.widened.specs.Widened.{widened_description, widened_box}
use Rattle.widened.specs.Footers.{widened_fields, widened_footer, footer_converted, footer_buffer}
use Rattle.widened.proofs.Boxes.{box-length}
use Rattle.widened.proofs.Footers.{size, size'}
use Rattle.widened.proofs.Answered as answered
use Rattle.order.proofs.Stores.{store_both}
use Rattle.converter.specs.Code.Levels.{FooterFilling}

-- a piece after those from the start of the buffer
store-on : (l xs : List ℕ) (m : ℕ) (ys mid new : List ℕ) → length xs ≡ m → mid ≡ sets l 0 xs → new ≡ sets mid m ys → new ≡ sets l 0 (xs ++ ys)
store-on l xs m ys mid new h e p =
    p ∙ rw e (ap (λ (k : ℕ). sets (sets l 0 xs) k ys) (sym (zero-add m)) ∙ store_both l 0 xs m ys h)

module _ {d : Description} {domain old_bytes wide : ℕ} {footer out : List ℕ} (z : FooterFilling d domain old_bytes wide footer out) where
  abbrev s : ℕ
  s = name_size_of footer

  o : PassedBy (sparse_by before d) d z.file footer
  o = passed-by (sparse_by before d) d z.file footer z.checked

  abbrev after : ℕ
  after = 42 + 88 * d.fields

  abbrev r : ℕ
  r = length footer - 8 - (domain + old_bytes)

  -- where the pieces stand
  pub places : (domain ≡ 14 + name_size_of footer) × (length footer ≡ domain + old_bytes + (42 + 88 * d.fields) + 8)
      × (length (widened_footer d footer) ≡ domain + wide + (42 + 88 * d.fields) + 8)
  places =
      let at : domain ≡ 14 + s = z.starts ∙ start-domain d footer in
      (at, omega (arith, at, size d z.file footer o, z.own), omega (arith, at, size' d z.file footer o, z.new))

  abbrev front : List ℕ
  front = take domain footer

  abbrev box : List ℕ
  box = widened_box d.kinds (sides_of d.dimensions) (take old_bytes (drop domain footer))

  abbrev rest : List ℕ
  rest = take r (drop (domain + old_bytes) footer)

  front_long : length front ≡ domain
  front_long = simp length-take (omega (arith, places))

  pub box-whole : length (take (domain + old_bytes - domain) (drop domain footer)) ≡ bytes_of_box d
  box-whole = simp (length-take, length-drop) (omega (arith, places, z.own))

  box-long : length box ≡ wide
  unfolding bytes_of_box
  box-long =
      let own = z.own in
      let there : length (take old_bytes (drop domain footer)) ≡ bytes_of_box d = simp (length-take, length-drop) (omega (arith, places)) in
      box-length d.kinds (sides_of d.dimensions) (take old_bytes (drop domain footer)) there ∙ sym z.new

  rest-long : length rest ≡ r
  rest-long = simp (length-take, length-drop) (omega (arith, places))

  fields-are : widened_fields d footer ≡ front ++ (box ++ rest)
  unfolding widened_fields
  fields-are =
      let tiles : start d footer "tiles" ≡ domain + old_bytes = omega (arith, start-tiles d footer, places, z.own) in
      let between : start d footer "length" - start d footer "tiles" ≡ r =
      omega (arith, tiles, length_last d footer, footer-bytes d footer, places, z.own) in
      rw (between, tiles, ← z.starts, ← z.own)

  pub footer-stored : (a b c new : List ℕ) → a ≡ sets out 0 (take (domain - 0) (drop 0 footer))
      → b ≡ sets a domain (widened_box d.kinds (sides_of d.dimensions) (take (domain + old_bytes - domain) (drop domain footer)))
      → c ≡ sets b (domain + wide) (take (length footer - 8 - (domain + old_bytes)) (drop (domain + old_bytes) footer))
      → new ≡ sets c (domain + wide + (length footer - 8 - (domain + old_bytes))) (bytes_of 8 (domain + wide + (length footer - 8 - (domain + old_bytes))))
      → new ≡ widened_footer d footer ++ drop (length (widened_footer d footer)) out
  footer-stored a b c new ea eb ec en =
      let from : domain - 0 ≡ domain = omega arith in
      let w : domain + old_bytes - domain ≡ old_bytes = omega arith in
      let one : a ≡ sets out 0 front = ea ∙ rw from in
      let two : b ≡ sets out 0 (front ++ box) = store-on out front domain box a b front_long one (rw w at eb) in
      let long2 : length (front ++ box) ≡ domain + wide = simp length-append (omega (arith, front_long, box-long)) in
      let three : c ≡ sets out 0 ((front ++ box) ++ rest) = store-on out (front ++ box) (domain + wide) rest b c long2 two ec in
      let long3 : length ((front ++ box) ++ rest) ≡ domain + wide + r = length-append (front ++ box) rest ∙ omega (arith, long2, rest-long) in
      let four = store-on out ((front ++ box) ++ rest) (domain + wide + r) (bytes_of 8 (domain + wide + r)) c new long3 three en in
      let fields : (front ++ box) ++ rest ≡ widened_fields d footer = append_assoc front box rest ∙ sym fields-are in
      let all : length (widened_fields d footer) ≡ domain + wide + r = ap length (sym fields) ∙ long3 in
      let whole : ((front ++ box) ++ rest) ++ bytes_of 8 (domain + wide + r) ≡ widened_footer d footer = rw (fields, ← all) in
      four ∙ rw whole (sets-eq (widened_footer d footer) out 0 (omega (arith, z.room)) ∙ rw zero-add)

-- by what the footer's check told
module _ (d : Description) (F : ℕ) (footer : List ℕ) (c : Checked) (e : c ≡ checked_answer_by before d F footer) where
  same_number : c.number ≡ (footer_refusal_by before d F footer).number
  same_number = ap (λ (x : Checked). x.number) e ∙ number_by (sparse_by before d) d F footer

  module _ (h : c.number ≡ 0 → ⊥) where
    no : (footer_refusal_by before d F footer).number ≡ 0 → ⊥
    no x = h (same_number ∙ x)

    same_place : c.place ≡ (footer_refusal_by before d F footer).place
    unfolding refused_checked
    same_place = ap (λ (x : Checked). x.place) (e ∙ refused-by (sparse_by before d) d F footer no)

    pub footer-refused : (room : ℕ) → record { number = c.number; place = c.place; which = 0; length = 0 } ≡ footer_converted d F footer room
    unfolding footer_converted
    footer-refused room = rw (same_number, same_place) (sym (answered.refused _ _ 0 (widened_footer d footer) no room))

    pub footer-kept : (out : List ℕ) → out ≡ footer_buffer d F footer out
    unfolding footer_buffer
    footer-kept out = sym (answered.kept _ _ 0 (widened_footer d footer) no out)

  module _ (h : c.number ≡ 0) where
    pub clear : (footer_refusal_by before d F footer).number ≡ 0
    clear = sym same_number ∙ h

    pub domain-is : c.domain ≡ start d footer "domain"
    domain-is = (ready_by (sparse_by before d) d F footer c e h).domain

    -- the length that is worked out
    pub footer-length : (old_bytes wide : ℕ) → old_bytes ≡ bytes_of_box d → wide ≡ bytes_of_box (widened_description d)
        → (old_bytes ≤ length footer) × (length footer - old_bytes + wide ≡ length (widened_footer d footer))
    footer-length old_bytes wide own new =
        let o = passed-by (sparse_by before d) d F footer clear in
        (omega (arith, size d F footer o), omega (arith, size d F footer o, size' d F footer o))

    module _ (whole : ℕ) (same : whole ≡ length (widened_footer d footer)) where
      pub footer-short : (room : ℕ) → room < whole → record { number = refusals.room; place = 0; which = 0; length = 0 } ≡ footer_converted d F footer room
      unfolding footer_converted
      footer-short room l = sym (answered.short _ _ 0 (widened_footer d footer) clear room (omega arith))

      pub footer-short-kept : (out : List ℕ) → length out < whole → out ≡ footer_buffer d F footer out
      unfolding footer_buffer
      footer-short-kept out l = sym (answered.short-kept _ _ 0 (widened_footer d footer) clear out (omega arith))

      pub footer-told : (room : ℕ) → whole ≤ room → record { number = 0; place = 0; which = 0; length = whole } ≡ footer_converted d F footer room
      unfolding footer_converted
      footer-told room l = rw same (sym (answered.told _ _ 0 (widened_footer d footer) clear room (omega arith)))

      pub footer-filled : (out new : List ℕ) → whole ≤ length out → new ≡ widened_footer d footer ++ drop (length (widened_footer d footer)) out → new ≡ footer_buffer d F footer out
      unfolding footer_buffer
      footer-filled out new l p = p ∙ sym (answered.laid_out _ _ 0 (widened_footer d footer) clear out (omega arith))
