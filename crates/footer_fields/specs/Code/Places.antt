-- What the code that reads a footer's fields is given. Nothing here is promised to a caller.
-- Assumes nothing.
use Rattle.std.specs.Prelude.{ℕ, ◌+◌, ◌*◌, ◌≤◌, ◌≡◌, cond, List, eqb, length}
use Rattle.description.specs.declared.Description.{Description}
use Rattle.description.specs.Limits.{most_fields}
use Rattle.description.specs.Description.{bytes_of_box, sides_of}
use Rattle.boxes.specs.declared.Side.{Side}
use Rattle.boxes.specs.Boxes.{box_of}
use Rattle.footer.specs.declared.Checked.{Checked}
use Rattle.footer.specs.declared.Footer.{Footer}
use Rattle.footer.specs.Fields.{footer_bytes, domain_bytes}
use Rattle.footer.specs.Answer.{accepted_checked, accepted_footer, refused_footer}

-- the small answer of a footer that is there whole
abbrev pub Whole : Description → List ℕ → Checked → Type 0
Whole d footer checked =
    (checked ≡ accepted_checked d footer) × (d.fields ≤ most_fields) × (length footer ≡ footer_bytes d footer)

-- the large answer by the small one
abbrev pub footer_of : Description → List ℕ → Checked → Footer
footer_of d footer checked =
    cond (eqb checked.number 0) (accepted_footer d footer) (refused_footer checked.number checked.place)

-- the small answer and the domain of a footer whose fields are all there
abbrev pub ReadOf : Description → List ℕ → Checked → List Side → Type 0
ReadOf d footer checked domain =
    (checked ≡ accepted_checked d footer)
    × (domain ≡ box_of d.kinds (sides_of d.dimensions) (domain_bytes d footer))
    × (d.fields ≤ most_fields)
    × (2 ≤ checked.domain)
    × (checked.domain + bytes_of_box d + 50 + 88 * d.fields ≡ length footer)
