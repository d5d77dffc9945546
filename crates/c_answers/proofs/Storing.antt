-- How many places have a footer's numbers and its domain? Assumes nothing.
use mathlib.Core.Path.{◌≡◌, refl}
use mathlib.Core.List.{List}
use lib.ListN.{length}
use Rattle.answers.specs.Runs.{over}
use Rattle.boxes.specs.declared.Side.{Side}
use Rattle.footer.specs.declared.Footer.{Footer}
use Rattle.c_answers.specs.Places.{number_places, range_places, domain_places}

pub numbers-long : (f : Footer) → length (number_places f) ≡ 14
unfolding number_places
numbers-long f = refl

pub domain-long : (sides : List Side) → length (domain_places sides) ≡ 12
unfolding domain_places range_places over
domain-long sides = refl
