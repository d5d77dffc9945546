-- The box test by itself, on the bytes of one box.
-- Assumes nothing.
use Rattle.std.specs.Prelude.{ℕ, ◌+◌, ◌<◌, ◌≡◌, Bool, true, false, not, cond, List, [], ◌∷◌, eqb, length}
use Rattle.answers.specs.Refusals as refusals
use Rattle.answers.specs.Checks.{check, first}
use Rattle.answers.specs.declared.Refusal.{Refusal}
use Rattle.description.specs.declared.Description.{Description}
use Rattle.description.specs.Description.{sides_of, bytes_of_box}
use Rattle.description.specs.Rules.{Rules, current, described_by}
use Rattle.ranges.specs.Ranges.{ends_of, meets}
use Rattle.boxes.specs.declared.Window.{Window}
use Rattle.boxes.specs.Boxes.{range_in, side_at, box_meets, box_read}
use Rattle.boxes.specs.Windows.{window_refusal}
use Rattle.query.specs.declared.BoxTest.{BoxTest}
use Rattle.query.specs.declared.Tested.{Tested}

module _ (rules : Rules) (d : Description) (bytes : List ℕ) (w : Window) where
  -- 1, and what the rules say after it; the query; and then 2 for bytes that are not B
  unfoldable pub box_test_refusal_by : Refusal
  box_test_refusal_by = first (
      described_by rules d
      ∷ window_refusal d w
      ∷ check (not (eqb (length bytes) (bytes_of_box d))) refusals.bytes (length bytes)
      ∷ []
      )

  -- whether the box meets, and how many dimensions were read; a refusal has 0 in every other number
  unfoldable pub box_test_answer_by : BoxTest
  box_test_answer_by =
      cond (eqb box_test_refusal_by.number 0)
      (record {
        number = 0;
        place = 0;
        tested = record {
          meets = box_meets d.kinds (sides_of d.dimensions) bytes w.sides;
          read = box_read d.kinds (sides_of d.dimensions) bytes w.sides;
        };
      })
      (record {
        number = box_test_refusal_by.number;
        place = box_test_refusal_by.place;
        tested = record { meets = false; read = 0 };
      })

-- by the rules of this library
module _ (d : Description) (bytes : List ℕ) (w : Window) where
  abbrev pub box_test_refusal : Refusal
  box_test_refusal = box_test_refusal_by current d bytes w

  abbrev pub box_test_answer : BoxTest
  box_test_answer = box_test_answer_by current d bytes w

  -- dimension i of the box meets the query
  abbrev pub side_meets : ℕ → Bool
  side_meets i = meets (side_at d.kinds bytes i) (ends_of (range_in w.sides i))

-- Exactly one more than the number, from 0, of the first dimension that misses, or D where the box meets.
pub record ReadUp (d : Description) (bytes : List ℕ) (w : Window) (r : Tested) : Type 0 where
  pub missed : (i : ℕ) → i < d.dimensions → ((j : ℕ) → j < i → side_meets d bytes w j ≡ true) → side_meets d bytes w i ≡ false
      → (r.meets ≡ false) × (r.read ≡ i + 1)
  pub met : r.meets ≡ true → r.read ≡ d.dimensions
