-- `c_box_test::tussockbell_box_test` meets its contract: the library's own answer, place by place, over the description and the window that the numbers and
-- bytes stand for. Assumes nothing.
use mir.Val.{bool_byte}
use mathlib.Core.Path.{◌≡◌, refl, ap}
use mathlib.Core.Bool.{Bool, true, false, cond}
use mathlib.Core.List.{List, [], ◌∷◌}
use Prim.Native.Nat.{ℕ}
use Rattle.description.specs.declared.Description.{Description}
use Rattle.boxes.specs.declared.Window.{Window}
use Rattle.query.specs.declared.BoxTest.{BoxTest}
use Rattle.query.specs.BoxTest.{box_test_answer}
use Rattle.c_arguments.specs.Windows.{window_of_bytes}
use Rattle.c_box_test.specs.Places.{box_test_places}
use Rattle.c_box_test.proofs.tussockbell_box_test.Goals as goal

-- a test as a number
numbered : (t : Bool) → bool_byte t ≡ cond t 1 0
numbered true = refl
numbered false = refl

-- with a window that goes by the description
asked : {d : Description} {w : Window} {r : BoxTest} {meets : ℕ} (described : Description) (bytes : List ℕ) (f : Description → Window)
    → d ≡ described → w ≡ f d → r ≡ box_test_answer d bytes w → meets ≡ cond r.tested.meets 1 0
    → (r.number ∷ r.place ∷ meets ∷ r.tested.read ∷ []) ≡ box_test_places (box_test_answer described bytes (f described))
unfolding box_test_places
asked described bytes f p q e m = rw m (ap box_test_places (rw (q, p) at e))

pub returns-clause-answer : goal.returns-clause-answer
returns-clause-answer c =
    let a = c.args in
    asked _ a.stored.now (λ d. window_of_bytes d a.window_kinds.now a.window_ends.now) c.describe-d.ensures c.window_of-w.ensures
    c.box_test-r.ensures.answer (numbered c.box_test-r.result.tested.meets)
