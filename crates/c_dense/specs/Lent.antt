-- A dense grid as C lends it: the domain as a window is lent, an extent for each dimension, and the order of the tiles as
-- TileDB's layout number; and the places of what it answers.
-- Assumes nothing.
use Rattle.std.specs.Prelude.{ℕ, cond, List, [], ◌∷◌, ltb, eqb, get_or}
use Rattle.answers.specs.declared.Refusal.{Refusal}
use Rattle.answers.specs.Runs.{join}
use Rattle.description.specs.declared.Description.{Description}
use Rattle.boxes.specs.declared.Window.{Window}
use Rattle.dense.specs.declared.Order.{Order}
use Rattle.dense.specs.declared.Order.TheVariants.{RowMajor, ColumnMajor}
use Rattle.dense.specs.declared.DenseAnswer.{DenseAnswer}
use Rattle.dense.specs.Dense.{grid_refusal, dense_answer, dense_buffer}
use Rattle.c_arguments.specs.Described.{describe}
use Rattle.c_arguments.specs.Windows.{window_of_bytes}

-- 0 row-major, 1 column-major
unfoldable pub order_of : ℕ → Order
order_of number = cond (eqb number 1) ColumnMajor RowMajor

-- with any other number the description counts as outside the limits
unfoldable pub describe_grid : List ℕ → ℕ → ℕ → ℕ → Description
describe_grid kinds fields capacity order = describe kinds (cond (ltb order 2) fields 0) capacity

-- an extent that isn't there counts as 0
unfoldable pub extents_of : List ℕ → List ℕ
extents_of numbers = join (λ i. get_or numbers i 0 ∷ []) 0 4

module _ (kinds : List ℕ) (fields capacity : ℕ) (domain_kinds domain_ends extents : List ℕ) (order : ℕ) where
  abbrev described : Description
  described = describe_grid kinds fields capacity order

  abbrev domain : Window
  domain = window_of_bytes described domain_kinds domain_ends

  abbrev pub lent_refusal : Refusal
  lent_refusal = grid_refusal described domain (extents_of extents)

  module _ (window_kinds ends_of_window : List ℕ) where
    abbrev pub lent_answer : DenseAnswer
    lent_answer =
        dense_answer described domain (extents_of extents) (window_of_bytes described window_kinds ends_of_window) (order_of order)

    abbrev pub lent_buffer : List ℕ → List ℕ
    lent_buffer =
        dense_buffer described domain (extents_of extents) (window_of_bytes described window_kinds ends_of_window) (order_of order)

abbrev pub refusal_places : Refusal → List ℕ
refusal_places r = r.number ∷ r.place ∷ []

abbrev pub answer_places : DenseAnswer → List ℕ
answer_places r = r.number ∷ r.place ∷ r.found ∷ []
