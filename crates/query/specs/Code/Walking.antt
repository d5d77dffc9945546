-- What the walk's code asks of its arguments and hands through. Nothing here is promised to a user of the library.
-- Assumes nothing.
use Rattle.std.specs.Prelude.{ℕ, ◌+◌, ◌-◌, ◌*◌, ◌^◌, ◌≤◌, ◌<◌, ◌≡◌, Bool, false, List, length, get_or, take, drop}
use Rattle.description.specs.declared.Description.{Description}
use Rattle.description.specs.declared.Dimension.{Dimension}
use Rattle.description.specs.Limits.{Sizes}
use Rattle.description.specs.Description.{kind_at, side_start, sides_of, bytes_of_box}
use Rattle.ranges.specs.Ranges.{Ends, has_nan, meets}
use Rattle.boxes.specs.Boxes.{all, read_to, side_at}
use Rattle.boxes.specs.declared.Window.{Window}
use Rattle.windows.specs.Code.Carried.{carried_side, ends_of_window}
use Rattle.tree.specs.Shape.{boxes, children, height, level_start, body_bytes, shape_of}
use Rattle.tree.specs.Code.Run.{State, look, run}
use Rattle.rtree.specs.declared.Shaped.{Shaped}
use Rattle.query.specs.declared.Asked.{Asked}
use Rattle.query.specs.declared.Plan.{Plan}
use Rattle.query.specs.declared.Walk.{Walk}

-- What does not change in a walk: the body and the table of its levels, the fanout, the bytes of a box; the window's
-- number of dimensions, its kinds and its ends.
pub record Ground : Type 0 where
  pub body : List ℕ
  pub table : List ℕ
  pub f : ℕ
  pub b : ℕ
  pub m : ℕ
  pub kinds : List Dimension
  pub ends : List ℕ

abbrev pub ground : List ℕ → List ℕ → ℕ → ℕ → ℕ → List Dimension → List ℕ → Ground
ground body table f b m kinds ends = record { body = body; table = table; f = f; b = b; m = m; kinds = kinds; ends = ends }

-- as the code carries it: a body and a plan
abbrev pub planned : List ℕ → Plan → Ground
planned body plan =
    ground body plan.table plan.fanout plan.box_bytes plan.asked.dimensions plan.asked.kinds plan.asked.ends

-- and as it is known once the shape is checked
abbrev pub shaped_ground : Description → Shaped → List ℕ → Asked → Ground
shaped_ground d r body a = ground body r.shape.table r.fanout (bytes_of_box d) a.dimensions a.kinds a.ends

-- the window as the code carries it
abbrev pub asked_of : Description → Window → Asked
asked_of d w =
    let m = sides_of d.dimensions in
    record { dimensions = m; kinds = d.kinds; ends = ends_of_window w.sides m }

-- the window's side of dimension i, as it is carried
abbrev pub asked_side : List Dimension → List ℕ → ℕ → Ends
asked_side kinds ends i = carried_side (kind_at kinds i) ends i

-- dimension i of the box in these bytes meets the window that is carried
abbrev pub meets_at : List Dimension → List ℕ → List ℕ → ℕ → Bool
meets_at kinds ends bytes i = meets (side_at kinds bytes i) (asked_side kinds ends i)

-- the box meets it in each of m dimensions
unfoldable pub meets_carried : List Dimension → List ℕ → ℕ → List ℕ → Bool
meets_carried kinds ends m bytes = all (meets_at kinds ends bytes) 0 m

-- how many of m dimensions are read up to the first miss
unfoldable pub read_carried : List Dimension → List ℕ → ℕ → List ℕ → ℕ
read_carried kinds ends m bytes = read_to (meets_at kinds ends bytes) 0 m

-- a window of at most four sides, no end of which is a NaN
pub record Carries (kinds : List Dimension) (ends : List ℕ) (m : ℕ) : Type 0 where
  pub few : m ≤ 4
  pub numbers : (i : ℕ) → i < m → has_nan (asked_side kinds ends i) ≡ false

-- all three of a window as the code carries it
abbrev pub meets_asked : Asked → List ℕ → Bool
meets_asked a = meets_carried a.kinds a.ends a.dimensions

abbrev pub read_asked : Asked → List ℕ → ℕ
read_asked a = read_carried a.kinds a.ends a.dimensions

abbrev pub Carried : Asked → Type 0
Carried a = Carries a.kinds a.ends a.dimensions

-- the number of tiles, the count of the leaves
abbrev pub tiles_in : Ground → ℕ
tiles_in g = get_or g.table 1 0

-- box k of the level at distance j meets the window
unfoldable pub seen : Ground → ℕ → ℕ → Bool
seen g j k =
    meets_carried g.kinds g.ends g.m (take g.b (drop (level_start g.f (tiles_in g) g.b j + k * g.b) g.body))

-- the count, the number found, the buffer
abbrev pub state : Walk → List ℕ → State
state w out = (w.count, w.found, out)

-- looking at box k of the level at distance j; and at the boxes from k on, m of them
abbrev pub visited : Ground → ℕ → ℕ → State → State
visited g j k s = look g.f (tiles_in g) (seen g) j k s

abbrev pub walked : Ground → ℕ → ℕ → ℕ → State → State
walked g j k m s = run (λ i t. visited g j i t) k m s

-- a body of the right size, the table of its levels, and a window that passed its check
pub record Grounded (g : Ground) : Type 0 where
  pub sizes : Sizes (tiles_in g) g.f
  pub wide : 8 ≤ g.b
  pub narrow : g.b ≤ 64
  pub sides : g.b ≡ side_start g.kinds g.m
  pub whole : length g.body ≡ body_bytes g.f (tiles_in g) g.b
  pub tabled : g.table ≡ (shape_of g.f (tiles_in g) g.b).table
  pub window : Carries g.kinds g.ends g.m

-- what walking m boxes from k on asks: boxes that are there, and numbers that fit once they are walked
pub record Row (g : Ground) (j k m : ℕ) (s : State) : Type 0 where
  pub on : Grounded g
  pub level : j ≤ height g.f (tiles_in g)
  pub there : k + m ≤ boxes g.f (tiles_in g) j
  pub counts : (walked g j k m s).0 < 2 ^ 64
  pub finds : (walked g j k m s).1 < 2 ^ 64

-- a box by itself, and its place
pub record Box (g : Ground) (j k place : ℕ) (s : State) : Type 0 where
  pub row : Row g j k 1 s
  pub here : place ≡ level_start g.f (tiles_in g) g.b j + k * g.b

-- a box's row of children, or the root as the row of a box above it
abbrev pub children_walked : Ground → ℕ → ℕ → State → State
children_walked g j parent s = walked g j (parent * g.f) (children g.f (tiles_in g) j parent) s

abbrev pub ChildRow : Ground → ℕ → ℕ → State → Type 0
ChildRow g j parent s = Row g j (parent * g.f) (children g.f (tiles_in g) j parent) s

-- the root's row in a tree of so many levels, with nothing counted and nothing found
abbrev pub root_walked : Ground → ℕ → List ℕ → State
root_walked g levels out = children_walked g (levels - 1) 0 (0, 0, out)

abbrev pub RootRow : Ground → ℕ → List ℕ → Type 0
RootRow g levels out = (1 ≤ levels) × ChildRow g (levels - 1) 0 (0, 0, out)
