-- The numbers of a state, as code makes them of one another, and the states with them. Nothing here is promised to a
-- caller.
-- Assumes nothing.
use Rattle.std.specs.Prelude.{ℕ, ◌-◌, cond, List, eqb, ltb}
use Rattle.answers.specs.declared.Refusal.{Refusal}
use Rattle.parts_state.specs.declared.Cursor.{Cursor}
use Rattle.parts_state.specs.declared.Parts.{Parts}

-- a state with other bytes held and other numbers
abbrev pub with_cursor : Parts → List ℕ → Cursor → Parts
with_cursor s held c = record {
  description = s.description;
  tiles = s.tiles;
  domain = s.domain;
  stated = s.stated;
  cursor = c;
  held = held;
}

-- with other numbers alone
abbrev pub onward : Parts → Cursor → Parts
onward s c = with_cursor s s.held c

abbrev pub refused : Cursor → ℕ → ℕ → ℕ → Cursor
refused c which number place = record {
  number = number;
  place = place;
  which = which;
  fanout = c.fanout;
  levels = c.levels;
  level = c.level;
  counted = c.counted;
  count = c.count;
  index = c.index;
  own = c.own;
  parents = c.parents;
  done = c.done;
  kept = c.kept;
  box_number = c.box_number;
  box_place = c.box_place;
}

abbrev pub keeping : Cursor → ℕ → Cursor
keeping c kept = record {
  number = c.number;
  place = c.place;
  which = c.which;
  fanout = c.fanout;
  levels = c.levels;
  level = c.level;
  counted = c.counted;
  count = c.count;
  index = c.index;
  own = c.own;
  parents = c.parents;
  done = c.done;
  kept = kept;
  box_number = c.box_number;
  box_place = c.box_place;
}

-- past the fanout and L, at the root's count
abbrev pub fronted : Cursor → ℕ → ℕ → ℕ → Cursor
fronted c fanout levels level = record {
  number = c.number;
  place = c.place;
  which = c.which;
  fanout = fanout;
  levels = levels;
  level = level;
  counted = 0;
  count = 0;
  index = 0;
  own = 0;
  parents = 0;
  done = 8;
  kept = c.kept;
  box_number = 0;
  box_place = 0;
}

-- past a level's count, at its first box
abbrev pub counted : Cursor → ℕ → ℕ → Cursor
counted c count done = record {
  number = c.number;
  place = c.place;
  which = c.which;
  fanout = c.fanout;
  levels = c.levels;
  level = c.level;
  counted = 1;
  count = count;
  index = 0;
  own = c.own;
  parents = c.parents;
  done = done;
  kept = c.kept;
  box_number = c.box_number;
  box_place = c.box_place;
}

-- past some boxes of the level
abbrev pub moved : Cursor → ℕ → ℕ → Refusal → Cursor
moved c index done fault = record {
  number = c.number;
  place = c.place;
  which = c.which;
  fanout = c.fanout;
  levels = c.levels;
  level = c.level;
  counted = c.counted;
  count = c.count;
  index = index;
  own = c.own;
  parents = c.parents;
  done = done;
  kept = c.kept;
  box_number = fault.number;
  box_place = fault.place;
}

-- at the count of the level below, whose boxes go to a place of the work buffer
abbrev pub lowered : Cursor → ℕ → Cursor
lowered c own = record {
  number = c.number;
  place = c.place;
  which = c.which;
  fanout = c.fanout;
  levels = c.levels;
  level = c.level - 1;
  counted = 0;
  count = 0;
  index = 0;
  own = own;
  parents = c.own;
  done = c.done;
  kept = c.kept;
  box_number = c.box_number;
  box_place = c.box_place;
}

abbrev pub passed : Cursor → ℕ → Cursor
passed c own = cond (ltb c.index c.count) c (cond (eqb c.level 0) c (lowered c own))
