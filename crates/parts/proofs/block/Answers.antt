-- `parts::block` meets its contract: what is refused for good stays; bytes within the stated length are taken; and where
-- there are more, nothing but 2 at the stated length is left to say. Assumes nothing.
use mathlib.Core.Path.{◌≡◌, refl, sym}
use mathlib.Core.Logic.{◌⊎◌, inl, inr}
use mathlib.Core.List.{List, ◌++◌}
use Prim.Native.Nat.{ℕ, ◌+◌, ◌≤◌, ◌<◌}
use native.Mathlib.Omega.{arith}
use lib.ListN.{length, take, length-take, length-append}
use Rattle.description.specs.declared.Description.{Description}
use Rattle.answers.specs.Told.{number_of}
use Rattle.parts_state.specs.Took.{Took, Begins}
use Rattle.parts_state.specs.Code.State.{Holds}
use Rattle.parts.specs.Code.Cursor.{with_cursor}
use Rattle.parts.proofs.Lists.{read_first}
use Rattle.parts.proofs.Prefix.{begins-got, begins-next, begins-length}
use Rattle.parts.proofs.Ends.{late-tree, ends-past}
use Rattle.parts.proofs.block.Goals.{After-lesser-all, After-take-r, Start}
use Rattle.parts.proofs.block.Goals as goal

pub returns-then-c-ne0 : goal.returns-then-c-ne0
unfolding Took
returns-then-c-ne0 c = record {
  room = refl;
  took = λ d F footer stated got took body begins. record {
    decided = (took body (begins-got got _ body begins)).decided;
    going = λ z. absurd (c.if-c-ne0.true z);
  };
}

held-length : (c : Start) → length c.args.parts.held ≡ 64
held-length c = omega arith

-- as many as are lent
lent : (c : After-lesser-all) → length (take c.lesser-all.result c.args.bytes.now) ≡ c.lesser-all.result
lent c = rw length-take (omega (arith, c.lesser-all.ensures))

-- what holds once they are taken
after : (c : After-take-r) → (let x = c.args in let all = c.lesser-all.result in
    (d : Description) (F : ℕ) (footer : List ℕ) (stated : ℕ) (got : List ℕ) → Took d F footer stated got x.parts x.work.now
    → (body : List ℕ) → Begins (got ++ x.bytes.now) body
    → (length got + all ≤ stated) × (all < length x.bytes.now → length got + all ≡ stated) × (8 ≤ stated)
    × Holds d F footer stated body c.take-r.new.work (with_cursor x.parts c.take-r.new.held c.take-r.result) (length got + all))
unfolding Took
after c d F footer stated got took body begins =
    let x = c.args in
    let h = took body (begins-got got x.bytes.now body begins) in
    let g = h.going c.if-c-ne0.false in
    let fits : length got + c.lesser-all.result ≤ stated = omega (arith, c.lesser-all.ensures, c.room_left-room.ensures, g.here, g.said, g.within) in
    let first = read_first body (length got) x.bytes.now (begins-next got x.bytes.now body begins) c.lesser-all.result (omega (arith, c.lesser-all.ensures)) in (
      fits,
      (λ more. omega (arith, c.lesser-all.ensures, c.room_left-room.ensures, g.here, g.said, g.within)),
      g.enough,
      rw (lent (goal.at.After-take-r c).After-lesser-all) at (c.take-r.ensures.1 d F footer stated body (length got) h first (omega (arith, lent (goal.at.After-take-r c).After-lesser-all, fits))),
    )

pub returns-then-all-bytes : goal.returns-then-all-bytes
unfolding Took number_of
returns-then-all-bytes c =
    let x = c.args in
    record {
      room = c.take-r.ensures.0.to-work;
      took = λ d F footer stated got took body begins.
          let a = after (goal.at.returns-then-all-bytes c).After-take-r d F footer stated got took body begins in
          let all = a.1 c.if-all-bytes.true in
          let g = a.3.going c.if-r-eq0.true in
          let past : stated < length body = omega (arith, begins-length got x.bytes.now body begins, all, c.if-all-bytes.true) in
          let tree = late-tree g (omega (arith, all, a.2)) in
          rw (c.with_cursor.ensures, c.refuse-over.ensures, c.at.ensures) (record {
            decided = λ o. (ends-past g tree (omega (arith, all, past)) all (λ z. omega (arith, past))).decided (λ z. omega arith);
            going = λ z. absurd (omega arith);
          });
    }

pub returns : goal.returns
unfolding Took
returns c = record {
  room = c.take-r.ensures.0.to-work;
  took = λ d F footer stated got took body begins.
      rw c.with_cursor-2.ensures (go (goal.at.returns c).After-take-r d F footer stated got took body begins c.else-r-eq0.either);
}
  where
    go : (c : After-take-r) → (let x = c.args in let all = c.lesser-all.result in
        (d : Description) (F : ℕ) (footer : List ℕ) (stated : ℕ) (got : List ℕ) → Took d F footer stated got x.parts x.work.now
        → (body : List ℕ) → Begins (got ++ x.bytes.now) body → ((c.take-r.result.number ≡ 0) × (length x.bytes.now ≤ all)) ⊎ (c.take-r.result.number ≡ 0 → ⊥)
        → Holds d F footer stated body c.take-r.new.work (with_cursor x.parts c.take-r.new.held c.take-r.result) (length (got ++ x.bytes.now)))
    go c d F footer stated got took body begins (inl none) =
        let a = after c d F footer stated got took body begins in
        let all : c.lesser-all.result ≡ length c.args.bytes.now = omega (arith, c.lesser-all.ensures, none.1) in
        rw length-append (rw all at a.3)
    go c d F footer stated got took body begins (inr some) =
        let a = after c d F footer stated got took body begins in
        record { decided = a.3.decided; going = λ z. absurd (some z) }

pub slice_bounds-take-end-2 : goal.slice_bounds-take-end-2
slice_bounds-take-end-2 c = sym (lent (goal.at.slice_bounds-take-end-2 c).After-lesser-all)

pub take-r-requires : goal.take-r-requires
take-r-requires c = record {
  number_value = c.if-c-ne0.false;
  held_len = held-length (goal.at.take-r-requires c).Start;
}
