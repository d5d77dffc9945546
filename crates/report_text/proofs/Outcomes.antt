-- An outcome has the text of the report: that of a refusal, where the first of the checks that refuses is the one that the code met, or
-- else the listing, whose tiles are those that the query laid at the start of the buffer.
-- Assumes nothing.
use mathlib.Core.Path.{◌≡◌, refl, ap, sym, ◌∙◌}
use Rattle.std.specs.Prelude.{◌≢◌, Result, Ok, Err, Some, None}
use mathlib.Core.Bool.{Bool, true, false, ◌||◌, cond}
use mathlib.Core.List.{List, [], ◌++◌}
use Prim.Native.Nat.{ℕ, ◌≤◌, ◌<◌}
use native.Mathlib.Nat.{mul-le-mul_right}
use native.Mathlib.Omega.{arith}
use lib.Dec.{ltb, eqb}
use lib.ListN.{length, get_or, drop, length-append, get_or-append}
use lib.Seq.{take_all}
use borrow.Author.Tests.{eq-eqb, ne_eqb, eqb-true, ltb-false}
use Rattle.answers.specs.Laid.{laid}
use Rattle.answers.specs.Refusals as refusals
use Rattle.answers.specs.declared.Refusal.{Refusal}
use Rattle.answers.proofs.Checks.{past, stop, ended}
use Rattle.answers.proofs.Laid.{sets-whole}
use Rattle.answers.proofs.Runs.{over-ext}
use Rattle.description.specs.declared.Description.{Description}
use Rattle.boxes.specs.declared.Window.{Window}
use Rattle.description.specs.Description.{bytes_of_box}
use Rattle.description.proofs.Tests.{neither}
use Rattle.tree.proofs.Places.{leaves-end}
use Rattle.tree.proofs.Rise.{rising-length}
use Rattle.tree.proofs.Demand3.{found-rising}
use Rattle.lists.specs.declared.TileOffsets.{TileOffsets}
use Rattle.rtree.specs.declared.Opened.{Opened}
use Rattle.query.specs.declared.Answer.{Answer}
use Rattle.rtree.specs.Body.{fanout_of}
use Rattle.query.specs.Query.{query_refusal, query_answer, query_answer_by, found_at, looked_at, meeting, query_buffer, query_buffer_by}
use Rattle.query.proofs.Promised.{passed-all}
use Rattle.decimal.specs.Write.{put}
use Rattle.decimal.proofs.Put.{put-fits}
use Rattle.text.specs.Code.Places.{Wrote}
use Rattle.text.proofs.Writing.{seen-laid}
use Rattle.report_text.specs.declared.Asked.{Asked}
use Rattle.report_text.specs.declared.Listing.{Listing}
use Rattle.report_text.specs.declared.Unlisted.{Unlisted}
use Rattle.report_text.specs.declared.Unlisted.TheVariants.{TooLong, Refused}
use Rattle.report_text.specs.Asked.{asked_of}
use Rattle.report_text.specs.Text.{most_bytes, is_long, opened, answered, offsets_listed, the_last_cells, tile_text, tiles_text, listing_text, files_refusal, asked_text, report_refusal, answer_text, report_text}
use Rattle.report_text.specs.Code.Writing.{most_found, unlisted_text, outcome_text, Renders}

-- a query's answer
module _ (d : Description) (n : ℕ) (tree : List ℕ) (w : Window) where
  query-clear : (query_answer d n tree w).number ≡ 0 → (query_refusal d n tree w).number ≡ 0
  unfolding query_answer_by
  query-clear h = go (eqb (query_refusal d n tree w).number 0) refl h
    where
      go : (b : Bool) → eqb (query_refusal d n tree w).number 0 ≡ b
          → (cond {A = Answer} b (record { number = 0; place = 0; found = length (found_at d n tree w); looked = looked_at d n tree w })
          (record { number = (query_refusal d n tree w).number; place = (query_refusal d n tree w).place; found = 0; looked = 0 })).number ≡ 0
          → (query_refusal d n tree w).number ≡ 0
      go true e k = eqb-true _ 0 e
      go false e k = k

  module _ (clear : (query_refusal d n tree w).number ≡ 0) where
    query-found : (query_answer d n tree w).found ≡ length (found_at d n tree w)
    unfolding query_answer_by
    query-found = rw (eq-eqb _ 0 clear)

    query-laid : (out : List ℕ) → query_buffer d n tree w out ≡ laid (found_at d n tree w) out
    unfolding query_buffer_by
    query-laid out = rw (eq-eqb _ 0 clear)

    -- a tree of at most 65,536 bytes has at most 8,192 tiles, and no more are found
    query-few : length tree ≤ most_bytes → length (found_at d n tree w) ≤ most_found
    query-few l =
        let p = passed-all d n tree w clear in
        let s = p.sizes in
        let r = found-rising (fanout_of tree) n (meeting d n tree w) s.least s.some in
        omega (
          arith,
          rising-length 0 n (found_at d n tree w) r,
          leaves-end (fanout_of tree) n (bytes_of_box d),
          p.whole,
          mul-le-mul_right n p.described.some_bytes,
        )

-- what a call refuses with
abbrev Stops : ℕ → ℕ → Unlisted → Type 0
Stops number place e = (number ≢ 0) × (e ≡ Refused (record { number = number; place = place }))

-- what is laid over a long enough buffer can be read back
module _ (xs out : List ℕ) (room : length xs ≤ length out) where
  laid-there : length xs ≤ length (laid xs out)
  laid-there = rw (take_all (length out) xs room) (omega (arith, length-append xs (drop (length xs) out)))

  laid-at : (i : ℕ) → i < length xs → get_or (laid xs out) i 0 ≡ get_or xs i 0
  laid-at i l = rw (take_all (length out) xs room) (get_or-append xs (drop (length xs) out) 0 i l)

  tiles-same : (n last c S : ℕ) (offsets : List ℕ)
      → tiles_text n last c S offsets (laid xs out) (length xs) ≡ tiles_text n last c S offsets xs (length xs)
  tiles-same n last c S offsets =
      over-ext ◌++◌ [] (λ k. tile_text n last c S offsets (get_or (laid xs out) k 0)) (λ k. tile_text n last c S offsets (get_or xs k 0)) 0 (length xs)
      (λ i a b. ap (λ (x : ℕ). tile_text n last c S offsets x) (laid-at i (omega arith)))

module _ (a : Asked) (footer tree offsets : List ℕ) where
  abbrev Rendered : List ℕ → Result Listing Unlisted → Type 0
  Rendered tiles r = Renders (asked_text a footer tree offsets) offsets tiles r

  -- a refusal
  stopped : (tiles : List ℕ) {e : Unlisted} {r : Refusal} → (r.number ≡ 0 → ⊥)
      → files_refusal a footer tree offsets ≡ r → e ≡ Refused r → Rendered tiles (Err e)
  unfolding outcome_text unlisted_text asked_text
  stopped tiles {r = r} some same is = rw is (record {
    there = tt;
    same = rw (same, ne_eqb r.number 0 some);
  })

  module _ {o : Opened} (eo : o ≡ opened a footer tree) where
    pub renders-open : (tiles : List ℕ) {e : Unlisted} → Stops o.number o.place e → Rendered tiles (Err e)
    unfolding files_refusal
    renders-open tiles s =
        stopped tiles (rw eo at s.0) (stop _ _ (rw eo at s.0)) (rw eo at s.1)

    module _ (zo : o.number ≡ 0) {l : TileOffsets} (el : l ≡ offsets_listed a footer tree offsets) where
      pub renders-offsets : (tiles : List ℕ) {e : Unlisted} → Stops l.number l.place e → Rendered tiles (Err e)
      unfolding files_refusal
      renders-offsets tiles s =
          stopped tiles (rw el at s.0)
          (past _ _ (rw eo at zo) ∙ stop _ _ (rw el at s.0)) (rw el at s.1)

      module _ (zl : l.number ≡ 0) {q : Answer} (eq : q ≡ answered a footer tree) where
        pub renders-query : (tiles : List ℕ) {e : Unlisted} → Stops q.number q.place e → Rendered tiles (Err e)
        unfolding files_refusal
        renders-query tiles s =
            stopped tiles (rw eq at s.0)
            (past _ _ (rw eo at zo) ∙ past _ _ (rw el at zl) ∙ stop _ _ (rw eq at s.0)) (rw eq at s.1)

        module _ (zq : q.number ≡ 0) where
          nothing-refused : (files_refusal a footer tree offsets).number ≡ 0
          unfolding files_refusal
          nothing-refused =
              ap (λ (x : Refusal). x.number)
              (past _ _ (rw eo at zo) ∙ past _ _ (rw el at zl) ∙ past _ _ (rw eq at zq) ∙ ended)

          -- the listing
          abbrev pub listing : Listing
          listing = record {
            tiles = (opened a footer tree).tiles;
            last_cells = the_last_cells a footer tree;
            capacity = a.description.capacity;
            data_size = a.data_size;
            found = (answered a footer tree).found;
            looked = (answered a footer tree).looked;
          }

          pub renders-listing : (before after : List ℕ) {r : Listing} → length tree ≤ most_bytes → most_found ≤ length before
              → after ≡ query_buffer a.description (opened a footer tree).tiles tree a.window before
              → r ≡ listing → Rendered after (Ok r)
          unfolding outcome_text listing_text asked_text
          renders-listing before after short room e f =
              let d = a.description in
              let n = (opened a footer tree).tiles in
              let found = found_at d n tree a.window in
              let clear = query-clear d n tree a.window (rw eq at zq) in
              let few = query-few d n tree a.window clear short in
              let count = query-found d n tree a.window clear in
              let there : length found ≤ length before = omega arith in
              rw (f, e, query-laid d n tree a.window clear before) (record {
                there = record { few = rw count few; there = rw count (laid-there found before there) };
                same =
                    rw (count, eq-eqb _ 0 nothing-refused, tiles-same found before there n (the_last_cells a footer tree) d.capacity a.data_size offsets);
              })

-- the files
module _ (description footer tree offsets : List ℕ) where
  pub renders-long : (tiles : List ℕ) → is_long description footer tree offsets ≡ true
      → Renders (report_text description footer tree offsets) offsets tiles (Err TooLong)
  unfolding outcome_text unlisted_text report_text
  renders-long tiles h = record { there = tt; same = rw h }

  module _ (short : is_long description footer tree offsets ≡ false) where
    pub tree-short : length tree ≤ most_bytes
    tree-short =
        let f = ltb most_bytes (length description) || ltb most_bytes (length footer) in
        let t = ltb most_bytes (length tree) in
        let a = neither (f || t) (ltb most_bytes (length offsets)) short in
        ltb-false most_bytes (length tree) (neither f t a.0).1

    pub renders-bad : (tiles : List ℕ) {r : Refusal} → r ≡ refusals.refusal refusals.description 0 → None ≡ asked_of description
        → Renders (report_text description footer tree offsets) offsets tiles (Err (Refused r))
    unfolding outcome_text unlisted_text report_refusal answer_text report_text
    renders-bad tiles e n = rw e (record { there = tt; same = rw (short, ← n) })

    pub renders-asked : (tiles : List ℕ) {r : Result Listing Unlisted} {a : Asked} → Some a ≡ asked_of description
        → Renders (asked_text a footer tree offsets) offsets tiles r → Renders (report_text description footer tree offsets) offsets tiles r
    unfolding answer_text report_text
    renders-asked tiles e h = record { there = h.there; same = h.same ∙ rw (short, ← e) }

-- what is written is that text
module _ (text : List ℕ) {offsets tiles : List ℕ} {r : Result Listing Unlisted} (t : Renders text offsets tiles r) {from : ℕ} {before after : List ℕ} {count : ℕ}
    (w : Wrote from before 0 (outcome_text r offsets tiles) after count) where
  pub counted : count ≡ length text
  counted = omega (arith, w.place, ap length t.same)

  pub seen_of : after ≡ laid (drop from text) before
  seen_of = w.there ∙ rw t.same (seen-laid from text before)

-- all of it, where it fits
pub written : (text before : List ℕ) → length text ≤ length before → laid (drop 0 text) before ≡ put before 0 text
written text before h = sym (sets-whole before text) ∙ put-fits before 0 text (omega arith)
