-- The state comes back from its array: each number from its place, the bytes from theirs, eight of each, each kind from
-- its Datatype number (`written_back`).
-- Assumes nothing.
use mathlib.Core.Path.{◌≡◌, refl, ap, sym, ◌∙◌}
use mathlib.Core.List.{List, [], ◌∷◌, ◌++◌, append_assoc, append-nil}
use Prim.Native.Nat.{ℕ, zero, suc, ◌+◌, ◌*◌, ◌<◌}
use native.Mathlib.Nat.{zero-add}
use native.Mathlib.Omega.{arith}
use lib.ListN.{length, get_or, take, drop, replicate, length-append, length-replicate, get_or-append}
use lib.Seq.{sets, get_or-append-add}
use Rattle.answers.proofs.Runs.{over-ext}
use Rattle.answers.proofs.Filled.{row-length, row_at}
use Rattle.answers.proofs.Joined.{cut-join}
use Rattle.answers.proofs.Written.{listed, begun, more, whole}
use Rattle.order.specs.Little.{little, bytes_of}
use Rattle.order.proofs.Stores.{bytes-there}
use Rattle.description.specs.declared.Description.{Description}
use Rattle.description.specs.declared.Dimension.{Dimension}
use Rattle.description.specs.declared.Kind.TheVariants.{Int32}
use Rattle.description.specs.Kinds.{datatype, kind_of_datatype}
use Rattle.description.specs.Description.{kind_at}
use Rattle.description.proofs.Datatypes.{kind-again}
use Rattle.parts_state.specs.declared.Cursor.{Cursor}
use Rattle.parts_state.specs.declared.Parts.{Parts}
use Rattle.c_open.specs.State.{state_places, description_in, cursor_of, state_of, bytes_in, words_of, kinds_in, kind_numbers}

-- a list that stands after another
inside : (p l q : List ℕ) (at : ℕ) → length p ≡ at → (i : ℕ) → i < length l → get_or (p ++ (l ++ q)) (at + i) 0 ≡ get_or l i 0
inside p l q at e i h = rw (← e) (get_or-append-add p (l ++ q) i 0 ∙ get_or-append l q 0 i h)

pub words-length : (l : List ℕ) → length (words_of l) ≡ 8
unfolding words_of
words-length l = row-length (λ i. little l (i * 8) 8) 0 8

pub word_at : (l : List ℕ) (i : ℕ) → i < 8 → get_or (words_of l) i 0 ≡ little l (i * 8) 8
unfolding words_of
word_at l i h = row_at (λ j. little l (j * 8) 8) 0 8 i 0 h ∙ rw zero-add

bytes_back : (p l q : List ℕ) (at : ℕ) → length p ≡ at → length l ≡ 64 → ((i : ℕ) → get_or l i 0 < 256) → bytes_in (p ++ (words_of l ++ q)) at ≡ l
unfolding bytes_in
bytes_back p l q at e size small =
    over-ext ◌++◌ [] (λ i. bytes_of 8 (get_or (p ++ (words_of l ++ q)) (at + i) 0)) (λ i. take 8 (drop (i * 8) l)) 0 8
    (λ i from to.
    let near : i < 8 = omega (arith, from, to) in
    rw (inside p (words_of l) q at e i (omega (arith, words-length l)), word_at l i near) (bytes-there l small (i * 8) 8 (omega (arith, size, near))))
    ∙ cut-join 8 8 l (omega (arith, size))

no_kind : Dimension
no_kind = record { kind = Int32 }

-- the kinds of the numbers of kinds
kinds-back : (kinds : List Dimension) → length kinds ≡ 4 → (a b c z : ℕ) (q : List ℕ)
    → kinds_in (a ∷ b ∷ c ∷ z ∷ get_or (kind_numbers kinds) 0 0 ∷ get_or (kind_numbers kinds) 1 0 ∷ get_or (kind_numbers kinds) 2 0 ∷ get_or (kind_numbers kinds) 3 0 ∷ q) 4
    ≡ kinds
unfolding kinds_in kind_numbers no_kind
kinds-back kinds four a b c z q =
    listed (λ i. record { kind = kind_of_datatype (get_or l (4 + i) 0) }) kinds 4 no_kind four
    (λ i h. rw (at i h, row_at (λ j. datatype (kind_at kinds j)) 0 4 i 0 h, zero-add, kind-again))
  where
    l : List ℕ
    l = a ∷ b ∷ c ∷ z ∷ get_or (kind_numbers kinds) 0 0 ∷ get_or (kind_numbers kinds) 1 0 ∷ get_or (kind_numbers kinds) 2 0 ∷ get_or (kind_numbers kinds) 3 0 ∷ q

    at : (i : ℕ) → i < 4 → get_or l (4 + i) 0 ≡ get_or (kind_numbers kinds) i 0
    at zero h = refl
    at (suc zero) h = refl
    at (suc (suc zero)) h = refl
    at (suc (suc (suc zero))) h = refl
    at (suc (suc (suc (suc i)))) h = absurd (omega arith)

module _ (s : Parts) (kinds : List ℕ) (own : kinds ≡ kind_numbers s.description.kinds) (four : length s.description.kinds ≡ 4)
    (domain-long : length s.domain ≡ 64) (domain-small : (i : ℕ) → get_or s.domain i 0 < 256)
    (held-long : length s.held ≡ 64) (held_small : (i : ℕ) → get_or s.held i 0 < 256) where
  abbrev n : List ℕ
  n = state_places s kinds

  abbrev all : List ℕ
  all = (n ++ words_of s.domain) ++ words_of s.held

  domain-is : bytes_in all 24 ≡ s.domain
  domain-is =
      rw (append_assoc n (words_of s.domain) (words_of s.held))
      (bytes_back n s.domain (words_of s.held) 24 refl domain-long domain-small)

  held-is : bytes_in all 32 ≡ s.held
  held-is =
      ap (λ (l : List ℕ). bytes_in ((n ++ words_of s.domain) ++ l) 32) (sym (append-nil (words_of s.held)))
      ∙ bytes_back (n ++ words_of s.domain) s.held [] 32 (rw (length-append n (words_of s.domain), words-length s.domain) refl) held-long held_small

  kinds-are : kinds_in all 4 ≡ s.description.kinds
  kinds-are = rw own (kinds-back s.description.kinds four s.cursor.number s.cursor.place s.cursor.which s.description.dimensions _)

  state-back : state_of all ≡ s
  unfolding state_of description_in cursor_of
  state-back = rw (domain-is, held-is, kinds-are)

  -- as code writes it, list after list
  pub written_back : {numbered after-domain after : List ℕ} → numbered ≡ sets (replicate 40 0) 0 n
      → after-domain ≡ sets numbered 24 (words_of s.domain) → after ≡ sets after-domain 32 (words_of s.held) → state_of after ≡ s
  written_back numbers first second =
      let m = more (begun (replicate 40 0)) n numbers refl in
      let m1 = more m (words_of s.domain) first (words-length s.domain) in
      let m2 = more m1 (words_of s.held) second (words-length s.held) in
      ap state_of (whole m2 (length-replicate {A = ℕ} 40 0)) ∙ state-back

-- as code reads it, place by place
pub made : (state : List ℕ) {d : Description} {domain held : List ℕ} {c : Cursor} → d ≡ description_in state → domain ≡ bytes_in state 24
    → held ≡ bytes_in state 32 → c ≡ cursor_of state
    → record {
      description = d;
      tiles = get_or state 10 0;
      domain = domain;
      stated = get_or state 11 0;
      cursor = c;
      held = held;
    }
    ≡ state_of state
unfolding state_of
made state k d h c = rw (k, d, h, c)
