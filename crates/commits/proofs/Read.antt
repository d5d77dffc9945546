-- How a kind, an uuid and a name are read.
-- Assumes nothing.
use mathlib.Core.Path.{◌≡◌, refl, ap, sym, ◌∙◌}
use mathlib.Core.Bool.{Bool, true, false, cond, ◌&&◌, ◌||◌}
use Prim.Native.Nat.{ℕ, ◌+◌, ◌-◌, ◌*◌, ◌%◌, ◌^◌, ◌≤◌, ◌<◌}
use native.Mathlib.Numerals.{add-one}
use native.Mathlib.Omega.{arith}
use lib.Dec.{eqb, leb, ltb}
use lib.ListN.{length, take, drop, get_or, drop_of_length-le}
use lib.Seq.{drop-cons}
use borrow.Author.Tests.{le-leb, lt-leb, lt-ltb, eq-eqb, ne_eqb, eqb-true, eqb-false}
use Rattle.text.specs.Text.{Bytes, tab, parts, every, same}
use Rattle.text.specs.Cursor.{end_from}
use Rattle.text.specs.Code.Places.{AtPart}
use Rattle.text.proofs.Parts.{first-start, start-after, part-there, part-size, all_there, more-there}
use Rattle.commits.specs.Records.{folder_text, wrt_text, con_text, ign_text, kind_number, is_uuid_byte, is_uuid, time_in, are_times, version_in, underscore, piece, is_name, time_of, kind_of, name_of, is_record}
use Rattle.commits.specs.Code.Index.{kind_code, hash_from, name_read, ReadRecord}
use Rattle.commits.specs.declared.Kind.{Kind}
use Rattle.std.specs.Prelude.{Option, Some, None, unwrap_or}
use Rattle.std.specs.Char.{is_ascii_alphanumeric}
use Rattle.std.specs.Bool.{then_some}
use Rattle.std.proofs.lemmas.Option.{none-some, cond_some}

-- ---- the hash
pub hash-next : (h : ℕ) (t : Bytes) (i : ℕ) → i < length t → hash_from h (drop i t) ≡ hash_from ((31 * h + get_or t i 0) % 2 ^ 32) (drop (i + 1) t)
unfolding hash_from
hash-next h t i l = rw (drop-cons t i 0 l, add-one i)

pub hash-end : (h : ℕ) (t : Bytes) (i : ℕ) → length t ≤ i → hash_from h (drop i t) ≡ h
unfolding hash_from
hash-end h t i l = rw (drop_of_length-le t {i = i} l)

-- ---- each byte
module _ (test : ℕ → Bool) (t : Bytes) (i : ℕ) where
  pub every-next : i < length t → test (get_or t i 0) ≡ true → every test (drop i t) ≡ every test (drop (i + 1) t)
  unfolding every
  every-next l e = rw (drop-cons t i 0 l, e, add-one i)

  pub every-stop : i < length t → test (get_or t i 0) ≡ false → every test (drop i t) ≡ false
  unfolding every
  every-stop l e = rw (drop-cons t i 0 l, e)

  pub every-end : length t ≤ i → every test (drop i t) ≡ true
  unfolding every
  every-end l = rw (drop_of_length-le t {i = i} l)

and-false : (a : Bool) → (a && false) ≡ false
and-false true = refl
and-false false = refl

-- an uuid's byte, by the classes of ASCII
pub uuid_byte-is : (b : ℕ) → (is_ascii_alphanumeric b || eqb b 45) ≡ is_uuid_byte b
unfolding is_uuid_byte
uuid_byte-is b = regroup (leb 48 b && leb b 57) (leb 65 b && leb b 90) (leb 97 b && leb b 122) (eqb b 45)
  where
    regroup : (p q r s : Bool) → (((p || q) || r) || s) ≡ (p || (q || (r || s)))
    regroup true q r s = refl
    regroup false true r s = refl
    regroup false false r s = refl

module _ (u : Bytes) where
  pub uuid-short : length u < 1 → false ≡ is_uuid u
  unfolding is_uuid
  uuid-short h = rw (lt-leb 1 (length u) h)

  pub uuid-long : 64 < length u → false ≡ is_uuid u
  unfolding is_uuid
  uuid-long h = rw (lt-leb (length u) 64 h) (sym (and-false (leb 1 (length u))))

  pub uuid-is : 1 ≤ length u → length u ≤ 64 → is_uuid u ≡ every is_uuid_byte u
  unfolding is_uuid
  uuid-is l m = rw (le-leb 1 (length u) l, le-leb (length u) 64 m)

-- ---- the kind
module _ (k : Bytes) where
  pub kind_0 : same k folder_text ≡ true → 0 ≡ kind_number k
  unfolding kind_number
  kind_0 a = rw a

  pub kind_1 : same k folder_text ≡ false → same k wrt_text ≡ true → 1 ≡ kind_number k
  unfolding kind_number
  kind_1 a b = rw (a, b)

  pub kind_2 : same k folder_text ≡ false → same k wrt_text ≡ false → same k con_text ≡ true → 2 ≡ kind_number k
  unfolding kind_number
  kind_2 a b c = rw (a, b, c)

  pub kind_3 : same k folder_text ≡ false → same k wrt_text ≡ false → same k con_text ≡ false → same k ign_text ≡ true → 3 ≡ kind_number k
  unfolding kind_number
  kind_3 a b c d = rw (a, b, c, d)

  pub kind-4 : same k folder_text ≡ false → same k wrt_text ≡ false → same k con_text ≡ false → same k ign_text ≡ false → 4 ≡ kind_number k
  unfolding kind_number
  kind-4 a b c d = rw (a, b, c, d)

-- ---- a name
eqb-less : (a b : ℕ) → b ≤ a → eqb a b ≡ eqb (a - b) 0
eqb-less a b h = go (eqb a b) refl
  where
    go : (t : Bool) → eqb a b ≡ t → t ≡ eqb (a - b) 0
    go true e = sym (eq-eqb (a - b) 0 (omega (arith, eqb-true a b e)))
    go false e = sym (ne_eqb (a - b) 0 (λ z. eqb-false a b e (omega arith)))

module _ (n : Bytes) where
  name-other : (length (parts underscore n) ≡ 6 → ⊥) → None ≡ name_read n
  unfolding is_name
  name-other h = rw (ne_eqb (length (parts underscore n)) 6 h)

  name-six : length (parts underscore n) ≡ 6 → (a b u : Bool) (x y v : Option ℕ)
      → a ≡ eqb (length (piece 0 n)) 0 → b ≡ eqb (length (piece 1 n)) 0 → x ≡ time_in (piece 2 n) → y ≡ time_in (piece 3 n)
      → u ≡ is_uuid (piece 4 n) → v ≡ version_in (piece 5 n)
      → cond (a && (b && (are_times x y && (u && leb 16 (unwrap_or v 0))))) (Some (unwrap_or y 0)) None ≡ name_read n
  unfolding is_name time_of
  name-six h a b u x y v pa pb px py pu pv = rw (eq-eqb (length (parts underscore n)) 6 h, pa, pb, px, py, pu, pv)

-- by where each of its six parts ends
pub record Ends (t : Bytes) (e0 e1 e2 e3 e4 e5 : ℕ) : Type 0 where
  pub end-0 : e0 ≡ end_from underscore t 0
  pub end-1 : e1 ≡ end_from underscore t (e0 + 1)
  pub end-2 : e2 ≡ end_from underscore t (e1 + 1)
  pub end-3 : e3 ≡ end_from underscore t (e2 + 1)
  pub end-4 : e4 ≡ end_from underscore t (e3 + 1)
  pub end-5 : e5 ≡ end_from underscore t (e4 + 1)

module _ {t : Bytes} {e0 e1 e2 e3 e4 e5 : ℕ} (x : Ends t e0 e1 e2 e3 e4 e5) where
  start-1 : AtPart underscore t 1 (e0 + 1)
  start-1 = start-after underscore t 0 (first-start underscore t) x.end-0

  start-2 : AtPart underscore t 2 (e1 + 1)
  start-2 = start-after underscore t 1 start-1 x.end-1

  start-3 : AtPart underscore t 3 (e2 + 1)
  start-3 = start-after underscore t 2 start-2 x.end-2

  start-4 : AtPart underscore t 4 (e3 + 1)
  start-4 = start-after underscore t 3 start-3 x.end-3

  start-5 : AtPart underscore t 5 (e4 + 1)
  start-5 = start-after underscore t 4 start-4 x.end-4

  pub other-parts : (e5 ≡ length t → ⊥) → None ≡ name_read t
  other-parts h = name-other t (more-there underscore t 5 start-5 x.end-5 h)

  module _ (h : e5 ≡ length t) where
    abbrev part-2 : Bytes
    part-2 = take (e2 - (e1 + 1)) (drop (e1 + 1) t)

    abbrev part-3 : Bytes
    part-3 = take (e3 - (e2 + 1)) (drop (e2 + 1) t)

    abbrev part-4 : Bytes
    part-4 = take (e4 - (e3 + 1)) (drop (e3 + 1) t)

    abbrev part-5 : Bytes
    part-5 = take (e5 - (e4 + 1)) (drop (e4 + 1) t)

    six : {u : Bool} {first last version : Option ℕ} → first ≡ time_in part-2 → last ≡ time_in part-3 → u ≡ is_uuid part-4 → version ≡ version_in part-5
        → cond (eqb e0 0 && (eqb e1 (e0 + 1) && (are_times first last && (u && leb 16 (unwrap_or version 0))))) (Some (unwrap_or last 0)) None ≡ name_read t
    six {u} {first} {last} {version} pf pl pu pv =
        let z0 : length (piece 0 t) ≡ e0 = part-size underscore t 0 (first-start underscore t) x.end-0 ∙ omega arith in
        name-six t (all_there underscore t 5 start-5 x.end-5 h) (eqb e0 0) (eqb e1 (e0 + 1)) u first last version
        (rw z0)
        (rw (part-size underscore t 1 start-1 x.end-1) (eqb-less e1 (e0 + 1) (omega (arith, x.end-1))))
        (pf ∙ ap time_in (part-there underscore t 2 start-2 x.end-2))
        (pl ∙ ap time_in (part-there underscore t 3 start-3 x.end-3))
        (pu ∙ ap is_uuid (part-there underscore t 4 start-4 x.end-4))
        (pv ∙ ap version_in (part-there underscore t 5 start-5 x.end-5))

    no-name : (c : Bool) (y : Option ℕ) → c ≡ false → None ≡ cond (eqb e0 0 && (eqb e1 (e0 + 1) && c)) y None
    no-name c y e = rw (e, and-false (eqb e1 (e0 + 1)), and-false (eqb e0 0))

    pub first-none : None ≡ time_in part-2 → None ≡ name_read t
    first-none f = no-name false _ refl ∙ six f refl refl refl

    pub last-none : {a : ℕ} → Some a ≡ time_in part-2 → None ≡ time_in part-3 → None ≡ name_read t
    last-none f l = no-name false _ refl ∙ six f l refl refl

    pub version-none : {a b : ℕ} → Some a ≡ time_in part-2 → Some b ≡ time_in part-3 → None ≡ version_in part-5 → None ≡ name_read t
    version-none {a} {b} f l v = no-name (leb a b && (is_uuid part-4 && false)) _ (rw (and-false (is_uuid part-4), and-false (leb a b))) ∙ six f l refl v

    chosen : (c : Bool) (y : ℕ) → then_some c y ≡ cond c (Some y) None
    chosen true y = refl
    chosen false y = refl

    pub six-parts : {a b v : ℕ} {u : Bool} → Some a ≡ time_in part-2 → Some b ≡ time_in part-3 → Some v ≡ version_in part-5 → u ≡ is_uuid part-4
        → then_some (eqb e0 0 && (eqb e1 (e0 + 1) && (leb a b && (u && leb 16 v)))) b ≡ name_read t
    six-parts {a} {b} {v} {u} f l w i = chosen (eqb e0 0 && (eqb e1 (e0 + 1) && (leb a b && (u && leb 16 v)))) b ∙ six f l i w

-- ---- what is no name, and no record; and a record
kind-few : (k : Kind) → kind_code k < 4
kind-few Kind.Folder = omega arith
kind-few Kind.Wrt = omega arith
kind-few Kind.Con = omega arith
kind-few Kind.Ign = omega arith

pub name-none : (n : Bytes) → None ≡ name_read n → is_name n ≡ false
name-none n = go (is_name n)
  where
    go : (c : Bool) → None ≡ cond c (Some (time_of n)) None → c ≡ false
    go true e = absurd (none-some (time_of n) e)
    go false e = refl

module _ (l : Bytes) where
  pub record-long : 255 < length l → is_record l ≡ false
  unfolding is_record
  record-long h = rw (lt-leb (length l) 255 h)

  pub record-other : (length (parts tab l) ≡ 2 → ⊥) → is_record l ≡ false
  unfolding is_record
  record-other h = rw (ne_eqb (length (parts tab l)) 2 h) (and-false (leb (length l) 255))

  pub record-unkind : 4 ≡ kind_of l → is_record l ≡ false
  unfolding is_record
  record-unkind h = rw (← h, and-false (eqb (length (parts tab l)) 2)) (and-false (leb (length l) 255))

  pub record-unnamed : is_name (name_of l) ≡ false → is_record l ≡ false
  unfolding is_record
  record-unnamed h = rw (h, and-false (ltb (kind_of l) 4), and-false (eqb (length (parts tab l)) 2)) (and-false (leb (length l) 255))

  record-two : length l ≤ 255 → length (parts tab l) ≡ 2 → kind_of l < 4 → is_name (name_of l) ≡ true → is_record l ≡ true
  unfolding is_record
  record-two short two kind name = rw (le-leb (length l) 255 short, eq-eqb (length (parts tab l)) 2 two, lt-ltb (kind_of l) 4 kind, name)

  pub record-read : length l ≤ 255 → length (parts tab l) ≡ 2 → (k : Kind) (s time : ℕ) → kind_code k ≡ kind_of l
      → s ≤ length l → drop s l ≡ name_of l → Some time ≡ name_read (name_of l) → ReadRecord l (record { kind = k; name = s; time = time })
  record-read short two k s time kind inside name read =
      let t : (is_name (name_of l) ≡ true) × (time_of (name_of l) ≡ time) = cond_some (is_name (name_of l)) (time_of (name_of l)) time (sym read) in
      record {
        fine = record-two short two (rw (← kind) (kind-few k)) t.0;
        inside = inside;
        name = name;
        kind = kind;
        time = sym t.1;
      }
