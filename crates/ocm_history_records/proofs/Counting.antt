-- How many bytes the records of what is kept take, one after another.
use Rattle.std.proofs.Common.{◌≡◌, ℕ, ◌+◌, ◌<◌, ◌≤◌, List, [], ◌∷◌, ◌++◌, length, take, drop, get_or, min, Bool, true, false, sym, ap, ◌∙◌, subst, arith, Option}
use Rattle.std.specs.Prelude.{if◌then◌else◌}
use Rattle.std.proofs.lemmas.List.{drop_more, length-drop, length-take-le, take_more}
use Rattle.std.proofs.lemmas.List.{take-append-drop}
use Rattle.ocm_journal_image.specs.Layout.{AreRecords, blocks_size}
use Rattle.ocm_history_records.specs.declared.kept.KeptRecord.{KeptRecord}
use Rattle.ocm_history_records.specs.Kept.{IsTooLong, asked_size, is_tick_record, lean_asks, lean_text, lean_texts}
use Rattle.ocm_history_records.proofs.Fields.{IsLength}
use Rattle.ocm_history_records.proofs.Leaning.{lean_asks-append, with-one, with_record}

-- ---- what is left to be read

-- the next of some records, of which so many were read
pub record Next (rs : List KeptRecord) (i : ℕ) (r : KeptRecord) (next : List KeptRecord) : Type 0 where
  pub below : i < length rs
  pub is : r ≡ get_or rs i r
  pub left : next ≡ drop (i + 1) rs

pub next-read : (rs left next : List KeptRecord) (i : ℕ) (r : KeptRecord) → left ≡ drop i rs → left ≡ r ∷ next → Next rs i r next
next-read rs left next i r from is = record {
  below = below;
  is = ap (λ l. get_or l 0 r) split;
  left = ap (λ l. drop 1 l) split;
}
  where
    below : i < length rs
    below = let all = length-drop i rs in let some = ap length (sym is ∙ from) in omega (arith, all, some)

    split : r ∷ next ≡ get_or rs i r ∷ drop (i + 1) rs
    split = sym is ∙ from ∙ drop_more rs i r below

-- none is left
pub all-read : (rs left : List KeptRecord) (i : ℕ) → left ≡ drop i rs → left ≡ [] → i ≤ length rs → i ≡ length rs
all-read rs left i from none within = let all = length-drop i rs in let some = ap length (sym none ∙ from) in omega (arith, all, some)

-- ---- one record more

-- the records of asks with the next record
pub asks-more : (bodies : ℕ → Option (List ℕ)) (rs : List KeptRecord) (i : ℕ) (r : KeptRecord) → i < length rs → r ≡ get_or rs i r
    → lean_asks bodies 1 (take (i + 1) rs) ≡ with_record (is_tick_record r) (lean_asks bodies 1 (take i rs)) (lean_text r (bodies (i + 1)))
asks-more bodies rs i r below is =
    ap (lean_asks bodies 1) (take_more rs i r below ∙ ap (λ x. take i rs ++ x ∷ []) (sym is))
    ∙ lean_asks-append bodies 1 (i + 1) (take i rs) (r ∷ []) (let len = length-take-le i rs (omega arith) in omega arith)
    ∙ with-one bodies (i + 1) (lean_asks bodies 1 (take i rs)) r

-- the records of asks with one behind all
pub asks-behind : (bodies : ℕ → Option (List ℕ)) (rs : List KeptRecord) (r : KeptRecord)
    → lean_asks bodies 1 (rs ++ r ∷ []) ≡ with_record (is_tick_record r) (lean_asks bodies 1 rs) (lean_text r (bodies (length rs + 1)))
asks-behind bodies rs r = lean_asks-append bodies 1 (length rs + 1) rs (r ∷ []) (omega arith) ∙ with-one bodies (length rs + 1) (lean_asks bodies 1 rs) r

blocks-more : (rs : List (List ℕ)) (r : List ℕ) → blocks_size (rs ++ r ∷ []) ≡ blocks_size rs + (5 + length r)
blocks-more [] r = omega arith
blocks-more (x ∷ rs) r = let older = blocks-more rs r in omega arith

size-with : (r : KeptRecord) (older : List (List ℕ)) (t : List ℕ) → blocks_size (with_record (is_tick_record r) older t) ≡ blocks_size older + asked_size r (5 + length t)
size-with r older t = by_tick (is_tick_record r)
  where
    by_tick : (b : Bool) → blocks_size (with_record b older t) ≡ blocks_size older + (if b then 0 else 5 + length t)
    by_tick true = omega arith
    by_tick false = blocks-more older t

most-added : (size added next x y : ℕ) → size ≡ min x 18446744073709551615 → added ≡ min y 18446744073709551615 → next ≡ min (size + added) 18446744073709551615 → next ≡ min (x + y) 18446744073709551615
most-added size added next x y s a n = omega arith

-- the size of those so far, with the next
pub size-more : (bodies : ℕ → Option (List ℕ)) (rs : List KeptRecord) (i : ℕ) (r : KeptRecord) (size added next : ℕ) → i < length rs → r ≡ get_or rs i r
    → size ≡ min (blocks_size (lean_asks bodies 1 (take i rs))) 18446744073709551615 → added ≡ min (asked_size r (5 + length (lean_text r (bodies (i + 1))))) 18446744073709551615
    → next ≡ min (size + added) 18446744073709551615
    → next ≡ min (blocks_size (lean_asks bodies 1 (take (i + 1) rs))) 18446744073709551615
size-more bodies rs i r size added next below is so_far one sum =
    most-added size added next _ _ so_far one sum
    ∙ ap (λ n. min n 18446744073709551615) (sym (ap blocks_size (asks-more bodies rs i r below is) ∙ size-with r (lean_asks bodies 1 (take i rs)) (lean_text r (bodies (i + 1)))))

-- the size of all, with the newest
pub size-behind : (bodies : ℕ → Option (List ℕ)) (rs : List KeptRecord) (r : KeptRecord) (size added next : ℕ)
    → size ≡ min (blocks_size (lean_asks bodies 1 rs)) 18446744073709551615 → added ≡ min (asked_size r (5 + length (lean_text r (bodies (length rs + 1))))) 18446744073709551615
    → next ≡ min (size + added) 18446744073709551615
    → next ≡ min (blocks_size (lean_asks bodies 1 (rs ++ r ∷ []))) 18446744073709551615
size-behind bodies rs r size added next so_far one sum =
    most-added size added next _ _ so_far one sum
    ∙ ap (λ n. min n 18446744073709551615) (sym (ap blocks_size (asks-behind bodies rs r) ∙ size-with r (lean_asks bodies 1 rs) (lean_text r (bodies (length rs + 1)))))

-- ---- lengths

one_fits : (xs ys : List (List ℕ)) (t : List ℕ) → AreRecords (xs ++ t ∷ ys) → IsLength t
one_fits [] ys t are = (are.0, are.1)
one_fits (x ∷ xs) ys t are = one_fits xs ys t are.2

pub records-more : (rs : List (List ℕ)) (r : List ℕ) → AreRecords rs → IsLength r → AreRecords (rs ++ r ∷ [])
records-more [] r are len = (len.0, len.1, tt)
records-more (x ∷ rs) r are len = (are.0, are.1, records-more rs r are.2 len)

-- a record among those that a journal takes is not too long
pub short : (t : List ℕ) → IsLength t → IsTooLong t → ⊥
short t len long = let more = long len.0 in omega (arith, len.1, more)

-- so it is with the newest of all
pub newest-short : (bodies : ℕ → Option (List ℕ)) (rs : List KeptRecord) (newest : KeptRecord) → AreRecords (lean_texts bodies rs newest) → IsTooLong (lean_text newest (bodies (length rs + 1))) → ⊥
newest-short bodies rs newest are long = short (lean_text newest (bodies (length rs + 1))) (one_fits (lean_asks bodies 1 rs) [] (lean_text newest (bodies (length rs + 1))) are) long

are-front : (xs ys : List (List ℕ)) → AreRecords (xs ++ ys) → AreRecords xs
are-front [] ys are = tt
are-front (x ∷ xs) ys are = (are.0, are.1, are-front xs ys are.2)

-- and with each before it
pub older-short : (bodies : ℕ → Option (List ℕ)) (rs : List KeptRecord) (newest : KeptRecord) (i : ℕ) (r : KeptRecord) → i < length rs → r ≡ get_or rs i r → is_tick_record r ≡ false
    → AreRecords (lean_texts bodies rs newest) → IsTooLong (lean_text r (bodies (i + 1))) → ⊥
older-short bodies rs newest i r below is other are long =
    short text (one_fits (lean_asks bodies 1 (take i rs)) [] text (subst AreRecords (asks-more bodies rs i r below is ∙ ap (λ b. with_record b (lean_asks bodies 1 (take i rs)) text) other) upto)) long
  where
    text : List ℕ
    text = lean_text r (bodies (i + 1))

    rest : List KeptRecord
    rest = drop (i + 1) rs

    split : lean_asks bodies 1 rs ≡ lean_asks bodies 1 (take (i + 1) rs) ++ lean_asks bodies (i + 2) rest
    split = ap (lean_asks bodies 1) (sym (take-append-drop (i + 1) rs)) ∙ lean_asks-append bodies 1 (i + 2) (take (i + 1) rs) rest (let len = length-take-le (i + 1) rs (omega arith) in omega arith)

    upto : AreRecords (lean_asks bodies 1 (take (i + 1) rs))
    upto = are-front (lean_asks bodies 1 (take (i + 1) rs)) (lean_asks bodies (i + 2) rest) (subst AreRecords split (are-front (lean_asks bodies 1 rs) (lean_text newest (bodies (length rs + 1)) ∷ []) are))
