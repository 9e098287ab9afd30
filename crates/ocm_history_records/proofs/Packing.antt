-- How records are put into a block of bytes.
use Rattle.std.proofs.Common.{◌≡◌, ℕ, ◌+◌, ◌≤◌, List, [], ◌∷◌, ◌++◌, length, drop, refl, sym, ap, ◌∙◌, append_assoc, arith}
use Rattle.std.specs.Int.{w64, from_be_bytes}
use Rattle.std.proofs.lemmas.List.{drop-append-le, take-append-le, length-drop}
use Rattle.ocm_history_records.specs.declared.kept.KeptRecord.{KeptRecord}
use Rattle.ocm_history_records.specs.declared.kept.KeptRecord.TheVariants as kinds
use Rattle.ocm_history_records.specs.declared.blocks.Mark.{Mark}
use Rattle.ocm_history_records.specs.declared.blocks.Mark.TheVariants as marks
use Rattle.ocm_history_records.specs.Packed.{all_of, mark_size, marks_size, record_at, unpacked}

pub marks-more : (ms : List Mark) (m : Mark) → marks_size (ms ++ m ∷ []) ≡ marks_size ms + mark_size m
marks-more [] m = omega arith
marks-more (k ∷ ms) m = let older = marks-more ms m in omega arith

-- a record is read alike where more bytes stand behind it
record-front : (m : Mark) (t b : List ℕ) → mark_size m ≤ length t → record_at m (t ++ b) ≡ record_at m t
record-front marks.Tick t b within = ap (λ x. kinds.Tick (from_be_bytes w64 x)) (take-append-le 8 t b within)
record-front (marks.Put size) t b within = ap kinds.Put (take-append-le size t b within)
record-front (marks.Other size) t b within = ap kinds.Other (take-append-le size t b within)

-- one record more
pub unpacked-more : (ms : List Mark) (t : List ℕ) (m : Mark) (b : List ℕ) → marks_size ms ≡ length t → unpacked (ms ++ m ∷ []) (t ++ b) ≡ unpacked ms t ++ record_at m b ∷ []
unpacked-more [] [] m b is = refl
unpacked-more [] (x ∷ t) m b is = absurd (let wrong : ⊥ = omega (arith, is) in wrong)
unpacked-more (k ∷ ms) t m b is =
    let within : mark_size k ≤ length t = omega (arith, is) in
    ap (λ r. r ∷ unpacked (ms ++ m ∷ []) (drop (mark_size k) (t ++ b))) (record-front k t b within)
    ∙ ap (λ x. record_at k t ∷ unpacked (ms ++ m ∷ []) x) (drop-append-le (mark_size k) t b within)
    ∙ ap (λ rs. record_at k t ∷ rs) (unpacked-more ms (drop (mark_size k) t) m b (let left = length-drop (mark_size k) t in omega (arith, is, left)))

nothing-behind : (xs : List KeptRecord) → xs ++ [] ≡ xs
nothing-behind [] = refl
nothing-behind (x ∷ xs) = ap (λ l. x ∷ l) (nothing-behind xs)

-- the blocks with one block more
all-more : (bs : List (List KeptRecord)) (b : List KeptRecord) → all_of (bs ++ b ∷ []) ≡ all_of bs ++ b
all-more [] b = nothing-behind b
all-more (c ∷ bs) b = ap (λ l. c ++ l) (all-more bs b) ∙ sym (append_assoc c (all_of bs) b)

-- ... that holds the newest records
pub all-packed : (bs packed : List (List KeptRecord)) (b newest : List KeptRecord) → packed ≡ bs ++ b ∷ [] → b ≡ newest → all_of packed ≡ all_of bs ++ newest
all-packed bs packed b newest is holds = ap all_of is ∙ all-more bs b ∙ ap (λ l. all_of bs ++ l) holds

-- ... so that none of the newest is left beside the blocks
pub all-cleared : (packed : List KeptRecord) (left : List KeptRecord) → left ≡ [] → packed ++ left ≡ packed
all-cleared packed left is = ap (λ l. packed ++ l) is ∙ nothing-behind packed
