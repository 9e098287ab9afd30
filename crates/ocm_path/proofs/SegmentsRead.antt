-- Reading segment by segment.
use Rattle.std.proofs.Common.{◌≡◌, ℕ, ◌+◌, ◌<◌, ◌≤◌, arith, List, [], ◌∷◌, ◌++◌, length, drop, get_or, Bool, true, false, not, cond, refl, ap, sym, ◌∙◌, append-nil, append_assoc, Option, Some, None, Result, Ok, Err, ltb, leb}
use Rattle.std.specs.List.{list_all}
use Rattle.std.specs.Str.{is_utf8}
use Rattle.std.proofs.lemmas.Bool.{and_from, not_from_false}
use Rattle.std.proofs.lemmas.Bool.Decides.{nat_tests}
use Rattle.std.proofs.lemmas.List.{at_drop_more, at_drop_all}
use Rattle.percent_encoding.specs.Percent.{percent_decode}
use Rattle.ocm_path.specs.declared.faults.PathFault.{PathFault}
use Rattle.ocm_path.specs.declared.faults.PathFault.TheVariants.{BadEscape, NotText, EmptySegment, Dots, BadChar, TooLong}
use Rattle.ocm_path.specs.Escapes.{are_escapes}
use Rattle.ocm_path.specs.Paths.{Segments, is_segment, text_fault, unless, segment_of, before, segments_of}

-- the segments that were read, and then what is read of the rest
abbrev pub with_front : Segments → Result Segments PathFault → Result Segments PathFault
with_front made (Ok rest) = Ok (made ++ rest)
with_front made (Err fault) = Err fault

with_front-more : (made : Segments) (s : List ℕ) (rest : Result Segments PathFault) → with_front made (before (Ok s) rest) ≡ with_front (made ++ s ∷ []) rest
with_front-more made s (Ok rest) = ap (λ (x : Segments). Ok x) (sym (append_assoc made (s ∷ []) rest))
with_front-more made s (Err fault) = refl

segments_of-at : (pieces : List (List ℕ)) (n : ℕ) (piece : List ℕ) → n < length pieces → piece ≡ get_or pieces n piece → segments_of (drop n pieces) ≡ before (segment_of piece) (segments_of (drop (n + 1) pieces))
segments_of-at pieces n piece within is =
    at_drop_more segments_of pieces n piece within ∙ ap (λ p. before (segment_of p) (segments_of (drop (n + 1) pieces))) (sym is)

-- one more segment was read
pub read_more : (made : Segments) (pieces : List (List ℕ)) (n : ℕ) (piece s : List ℕ) (whole : Result Segments PathFault) → n < length pieces → piece ≡ get_or pieces n piece → segment_of piece ≡ Ok s → with_front made (segments_of (drop n pieces)) ≡ whole → with_front (made ++ s ∷ []) (segments_of (drop (n + 1) pieces)) ≡ whole
read_more made pieces n piece s whole within is segment so_far =
    sym (with_front-more made s (segments_of (drop (n + 1) pieces)))
    ∙ ap (λ r. with_front made (before r (segments_of (drop (n + 1) pieces)))) (sym segment)
    ∙ ap (with_front made) (sym (segments_of-at pieces n piece within is))
    ∙ so_far

-- a segment has a fault
pub read_stop : (made : Segments) (pieces : List (List ℕ)) (n : ℕ) (piece : List ℕ) (fault : PathFault) (whole : Result Segments PathFault) → n < length pieces → piece ≡ get_or pieces n piece → segment_of piece ≡ Err fault → with_front made (segments_of (drop n pieces)) ≡ whole → whole ≡ Err fault
read_stop made pieces n piece fault whole within is segment so_far =
    sym so_far
    ∙ ap (with_front made) (segments_of-at pieces n piece within is)
    ∙ ap (λ r. with_front made (before r (segments_of (drop (n + 1) pieces)))) segment

-- all segments were read
pub read_end : (made : Segments) (pieces : List (List ℕ)) (n : ℕ) (whole : Result Segments PathFault) → length pieces ≤ n → with_front made (segments_of (drop n pieces)) ≡ whole → whole ≡ Ok made
read_end made pieces n whole past so_far =
    sym so_far ∙ ap (with_front made) (at_drop_all segments_of pieces n past) ∙ ap (λ (x : Segments). Ok x) (append-nil made)

-- what a segment that was read has passed
segment-parts : (e u : Bool) (fault : Option PathFault) (d s : List ℕ) → cond (not e) (Err BadEscape) (cond (not u) (Err NotText) (unless fault d)) ≡ Ok s → (u ≡ true) × (fault ≡ None) × (d ≡ s)
segment-parts false u fault d s is = absurd cc
segment-parts true false fault d s is = absurd cc
segment-parts true true None d s is = (refl, refl, cc)
segment-parts true true (Some fault) d s is = absurd cc

no_fault : (a b c t : Bool) → cond a (Some EmptySegment) (cond b (Some Dots) (cond c (Some BadChar) (cond t (Some TooLong) None))) ≡ None → (a ≡ false) × (b ≡ false) × (c ≡ false) × (t ≡ false)
no_fault true b c t is = absurd cc
no_fault false true c t is = absurd cc
no_fault false false true t is = absurd cc
no_fault false false false true is = absurd cc
no_fault false false false false is = (refl, refl, refl, refl)

not_longer : (n : ℕ) → ltb 255 n ≡ false → leb n 255 ≡ true
not_longer n h = grind (arith, nat_tests)

pub is_segment-from_tests : (s : List ℕ) → is_utf8 s ≡ true → text_fault s ≡ None → is_segment s ≡ true
is_segment-from_tests s text none =
    let parts = no_fault _ _ _ _ none in
    and_from _ _ (and_from _ _ (and_from _ _ (and_from _ _ text (not_from_false _ parts.0)) (not_from_false _ parts.1)) (not_from_false _ parts.2)) (not_longer (length s) parts.3)

-- what was read is a segment
pub is_segment-segment_of : (piece s : List ℕ) → segment_of piece ≡ Ok s → is_segment s ≡ true
is_segment-segment_of piece s is =
    let parts = segment-parts (are_escapes piece) (is_utf8 (percent_decode piece)) (text_fault (percent_decode piece)) (percent_decode piece) s is in
    ap is_segment (sym parts.2) ∙ is_segment-from_tests (percent_decode piece) parts.0 parts.1

-- what was read in a row is segments
before-parts : (r : Result (List ℕ) PathFault) (rest : Result Segments PathFault) (path : Segments) → before r rest ≡ Ok path → (s : List ℕ) × (ss : Segments) × (r ≡ Ok s) × (rest ≡ Ok ss) × (path ≡ s ∷ ss)
before-parts (Err fault) rest path is = absurd cc
before-parts (Ok s) (Err fault) path is = absurd cc
before-parts (Ok s) (Ok ss) path is = (s, ss, refl, refl, cc)

pub list_all-segments_of : (pieces : List (List ℕ)) (path : Segments) → segments_of pieces ≡ Ok path → list_all is_segment path ≡ true
list_all-segments_of [] path is = let none : path ≡ [] = cc in ap (list_all is_segment) none
list_all-segments_of (piece ∷ pieces) path is =
    let parts = before-parts (segment_of piece) (segments_of pieces) path is in
    ap (list_all is_segment) parts.4 ∙ and_from _ _ (is_segment-segment_of piece parts.0 parts.2) (list_all-segments_of pieces parts.1 parts.3)
