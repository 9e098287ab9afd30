-- Reading a text as it stands, piece by piece.
use Rattle.std.proofs.Common.{◌≡◌, ℕ, ◌+◌, ◌<◌, ◌≤◌, Bool, true, false, cond, ◌&&◌, List, [], ◌∷◌, ◌++◌, length, drop, get_or, Some, None, IsUtf8, refl, ap, sym, ◌∙◌, arith, append-nil, append_assoc}
use Rattle.std.specs.List.{slice_split, onto_first, list_all}
use Rattle.std.proofs.lemmas.Bool.{eqb-true, cond_both, cond-false, cond-true, false_from_ne_true}
use Rattle.std.proofs.lemmas.List.{at_drop_more, at_drop_all}
use Rattle.std.proofs.lemmas.Str.{is_utf8-from_IsUtf8, IsUtf8-from_is_utf8}
use Rattle.ocm_path.specs.Paths.{Segments, is_slash, is_segment, text_fault, joined, path_text, is_path}
use Rattle.ocm_path.specs.PathTexts.{if_segment, if_segments}
use Rattle.ocm_path.proofs.Joining.{is_root-cons, is_path-from_parts}
use Rattle.ocm_path.proofs.RoundTrip.{IsSound-segment}
use Rattle.ocm_path.proofs.SegmentsRead.{is_segment-from_tests}

-- ---- one piece

pub some-if_segment : (s : List ℕ) → IsUtf8 s → text_fault s ≡ None → Some s ≡ if_segment s
some-if_segment s text none = sym (cond-true _ (Some s) None (is_segment-from_tests s (is_utf8-from_IsUtf8 s text) none))

pub none-if_segment : (s : List ℕ) → (IsUtf8 s → ⊥) → None ≡ if_segment s
none-if_segment s other = sym (cond-false _ (Some s) None (false_from_ne_true (is_segment s) (λ e. other (IsUtf8-from_is_utf8 s (IsSound-segment s e).text))))

some_if : {A : Type 0} (b : Bool) (x y : A) → Some x ≡ cond b (Some y) None → (b ≡ true) × (x ≡ y)
some_if true x y e = (refl, cc)
some_if false x y e = absurd cc

none_if : {A : Type 0} (b : Bool) (y : A) → None ≡ cond b (Some y) None → b ≡ false
none_if true y e = absurd cc
none_if false y e = refl

-- ---- pieces in a row

-- the pieces that were taken, and what is still to be tested of all of them
pub record IsTaken (made pieces : Segments) (n : ℕ) : Type 0 where
  pub whole : made ++ drop n pieces ≡ pieces
  pub sound : list_all is_segment (drop n pieces) ≡ list_all is_segment pieces

drop-at : (pieces : Segments) (n : ℕ) (piece : List ℕ) → n < length pieces → piece ≡ get_or pieces n piece → drop n pieces ≡ piece ∷ drop (n + 1) pieces
drop-at pieces n piece within is = at_drop_more (λ (p : Segments). p) pieces n piece within ∙ ap (λ (p : List ℕ). p ∷ drop (n + 1) pieces) (sym is)

-- one more piece is a segment
pub IsTaken-more : (made pieces : Segments) (n : ℕ) (piece s : List ℕ) → n < length pieces → piece ≡ get_or pieces n piece → Some s ≡ if_segment piece → IsTaken made pieces n → IsTaken (made ++ s ∷ []) pieces (n + 1)
IsTaken-more made pieces n piece s within is given taken =
    let segment = some_if (is_segment piece) s piece given in
    let rest = drop-at pieces n piece within is in
    record {
      whole = append_assoc made (s ∷ []) (drop (n + 1) pieces) ∙ ap (λ (x : List ℕ). made ++ x ∷ drop (n + 1) pieces) segment.1 ∙ ap (λ (p : Segments). made ++ p) (sym rest) ∙ taken.whole;
      sound = ap (λ (b : Bool). b && list_all is_segment (drop (n + 1) pieces)) (sym segment.0) ∙ ap (list_all is_segment) (sym rest) ∙ taken.sound;
    }

-- a piece is none
pub IsTaken-stop : (made pieces : Segments) (n : ℕ) (piece : List ℕ) → n < length pieces → piece ≡ get_or pieces n piece → None ≡ if_segment piece → IsTaken made pieces n → None ≡ if_segments pieces
IsTaken-stop made pieces n piece within is given taken =
    let rest = drop-at pieces n piece within is in
    let other : list_all is_segment pieces ≡ false = sym taken.sound ∙ ap (list_all is_segment) rest ∙ ap (λ (b : Bool). b && list_all is_segment (drop (n + 1) pieces)) (none_if (is_segment piece) piece given) in
    sym (cond-false _ (Some pieces) None other)

-- all pieces were taken
pub IsTaken-end : (made pieces : Segments) (n : ℕ) → length pieces ≤ n → IsTaken made pieces n → Some made ≡ if_segments pieces
IsTaken-end made pieces n past taken =
    let none : drop n pieces ≡ [] = at_drop_all (λ (p : Segments). p) pieces n past in
    let all : made ≡ pieces = sym (append-nil made) ∙ ap (λ (p : Segments). made ++ p) (sym none) ∙ taken.whole in
    let sound : list_all is_segment pieces ≡ true = sym taken.sound ∙ ap (list_all is_segment) none in
    ap (λ (p : Segments). Some p) all ∙ sym (cond-true _ (Some pieces) None sound)

-- ---- parts that are put together with a `/` before each

onto_first-joined : (b : ℕ) (parts : Segments) (text : List ℕ) → joined parts ≡ 47 ∷ text → joined (onto_first b parts) ≡ 47 ∷ b ∷ text
onto_first-joined b [] text e = absurd cc
onto_first-joined b (s ∷ ss) text e = let rest : s ++ joined ss ≡ text = cc in ap (λ (l : List ℕ). 47 ∷ b ∷ l) rest

joined-slice_split : (text : List ℕ) → joined (slice_split is_slash text) ≡ 47 ∷ text
joined-slice_split [] = refl
joined-slice_split (b ∷ text) =
    cond_both (is_slash b) ([] ∷ slice_split is_slash text) (onto_first b (slice_split is_slash text)) (λ parts. joined parts ≡ 47 ∷ b ∷ text)
    (λ slash. ap (λ (l : List ℕ). 47 ∷ l) (joined-slice_split text) ∙ ap (λ (c : ℕ). 47 ∷ c ∷ text) (sym (eqb-true b 47 slash)))
    (λ other. onto_first-joined b (slice_split is_slash text) text (joined-slice_split text))

path_text-joined : (parts : Segments) (text : List ℕ) → joined parts ≡ 47 ∷ text → path_text parts ≡ 47 ∷ text
path_text-joined [] text e = absurd cc
path_text-joined (s ∷ ss) text e = cond-false _ _ _ (is_root-cons s ss) ∙ e

-- the text of what stands between `/`
pub path_text-slice_split : (text : List ℕ) → path_text (slice_split is_slash text) ≡ 47 ∷ text
path_text-slice_split text = path_text-joined (slice_split is_slash text) text (joined-slice_split text)

-- segments of a short text are a path
pub is_path-if_segments : (text : List ℕ) (path : Segments) → length text ≤ 1023 → Some path ≡ if_segments (slice_split is_slash text) → is_path path ≡ true
is_path-if_segments text path short e =
    let is = some_if _ path (slice_split is_slash text) e in
    let own : length (path_text path) ≡ length (47 ∷ text) = ap (λ (p : Segments). length (path_text p)) is.1 ∙ ap length (path_text-slice_split text) in
    is_path-from_parts path (ap (list_all is_segment) is.1 ∙ is.0) (omega arith)
