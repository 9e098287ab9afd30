-- The texts of segments after a `/` each.
use Rattle.std.proofs.Common.{◌≡◌, ℕ, ◌+◌, ◌≤◌, max, arith, List, [], ◌∷◌, ◌++◌, length, take, drop, true, false, refl, ap, sym, ◌∙◌, length-append, append_assoc, take-append-drop}
use Rattle.std.specs.List.{list_all}
use Rattle.std.proofs.lemmas.Bool.{and_parts, and_from, leb-true, le-leb, cond-false, ne_eqb}
use Rattle.std.proofs.lemmas.List.{append-nil}
use Rattle.std.proofs.lemmas.List.Concat.{flat_map-append}
use Rattle.std.proofs.lemmas.List.Folds.{list_all-append}
use Rattle.ocm_path.specs.Escapes.{escape}
use Rattle.ocm_path.specs.Paths.{Segments, is_root, joined, joined_escaped, path_text, is_segment, is_path}

-- a path with a segment is not the root
pub is_root-cons : (s : List ℕ) (ss : Segments) → is_root (s ∷ ss) ≡ false
is_root-cons s ss = ne_eqb _ 0 (λ none. omega arith)

-- the text of a path is as long as its segments after a `/` each, and at least 1
pub length-path_text : (path : Segments) → length (path_text path) ≡ max (length (joined path)) 1
length-path_text [] = refl
length-path_text (s ∷ ss) =
    let long : length (joined (s ∷ ss)) ≡ max (length (joined (s ∷ ss))) 1 = omega arith in
    ap length (cond-false _ _ (joined (s ∷ ss)) (is_root-cons s ss)) ∙ long

-- the text of a path is within the limit of every path
pub path_text-bounded : (path : Segments) → is_path path ≡ true → length (path_text path) ≤ 2048
path_text-bounded path sound = leb-true _ 2048 (and_parts (list_all is_segment path) _ sound).1

-- segments of a shorter text
pub is_path-from_parts : (path : Segments) → list_all is_segment path ≡ true → length (path_text path) ≤ 2048 → is_path path ≡ true
is_path-from_parts path sound short = and_from _ _ sound (le-leb _ 2048 short)

-- the front of a path has no longer text
pub length-path_text-take : (path : Segments) (n : ℕ) → length (path_text (take n path)) ≤ length (path_text path)
length-path_text-take path n =
    let texts : joined path ≡ joined (take n path) ++ joined (drop n path) = ap joined (sym (take-append-drop n path)) ∙ flat_map-append (λ segment. 47 ∷ segment) (take n path) (drop n path) in
    let lengths : length (joined path) ≡ length (joined (take n path)) + length (joined (drop n path)) = ap length texts ∙ length-append (joined (take n path)) (joined (drop n path)) in
    let whole = length-path_text path in
    let front = length-path_text (take n path) in
    omega arith

-- the front of a path is a path
pub is_path-take : (path : Segments) (n : ℕ) → is_path path ≡ true → is_path (take n path) ≡ true
is_path-take path n sound =
    let each = and_parts (list_all is_segment path) _ sound in
    let front = and_parts (list_all is_segment (take n path)) _ (sym (list_all-append is_segment (take n path) (drop n path)) ∙ ap (list_all is_segment) (take-append-drop n path) ∙ each.0) in
    let bounded = path_text-bounded path sound in
    let shorter = length-path_text-take path n in
    is_path-from_parts (take n path) front.0 (omega arith)

-- segments of a path behind another path are a path, where their text is short
pub is_path-moved : (to path : Segments) (n : ℕ) → is_path to ≡ true → is_path path ≡ true → length (path_text (to ++ drop n path)) ≤ 2048 → is_path (to ++ drop n path) ≡ true
is_path-moved to path n sound_to sound short =
    let first = and_parts (list_all is_segment to) _ sound_to in
    let each = and_parts (list_all is_segment path) _ sound in
    let both = and_parts (list_all is_segment (take n path)) _ (sym (list_all-append is_segment (take n path) (drop n path)) ∙ ap (list_all is_segment) (take-append-drop n path) ∙ each.0) in
    is_path-from_parts (to ++ drop n path) (list_all-append is_segment to (drop n path) ∙ and_from _ _ first.0 both.1) short

-- ---- one segment more

-- a path with one segment more is not the root
pub is_root-named : (path : Segments) (name : List ℕ) → is_root (path ++ name ∷ []) ≡ false
is_root-named [] name = is_root-cons name []
is_root-named (s ∷ ss) name = is_root-cons s (ss ++ name ∷ [])

-- the escaped text of a path with one segment more
pub joined_escaped-named : (path : Segments) (name : List ℕ) → joined_escaped (path ++ name ∷ []) ≡ joined_escaped path ++ 47 ∷ [] ++ escape name
joined_escaped-named path name =
    flat_map-append (λ segment. 47 ∷ escape segment) path (name ∷ [])
    ∙ (ap (λ t. joined_escaped path ++ t) (append-nil (47 ∷ escape name)) ∙ sym (append_assoc (joined_escaped path) (47 ∷ []) (escape name)))
