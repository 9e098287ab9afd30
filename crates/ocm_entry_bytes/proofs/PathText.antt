-- A path has one text, and each such text is one path's.
use Rattle.std.proofs.Common.{◌≡◌, ℕ, ◌≤◌, ◌<◌, Bool, true, false, cond, eqb, leb, ltb, ◌||◌, All, List, [], ◌∷◌, ◌++◌, length, Option, Some, None, refl, sym, ap, subst, ◌∙◌, arith, append-nil}
use Rattle.std.specs.List.{slice_split, list_all, list_any}
use Rattle.std.proofs.lemmas.Bool.{eqb-true, cond-false, and_parts, and_from, leb-true, le-leb}
use Rattle.std.proofs.lemmas.List.Elements.{All-nil, All-cons}
use Rattle.std.proofs.lemmas.List.Splits.{slice_split_none, slice_split_at}
use Rattle.ocm_path.specs.Paths.{Segments, is_slash, is_barred, is_segment, joined, path_text}
use Rattle.ocm_path.specs.PathTexts.{are_segments, below_slash, path_with_text}
use Rattle.ocm_path.proofs.Joining.{is_root-cons}
use Rattle.ocm_path.proofs.RoundTrip.{IsSound-segment}
use Rattle.ocm_path.proofs.TextRead.{path_text-slice_split}

some_is : {A : Type 0} (x y : A) → Some x ≡ Some y → x ≡ y
some_is x y e = cc

passed : {A : Type 0} (b : Bool) (o : Option A) (v : A) → cond b o None ≡ Some v → (b ≡ true) × (o ≡ Some v)
passed true o v e = (refl, e)
passed false o v e = absurd cc

-- what a path that is read keeps
record IsShort (text : List ℕ) (path : Segments) : Type 0 where
  pub own : text ≡ path_text path
  pub short : length (path_text path) ≤ 1024

below_slash-is : (below : List ℕ) (path : Segments) → below_slash below ≡ Some path → IsShort (47 ∷ below) path
below_slash-is [] path e = let root : [] ≡ path = some_is [] path e in subst (IsShort (47 ∷ [])) root (record { own = refl; short = omega arith })
below_slash-is (b ∷ below) path e =
    let parts = slice_split is_slash (b ∷ below) in
    let is = passed (are_segments (length (47 ∷ b ∷ below)) parts) (Some parts) path e in
    let tests = and_parts (leb (length (47 ∷ b ∷ below)) 1024) (list_all is_segment parts) is.0 in
    let text : 47 ∷ b ∷ below ≡ path_text parts = sym (path_text-slice_split (b ∷ below)) in
    let short : length (path_text parts) ≤ 1024 = subst (λ (l : List ℕ). length l ≤ 1024) text (leb-true _ 1024 tests.0) in
    subst (IsShort (47 ∷ b ∷ below)) (some_is parts path is.1) (record { own = text; short = short })

path_with_text-short : (text : List ℕ) (path : Segments) → path_with_text text ≡ Some path → IsShort text path
path_with_text-short [] path e = absurd cc
path_with_text-short (b ∷ below) path e =
    let first = passed (eqb b 47) (below_slash below) path e in
    subst (λ (c : ℕ). IsShort (c ∷ below) path) (sym (eqb-true b 47 first.0)) (below_slash-is below path first.1)

-- what is read as a path is that path's text
pub path_with_text-is : (text : List ℕ) (path : Segments) → path_with_text text ≡ Some path → text ≡ path_text path
path_with_text-is text path e = (path_with_text-short text path e).own

pub path_with_text-bounded : (text : List ℕ) (path : Segments) → path_with_text text ≡ Some path → length (path_text path) ≤ 1024
path_with_text-bounded text path e = (path_with_text-short text path e).short

-- ---- the text of a path is read as that path

or_none : (a b : Bool) → (a || b) ≡ false → (a ≡ false) × (b ≡ false)
or_none true b e = absurd cc
or_none false b e = (refl, e)

barred-slash : (b : ℕ) → is_barred b ≡ false → is_slash b ≡ false
barred-slash b e = (or_none (ltb b 32 || eqb b 127) (is_slash b) e).1

clean-slashes : (s : List ℕ) → list_any is_barred s ≡ false → All (λ b. is_slash b ≡ false) s
clean-slashes [] e = All-nil (λ c. is_slash c ≡ false)
clean-slashes (b ∷ s) e =
    let parts = or_none (is_barred b) (list_any is_barred s) e in
    All-cons (λ c. is_slash c ≡ false) b s (barred-slash b parts.0) (clean-slashes s parts.1)

segment-slashes : (s : List ℕ) → is_segment s ≡ true → All (λ b. is_slash b ≡ false) s
segment-slashes s sound = clean-slashes s (IsSound-segment s sound).clean

slice_split-joined : (s : List ℕ) (ss : Segments) → list_all is_segment (s ∷ ss) ≡ true → slice_split is_slash (s ++ joined ss) ≡ s ∷ ss
slice_split-joined s [] sound =
    let mine = segment-slashes s (and_parts (is_segment s) _ sound).0 in
    ap (slice_split is_slash) (append-nil s) ∙ slice_split_none is_slash s mine
slice_split-joined s (t ∷ ts) sound =
    let each = and_parts (is_segment s) (list_all is_segment (t ∷ ts)) sound in
    slice_split_at is_slash s 47 (t ++ joined ts) (segment-slashes s each.0) refl ∙ ap (λ (l : Segments). s ∷ l) (slice_split-joined t ts each.1)

below_slash-of : (below : List ℕ) (path : Segments) → 0 < length below → slice_split is_slash below ≡ path → are_segments (length (47 ∷ below)) path ≡ true → below_slash below ≡ Some path
below_slash-of [] path some split sound = absurd (omega arith)
below_slash-of (b ∷ below) path some split sound = rw (split, sound) refl

pub path_with_text-again : (path : Segments) → list_all is_segment path ≡ true → length (path_text path) ≤ 1024 → path_with_text (path_text path) ≡ Some path
path_with_text-again [] sound short = refl
path_with_text-again (s ∷ ss) sound short =
    let text : path_text (s ∷ ss) ≡ 47 ∷ (s ++ joined ss) = cond-false _ _ _ (is_root-cons s ss) in
    let within : length (47 ∷ (s ++ joined ss)) ≤ 1024 = subst (λ (l : List ℕ). length l ≤ 1024) text short in
    let mine = IsSound-segment s (and_parts (is_segment s) (list_all is_segment ss) sound).0 in
    ap path_with_text text ∙ below_slash-of (s ++ joined ss) (s ∷ ss) (nonempty s (joined ss) mine.some) (slice_split-joined s ss sound) (and_from _ _ (le-leb _ 1024 within) sound)
  where
    nonempty : (t rest : List ℕ) → eqb (length t) 0 ≡ false → 0 < length (t ++ rest)
    nonempty [] rest e = absurd cc
    nonempty (b ∷ t) rest e = omega arith
