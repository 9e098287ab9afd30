-- Where a head that is written in whole lines ends.
use Rattle.std.proofs.Common.{◌≡◌, ℕ, ◌+◌, ◌-◌, ◌<◌, ◌≤◌, List, [], ◌∷◌, ◌++◌, length, Bool, true, false, cond, not, ◌&&◌, nat_eq, ne_eqb, refl, sym, ap, ◌∙◌, subst, arith, length-append}
use Rattle.std.specs.List.{flat_map, list_all}
use Rattle.std.proofs.lemmas.Bool.{and_parts, or_parts, not-true}
use Rattle.ocm_http_heads.specs.declared.endings.Stand.{Stand}
use Rattle.ocm_http_heads.specs.declared.endings.Stand.TheVariants.{Before, InLine, AtLine}
use Rattle.ocm_http_heads.specs.declared.endings.Look.{Look}
use Rattle.ocm_http_heads.specs.declared.endings.Found.{Found}
use Rattle.ocm_http_heads.specs.declared.endings.Found.TheVariants.{Whole, TooLong, Unfinished}
use Rattle.ocm_http_heads.specs.Endings.{further, found, moved, stepped, passes, ends, is_blank, of_head}
use Rattle.ocm_http_heads.proofs.Looks.{found_on, moved-append}
use Rattle.ocm_http.specs.Written.{line_end}

-- ---- a look that finds nothing

abbrev pub look_at : Stand → ℕ → ℕ → Look
look_at stand size lines = record { stand = stand; size = size; lines = lines }

same_look : (stand : Stand) (m n k l : ℕ) → m ≡ n → k ≡ l → look_at stand m k ≡ look_at stand n l
same_look stand m n k l e h = rw (e, h) refl

-- nothing is found in the bytes, and this is the look after them
record Walks (look : Look) (bytes : List ℕ) (to : Look) : Type 0 where
  pub nothing : found look bytes ≡ Unfinished
  pub moved_is : moved look bytes ≡ to

walks_on : (look mid to : Look) (x y : List ℕ) → Walks look x mid → Walks mid y to → Walks look (x ++ y) to
walks_on look mid to x y a b = record {
  nothing = found_on look x y a.nothing ∙ (ap (λ l. further (length x) (found l y)) a.moved_is ∙ ap (further (length x)) b.nothing);
  moved_is = moved-append look x y ∙ (ap (λ l. moved l y) a.moved_is ∙ b.moved_is);
}

step_none : (p e t : Bool) (f : Found) → p ≡ false → e ≡ false → f ≡ Unfinished → cond p (TooLong t) (cond e (Whole 1) (further 1 f)) ≡ Unfinished
step_none p e t f h k l = rw (h, k, l) refl

walks_step : (look next to : Look) (b : ℕ) (x : List ℕ) → passes look b ≡ false → ends look.stand b ≡ false → stepped look b ≡ next → Walks next x to → Walks look (b ∷ x) to
walks_step look next to b x allowed goes steps rest =
    let on : Walks (stepped look b) x to = subst (λ l. Walks l x to) (sym steps) rest in
    record {
      nothing = step_none _ _ _ _ allowed goes on.nothing;
      moved_is = on.moved_is;
    }

-- ---- lines

-- a byte that ends no line
abbrev pub is_inside : ℕ → Bool
is_inside b = not (nat_eq b 10)

-- the text of a line, without its end
abbrev pub is_line : List ℕ → Bool
is_line [] = false
is_line (b ∷ x) = not (is_blank b) && list_all is_inside x

some_left : (size : ℕ) → 0 < size → nat_eq size 0 ≡ false
some_left size some = ne_eqb size 0 (λ e. absurd (omega arith))

inside : (x : List ℕ) (size lines left : ℕ) → size ≡ length x + left → list_all is_inside x ≡ true → Walks (look_at InLine size lines) x (look_at InLine left lines)
inside [] size lines left e h = record { nothing = refl; moved_is = same_look InLine size left lines lines (omega arith) refl }
inside (b ∷ x) size lines left e h =
    let parts = and_parts (is_inside b) (list_all is_inside x) h in
    let other : nat_eq b 10 ≡ false = not-true (nat_eq b 10) parts.0 in
    let some : nat_eq size 0 ≡ false = some_left size (omega arith) in
    let on : Walks (look_at InLine (size - 1) lines) x (look_at InLine left lines) = inside x (size - 1) lines left (omega arith) parts.1 in
    walks_step (look_at InLine size lines) (look_at InLine (size - 1) lines) (look_at InLine left lines) b x (rw (some, other) refl) refl (rw other refl) on

at_end : (size lines left few : ℕ) → size ≡ left + 2 → lines ≡ few + 1 → Walks (look_at InLine size lines) (13 ∷ 10 ∷ []) (look_at AtLine left few)
at_end size lines left few e h =
    let some : nat_eq size 0 ≡ false = some_left size (omega arith) in
    let more : nat_eq (size - 1) 0 ≡ false = some_left (size - 1) (omega arith) in
    let line : nat_eq lines 0 ≡ false = some_left lines (omega arith) in
    let done : Walks (look_at AtLine left few) [] (look_at AtLine left few) = record { nothing = refl; moved_is = refl } in
    let feed : Walks (look_at InLine (size - 1) lines) (10 ∷ []) (look_at AtLine left few) =
    walks_step (look_at InLine (size - 1) lines) (look_at AtLine left few) (look_at AtLine left few) 10 [] (rw (more, line) refl) refl (same_look AtLine (size - 1 - 1) left (lines - 1) few (omega arith) (omega arith)) done in
    walks_step (look_at InLine size lines) (look_at InLine (size - 1) lines) (look_at AtLine left few) 13 (10 ∷ []) (rw some refl) refl refl feed

-- where a line may begin
abbrev pub begin : Bool → Stand
begin true = Before
begin false = AtLine

first_steps : (first : Bool) (b size lines : ℕ) → is_blank b ≡ false → nat_eq size 0 ≡ false
    → (passes (look_at (begin first) size lines) b ≡ false) × (ends (begin first) b ≡ false) × (stepped (look_at (begin first) size lines) b ≡ look_at InLine (size - 1) lines)
first_steps first b size lines h some =
    let parts = or_parts (nat_eq b 10) (nat_eq b 13) h in
    by first parts.0 parts.1
  where
    by : (first : Bool) → nat_eq b 10 ≡ false → nat_eq b 13 ≡ false
        → (passes (look_at (begin first) size lines) b ≡ false) × (ends (begin first) b ≡ false) × (stepped (look_at (begin first) size lines) b ≡ look_at InLine (size - 1) lines)
    by true feed return = (rw (some, feed) refl, refl, rw (feed, return) refl)
    by false feed return = (rw (some, feed) refl, rw feed refl, rw (feed, return) refl)

-- a whole line
line_walks : (first : Bool) (line : List ℕ) (size lines left few : ℕ) → is_line line ≡ true → size ≡ length line + 2 + left → lines ≡ few + 1 → Walks (look_at (begin first) size lines) (line ++ line_end) (look_at AtLine left few)
line_walks first [] size lines left few is e h = cc
line_walks first (b ∷ x) size lines left few is e h =
    let parts = and_parts (not (is_blank b)) (list_all is_inside x) is in
    let steps = first_steps first b size lines (not-true (is_blank b) parts.0) (some_left size (omega arith)) in
    let rest : Walks (look_at InLine (size - 1) lines) x (look_at InLine (left + 2) lines) = inside x (size - 1) lines (left + 2) (omega arith) parts.1 in
    walks_on (look_at (begin first) size lines) (look_at InLine (left + 2) lines) (look_at AtLine left few) (b ∷ x) line_end
    (walks_step (look_at (begin first) size lines) (look_at InLine (size - 1) lines) (look_at InLine (left + 2) lines) b x steps.0 steps.1 steps.2 rest)
    (at_end (left + 2) lines left few refl h)

-- ---- heads

-- lines, each with its end
abbrev pub ended_lines : List (List ℕ) → List ℕ
ended_lines = flat_map (λ line. line ++ line_end)

lines_walk : (texts : List (List ℕ)) (size lines left few : ℕ) → list_all is_line texts ≡ true → size ≡ length (ended_lines texts) + left → lines ≡ length texts + few
    → Walks (look_at AtLine size lines) (ended_lines texts) (look_at AtLine left few)
lines_walk [] size lines left few are e h = record { nothing = refl; moved_is = same_look AtLine size left lines few (omega arith) (omega arith) }
lines_walk (line ∷ texts) size lines left few are e h =
    let parts = and_parts (is_line line) (list_all is_line texts) are in
    let all : length ((line ++ line_end) ++ ended_lines texts) ≡ length (line ++ line_end) + length (ended_lines texts) = length-append (line ++ line_end) (ended_lines texts) in
    let one : length (line ++ line_end) ≡ length line + 2 = length-append line line_end in
    let mid = length (ended_lines texts) + left in
    walks_on (look_at AtLine size lines) (look_at AtLine mid (length texts + few)) (look_at AtLine left few) (line ++ line_end) (ended_lines texts)
    (line_walks false line size lines mid (length texts + few) parts.0 (omega arith) (omega arith))
    (lines_walk texts mid (length texts + few) left few parts.1 refl refl)

empty_line : (size lines : ℕ) → 2 ≤ size → 1 ≤ lines → found (look_at AtLine size lines) line_end ≡ Whole 2
empty_line size lines two one =
    let some : nat_eq size 0 ≡ false = some_left size (omega arith) in
    let more : nat_eq (size - 1) 0 ≡ false = some_left (size - 1) (omega arith) in
    let line : nat_eq lines 0 ≡ false = some_left lines (omega arith) in
    rw (some, more, line) refl

-- a first line, more lines and an empty line
abbrev pub head_text : List ℕ → List (List ℕ) → List ℕ
head_text start texts = ((start ++ line_end) ++ ended_lines texts) ++ line_end

-- such a head ends with its empty line, where it is within the limits
pub head_found : (start : List ℕ) (texts : List (List ℕ)) → is_line start ≡ true → list_all is_line texts ≡ true
    → length (head_text start texts) ≤ 16384 → length texts ≤ 64 → found of_head (head_text start texts) ≡ Whole (length (head_text start texts))
head_found start texts is are size few =
    let front = (start ++ line_end) ++ ended_lines texts in
    let all : length (front ++ line_end) ≡ length front + 2 = length-append front line_end in
    let two : length front ≡ length (start ++ line_end) + length (ended_lines texts) = length-append (start ++ line_end) (ended_lines texts) in
    let one : length (start ++ line_end) ≡ length start + 2 = length-append start line_end in
    let mid = 16384 - (length start + 2) in
    let left = 16384 - length front in
    let walk : Walks (look_at Before 16384 66) front (look_at AtLine left (65 - length texts)) =
    walks_on (look_at Before 16384 66) (look_at AtLine mid 65) (look_at AtLine left (65 - length texts)) (start ++ line_end) (ended_lines texts)
    (line_walks true start 16384 66 mid 65 is (omega arith) refl)
    (lines_walk texts mid 65 left (65 - length texts) are (omega arith) (omega arith)) in
    found_on of_head front line_end walk.nothing
    ∙ (ap (λ l. further (length front) (found l line_end)) walk.moved_is
    ∙ (ap (further (length front)) (empty_line left (65 - length texts) (omega arith) (omega arith))
    ∙ ap Whole (sym all)))
