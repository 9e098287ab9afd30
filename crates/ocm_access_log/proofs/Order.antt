-- The lines of a log are of reads, and their places and moments don't fall.
use Rattle.std.proofs.Common.{◌≡◌, ℕ, ◌+◌, ◌≤◌, List, [], ◌∷◌, ◌++◌, length, Bool, true, false, cond, Option, Some, None, Result, Ok, Err, refl, sym, ap, subst, ◌∙◌, arith}
use Rattle.std.specs.Prelude.{◌==◌, nat_eq, nat_le, nat_lt, option_and_then, bytes_eq, if◌then◌else◌}
use Rattle.std.specs.List.{slice_split}
use Rattle.std.proofs.lemmas.Bool.{and_parts, and_from, cond_both, leb-true}
use Rattle.std.proofs.lemmas.Bool.Decides.{nat_tests}
use Rattle.ocm_path.specs.Paths.{Segments, path_text, is_slash, segments_of, without_last_slash, within_limit, path_below, path_of, path_given, read_value, path_escaped}
use Rattle.ocm_path.specs.declared.faults.PathFault.{PathFault}
use Rattle.ocm_path.specs.declared.faults.PathFault.TheVariants.{EmptySegment, TooLong}
use Rattle.ocm_entry.specs.Proper.{is_short}
use Rattle.ocm_entry.specs.declared.asks.Ask.TheVariants.{Dav}
use Rattle.ocm_entry.specs.declared.asks.Method.{Method}
use Rattle.ocm_entry.specs.declared.asks.Method.TheVariants.{Get, Head, List0, List1}
use Rattle.ocm_access_log.specs.declared.lines.LogLine.{LogLine}
use Rattle.ocm_access_log.specs.Lines.{is_reading, is_space, is_behind, when, text_of, number_word, method_word, secret_word, path_word, status_word, line_in, line_of, line_behind, put_first, lines_from}
use Rattle.ocm_access_log.specs.Reads.{is_read, AreLoggedFrom}
use Rattle.ocm_access_log.proofs.LineSteps.{lines_after}

-- ---- what a reading passes

-- the parts of one reading after another
then_parts : {A B : Type 0} (f : A → Option B) (o : Option A) (y : B) → option_and_then f o ≡ Some y → (x : A) × (o ≡ Some x) × (f x ≡ Some y)
then_parts f None y e = absurd cc
then_parts f (Some x) y e = (x, refl, e)

when_parts : {A : Type 0} (b : Bool) (x y : A) → when b x ≡ Some y → (b ≡ true) × (x ≡ y)
when_parts true x y e = (refl, cc)
when_parts false x y e = absurd cc

-- ---- the path of a line is short

abbrev IsShortRead : {F : Type 0} → Result Segments F → Type 0
IsShortRead (Ok path) = is_short path ≡ true
IsShortRead (Err fault) = Unit {0}

one_of : {F : Type 0} (b : Bool) (x y : Result Segments F) → IsShortRead x → IsShortRead y → IsShortRead (if b then x else y)
one_of true x y p q = p
one_of false x y p q = q

at_most : (n : ℕ) → nat_lt 1024 n ≡ false → nat_le n 1024 ≡ true
at_most n e = grind (arith, nat_tests)

unless_long : (b : Bool) (path : Segments) → (b ≡ false → is_short path ≡ true) → IsShortRead (if b then Err TooLong else Ok path)
unless_long true path h = tt
unless_long false path h = h refl

short-limit : (read : Result Segments PathFault) → IsShortRead (within_limit read)
short-limit (Err fault) = tt
short-limit (Ok path) = unless_long (nat_lt 1024 (length (path_text path))) path (at_most (length (path_text path)))

short-path_of : (text : List ℕ) → IsShortRead (path_of text)
short-path_of [] = refl
short-path_of (b ∷ below) =
    one_of (b == 47) (path_below below) (Err EmptySegment) (one_of (length below == 0) (Ok []) (within_limit (segments_of (slice_split is_slash (without_last_slash below)))) refl (short-limit (segments_of (slice_split is_slash (without_last_slash below))))) tt

short-given : (read : Result Segments PathFault) (path : Segments) → IsShortRead read → read_value read ≡ Some path → is_short path ≡ true
short-given (Ok given) path short e = let same : given ≡ path = cc in subst (λ (p : Segments). is_short p ≡ true) same short
short-given (Err fault) path short e = absurd cc

path_word-short : (word : List ℕ) (path : Segments) → path_word word ≡ Some path → is_short path ≡ true
unfolding path_word
path_word-short word path e =
    let read = then_parts _ (text_of word) path e in
    let given = then_parts _ (path_given read.0) path read.2 in
    let is = when_parts (bytes_eq (path_escaped given.0) word) given.0 path given.2 in
    short-given (path_of read.0) path (short-path_of read.0) (given.1 ∙ ap (λ (p : Segments). Some p) is.1)

-- ---- the method of a line reads

reads-some : (b : Bool) (method : Method) (o : Option Method) (given : Method) → is_reading method ≡ true → (o ≡ Some given → is_reading given ≡ true) → cond b (Some method) o ≡ Some given → is_reading given ≡ true
reads-some true method o given reads rest e = let same : method ≡ given = cc in subst (λ (m : Method). is_reading m ≡ true) same reads
reads-some false method o given reads rest e = rest e

method_word-reads : (word : List ℕ) (method : Method) → method_word word ≡ Some method → is_reading method ≡ true
unfolding method_word
method_word-reads word method e =
    reads-some _ Get _ method refl (reads-some _ Head _ method refl (reads-some _ List0 _ method refl (reads-some _ List1 None method refl (λ none. absurd cc)))) e

-- ---- the ask of a line is a read

is_read-six : (place moment method secret path status : List ℕ) (line : LogLine) → line_in (place ∷ moment ∷ method ∷ secret ∷ path ∷ status ∷ []) ≡ Some line → is_read line.ask ≡ true
unfolding line_in
is_read-six place moment method secret path status line e =
    let p = then_parts _ (number_word place) line e in
    let m = then_parts _ (number_word moment) line p.2 in
    let how = then_parts _ (method_word method) line m.2 in
    let s = then_parts _ (secret_word secret) line how.2 in
    let at = then_parts _ (path_word path) line s.2 in
    let last = then_parts _ (status_word status) line at.2 in
    let same : record { place = p.0; moment = m.0; ask = Dav s.0 how.0 at.0 []; status = last.0 } ≡ line = cc in
    subst (λ (l : LogLine). is_read l.ask ≡ true) same (and_from _ _ (method_word-reads method how.0 how.1) (path_word-short path at.0 at.1))

is_read-words : (words : List (List ℕ)) (line : LogLine) → line_in words ≡ Some line → is_read line.ask ≡ true
unfolding line_in
is_read-words (place ∷ moment ∷ method ∷ secret ∷ path ∷ status ∷ []) line e = is_read-six place moment method secret path status line e
is_read-words _ line e = absurd cc

pub is_read-line_of : (bytes : List ℕ) (line : LogLine) → line_of bytes ≡ Some line → is_read line.ask ≡ true
unfolding line_of
is_read-line_of bytes line e = is_read-words (slice_split is_space bytes) line e

-- ---- the lines of a log

-- what a line that was read has passed
line_behind-parts : (place moment : ℕ) (bytes : List ℕ) (line : LogLine) → line_behind place moment bytes ≡ Some line → (is_read line.ask ≡ true) × (place ≤ line.place) × (moment ≤ line.moment)
line_behind-parts place moment bytes line e =
    let read = then_parts _ (line_of bytes) line e in
    let is = when_parts (is_behind place moment read.0) read.0 line read.2 in
    let behind : is_behind place moment line ≡ true = subst (λ (l : LogLine). is_behind place moment l ≡ true) is.1 is.0 in
    let parts = and_parts (nat_le place line.place) _ behind in
    (is_read-line_of bytes line (read.1 ∙ ap (λ (l : LogLine). Some l) is.1), leb-true _ _ parts.0, leb-true _ _ parts.1)

put_first-parts : (line : LogLine) (read : Result (List LogLine) ℕ) (lines : List LogLine) → put_first line read ≡ Ok lines → (more : List LogLine) × (read ≡ Ok more) × (lines ≡ line ∷ more)
put_first-parts line (Ok more) lines e = (more, refl, cc)
put_first-parts line (Err number) lines e = absurd cc

logged-after : (number place moment : ℕ) (bytes rest : List ℕ) (read : Option LogLine) (lines : List LogLine) → line_behind place moment bytes ≡ read → ((line : LogLine) (more : List LogLine) → lines_from (number + 1) line.place line.moment [] rest ≡ Ok more → AreLoggedFrom line.place line.moment more) → lines_after number rest read ≡ Ok lines → AreLoggedFrom place moment lines
logged-after number place moment bytes rest None lines is later e = absurd cc
logged-after number place moment bytes rest (Some line) lines is later e =
    let first = line_behind-parts place moment bytes line is in
    let parts = put_first-parts line (lines_from (number + 1) line.place line.moment [] rest) lines e in
    subst (AreLoggedFrom place moment) (sym parts.2) (first.0, first.1, first.2, later line parts.0 parts.1)

pub are_logged : (number place moment : ℕ) (begun bytes : List ℕ) (lines : List LogLine) → lines_from number place moment begun bytes ≡ Ok lines → AreLoggedFrom place moment lines
are_logged number place moment [] [] lines e = let none : [] ≡ lines = cc in subst (AreLoggedFrom place moment) none tt
are_logged number place moment (a ∷ begun) [] lines e = absurd cc
are_logged number place moment begun (b ∷ bytes) lines e =
    cond_both (nat_eq b 10) (lines_after number bytes (line_behind place moment begun)) (lines_from number place moment (begun ++ b ∷ []) bytes) (λ (read : Result (List LogLine) ℕ). read ≡ Ok lines → AreLoggedFrom place moment lines)
    (λ _. logged-after number place moment begun bytes (line_behind place moment begun) lines refl (λ line more. are_logged (number + 1) line.place line.moment [] bytes more))
    (λ _. are_logged number place moment (begun ++ b ∷ []) bytes lines)
    e
