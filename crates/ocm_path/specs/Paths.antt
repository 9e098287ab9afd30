-- Paths below a root: what their texts are, and how a text is read.
use Rattle.std.specs.Prelude.{ℕ, ◌-◌, Bool, not, ◌&&◌, ◌||◌, ◌==◌, nat_eq, nat_lt, nat_le, List, [], ◌∷◌, length, take, slice_get, slice_index, if◌then◌else◌, Option, Some, None, Result, Ok, Err}
use Rattle.std.specs.List.{flat_map, list_any, list_all, slice_split, starts_with}
use Rattle.std.specs.Str.{is_utf8}
use Rattle.std.specs.Cmp.Lexicographic.{pointwise}
use Rattle.ocm_limits.specs.Limits.{most_asked_path_bytes, most_path_bytes}
use Rattle.percent_encoding.specs.Percent.{percent_decode}
use Rattle.ocm_path.specs.Escapes.{escape, are_escapes}
use Rattle.ocm_path.specs.declared.faults.PathFault.{PathFault}
use Rattle.ocm_path.specs.declared.faults.PathFault.TheVariants.{BadEscape, NotText, EmptySegment, Dots, BadChar, TooLong}

-- the decoded segments of a path, from the root on
abbrev pub Segments : Type 0
Segments = List (List ℕ)

-- whether two paths have the same segments
abbrev pub same_path : Segments → Segments → Bool
same_path = pointwise (pointwise nat_eq)

-- whether a path is the root
abbrev pub is_root : Segments → Bool
is_root path = length path == 0

-- the path without its last segment; the root's is the root
abbrev pub parent : Segments → Segments
parent path = take (length path - 1) path

-- the last segment, where there is one
abbrev pub last : Segments → Option (List ℕ)
last path = slice_get path (length path - 1)

-- whether the first path is at the second or above it: its segments begin the second's
abbrev pub is_above : Segments → Segments → Bool
is_above above path = starts_with (pointwise nat_eq) path above

-- each segment after a `/`
abbrev pub joined : Segments → List ℕ
joined path = flat_map (λ segment. 47 ∷ segment) path

-- the text of a path: each segment after a `/`, or `/` for the root
abbrev pub path_text : Segments → List ℕ
path_text path = if is_root path then 47 ∷ [] else joined path

-- each segment, escaped, after a `/`
abbrev pub joined_escaped : Segments → List ℕ
joined_escaped path = flat_map (λ segment. 47 ∷ escape segment) path

-- the escaped text of a path
abbrev pub path_escaped : Segments → List ℕ
path_escaped path = if is_root path then 47 ∷ [] else joined_escaped path

-- whether a byte is `/`
abbrev pub is_slash : ℕ → Bool
is_slash b = b == 47

-- whether a byte may not stand in a segment: a control character of ASCII, or `/`
abbrev pub is_barred : ℕ → Bool
is_barred b = nat_lt b 32 || b == 127 || b == 47

-- whether a segment is `.` or `..`
abbrev pub is_dots : List ℕ → Bool
is_dots s = pointwise nat_eq s (46 ∷ []) || pointwise nat_eq s (46 ∷ 46 ∷ [])

-- whether bytes are a segment: a text of 1 to 255 bytes, neither `.` nor `..`, with no barred byte
abbrev pub is_segment : List ℕ → Bool
is_segment s = is_utf8 s && not (length s == 0) && not (is_dots s) && not (list_any is_barred s) && nat_le (length s) 255

-- whether segments are a path: each is one, and their text has at most 2,048 bytes
abbrev pub is_path : Segments → Bool
is_path path = list_all is_segment path && nat_le (length (path_text path)) most_path_bytes

-- the first fault of a segment that is a text
abbrev pub text_fault : List ℕ → Option PathFault
text_fault s =
    if length s == 0 then Some EmptySegment
    else if is_dots s then Some Dots
    else if list_any is_barred s then Some BadChar
    else if nat_lt 255 (length s) then Some TooLong
    else None

-- the value, unless there is a fault
abbrev pub unless : Option PathFault → List ℕ → Result (List ℕ) PathFault
unless None s = Ok s
unless (Some fault) s = Err fault

-- the segment that an escaped segment spells, or its first fault
abbrev pub segment_of : List ℕ → Result (List ℕ) PathFault
segment_of piece =
    if not (are_escapes piece) then Err BadEscape
    else if not (is_utf8 (percent_decode piece)) then Err NotText
    else unless (text_fault (percent_decode piece)) (percent_decode piece)

-- one segment before others: the first fault counts
abbrev pub before : Result (List ℕ) PathFault → Result Segments PathFault → Result Segments PathFault
before (Err fault) rest = Err fault
before (Ok s) (Err fault) = Err fault
before (Ok s) (Ok rest) = Ok (s ∷ rest)

-- the segments that escaped segments spell, or the first fault, from the left
abbrev pub segments_of : List (List ℕ) → Result Segments PathFault
segments_of [] = Ok []
segments_of (piece ∷ pieces) = before (segment_of piece) (segments_of pieces)

-- the text without the one `/` at its end, if it has one
abbrev pub without_last_slash : List ℕ → List ℕ
without_last_slash text = if slice_index text (length text - 1) == 47 then take (length text - 1) text else text

-- a path that was read, if its text has at most 1,024 bytes
abbrev pub within_limit : Result Segments PathFault → Result Segments PathFault
within_limit (Err fault) = Err fault
within_limit (Ok path) = if nat_lt most_asked_path_bytes (length (path_text path)) then Err TooLong else Ok path

-- what follows the first `/` of a text: nothing at the root, else segments between `/`
abbrev pub path_below : List ℕ → Result Segments PathFault
path_below below =
    if length below == 0 then Ok []
    else within_limit (segments_of (slice_split is_slash (without_last_slash below)))

-- the path that a text spells, or its first fault
abbrev pub path_of : List ℕ → Result Segments PathFault
path_of [] = Ok []
path_of (b ∷ below) = if b == 47 then path_below below else Err EmptySegment

-- the value of a reading
abbrev pub read_value : Result Segments PathFault → Option Segments
read_value (Ok path) = Some path
read_value (Err fault) = None

-- the path that a text spells, if it spells one
abbrev pub path_given : List ℕ → Option Segments
path_given text = read_value (path_of text)
