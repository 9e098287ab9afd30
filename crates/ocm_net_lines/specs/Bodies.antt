-- What a request's head announces of its body (RFC 9112 section 6.3, RFC 9110 section 10.1.1).
use Rattle.std.specs.Prelude.{◌≡◌, ℕ, Bool, true, false, not, ◌&&◌, ◌==◌, List, [], ◌∷◌, length, map, take, drop, codes, if◌then◌else◌, Option, Some, None, option_map}
use Rattle.std.specs.Char.{to_ascii_lowercase}
use Rattle.std.specs.List.{list_all, list_any, slice_split}
use Rattle.std.specs.Result.{result_ok}
use Rattle.httparse.specs.Grammar.{is_ows, skip_ows}
use Rattle.ocm_limits.specs.Limits.{most_body_bytes}
use Rattle.ocm_http_heads.specs.Endings.{blanks, found, of_head}
use Rattle.ocm_http_heads.specs.Heads.{SaysRequest, is_comma, is_same}
use Rattle.ocm_http_heads.specs.Lengths.{request_length}
use Rattle.ocm_http_heads.specs.declared.endings.Found.{Found}
use Rattle.ocm_http_heads.specs.declared.endings.Found.TheVariants.{Whole, TooLong, Unfinished}
use Rattle.ocm_http_heads.specs.declared.fields.Field.{Field}
use Rattle.ocm_http_heads.specs.declared.fields.Head.{Head}
use Rattle.ocm_http_heads.specs.declared.fields.Head.TheVariants.{Request, Reply}
use Rattle.ocm_http_heads.specs.declared.lengths.Length.{Length}
use Rattle.ocm_http_heads.specs.declared.lengths.Length.TheVariants.{Sized, Chunked, ToEnd}
use Rattle.ocm_net_lines.specs.declared.bodies.Announced.{Announced}
use Rattle.ocm_http.specs.declared.fronts.Front.{Front}
use Rattle.ocm_http.specs.declared.fronts.Front.TheVariants as fronts
use Rattle.ocm_net_lines.specs.declared.bodies.Beginning.{Beginning}
use Rattle.ocm_net_lines.specs.declared.bodies.Beginning.TheVariants as begins

-- whether there is a body
abbrev pub has_body : Length → Bool
has_body (Sized size) = not (size == 0)
has_body Chunked = true
has_body ToEnd = true

-- whether the first line's last byte is 1, line end aside, behind this byte: that of HTTP/1.1 is
abbrev pub ends_with_one : ℕ → List ℕ → Bool
ends_with_one last [] = false
ends_with_one last (b ∷ text) = if b == 10 then last == 49 else ends_with_one (if b == 13 then last else b) text

-- whether a member of a list says `100-continue`, in any case, with blanks around
abbrev pub is_continue : List ℕ → Bool
is_continue member =
    let word = skip_ows member in
    is_same (map to_ascii_lowercase (take 12 word)) (codes "100-continue") && list_all is_ows (drop 12 word)

-- whether a field asks to be told to send the body: its list has that member (RFC 9110 sections 5.6.1 and 10.1.1)
abbrev pub is_expecting : Field → Bool
is_expecting f = is_same f.name (codes "expect") && list_any is_continue (slice_split is_comma f.value)

-- whether such a body is awaited by a head of this text, which is all that came or isn't
abbrev pub is_awaited : List ℕ → List Field → Bool → Length → Bool
is_awaited text fields is_all length = is_all && has_body length && list_any is_expecting fields && ends_with_one 0 text

-- what a head announces that makes the body so long
abbrev pub announced_with : List ℕ → List Field → Bool → Length → Announced
announced_with text fields is_all length = record { length = length; is_awaited = is_awaited text fields is_all length }

-- what a head of these fields announces; none where it is refused
abbrev pub announced_by : List ℕ → List Field → Bool → Option Announced
announced_by text fields is_all = option_map (announced_with text fields is_all) (result_ok (request_length most_body_bytes fields))

-- what a head announces
abbrev pub announced : List ℕ → Bool → Option Head → Option Announced
announced text is_all None = None
announced text is_all (Some (Request method target closing fields)) = announced_by text fields is_all
announced text is_all (Some (Reply status fields)) = None

-- what is announced by a head that is found to end there, which begins behind CR and LF
abbrev pub AnnouncesTo : Found → List ℕ → Option Announced → Type 0
AnnouncesTo (Whole n) bytes told =
    let head = take n bytes in
    let text = drop (blanks head) head in
    (read : Option Head) × SaysRequest text read × (told ≡ announced text (n == length bytes) read)
AnnouncesTo (TooLong bare) bytes told = told ≡ None
AnnouncesTo Unfinished bytes told = told ≡ None

-- what the head at the front announces
abbrev pub Announces : List ℕ → Option Announced → Type 0
Announces bytes told = AnnouncesTo (found of_head bytes) bytes told

-- what is announced where a request begins so
abbrev pub announced_in : Beginning → Option Announced
announced_in (begins.Whole head announced) = Some announced
announced_in begins.Refused = None
announced_in (begins.Unfinished look) = None

-- what stands at the front where a request begins so
abbrev pub front_in : Beginning → Front
front_in (begins.Whole head announced) = fronts.Whole head
front_in begins.Refused = fronts.Refused
front_in (begins.Unfinished look) = fronts.Unfinished look
