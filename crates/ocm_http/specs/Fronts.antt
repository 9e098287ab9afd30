-- What stands at the front of the bytes of a request.
use Rattle.std.specs.Prelude.{◌≡◌, ℕ, List, take, drop, true, Option, Some, None, is_err, ⊤}
use Rattle.ocm_limits.specs.Limits.{most_body_bytes}
use Rattle.ocm_http_heads.specs.Endings.{found, moved, of_head, blanks}
use Rattle.ocm_http_heads.specs.Heads.{SaysRequest}
use Rattle.ocm_http_heads.specs.declared.endings.Found.{Found}
use Rattle.ocm_http_heads.specs.declared.endings.Found.TheVariants as finds
use Rattle.ocm_http_heads.specs.declared.fields.Head.{Head}
use Rattle.ocm_http.specs.Messages.{length_of}
use Rattle.ocm_http.specs.ReadHeads.{IsHeadIn}
use Rattle.ocm_http.specs.declared.fronts.Front.{Front}
use Rattle.ocm_http.specs.declared.fronts.Front.TheVariants.{Whole, Refused, Unfinished}

-- a head that is none, or that tells no length of its body
abbrev pub IsRefused : Option Head → Type 0
IsRefused None = ⊤
IsRefused (Some head) = is_err (length_of most_body_bytes head) ≡ true

-- what bytes come to that end where a head does
abbrev pub ReadsTo : List ℕ → Front → Type 0
ReadsTo text (Whole h) = IsHeadIn text h
ReadsTo text Refused = (read : Option Head) × SaysRequest (drop (blanks text) text) read × IsRefused read
ReadsTo text (Unfinished look) = ⊥

-- what bytes come to in which this is found
abbrev pub FrontTo : Found → List ℕ → Front → Type 0
FrontTo (finds.Whole n) bytes front = ReadsTo (take n bytes) front
FrontTo (finds.TooLong bare) bytes front = front ≡ Refused
FrontTo finds.Unfinished bytes front = front ≡ Unfinished (moved of_head bytes)

-- what stands at the front of these bytes
abbrev pub IsFrontOf : List ℕ → Front → Type 0
IsFrontOf bytes front = FrontTo (found of_head bytes) bytes front
