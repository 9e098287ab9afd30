-- What a stream of requests gives: requests, each of which is whole without the end of input.
use Rattle.std.proofs.Common.{◌≡◌, ℕ, ◌+◌, List, [], ◌∷◌, length, take, drop, codes, Bool, true, false, cond, leb, ltb, refl, sym, ap, ◌∙◌, subst, Option, Some, None, Result, Ok, Err}
use Rattle.ocm_http_heads.specs.Heads.{SaysRequest, request_of}
use Rattle.ocm_http_heads.specs.Lengths.{request_length, or_else, told, values}
use Rattle.ocm_http_heads.specs.Endings.{found, of_head, of_trailers}
use Rattle.ocm_http_heads.specs.declared.endings.Found.{Found}
use Rattle.ocm_http_heads.specs.declared.endings.Found.TheVariants as finds
use Rattle.ocm_http_heads.specs.declared.fields.Head.{Head}
use Rattle.ocm_http_heads.specs.declared.fields.Head.TheVariants as heads
use Rattle.ocm_http_heads.specs.declared.lengths.Length.{Length}
use Rattle.ocm_http_heads.specs.declared.lengths.Length.TheVariants as lengths
use Rattle.ocm_http_heads.specs.declared.lengths.LengthFault.{LengthFault}
use Rattle.ocm_http_heads.specs.declared.lengths.LengthFault.TheVariants as faults
use Rattle.ocm_http.specs.Places.{past}
use Rattle.ocm_http.specs.Messages.{IsRequest, length_of, more_of}
use Rattle.ocm_http.specs.Frames as frames
use Rattle.ocm_http.specs.Frames.{Frame, Given, Refused, Awaited, Over, headless, unfinished, sized, trailers, trailers_end, Chunks, Bodied, Headed, Ended, IsFrame}
use Rattle.ocm_http.specs.declared.messages.Kind.TheVariants.{Requests}
use Rattle.ocm_http.specs.declared.messages.Message.{Message}
use Rattle.ocm_http.specs.declared.messages.FrameFault.TheVariants.{BadHead, BodyTooLong, HeadTooLong}

-- ---- what is no message

never_open : (P : Type 0) (m : Message) (rest : List ℕ) (ended : Bool) → Given m rest ≡ unfinished ended → P
never_open P m rest true e = cc
never_open P m rest false e = cc

never_headless : (P : Type 0) (m : Message) (rest : List ℕ) (ended bare : Bool) → Given m rest ≡ headless ended bare → P
never_headless P m rest true true e = cc
never_headless P m rest true false e = cc
never_headless P m rest false bare e = cc

-- ---- a request's body has a length

told_length : (bad long : Bool) (n : ℕ) (P : Type 0) → cond bad (Err faults.BadLength) (cond long (Err faults.BodyTooLong) (Ok (lengths.Sized n))) ≡ Ok lengths.ToEnd → P
told_length true long n P e = cc
told_length false true n P e = cc
told_length false false n P e = cc

told_coding : (chunked : Bool) (P : Type 0) → cond chunked (Ok lengths.Chunked) (Err faults.BadLength) ≡ Ok lengths.ToEnd → P
told_coding true P e = cc
told_coding false P e = cc

told_never : (P : Type 0) (max : ℕ) (codings counts : List (List ℕ)) → or_else (told max codings counts) (lengths.Sized 0) ≡ Ok lengths.ToEnd → P
told_never P max [] [] e = cc
told_never P max [] (value ∷ others) e = told_length _ _ _ P e
told_never P max (coding ∷ []) [] e = told_coding _ P e
told_never P max (coding ∷ more ∷ others) [] e = told_coding _ P e
told_never P max (coding ∷ others) (value ∷ counts) e = cc

-- ---- the end of input is not wanted

sized_whole : (enough ended : Bool) (m message : Message) (a b rest : List ℕ) → Given m rest ≡ cond enough (Given (more_of message a) b) (unfinished ended)
    → Given m rest ≡ cond enough (Given (more_of message a) b) (unfinished false)
sized_whole true ended m message a b rest e = e
sized_whole false ended m message a b rest e = never_open (Given m rest ≡ unfinished false) m rest ended e

trailers_whole : (f : Found) (place : ℕ) (m message : Message) (bytes rest : List ℕ) (ended : Bool) → Given m rest ≡ trailers_end f place message bytes ended
    → Given m rest ≡ trailers_end f place message bytes false
trailers_whole (finds.Whole n) place m message bytes rest ended e = e
trailers_whole (finds.TooLong bare) place m message bytes rest ended e = e
trailers_whole finds.Unfinished place m message bytes rest ended e = never_open (Given m rest ≡ unfinished false) m rest ended e

chunks_whole : (max place : ℕ) (m message : Message) (bytes rest : List ℕ) (ended : Bool) (frame : Frame) → frame ≡ Given m rest
    → Chunks max place message bytes ended frame → Chunks max place message bytes false frame
chunks_whole max place m message bytes rest ended frame is (frames.bad_line _ _ _ _ _ bad e) = frames.bad_line place message bytes false frame bad e
chunks_whole max place m message bytes rest ended frame is (frames.open_line _ _ _ _ _ at e) = never_open (Chunks max place message bytes false frame) m rest ended (sym is ∙ e)
chunks_whole max place m message bytes rest ended frame is (frames.too_large _ _ _ _ _ len size line fit e) = frames.too_large place message bytes false frame len size line fit e
chunks_whole max place m message bytes rest ended frame is (frames.last _ _ _ _ _ len line fit e) =
    frames.last place message bytes false frame len line fit
    (is ∙ trailers_whole (found of_trailers (drop len bytes)) (past place len) m message (drop len bytes) rest ended (sym is ∙ e))
chunks_whole max place m message bytes rest ended frame is (frames.open_data _ _ _ _ _ len size line some fit less e) = never_open (Chunks max place message bytes false frame) m rest ended (sym is ∙ e)
chunks_whole max place m message bytes rest ended frame is (frames.open_break _ _ _ _ _ len size line some fit enough at e) = never_open (Chunks max place message bytes false frame) m rest ended (sym is ∙ e)
chunks_whole max place m message bytes rest ended frame is (frames.wrong_break _ _ _ _ _ len size line some fit enough at e) =
    frames.wrong_break place message bytes false frame len size line some fit enough at e
chunks_whole max place m message bytes rest ended frame is (frames.chunk _ _ _ _ _ len size line some fit enough at tail) =
    frames.chunk place message bytes false frame len size line some fit enough at
    (chunks_whole max (past (past (past place len) size) 2) m (more_of message (take size (drop len bytes))) (drop 2 (drop size (drop len bytes))) rest ended frame is tail)

bodied_whole : (head : Head) (length_is : Result Length LengthFault) (max first next : ℕ) (m : Message) (bytes rest : List ℕ) (ended : Bool)
    → (length_is ≡ Ok lengths.ToEnd → ⊥) → Bodied head length_is max first next bytes ended (Given m rest) → Bodied head length_is max first next bytes false (Given m rest)
bodied_whole head (Err fault) max first next m bytes rest ended short e = e
bodied_whole head (Ok (lengths.Sized n)) max first next m bytes rest ended short e =
    sized_whole (leb n (length bytes)) ended m (record { head = head; body = [] }) (take n bytes) (drop n bytes) rest e
bodied_whole head (Ok lengths.ToEnd) max first next m bytes rest ended short e = absurd (short refl)
bodied_whole head (Ok lengths.Chunked) max first next m bytes rest ended short chunks =
    chunks_whole max next m (record { head = head; body = [] }) bytes rest ended (Given m rest) refl chunks

headed_whole : (text : List ℕ) (head : Option Head) (max first next : ℕ) (m : Message) (bytes rest : List ℕ) (ended : Bool) → SaysRequest text head
    → Headed head max first next bytes ended (Given m rest) → Headed head max first next bytes false (Given m rest)
headed_whole text None max first next m bytes rest ended says e = e
headed_whole text (Some (heads.Request method target closing fields)) max first next m bytes rest ended says bodied =
    bodied_whole (heads.Request method target closing fields) (request_length max fields) max first next m bytes rest ended
    (told_never ⊥ max (values (codes "transfer-encoding") fields) (values (codes "content-length") fields)) bodied
headed_whole text (Some (heads.Reply status fields)) max first next m bytes rest ended says bodied =
    no_reply (Headed (Some (heads.Reply status fields)) max first next bytes false (Given m rest)) says.2
  where
    no_reply : (P : Type 0) → heads.Reply status fields ≡ request_of says.0 → P
    no_reply P e = cc

ended_whole : (f : Found) (max place : ℕ) (m : Message) (bytes rest : List ℕ) (ended : Bool)
    → Ended f Requests max place bytes ended (Given m rest) → Ended f Requests max place bytes false (Given m rest)
ended_whole finds.Unfinished max place m bytes rest ended e =
    never_headless (Ended finds.Unfinished Requests max place bytes false (Given m rest)) m rest ended (frames.is_bare bytes) e
ended_whole (finds.TooLong bare) max place m bytes rest ended e = e
ended_whole (finds.Whole n) max place m bytes rest ended e = (e.0, e.1, headed_whole _ e.0 max _ _ m (drop n bytes) rest ended e.1 e.2)

pub request_whole : (max place : ℕ) (bytes rest : List ℕ) (ended : Bool) (message : Message)
    → IsFrame Requests max place bytes ended (Given message rest) → IsFrame Requests max place bytes false (Given message rest)
request_whole max place bytes rest ended message e = ended_whole (found of_head bytes) max place message bytes rest ended e

-- ---- a message has the head that was read

abbrev pub head_of : Frame → Head → Head
head_of (Given message rest) head = message.head
head_of (Refused fault) head = head
head_of Awaited head = head
head_of Over head = head

open_head : (ended : Bool) (head : Head) → head_of (unfinished ended) head ≡ head
open_head true head = refl
open_head false head = refl

sized_head : (enough ended : Bool) (message : Message) (a b : List ℕ) (head : Head) → message.head ≡ head → head_of (cond enough (Given (more_of message a) b) (unfinished ended)) head ≡ head
sized_head true ended message a b head is = is
sized_head false ended message a b head is = open_head ended head

to_end_head : (long ended : Bool) (place : ℕ) (message : Message) (bytes : List ℕ) (head : Head) → message.head ≡ head
    → head_of (cond long (Refused (BodyTooLong place)) (cond ended (Given (more_of message bytes) []) Awaited)) head ≡ head
to_end_head true ended place message bytes head is = refl
to_end_head false true place message bytes head is = is
to_end_head false false place message bytes head is = refl

trailers_head : (f : Found) (place : ℕ) (message : Message) (bytes : List ℕ) (ended : Bool) (head : Head) → message.head ≡ head → head_of (trailers_end f place message bytes ended) head ≡ head
trailers_head (finds.Whole n) place message bytes ended head is = is
trailers_head (finds.TooLong bare) place message bytes ended head is = refl
trailers_head finds.Unfinished place message bytes ended head is = open_head ended head

chunks_head : (max place : ℕ) (message : Message) (bytes : List ℕ) (ended : Bool) (frame : Frame) (head : Head) → message.head ≡ head
    → Chunks max place message bytes ended frame → head_of frame head ≡ head
chunks_head max place message bytes ended frame head is (frames.bad_line _ _ _ _ _ bad e) = ap (λ f. head_of f head) e
chunks_head max place message bytes ended frame head is (frames.open_line _ _ _ _ _ at e) = ap (λ f. head_of f head) e ∙ open_head ended head
chunks_head max place message bytes ended frame head is (frames.too_large _ _ _ _ _ len size line fit e) = ap (λ f. head_of f head) e
chunks_head max place message bytes ended frame head is (frames.last _ _ _ _ _ len line fit e) =
    ap (λ f. head_of f head) e ∙ trailers_head (found of_trailers (drop len bytes)) (past place len) message (drop len bytes) ended head is
chunks_head max place message bytes ended frame head is (frames.open_data _ _ _ _ _ len size line some fit less e) = ap (λ f. head_of f head) e ∙ open_head ended head
chunks_head max place message bytes ended frame head is (frames.open_break _ _ _ _ _ len size line some fit enough at e) = ap (λ f. head_of f head) e ∙ open_head ended head
chunks_head max place message bytes ended frame head is (frames.wrong_break _ _ _ _ _ len size line some fit enough at e) = ap (λ f. head_of f head) e
chunks_head max place message bytes ended frame head is (frames.chunk _ _ _ _ _ len size line some fit enough at tail) =
    chunks_head max (past (past (past place len) size) 2) (more_of message (take size (drop len bytes))) (drop 2 (drop size (drop len bytes))) ended frame head is tail

bodied_head : (head : Head) (length_is : Result Length LengthFault) (max first next : ℕ) (bytes : List ℕ) (ended : Bool) (frame : Frame)
    → Bodied head length_is max first next bytes ended frame → head_of frame head ≡ head
bodied_head head (Err fault) max first next bytes ended frame e = ap (λ f. head_of f head) e
bodied_head head (Ok (lengths.Sized n)) max first next bytes ended frame e =
    ap (λ f. head_of f head) e ∙ sized_head (leb n (length bytes)) ended (record { head = head; body = [] }) (take n bytes) (drop n bytes) head refl
bodied_head head (Ok lengths.ToEnd) max first next bytes ended frame e =
    ap (λ f. head_of f head) e ∙ to_end_head (ltb max (0 + length bytes)) ended first (record { head = head; body = [] }) bytes head refl
bodied_head head (Ok lengths.Chunked) max first next bytes ended frame chunks = chunks_head max next (record { head = head; body = [] }) bytes ended frame head refl chunks

headed_request : (text : List ℕ) (head : Option Head) (max first next : ℕ) (m : Message) (bytes rest : List ℕ) (ended : Bool) → SaysRequest text head
    → Headed head max first next bytes ended (Given m rest) → IsRequest m.head
headed_request text None max first next m bytes rest ended says e = no_head (IsRequest m.head) e
  where
    no_head : (P : Type 0) → Given m rest ≡ Refused (BadHead first) → P
    no_head P e = cc
headed_request text (Some head) max first next m bytes rest ended says bodied =
    subst IsRequest (sym (bodied_head head (length_of max head) max first next bytes ended (Given m rest) bodied ∙ says.2)) tt

ended_request : (f : Found) (max place : ℕ) (m : Message) (bytes rest : List ℕ) (ended : Bool) → Ended f Requests max place bytes ended (Given m rest) → IsRequest m.head
ended_request finds.Unfinished max place m bytes rest ended e = never_headless (IsRequest m.head) m rest ended (frames.is_bare bytes) e
ended_request (finds.TooLong bare) max place m bytes rest ended e = too_long (IsRequest m.head) _ e
  where
    too_long : (P : Type 0) (at : ℕ) → Given m rest ≡ Refused (HeadTooLong at) → P
    too_long P at e = cc
ended_request (finds.Whole n) max place m bytes rest ended e = headed_request _ e.0 max _ _ m (drop n bytes) rest ended e.1 e.2

pub message_request : (max place : ℕ) (bytes rest : List ℕ) (ended : Bool) (message : Message)
    → IsFrame Requests max place bytes ended (Given message rest) → IsRequest message.head
message_request max place bytes rest ended message e = ended_request (found of_head bytes) max place message bytes rest ended e
