-- A prefix of a message tells no other message, and no fault but that it is cut.
use Rattle.std.proofs.Common.{◌≡◌, ℕ, ◌+◌, List, [], ◌∷◌, ◌++◌, length, take, drop, Bool, true, false, cond, leb, ltb, refl, sym, ap, ◌∙◌, subst, Some, None, Result, Ok, Err}
use Rattle.std.proofs.lemmas.List.{take-append-le}
use Rattle.ocm_http_heads.specs.Endings.{blanks, found, of_head, of_trailers}
use Rattle.ocm_http_heads.specs.declared.endings.Found.{Found}
use Rattle.ocm_http_heads.specs.declared.endings.Found.TheVariants as finds
use Rattle.ocm_http_heads.specs.declared.fields.Head.{Head}
use Rattle.ocm_http_heads.specs.declared.lengths.Length.{Length}
use Rattle.ocm_http_heads.specs.declared.lengths.Length.TheVariants as lengths
use Rattle.ocm_http_heads.specs.declared.lengths.LengthFault.{LengthFault}
use Rattle.ocm_http_heads.proofs.Looks.{whole_stays, whole_within}
use Rattle.ocm_http.specs.Frames as frames
use Rattle.ocm_http.specs.Frames.{Bodied, Chunks, Ended, Frame, Given, IsFrame, Refused, Awaited, Over, headless, is_bare, to_end, trailers_end, unfinished}
use Rattle.ocm_http.specs.Messages.{SaysHead, length_of, more_of}
use Rattle.ocm_http.specs.Places.{past}
use Rattle.ocm_http.specs.ReadBack.{ReadsAs}
use Rattle.ocm_http.specs.declared.messages.FrameFault.{FrameFault}
use Rattle.ocm_http.specs.declared.messages.FrameFault.TheVariants.{BodyTooLong, Cut}
use Rattle.ocm_http.specs.declared.messages.Kind.{Kind}
use Rattle.ocm_http.specs.declared.messages.Message.{Message}
use Rattle.ocm_http.proofs.Stable.{frame_stays}
use Rattle.ocm_http.proofs.Unique.{frame_one}

-- ---- frames that more bytes don't change

-- a message, or a fault other than that the bytes are cut
abbrev IsSettled : Frame → Type 0
IsSettled (Given message rest) = Unit {0}
IsSettled (Refused fault) = fault ≡ Cut → ⊥
IsSettled Awaited = ⊥
IsSettled Over = ⊥

abbrev is_given : Frame → Bool
is_given (Given message rest) = true
is_given (Refused fault) = false
is_given Awaited = false
is_given Over = false

never_open : (P : Type 0) (frame : Frame) (ended : Bool) → IsSettled frame → frame ≡ unfinished ended → P
never_open P (Given m rest) true settled e = cc
never_open P (Given m rest) false settled e = cc
never_open P (Refused fault) true settled e = absurd (settled (cut_same fault e))
  where
    cut_same : (fault : FrameFault) → Refused fault ≡ Refused Cut → fault ≡ Cut
    cut_same fault e = cc
never_open P (Refused fault) false settled e = cc
never_open P Awaited ended settled e = absurd settled
never_open P Over ended settled e = absurd settled

never_headless : (P : Type 0) (frame : Frame) (ended bare : Bool) → IsSettled frame → frame ≡ headless ended bare → P
never_headless P frame true false settled e = never_open P frame true settled e
never_headless P frame false bare settled e = never_open P frame false settled e
never_headless P frame true true settled e = over frame settled e
  where
    over : (frame : Frame) → IsSettled frame → frame ≡ Over → P
    over (Given m rest) settled e = cc
    over (Refused fault) settled e = cc
    over Awaited settled e = absurd settled
    over Over settled e = absurd settled

sized_early : (enough ended : Bool) (frame given : Frame) → IsSettled frame → frame ≡ cond enough given (unfinished ended) → frame ≡ cond enough given (unfinished false)
sized_early true ended frame given settled e = e
sized_early false ended frame given settled e = never_open (frame ≡ unfinished false) frame ended settled e

trailers_early : (f : Found) (place : ℕ) (message : Message) (bytes : List ℕ) (ended : Bool) (frame : Frame) → IsSettled frame → frame ≡ trailers_end f place message bytes ended → frame ≡ trailers_end f place message bytes false
trailers_early (finds.Whole n) place message bytes ended frame settled e = e
trailers_early (finds.TooLong bare) place message bytes ended frame settled e = e
trailers_early finds.Unfinished place message bytes ended frame settled e = never_open (frame ≡ unfinished false) frame ended settled e

to_end_early : (long ended : Bool) (place : ℕ) (frame given : Frame) → IsSettled frame → is_given frame ≡ false → is_given given ≡ true → frame ≡ cond long (Refused (BodyTooLong place)) (cond ended given Awaited)
    → frame ≡ cond long (Refused (BodyTooLong place)) (cond false given Awaited)
to_end_early true ended place frame given settled other is e = e
to_end_early false false place frame given settled other is e = e
to_end_early false true place frame given settled other is e = absurd (let same : false ≡ true = sym other ∙ ap is_given e ∙ is in cc)

chunks_early : (max place : ℕ) (message : Message) (bytes : List ℕ) (ended : Bool) (frame : Frame) → IsSettled frame → Chunks max place message bytes ended frame → Chunks max place message bytes false frame
chunks_early max place message bytes ended frame settled (frames.bad_line _ _ _ _ _ bad e) = frames.bad_line place message bytes false frame bad e
chunks_early max place message bytes ended frame settled (frames.open_line _ _ _ _ _ at e) = never_open (Chunks max place message bytes false frame) frame ended settled e
chunks_early max place message bytes ended frame settled (frames.too_large _ _ _ _ _ len size line fit e) = frames.too_large place message bytes false frame len size line fit e
chunks_early max place message bytes ended frame settled (frames.last _ _ _ _ _ len line fit e) =
    frames.last place message bytes false frame len line fit (trailers_early (found of_trailers (drop len bytes)) (past place len) message (drop len bytes) ended frame settled e)
chunks_early max place message bytes ended frame settled (frames.open_data _ _ _ _ _ len size line some fit less e) = never_open (Chunks max place message bytes false frame) frame ended settled e
chunks_early max place message bytes ended frame settled (frames.open_break _ _ _ _ _ len size line some fit enough at e) = never_open (Chunks max place message bytes false frame) frame ended settled e
chunks_early max place message bytes ended frame settled (frames.wrong_break _ _ _ _ _ len size line some fit enough at e) = frames.wrong_break place message bytes false frame len size line some fit enough at e
chunks_early max place message bytes ended frame settled (frames.chunk _ _ _ _ _ len size line some fit enough at tail) =
    frames.chunk place message bytes false frame len size line some fit enough at
    (chunks_early max (past (past (past place len) size) 2) (more_of message (take size (drop len bytes))) (drop 2 (drop size (drop len bytes))) ended frame settled tail)

bodied_early : (head : Head) (length_is : Result Length LengthFault) (max first next : ℕ) (bytes : List ℕ) (ended : Bool) (frame : Frame) → IsSettled frame
    → (is_given frame ≡ true → length_is ≡ Ok lengths.ToEnd → ⊥) → Bodied head length_is max first next bytes ended frame → Bodied head length_is max first next bytes false frame
bodied_early head (Err fault) max first next bytes ended frame settled short e = e
bodied_early head (Ok (lengths.Sized n)) max first next bytes ended frame settled short e =
    sized_early (leb n (length bytes)) ended frame (Given (more_of (record { head = head; body = [] }) (take n bytes)) (drop n bytes)) settled e
bodied_early head (Ok lengths.ToEnd) max first next bytes ended frame settled short e = by_test (is_given frame) refl
  where
    by_test : (b : Bool) → is_given frame ≡ b → frame ≡ to_end max first (record { head = head; body = [] }) bytes false
    by_test true is = absurd (short is refl)
    by_test false other = to_end_early (ltb max (0 + length bytes)) ended first frame (Given (more_of (record { head = head; body = [] }) bytes) []) settled other refl e
bodied_early head (Ok lengths.Chunked) max first next bytes ended frame settled short chunks = chunks_early max next (record { head = head; body = [] }) bytes ended frame settled chunks

-- the head of bytes tells that its body goes on to the end of input
abbrev GoesToEnd : Kind → ℕ → List ℕ → Type 0
GoesToEnd kind max bytes = (n : ℕ) × (head : Head) × (found of_head bytes ≡ finds.Whole n) × SaysHead kind (drop (blanks (take n bytes)) (take n bytes)) (Some head) × (length_of max head ≡ Ok lengths.ToEnd)

-- what bytes are, where the input ended, they are where it goes on: a message with a length, or a fault other than a cut
early : (kind : Kind) (max place : ℕ) (bytes : List ℕ) (ended : Bool) (frame : Frame) → IsSettled frame → (is_given frame ≡ true → GoesToEnd kind max bytes → ⊥) → IsFrame kind max place bytes ended frame → IsFrame kind max place bytes false frame
early kind max place bytes ended frame settled short is = by_case (found of_head bytes) refl is
  where
    by_case : (f : Found) → found of_head bytes ≡ f → Ended f kind max place bytes ended frame → Ended f kind max place bytes false frame
    by_case finds.Unfinished at e = never_headless (Ended finds.Unfinished kind max place bytes false frame) frame ended (is_bare bytes) settled e
    by_case (finds.TooLong bare) at e = e
    by_case (finds.Whole n) at (None, says, headed) = (None, says, headed)
    by_case (finds.Whole n) at (Some head, says, headed) =
        (Some head, says, bodied_early head (length_of max head) max _ _ (drop n bytes) ended frame settled (λ given to_end. short given (n, head, at, says, to_end)) headed)

-- ---- prefixes

none-behind : (xs ys : List ℕ) → xs ++ ys ≡ [] → ys ≡ []
none-behind [] ys e = e
none-behind (x ∷ xs) ys e = absurd (cc)

given-rest : (a b : Message) (r s : List ℕ) → Given a r ≡ Given b s → (a ≡ b) × (r ≡ s)
given-rest a b r s e = (cc, cc)

-- a message that is whole without the end of input has no prefix whose body would go on to it
never-open : (kind : Kind) (max : ℕ) (bytes rest : List ℕ) (message : Message) → ReadsAs kind max (bytes ++ rest) message → GoesToEnd kind max bytes → ⊥
never-open kind max bytes rest message reads (n, head, at, says, to_end_is) = no_message (ltb max (0 + length (drop n whole))) same
  where
    whole : List ℕ
    whole = bytes ++ rest

    first : ℕ
    first = past 0 (blanks (take n whole))

    open_frame : Frame
    open_frame = to_end max first (record { head = head; body = [] }) (drop n whole) false

    front : take n whole ≡ take n bytes
    front = take-append-le n bytes rest (whole_within of_head bytes n at).length

    stands : IsFrame kind max 0 whole false open_frame
    stands =
        let says_so : SaysHead kind (drop (blanks (take n whole)) (take n whole)) (Some head) = subst (λ t. SaysHead kind (drop (blanks t) t) (Some head)) (sym front) says in
        let bodied : Bodied head (length_of max head) max first (past 0 n) (drop n whole) false open_frame = subst (λ l. Bodied head l max first (past 0 n) (drop n whole) false open_frame) (sym to_end_is) refl in
        subst (λ f. Ended f kind max 0 whole false open_frame) (sym (whole_stays of_head bytes rest n at)) (Some head, says_so, bodied)

    same : open_frame ≡ Given message []
    same = frame_one kind max 0 whole false open_frame (Given message []) stands (reads 0 false)

    no_message : (long : Bool) → cond long (Refused (BodyTooLong first)) (cond false (Given (more_of (record { head = head; body = [] }) (drop n whole)) []) Awaited) ≡ Given message [] → ⊥
    no_message true e = cc
    no_message false e = cc

-- a prefix that is a message is all of it
pub front-whole : (kind : Kind) (max : ℕ) (bytes rest : List ℕ) (message : Message) (ended : Bool) (other : Message) (left : List ℕ) → ReadsAs kind max (bytes ++ rest) message → IsFrame kind max 0 bytes ended (Given other left)
    → (other ≡ message) × (rest ≡ [])
front-whole kind max bytes rest message ended other left reads is =
    let now : IsFrame kind max 0 bytes false (Given other left) = early kind max 0 bytes ended (Given other left) tt (λ given goes. never-open kind max bytes rest message reads goes) is in
    let more : IsFrame kind max 0 (bytes ++ rest) false (Given other (left ++ rest)) = frame_stays kind max 0 bytes rest false (Given other left) now tt in
    let same = given-rest other message (left ++ rest) [] (frame_one kind max 0 (bytes ++ rest) false (Given other (left ++ rest)) (Given message []) more (reads 0 false)) in
    (same.0, none-behind left rest same.1)

-- and a prefix is refused only since it is cut
pub front-refused : (kind : Kind) (max : ℕ) (bytes rest : List ℕ) (message : Message) (ended : Bool) (fault : FrameFault) → ReadsAs kind max (bytes ++ rest) message → (fault ≡ Cut → ⊥) → IsFrame kind max 0 bytes ended (Refused fault) → ⊥
front-refused kind max bytes rest message ended fault reads uncut is =
    let now : IsFrame kind max 0 bytes false (Refused fault) = early kind max 0 bytes ended (Refused fault) uncut (λ given goes. absurd (let same : false ≡ true = given in cc)) is in
    let more : IsFrame kind max 0 (bytes ++ rest) false (Refused fault) = frame_stays kind max 0 bytes rest false (Refused fault) now tt in
    refused-given fault (frame_one kind max 0 (bytes ++ rest) false (Refused fault) (Given message []) more (reads 0 false))
  where
    refused-given : (fault : FrameFault) → Refused fault ≡ Given message [] → ⊥
    refused-given fault e = cc
