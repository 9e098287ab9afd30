-- More bytes behind a message or a fault change nothing.
use Rattle.std.proofs.Common.{◌≡◌, ℕ, ◌+◌, ◌<◌, ◌≤◌, inl, inr, List, [], ◌∷◌, ◌++◌, length, take, drop, Bool, true, false, cond, ltb, leb, nat_eq, refl, sym, ap, ◌∙◌, subst, arith, length-append, Option, Some, None, Result, Ok, Err}
use Rattle.std.proofs.lemmas.List.{take-append-le, drop-append-le}
use Rattle.std.proofs.lemmas.Bool.{leb-true, le-leb, ltb-true, lt-ltb}
use Rattle.httparse.specs.Grammar.{HasNoChunkLine}
use Rattle.ocm_http_heads.specs.Endings.{found, blanks, of_head, of_trailers}
use Rattle.ocm_http_heads.specs.declared.endings.Found.{Found}
use Rattle.ocm_http_heads.specs.declared.endings.Found.TheVariants as finds
use Rattle.ocm_http_heads.specs.declared.fields.Head.{Head}
use Rattle.ocm_http_heads.specs.declared.lengths.Length.{Length}
use Rattle.ocm_http_heads.specs.declared.lengths.Length.TheVariants as lengths
use Rattle.ocm_http_heads.specs.declared.lengths.LengthFault.{LengthFault}
use Rattle.ocm_http_heads.proofs.Looks.{whole_stays, long_stays, whole_within}
use Rattle.ocm_http.specs.Places.{past}
use Rattle.ocm_http.specs.Messages.{more_of, length_of}
use Rattle.ocm_http.specs.Frames as frames
use Rattle.ocm_http.specs.Frames.{Frame, Given, Refused, Awaited, Over, Break, Broken, Wrong, Unbroken, break_of, sized, to_end, trailers, trailers_end, IsLine, IsBadLine, Chunks, Bodied, Headed, Ended, IsFrame, Frames}
use Rattle.ocm_http.specs.Laws.{IsKnown, behind}
use Rattle.ocm_http.specs.declared.messages.Kind.{Kind}
use Rattle.ocm_http.specs.declared.messages.Message.{Message}
use Rattle.ocm_http.specs.declared.messages.FrameFault.TheVariants.{HeadTooLong, BodyTooLong, BadChunk}
use Rattle.ocm_http.proofs.LineSteps.{never_on, line_on}
use Rattle.ocm_http.proofs.HeadSteps.{long_blanks}

-- a frame that is awaited is not known
not_awaited : (frame : Frame) (P : Type 0) → frame ≡ Awaited → IsKnown frame → P
not_awaited frame P e known = absurd (subst IsKnown e known)

behind_same : (a b : Frame) (more : List ℕ) → a ≡ b → behind a more ≡ behind b more
behind_same a b more e = ap (λ f. behind f more) e

-- ---- sizes

sized_cases : (enough later : Bool) (m : Message) (a b : List ℕ) (c d : List ℕ) (ended : Bool) (more : List ℕ) (frame : Frame)
    → frame ≡ cond enough (Given (more_of m a) b) Awaited → IsKnown frame
    → (enough ≡ true → later ≡ true) → (enough ≡ true → c ≡ a) → (enough ≡ true → d ≡ b ++ more)
    → (other : Frame) → behind frame more ≡ cond later (Given (more_of m c) d) other
sized_cases true later m a b c d ended more frame e known still same after other =
    let one : behind frame more ≡ Given (more_of m a) (b ++ more) = behind_same frame (Given (more_of m a) b) more e in
    rw (still refl, same refl, after refl) one
sized_cases false later m a b c d ended more frame e known still same after other = not_awaited frame (behind frame more ≡ cond later (Given (more_of m c) d) other) e known

sized_stays : (m : Message) (n : ℕ) (bytes more : List ℕ) (ended : Bool) (frame : Frame) → frame ≡ sized m n bytes false → IsKnown frame → behind frame more ≡ sized m n (bytes ++ more) ended
sized_stays m n bytes more ended frame e known =
    sized_cases (leb n (length bytes)) (leb n (length (bytes ++ more))) m (take n bytes) (drop n bytes) (take n (bytes ++ more)) (drop n (bytes ++ more)) ended more frame e known
    (λ h. let fits : n ≤ length bytes = leb-true n (length bytes) h in le-leb n (length (bytes ++ more)) (omega (arith, length-append bytes more)))
    (λ h. take-append-le n bytes more (leb-true n (length bytes) h))
    (λ h. drop-append-le n bytes more (leb-true n (length bytes) h))
    (frames.unfinished ended)

to_end_cases : (long later : Bool) (place : ℕ) (more : List ℕ) (frame other : Frame) → frame ≡ cond long (Refused (BodyTooLong place)) Awaited → IsKnown frame → (long ≡ true → later ≡ true) → behind frame more ≡ cond later (Refused (BodyTooLong place)) other
to_end_cases true later place more frame other e known still =
    let one : behind frame more ≡ Refused (BodyTooLong place) = behind_same frame (Refused (BodyTooLong place)) more e in
    rw (still refl) one
to_end_cases false later place more frame other e known still = not_awaited frame (behind frame more ≡ cond later (Refused (BodyTooLong place)) other) e known

to_end_stays : (max place : ℕ) (m : Message) (bytes more : List ℕ) (ended : Bool) (frame : Frame) → frame ≡ to_end max place m bytes false → IsKnown frame → behind frame more ≡ to_end max place m (bytes ++ more) ended
to_end_stays max place m bytes more ended frame e known =
    to_end_cases (ltb max (length m.body + length bytes)) (ltb max (length m.body + length (bytes ++ more))) place more frame (cond ended (Given (more_of m (bytes ++ more)) []) Awaited) e known
    (λ h. let long : max < length m.body + length bytes = ltb-true max (length m.body + length bytes) h in lt-ltb max (length m.body + length (bytes ++ more)) (omega (arith, length-append bytes more)))

-- ---- chunks

trailers_cases : (f : Found) (place : ℕ) (m : Message) (bytes more : List ℕ) (ended : Bool) (frame : Frame) → found of_trailers bytes ≡ f
    → frame ≡ trailers_end f place m bytes false → IsKnown frame → behind frame more ≡ trailers of_trailers place m (bytes ++ more) ended
trailers_cases (finds.Whole n) place m bytes more ended frame is e known =
    let within : n ≤ length bytes = (whole_within of_trailers bytes n is).length in
    behind_same frame (Given m (drop n bytes)) more e
    ∙ (ap (Given m) (sym (drop-append-le n bytes more within)) ∙ sym (ap (λ f. trailers_end f place m (bytes ++ more) ended) (whole_stays of_trailers bytes more n is)))
trailers_cases (finds.TooLong bare) place m bytes more ended frame is e known =
    behind_same frame (Refused (BadChunk place)) more e ∙ sym (ap (λ f. trailers_end f place m (bytes ++ more) ended) (long_stays of_trailers bytes more bare is))
trailers_cases finds.Unfinished place m bytes more ended frame is e known = not_awaited frame (behind frame more ≡ trailers of_trailers place m (bytes ++ more) ended) e known

bad_stays : (bytes more : List ℕ) → IsBadLine bytes → IsBadLine (bytes ++ more)
bad_stays bytes more (inl never) = inl (never_on bytes more never)
bad_stays bytes more (inr long) =
    let size : 256 ≤ length bytes = omega (arith, long.0) in
    inr (omega (arith, long.0, length-append bytes more), subst HasNoChunkLine (sym (take-append-le 256 bytes more size)) long.1)

line_stays : (bytes more : List ℕ) (len size : ℕ) → IsLine bytes len size → IsLine (bytes ++ more) len size
line_stays bytes more len size line = (line_on bytes more len size line.0 line.1, omega (arith, line.1, length-append bytes more), line.2)

wrong_stays : (bytes more : List ℕ) → break_of bytes ≡ Wrong → break_of (bytes ++ more) ≡ Wrong
wrong_stays [] more h = cc
wrong_stays (a ∷ []) more h = wrong_first (nat_eq a 13) h
  where
    wrong_first : (r : Bool) → cond r Unbroken Wrong ≡ Wrong → cond r (frames.break_after_return more) Wrong ≡ Wrong
    wrong_first true h = cc
    wrong_first false h = refl
wrong_stays (a ∷ b ∷ bytes) more h = h

broken_stays : (bytes more : List ℕ) → break_of bytes ≡ Broken → break_of (bytes ++ more) ≡ Broken
broken_stays [] more h = cc
broken_stays (a ∷ []) more h = broken_first (nat_eq a 13) h
  where
    broken_first : (r : Bool) → cond r Unbroken Wrong ≡ Broken → cond r (frames.break_after_return more) Wrong ≡ Broken
    broken_first true h = cc
    broken_first false h = cc
broken_stays (a ∷ b ∷ bytes) more h = h

broken_size : (bytes : List ℕ) → break_of bytes ≡ Broken → 2 ≤ length bytes
broken_size [] h = cc
broken_size (a ∷ []) h = broken_first (nat_eq a 13) h
  where
    broken_first : (r : Bool) → cond r Unbroken Wrong ≡ Broken → 2 ≤ 1
    broken_first true h = cc
    broken_first false h = cc
broken_size (a ∷ b ∷ bytes) h = omega arith

-- what follows a chunk's data, with more bytes behind
data_behind : (bytes more : List ℕ) (len size : ℕ) → len ≤ length bytes → size ≤ length (drop len bytes) → drop size (drop len (bytes ++ more)) ≡ drop size (drop len bytes) ++ more
data_behind bytes more len size h k = ap (drop size) (drop-append-le len bytes more h) ∙ drop-append-le size (drop len bytes) more k

data_same : (bytes more : List ℕ) (len size : ℕ) → len ≤ length bytes → size ≤ length (drop len bytes) → take size (drop len (bytes ++ more)) ≡ take size (drop len bytes)
data_same bytes more len size h k = ap (take size) (drop-append-le len bytes more h) ∙ take-append-le size (drop len bytes) more k

data_enough : (bytes more : List ℕ) (len size : ℕ) → len ≤ length bytes → size ≤ length (drop len bytes) → size ≤ length (drop len (bytes ++ more))
data_enough bytes more len size h k =
    let same : length (drop len (bytes ++ more)) ≡ length (drop len bytes ++ more) = ap length (drop-append-le len bytes more h) in
    omega (arith, same, length-append (drop len bytes) more)

chunks_stay : (max place : ℕ) (m : Message) (bytes more : List ℕ) (before ended : Bool) (frame : Frame) → before ≡ false → Chunks max place m bytes before frame → IsKnown frame → Chunks max place m (bytes ++ more) ended (behind frame more)
chunks_stay max place m bytes more before ended frame on (frames.bad_line _ _ _ _ _ bad e) known =
    frames.bad_line place m (bytes ++ more) ended (behind frame more) (bad_stays bytes more bad) (behind_same frame (Refused (BadChunk place)) more e)
chunks_stay max place m bytes more before ended frame on (frames.open_line _ _ _ _ _ open_line e) known =
    not_awaited frame (Chunks max place m (bytes ++ more) ended (behind frame more)) (e ∙ ap frames.unfinished on) known
chunks_stay max place m bytes more before ended frame on (frames.too_large _ _ _ _ _ len size line fit e) known =
    frames.too_large place m (bytes ++ more) ended (behind frame more) len size (line_stays bytes more len size line) fit (behind_same frame (Refused (BodyTooLong place)) more e)
chunks_stay max place m bytes more before ended frame on (frames.last _ _ _ _ _ len line fit e) known =
    let on_false : frame ≡ trailers of_trailers (past place len) m (drop len bytes) false = e ∙ ap (trailers of_trailers (past place len) m (drop len bytes)) on in
    frames.last place m (bytes ++ more) ended (behind frame more) len (line_stays bytes more len 0 line) fit
    (trailers_cases (found of_trailers (drop len bytes)) (past place len) m (drop len bytes) more ended frame refl on_false known
    ∙ ap (λ b. trailers of_trailers (past place len) m b ended) (sym (drop-append-le len bytes more line.1)))
chunks_stay max place m bytes more before ended frame on (frames.open_data _ _ _ _ _ len size line some fit less e) known =
    not_awaited frame (Chunks max place m (bytes ++ more) ended (behind frame more)) (e ∙ ap frames.unfinished on) known
chunks_stay max place m bytes more before ended frame on (frames.open_break _ _ _ _ _ len size line some fit enough is e) known =
    not_awaited frame (Chunks max place m (bytes ++ more) ended (behind frame more)) (e ∙ ap frames.unfinished on) known
chunks_stay max place m bytes more before ended frame on (frames.wrong_break _ _ _ _ _ len size line some fit enough is e) known =
    frames.wrong_break place m (bytes ++ more) ended (behind frame more) len size (line_stays bytes more len size line) some fit (data_enough bytes more len size line.1 enough)
    (ap break_of (data_behind bytes more len size line.1 enough) ∙ wrong_stays (drop size (drop len bytes)) more is)
    (behind_same frame (Refused (BadChunk (past (past place len) size))) more e)
chunks_stay max place m bytes more before ended frame on (frames.chunk _ _ _ _ _ len size line some fit enough is rest) known =
    let next = past (past (past place len) size) 2 in
    let tail : Chunks max next (more_of m (take size (drop len bytes))) (drop 2 (drop size (drop len bytes)) ++ more) ended (behind frame more) =
    chunks_stay max next (more_of m (take size (drop len bytes))) (drop 2 (drop size (drop len bytes))) more before ended frame on rest known in
    let two : 2 ≤ length (drop size (drop len bytes)) = broken_size (drop size (drop len bytes)) is in
    let after : drop 2 (drop size (drop len (bytes ++ more))) ≡ drop 2 (drop size (drop len bytes)) ++ more =
    ap (drop 2) (data_behind bytes more len size line.1 enough) ∙ drop-append-le 2 (drop size (drop len bytes)) more two in
    frames.chunk place m (bytes ++ more) ended (behind frame more) len size (line_stays bytes more len size line) some fit (data_enough bytes more len size line.1 enough)
    (ap break_of (data_behind bytes more len size line.1 enough) ∙ broken_stays (drop size (drop len bytes)) more is)
    (subst (λ b. Chunks max next (more_of m (take size (drop len (bytes ++ more)))) b ended (behind frame more)) (sym after)
    (subst (λ b. Chunks max next (more_of m b) (drop 2 (drop size (drop len bytes)) ++ more) ended (behind frame more)) (sym (data_same bytes more len size line.1 enough)) tail))

-- ---- heads

bodied_stays : (head : Head) (length_is : Result Length LengthFault) (max first next : ℕ) (bytes more : List ℕ) (ended : Bool) (frame : Frame)
    → Bodied head length_is max first next bytes false frame → IsKnown frame → Bodied head length_is max first next (bytes ++ more) ended (behind frame more)
bodied_stays head (Err fault) max first next bytes more ended frame e known = behind_same frame _ more e
bodied_stays head (Ok (lengths.Sized n)) max first next bytes more ended frame e known = sized_stays (record { head = head; body = [] }) n bytes more ended frame e known
bodied_stays head (Ok lengths.ToEnd) max first next bytes more ended frame e known = to_end_stays max first (record { head = head; body = [] }) bytes more ended frame e known
bodied_stays head (Ok lengths.Chunked) max first next bytes more ended frame chunks known = chunks_stay max next (record { head = head; body = [] }) bytes more false ended frame refl chunks known

headed_stays : (head : Option Head) (max first next : ℕ) (bytes more : List ℕ) (ended : Bool) (frame : Frame)
    → Headed head max first next bytes false frame → IsKnown frame → Headed head max first next (bytes ++ more) ended (behind frame more)
headed_stays None max first next bytes more ended frame e known = behind_same frame _ more e
headed_stays (Some head) max first next bytes more ended frame bodied known = bodied_stays head (length_of max head) max first next bytes more ended frame bodied known

ended_stays : (f : Found) (kind : Kind) (max place : ℕ) (bytes more : List ℕ) (ended : Bool) (frame : Frame) → found of_head bytes ≡ f
    → Ended f kind max place bytes false frame → IsKnown frame → IsFrame kind max place (bytes ++ more) ended (behind frame more)
ended_stays finds.Unfinished kind max place bytes more ended frame is e known = not_awaited frame (IsFrame kind max place (bytes ++ more) ended (behind frame more)) e known
ended_stays (finds.TooLong bare) kind max place bytes more ended frame is e known =
    subst (λ f. Ended f kind max place (bytes ++ more) ended (behind frame more)) (sym (long_stays of_head bytes more bare is))
    (behind_same frame (Refused (HeadTooLong (cond bare (past place 0) (past place (blanks bytes))))) more e
    ∙ ap (λ p. Refused (HeadTooLong p)) (long_blanks place bare bytes more is))
ended_stays (finds.Whole n) kind max place bytes more ended frame is e known =
    let within : n ≤ length bytes = (whole_within of_head bytes n is).length in
    let stays : Headed e.0 max (past place (blanks (take n bytes))) (past place n) (drop n bytes ++ more) ended (behind frame more) =
    headed_stays e.0 max (past place (blanks (take n bytes))) (past place n) (drop n bytes) more ended frame e.2 known in
    let whole : Ended (finds.Whole n) kind max place (bytes ++ more) ended (behind frame more) =
    rw (take-append-le n bytes more within, drop-append-le n bytes more within) (e.0, e.1, stays) in
    subst (λ f. Ended f kind max place (bytes ++ more) ended (behind frame more)) (sym (whole_stays of_head bytes more n is)) whole

pub frame_stays : (kind : Kind) (max place : ℕ) (bytes more : List ℕ) (ended : Bool) (frame : Frame)
    → IsFrame kind max place bytes false frame → IsKnown frame → IsFrame kind max place (bytes ++ more) ended (behind frame more)
frame_stays kind max place bytes more ended frame is known = ended_stays (found of_head bytes) kind max place bytes more ended frame refl is known

pub first_of_stream : (kind : Kind) (max place n : ℕ) (bytes left later : List ℕ) (ended : Bool) (message : Message) (messages : List Message) (frame : Frame)
    → IsFrame kind max place bytes false (Given message left) → n + length left ≡ length bytes
    → Frames kind max (past place n) (left ++ later) ended messages frame
    → Frames kind max place (bytes ++ later) ended (message ∷ messages) frame
first_of_stream kind max place n bytes left later ended message messages frame is size rest =
    let all : n + length (left ++ later) ≡ length (bytes ++ later) = omega (arith, size, length-append left later, length-append bytes later) in
    frames.given place n (bytes ++ later) (left ++ later) ended message messages frame
    (frame_stays kind max place bytes later ended (Given message left) is tt) all rest
