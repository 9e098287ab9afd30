-- Bytes are at most one frame.
use Rattle.std.proofs.Common.{◌≡◌, ℕ, ◌<◌, ◌≤◌, inl, inr, List, [], ◌++◌, length, take, drop, Bool, true, false, leb, nat_eq, refl, sym, ap, ◌∙◌, subst, arith, append-nil, Option, Some, None, Result, Ok, Err}
use Rattle.std.proofs.lemmas.List.{take-append-drop, length-take-le}
use Rattle.std.proofs.lemmas.Bool.{ne_eqb, le-leb, lt-leb}
use Rattle.httparse.specs.Grammar.{ReadsChunkLine, chunk_size, print_chunk_line}
use Rattle.httparse.proofs.GrammarLemmas.{request_unique, response_unique}
use Rattle.httparse.proofs.ChunkLemmas.{chunk_line_unique}
use Rattle.ocm_http_heads.specs.ChunkLines.{LineOf}
use Rattle.ocm_http_heads.specs.Heads.{SaysRequest, SaysReply, request_of, reply_of}
use Rattle.ocm_http_heads.specs.Endings.{found, of_head, of_trailers}
use Rattle.ocm_http_heads.specs.declared.endings.Found.{Found}
use Rattle.ocm_http_heads.specs.declared.endings.Found.TheVariants as finds
use Rattle.ocm_http_heads.specs.declared.fields.Head.{Head}
use Rattle.ocm_http_heads.specs.declared.lengths.Length.{Length}
use Rattle.ocm_http_heads.specs.declared.lengths.Length.TheVariants as lengths
use Rattle.ocm_http_heads.specs.declared.lengths.LengthFault.{LengthFault}
use Rattle.ocm_http.specs.Places.{past}
use Rattle.ocm_http.specs.Messages.{more_of, length_of, SaysHead}
use Rattle.ocm_http.specs.Frames as frames
use Rattle.ocm_http.specs.Frames.{Frame, Refused, Break, Broken, Wrong, Unbroken, break_of, fits, unfinished, trailers, IsLine, IsBadLine, IsOpenLine, Chunks, Bodied, Headed, Ended, IsFrame}
use Rattle.ocm_http.specs.declared.messages.Kind.{Kind}
use Rattle.ocm_http.specs.declared.messages.Kind.TheVariants.{Requests, Replies}
use Rattle.ocm_http.specs.declared.messages.Message.{Message}
use Rattle.ocm_http.specs.declared.messages.FrameFault.TheVariants.{BodyTooLong, BadChunk}
use Rattle.ocm_http.proofs.LineSteps.{line_longer}

-- ---- heads

request_says_one : (text : List ℕ) (o p : Option Head) → SaysRequest text o → SaysRequest text p → o ≡ p
request_says_one text None None x y = refl
request_says_one text None (Some h) x y = absurd (x y.0 y.1)
request_says_one text (Some h) None x y = absurd (y x.0 x.1)
request_says_one text (Some h) (Some k) x y = ap Some (x.2 ∙ (ap request_of (request_unique text x.0 y.0 [] [] x.1 y.1).0 ∙ sym y.2))

reply_says_one : (text : List ℕ) (o p : Option Head) → SaysReply text o → SaysReply text p → o ≡ p
reply_says_one text None None x y = refl
reply_says_one text None (Some h) x y = absurd (x y.0 y.1 y.2)
reply_says_one text (Some h) None x y = absurd (y x.0 x.1 x.2)
reply_says_one text (Some h) (Some k) x y = ap Some (x.3 ∙ (ap reply_of (response_unique text x.0 y.0 [] [] x.1 y.1).0 ∙ sym y.3))

says_one : (kind : Kind) (text : List ℕ) (o p : Option Head) → SaysHead kind text o → SaysHead kind text p → o ≡ p
says_one Requests text o p x y = request_says_one text o p x y
says_one Replies text o p x y = reply_says_one text o p x y

-- ---- chunk lines

bad_not_line : (bytes : List ℕ) (len size : ℕ) → IsBadLine bytes → IsLine bytes len size → ⊥
bad_not_line bytes len size (inl never) line =
    never [] line.0.0 (drop len bytes) (subst (λ b. ReadsChunkLine b line.0.0 (drop len bytes)) (sym (append-nil bytes)) line.0.1)
bad_not_line bytes len size (inr long) line =
    let enough : 256 ≤ length bytes = omega (arith, long.0) in
    let front : length (take 256 bytes) ≡ 256 = length-take-le 256 bytes enough in
    let parts : bytes ≡ take 256 bytes ++ drop 256 bytes = sym (take-append-drop 256 bytes) in
    let more : length (take 256 bytes) < len =
    line_longer (take 256 bytes) (drop 256 bytes) len size long.1 (subst (λ b. LineOf b len size) parts line.0) (subst (λ b. len ≤ length b) parts line.1) in
    omega (arith, line.2)

open_not_line : (bytes : List ℕ) (len size : ℕ) → IsOpenLine bytes → IsLine bytes len size → ⊥
open_not_line bytes len size is line = is.1 line.0.0 (drop len bytes) line.0.1

bad_not_open : (bytes : List ℕ) → IsBadLine bytes → IsOpenLine bytes → ⊥
bad_not_open bytes (inl never) is = never is.2.0 is.2.1 [] is.2.2
bad_not_open bytes (inr long) is = omega (arith, long.0, is.0)

one_line : (bytes : List ℕ) (len size n k : ℕ) → IsLine bytes len size → IsLine bytes n k → (n ≡ len) × (k ≡ size)
one_line bytes len size n k x y =
    let same = (chunk_line_unique bytes y.0.0 x.0.0 (drop n bytes) (drop len bytes) y.0.1 x.0.1).0 in
    (y.0.2 ∙ (ap (λ l. length (print_chunk_line l)) same ∙ sym x.0.2), y.0.3 ∙ (ap chunk_size same ∙ sym x.0.3))

-- ---- what follows a line

abbrev pub After : Bool → Bool → Bool → Break → ℕ → ℕ → Message → ℕ → ℕ → List ℕ → Bool → Frame → Type 0
After false none enough kind max place m len size rest ended frame = frame ≡ Refused (BodyTooLong place)
After true true enough kind max place m len size rest ended frame = frame ≡ trailers of_trailers (past place len) m rest ended
After true false false kind max place m len size rest ended frame = frame ≡ unfinished ended
After true false true Unbroken max place m len size rest ended frame = frame ≡ unfinished ended
After true false true Wrong max place m len size rest ended frame = frame ≡ Refused (BadChunk (past (past place len) size))
After true false true Broken max place m len size rest ended frame = Chunks max (past (past (past place len) size) 2) (more_of m (take size rest)) (drop 2 (drop size rest)) ended frame

abbrev pub AfterLine : ℕ → ℕ → Message → List ℕ → ℕ → ℕ → Bool → Frame → Type 0
AfterLine max place m bytes len size ended frame =
    After (fits max m size) (nat_eq size 0) (leb size (length (drop len bytes))) (break_of (drop size (drop len bytes))) max place m len size (drop len bytes) ended frame

after_large : (max place : ℕ) (m : Message) (bytes : List ℕ) (len size : ℕ) (ended : Bool) (frame : Frame) (f n e : Bool) (k : Break) → f ≡ false
    → (frame ≡ Refused (BodyTooLong place)) → After f n e k max place m len size (drop len bytes) ended frame
after_large max place m bytes len size ended frame false n e k h is = is
after_large max place m bytes len size ended frame true n e k h is = cc

large_after : (max place : ℕ) (m : Message) (rest : List ℕ) (len size : ℕ) (ended : Bool) (frame : Frame) (f n e : Bool) (k : Break) → f ≡ false
    → After f n e k max place m len size rest ended frame → frame ≡ Refused (BodyTooLong place)
large_after max place m rest len size ended frame false n e k h is = is
large_after max place m rest len size ended frame true n e k h is = cc

-- with what is known of the tests, it is one of the six
known : (max place : ℕ) (m : Message) (rest : List ℕ) (len size : ℕ) (ended : Bool) (frame : Frame) (f f' n n' e e' : Bool) (k k' : Break)
    → f ≡ f' → n ≡ n' → e ≡ e' → k ≡ k' → After f n e k max place m len size rest ended frame → After f' n' e' k' max place m len size rest ended frame
known max place m rest len size ended frame f f' n n' e e' k k' p q r s is =
    subst (λ x. After x n' e' k' max place m len size rest ended frame) p
    (subst (λ x. After f x e' k' max place m len size rest ended frame) q
    (subst (λ x. After f n x k' max place m len size rest ended frame) r
    (subst (λ x. After f n e x max place m len size rest ended frame) s is)))

nonzero : (size : ℕ) → 0 < size → nat_eq size 0 ≡ false
nonzero size some = ne_eqb size 0 (λ e. omega arith)

-- what a body in chunks is where a line stands at its front
at_line : (max place : ℕ) (m : Message) (bytes : List ℕ) (ended : Bool) (frame : Frame) (len size : ℕ) → IsLine bytes len size → Chunks max place m bytes ended frame → AfterLine max place m bytes len size ended frame
at_line max place m bytes ended frame len size line (frames.bad_line _ _ _ _ _ bad e) = absurd (bad_not_line bytes len size bad line)
at_line max place m bytes ended frame len size line (frames.open_line _ _ _ _ _ is e) = absurd (open_not_line bytes len size is line)
at_line max place m bytes ended frame len size line (frames.too_large _ _ _ _ _ n k other fit e) =
    let same = one_line bytes len size n k line other in
    after_large max place m bytes len size ended frame (fits max m size) _ _ _ (subst (λ s. fits max m s ≡ false) same.1 fit) e
at_line max place m bytes ended frame len size line (frames.last _ _ _ _ _ n other fit e) =
    let same = one_line bytes len size n 0 line other in
    let zero_test : nat_eq size 0 ≡ true = subst (λ s. nat_eq s 0 ≡ true) same.1 refl in
    known max place m (drop len bytes) len size ended frame true (fits max m size) true (nat_eq size 0) _ _ _ _ (sym (subst (λ s. fits max m s ≡ true) same.1 fit)) (sym zero_test) refl refl
    (subst (λ l. frame ≡ trailers of_trailers (past place l) m (drop l bytes) ended) same.0 e)
at_line max place m bytes ended frame len size line (frames.open_data _ _ _ _ _ n k other some fit less e) =
    let same = one_line bytes len size n k line other in
    let less_here : length (drop len bytes) < size = subst (λ s. length (drop len bytes) < s) same.1 (subst (λ l. length (drop l bytes) < k) same.0 less) in
    known max place m (drop len bytes) len size ended frame true (fits max m size) false (nat_eq size 0) false (leb size (length (drop len bytes))) _ _
    (sym (subst (λ s. fits max m s ≡ true) same.1 fit)) (sym (nonzero size (subst (λ s. 0 < s) same.1 some))) (sym (lt-leb size (length (drop len bytes)) less_here)) refl e
at_line max place m bytes ended frame len size line (frames.open_break _ _ _ _ _ n k other some fit enough is e) =
    let same = one_line bytes len size n k line other in
    let enough_here : size ≤ length (drop len bytes) = subst (λ s. s ≤ length (drop len bytes)) same.1 (subst (λ l. k ≤ length (drop l bytes)) same.0 enough) in
    let is_here : break_of (drop size (drop len bytes)) ≡ Unbroken = subst (λ s. break_of (drop s (drop len bytes)) ≡ Unbroken) same.1 (subst (λ l. break_of (drop k (drop l bytes)) ≡ Unbroken) same.0 is) in
    known max place m (drop len bytes) len size ended frame true (fits max m size) false (nat_eq size 0) true (leb size (length (drop len bytes))) Unbroken (break_of (drop size (drop len bytes)))
    (sym (subst (λ s. fits max m s ≡ true) same.1 fit)) (sym (nonzero size (subst (λ s. 0 < s) same.1 some))) (sym (le-leb size (length (drop len bytes)) enough_here)) (sym is_here) e
at_line max place m bytes ended frame len size line (frames.wrong_break _ _ _ _ _ n k other some fit enough is e) =
    let same = one_line bytes len size n k line other in
    let enough_here : size ≤ length (drop len bytes) = subst (λ s. s ≤ length (drop len bytes)) same.1 (subst (λ l. k ≤ length (drop l bytes)) same.0 enough) in
    let is_here : break_of (drop size (drop len bytes)) ≡ Wrong = subst (λ s. break_of (drop s (drop len bytes)) ≡ Wrong) same.1 (subst (λ l. break_of (drop k (drop l bytes)) ≡ Wrong) same.0 is) in
    known max place m (drop len bytes) len size ended frame true (fits max m size) false (nat_eq size 0) true (leb size (length (drop len bytes))) Wrong (break_of (drop size (drop len bytes)))
    (sym (subst (λ s. fits max m s ≡ true) same.1 fit)) (sym (nonzero size (subst (λ s. 0 < s) same.1 some))) (sym (le-leb size (length (drop len bytes)) enough_here)) (sym is_here)
    (subst (λ s. frame ≡ Refused (BadChunk (past (past place len) s))) same.1 (subst (λ l. frame ≡ Refused (BadChunk (past (past place l) k))) same.0 e))
at_line max place m bytes ended frame len size line (frames.chunk _ _ _ _ _ n k other some fit enough is tail) =
    let same = one_line bytes len size n k line other in
    let enough_here : size ≤ length (drop len bytes) = subst (λ s. s ≤ length (drop len bytes)) same.1 (subst (λ l. k ≤ length (drop l bytes)) same.0 enough) in
    let is_here : break_of (drop size (drop len bytes)) ≡ Broken = subst (λ s. break_of (drop s (drop len bytes)) ≡ Broken) same.1 (subst (λ l. break_of (drop k (drop l bytes)) ≡ Broken) same.0 is) in
    known max place m (drop len bytes) len size ended frame true (fits max m size) false (nat_eq size 0) true (leb size (length (drop len bytes))) Broken (break_of (drop size (drop len bytes)))
    (sym (subst (λ s. fits max m s ≡ true) same.1 fit)) (sym (nonzero size (subst (λ s. 0 < s) same.1 some))) (sym (le-leb size (length (drop len bytes)) enough_here)) (sym is_here)
    (subst (λ s. Chunks max (past (past (past place len) s) 2) (more_of m (take s (drop len bytes))) (drop 2 (drop s (drop len bytes))) ended frame) same.1
    (subst (λ l. Chunks max (past (past (past place l) k) 2) (more_of m (take k (drop l bytes))) (drop 2 (drop k (drop l bytes))) ended frame) same.0 tail))

-- the same, of a line that is no line
at_bad : (max place : ℕ) (m : Message) (bytes : List ℕ) (ended : Bool) (frame : Frame) → IsBadLine bytes → Chunks max place m bytes ended frame → frame ≡ Refused (BadChunk place)
at_bad max place m bytes ended frame bad (frames.bad_line _ _ _ _ _ other e) = e
at_bad max place m bytes ended frame bad (frames.open_line _ _ _ _ _ is e) = absurd (bad_not_open bytes bad is)
at_bad max place m bytes ended frame bad (frames.too_large _ _ _ _ _ n k line fit e) = absurd (bad_not_line bytes n k bad line)
at_bad max place m bytes ended frame bad (frames.last _ _ _ _ _ n line fit e) = absurd (bad_not_line bytes n 0 bad line)
at_bad max place m bytes ended frame bad (frames.open_data _ _ _ _ _ n k line some fit less e) = absurd (bad_not_line bytes n k bad line)
at_bad max place m bytes ended frame bad (frames.open_break _ _ _ _ _ n k line some fit enough is e) = absurd (bad_not_line bytes n k bad line)
at_bad max place m bytes ended frame bad (frames.wrong_break _ _ _ _ _ n k line some fit enough is e) = absurd (bad_not_line bytes n k bad line)
at_bad max place m bytes ended frame bad (frames.chunk _ _ _ _ _ n k line some fit enough is tail) = absurd (bad_not_line bytes n k bad line)

at_open : (max place : ℕ) (m : Message) (bytes : List ℕ) (ended : Bool) (frame : Frame) → IsOpenLine bytes → Chunks max place m bytes ended frame → frame ≡ unfinished ended
at_open max place m bytes ended frame is (frames.bad_line _ _ _ _ _ bad e) = absurd (bad_not_open bytes bad is)
at_open max place m bytes ended frame is (frames.open_line _ _ _ _ _ other e) = e
at_open max place m bytes ended frame is (frames.too_large _ _ _ _ _ n k line fit e) = absurd (open_not_line bytes n k is line)
at_open max place m bytes ended frame is (frames.last _ _ _ _ _ n line fit e) = absurd (open_not_line bytes n 0 is line)
at_open max place m bytes ended frame is (frames.open_data _ _ _ _ _ n k line some fit less e) = absurd (open_not_line bytes n k is line)
at_open max place m bytes ended frame is (frames.open_break _ _ _ _ _ n k line some fit enough b e) = absurd (open_not_line bytes n k is line)
at_open max place m bytes ended frame is (frames.wrong_break _ _ _ _ _ n k line some fit enough b e) = absurd (open_not_line bytes n k is line)
at_open max place m bytes ended frame is (frames.chunk _ _ _ _ _ n k line some fit enough b tail) = absurd (open_not_line bytes n k is line)

-- what follows a line, where the tests are known
after : (max place : ℕ) (m : Message) (bytes : List ℕ) (ended : Bool) (frame : Frame) (len size : ℕ) (enough : Bool) (kind : Break)
    → IsLine bytes len size → 0 < size → fits max m size ≡ true → leb size (length (drop len bytes)) ≡ enough → break_of (drop size (drop len bytes)) ≡ kind
    → Chunks max place m bytes ended frame → After true false enough kind max place m len size (drop len bytes) ended frame
after max place m bytes ended frame len size enough kind line some fit much is c =
    known max place m (drop len bytes) len size ended frame (fits max m size) true (nat_eq size 0) false (leb size (length (drop len bytes))) enough (break_of (drop size (drop len bytes))) kind
    fit (nonzero size some) much is (at_line max place m bytes ended frame len size line c)

chunks_one : (max place : ℕ) (m : Message) (bytes : List ℕ) (ended : Bool) (a b : Frame) → Chunks max place m bytes ended a → Chunks max place m bytes ended b → a ≡ b
chunks_one max place m bytes ended a b (frames.bad_line _ _ _ _ _ bad e) d = e ∙ sym (at_bad max place m bytes ended b bad d)
chunks_one max place m bytes ended a b (frames.open_line _ _ _ _ _ is e) d = e ∙ sym (at_open max place m bytes ended b is d)
chunks_one max place m bytes ended a b (frames.too_large _ _ _ _ _ n k line fit e) d =
    e ∙ sym (large_after max place m (drop n bytes) n k ended b (fits max m k) _ _ _ fit (at_line max place m bytes ended b n k line d))
chunks_one max place m bytes ended a b (frames.last _ _ _ _ _ n line fit e) d =
    e ∙ sym (known max place m (drop n bytes) n 0 ended b (fits max m 0) true true true _ _ _ _ fit refl refl refl (at_line max place m bytes ended b n 0 line d))
chunks_one max place m bytes ended a b (frames.open_data _ _ _ _ _ n k line some fit less e) d =
    e ∙ sym (after max place m bytes ended b n k false (break_of (drop k (drop n bytes))) line some fit (lt-leb k (length (drop n bytes)) less) refl d)
chunks_one max place m bytes ended a b (frames.open_break _ _ _ _ _ n k line some fit enough is e) d =
    e ∙ sym (after max place m bytes ended b n k true Unbroken line some fit (le-leb k (length (drop n bytes)) enough) is d)
chunks_one max place m bytes ended a b (frames.wrong_break _ _ _ _ _ n k line some fit enough is e) d =
    e ∙ sym (after max place m bytes ended b n k true Wrong line some fit (le-leb k (length (drop n bytes)) enough) is d)
chunks_one max place m bytes ended a b (frames.chunk _ _ _ _ _ n k line some fit enough is tail) d =
    chunks_one max _ _ _ ended a b tail (after max place m bytes ended b n k true Broken line some fit (le-leb k (length (drop n bytes)) enough) is d)

-- ---- frames

bodied_one : (head : Head) (length_is : Result Length LengthFault) (max first next : ℕ) (bytes : List ℕ) (ended : Bool) (a b : Frame) → Bodied head length_is max first next bytes ended a → Bodied head length_is max first next bytes ended b → a ≡ b
bodied_one head (Err fault) max first next bytes ended a b x y = x ∙ sym y
bodied_one head (Ok (lengths.Sized n)) max first next bytes ended a b x y = x ∙ sym y
bodied_one head (Ok lengths.ToEnd) max first next bytes ended a b x y = x ∙ sym y
bodied_one head (Ok lengths.Chunked) max first next bytes ended a b x y = chunks_one max next (record { head = head; body = [] }) bytes ended a b x y

headed_one : (head : Option Head) (max first next : ℕ) (bytes : List ℕ) (ended : Bool) (a b : Frame) → Headed head max first next bytes ended a → Headed head max first next bytes ended b → a ≡ b
headed_one None max first next bytes ended a b x y = x ∙ sym y
headed_one (Some head) max first next bytes ended a b x y = bodied_one head (length_of max head) max first next bytes ended a b x y

ended_one : (f : Found) (kind : Kind) (max place : ℕ) (bytes : List ℕ) (ended : Bool) (a b : Frame) → Ended f kind max place bytes ended a → Ended f kind max place bytes ended b → a ≡ b
ended_one finds.Unfinished kind max place bytes ended a b x y = x ∙ sym y
ended_one (finds.TooLong bare) kind max place bytes ended a b x y = x ∙ sym y
ended_one (finds.Whole n) kind max place bytes ended a b x y =
    let same : y.0 ≡ x.0 = says_one kind _ y.0 x.0 y.1 x.1 in
    headed_one x.0 max _ _ (drop n bytes) ended a b x.2 (subst (λ h. Headed h max _ _ (drop n bytes) ended b) same y.2)

pub frame_one : (kind : Kind) (max place : ℕ) (bytes : List ℕ) (ended : Bool) (a b : Frame) → IsFrame kind max place bytes ended a → IsFrame kind max place bytes ended b → a ≡ b
frame_one kind max place bytes ended a b x y = ended_one (found of_head bytes) kind max place bytes ended a b x y
