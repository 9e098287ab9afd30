-- The reply that was read is that of all the bytes that came back.
use Rattle.std.proofs.Common.{◌≡◌, ℕ, Bool, true, false, List, [], ◌++◌, Option, Some, None, Ok, Err, refl, sym, ap, subst, ◌∙◌, append-nil}
use Rattle.std.specs.Prelude.{IsTrue, IfSome}
use Rattle.ocm_base.specs.Outside.{Takes, flow}
use Rattle.ocm_limits.specs.Limits.{most_reply_bytes}
use Rattle.ocm_http.specs.Frames.{Frame, Given, Refused, Awaited, Over, IsFrame}
use Rattle.ocm_http.specs.Laws.{IsKnown, behind}
use Rattle.ocm_http.specs.Readers.{ReaderState, Reads as ReadsFrame, ReadsMessage}
use Rattle.ocm_http.specs.declared.messages.Kind.TheVariants.{Replies}
use Rattle.ocm_http.specs.declared.messages.Message.{Message}
use Rattle.ocm_http.specs.declared.messages.FrameFault.{FrameFault}
use Rattle.ocm_http.specs.declared.messages.FrameFault.TheVariants as frames
use Rattle.ocm_http.proofs.Stable.{frame_stays}
use Rattle.ocm_pump.specs.Replies.{IsReply, fault_of, reply_in, Reads, whole, wanting}
use Rattle.ocm_pump.specs.declared.faults.PumpFault.TheVariants.{BadReply}

-- more bytes behind a reply change nothing of it
reply_in-behind : (frame : Frame) (more : List ℕ) → reply_in (behind frame more) ≡ reply_in frame
reply_in-behind (Given message rest) more = refl
reply_in-behind (Refused fault) more = refl
reply_in-behind Awaited more = refl
reply_in-behind Over more = refl

-- what is left of the bytes of which some were taken
taken_of : (bytes got : List ℕ) (after : Option (List ℕ)) → Takes (Some bytes) after got → (left : List ℕ) × (after ≡ Some left) × (bytes ≡ got ++ left)
taken_of bytes got (Some left) e = (left, refl, cc)
taken_of bytes got None e = absurd cc

-- what a front of the bytes is, is what all are
whole_frame : (got left : List ℕ) (ended : Bool) (frame : Frame) → IsFrame Replies most_reply_bytes 0 got ended frame
    → (ended ≡ false → IsKnown frame) → (IsTrue ended → left ≡ [])
    → (f : Frame) × IsReply (got ++ left) f × (reply_in f ≡ reply_in frame)
whole_frame got left true frame is known over =
    (frame, subst (λ (b : List ℕ). IsReply b frame) (sym (ap (λ (l : List ℕ). got ++ l) (over refl) ∙ append-nil got)) is, refl)
whole_frame got left false frame is known over =
    (behind frame left, frame_stays Replies most_reply_bytes 0 got left true frame is (known refl), reply_in-behind frame left)

-- a reader of replies at the front of its source
abbrev pub fresh : ReaderState
fresh = record { kind = Replies; max = 33554432; place = 0; held = []; failed = false; gone = 0 }

-- what it reads of bytes
reading : (bytes : List ℕ) (after : Option (List ℕ)) (ended : Bool) (frame : Frame) → ReadsFrame fresh (flow (Some bytes) None) (flow after None) ended frame
    → (ended ≡ false → IsKnown frame) → (f : Frame) × IsReply bytes f × (reply_in f ≡ reply_in frame)
reading bytes after ended frame r known =
    let t = taken_of bytes r.got after r.taken.0 in
    let over : IsTrue ended → t.0 ≡ [] = λ e. subst (λ (a : Option (List ℕ)). IfSome a (λ rest. rest ≡ [])) t.1 (r.told e) in
    let w = whole_frame r.got t.0 ended frame r.is_frame known over in
    (w.0, subst (λ (b : List ℕ). IsReply b w.0) (sym t.2) w.1, w.2)

reads : (bytes : List ℕ) (frame : Frame) → ((f : Frame) × IsReply bytes f × (reply_in f ≡ reply_in frame)) → Reads bytes (reply_in frame)
reads bytes frame w = whole w.0 w.1 (sym w.2)

-- a message that it gives
pub read_message : (reader : ReaderState) (before after : Option (List ℕ)) (bytes held : List ℕ) (place : ℕ) (message : Message)
    → reader ≡ fresh → before ≡ Some bytes → ReadsMessage reader (flow before None) (flow after None) (Given message held) held place → Reads bytes (Ok message)
read_message reader before after bytes held place message e b r =
    let at_fresh = subst (λ (s : ReaderState). ReadsMessage s (flow before None) (flow after None) (Given message held) held place) e r in
    let at_bytes = subst (λ (o : Option (List ℕ)). ReadsMessage fresh (flow o None) (flow after None) (Given message held) held place) b at_fresh in
    reads bytes (Given message held) (reading bytes after at_bytes.ended (Given message held) at_bytes.reading (λ _. tt))

-- the end that it finds
pub read_over : (reader : ReaderState) (before after : Option (List ℕ)) (bytes : List ℕ)
    → reader ≡ fresh → before ≡ Some bytes → ReadsFrame reader (flow before None) (flow after None) true Over → Reads bytes (Err (BadReply 0))
read_over reader before after bytes e b r =
    let at_fresh = subst (λ (s : ReaderState). ReadsFrame s (flow before None) (flow after None) true Over) e r in
    let at_bytes = subst (λ (o : Option (List ℕ)). ReadsFrame fresh (flow o None) (flow after None) true Over) b at_fresh in
    reads bytes Over (reading bytes after true Over at_bytes (λ f. absurd cc))

-- a fault that it finds
pub read_fault : (reader : ReaderState) (before after : Option (List ℕ)) (bytes : List ℕ) (fault : FrameFault)
    → reader ≡ fresh → before ≡ Some bytes → (fault ≡ frames.ReadFault → ⊥)
    → ((fault ≡ frames.ReadFault → ⊥) → (fault ≡ frames.NoMemory → ⊥) → (ended : Bool) × ReadsFrame reader (flow before None) (flow after None) ended (Refused fault))
    → Reads bytes (Err (fault_of fault))
read_fault reader before after bytes frames.NoMemory e b other found = wanting refl
read_fault reader before after bytes fault e b other found =
    let r = found other (λ m. cc) in
    let at_fresh = subst (λ (s : ReaderState). ReadsFrame s (flow before None) (flow after None) r.0 (Refused fault)) e r.1 in
    let at_bytes = subst (λ (o : Option (List ℕ)). ReadsFrame fresh (flow o None) (flow after None) r.0 (Refused fault)) b at_fresh in
    reads bytes (Refused fault) (reading bytes after r.0 (Refused fault) at_bytes (λ _. tt))
