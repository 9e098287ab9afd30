-- What a connection of a source and a sink reads and writes.
use Rattle.std.proofs.Common.{◌≡◌, ℕ, ◌≤◌, List, ◌++◌, length, take, drop, Bool, true, Option, Some, None, Result, Ok, Err, refl, sym, subst, ◌∙◌}
use Rattle.std.specs.Prelude.{IfOk, IfErr, IfSome, OnOk, OnErr, is_err}
use Rattle.std.proofs.lemmas.List.{take-append-drop}
use Rattle.ocm_base.specs.Outside.{Rose, Appends, AppendsPart, Came}
use Rattle.ocm_texts.specs.declared.failures.Failed.{Failed}
use Rattle.ocm_http.specs.Places.{past}
use Rattle.ocm_http.specs.Frames.{Frame, Given, Refused, Over, IsFrame}
use Rattle.ocm_http.specs.Readers.{ReaderState, Reads, ReadsMessage}
use Rattle.ocm_http.specs.declared.messages.Kind.{Kind}
use Rattle.ocm_http.specs.declared.messages.Message.{Message}
use Rattle.ocm_http.specs.declared.messages.FrameFault.{FrameFault}
use Rattle.ocm_http.specs.declared.messages.FrameFault.TheVariants as faults
use Rattle.ocm_server_connections.specs.Sides.{Noted, Notes, Sides, Read, IsEnd, IsOpen, IsRequests, GivesMessage, GivesFault, GivesOf, Gives, Sends}
use Rattle.ocm_http.proofs.Requests.{message_request, request_whole}

-- ---- writing

pub sends : (old new : Sides) (piece : List ℕ) (as_noted : List ℕ → List Noted) (r : Result (Unit {0}) Failed) → new.flow ≡ old.flow → old.read_faults ≤ new.read_faults → old.write_faults ≤ new.write_faults
    → OnOk r (Appends old.taken new.taken piece) → OnErr r (AppendsPart old.taken new.taken piece) → OnErr r (Rose old.write_faults new.write_faults) → ((written : List ℕ) → Notes old.noted new.noted (as_noted written))
    → Sends old new piece as_noted r
unfolding Sends
sends old new piece as_noted (Ok done) left reads writes ok err rose notes = record { flow = left; taken = ok; noted = notes piece; read_faults = reads; write_faults = writes }
sends old new piece as_noted (Err failed) left reads writes ok err rose notes =
    (take err.0 piece, record { flow = left; taken = err.2; noted = notes (take err.0 piece); read_faults = reads; write_faults = writes }, (drop err.0 piece, sym (take-append-drop err.0 piece)), rose)

-- ---- reading

-- what is read of the bytes from an open reader's place on
requests_of : (reader : ReaderState) (bytes : List ℕ) (ended : Bool) (frame : Frame) → IsOpen reader → IsFrame reader.kind reader.max reader.place bytes ended frame → IsRequests reader.place bytes ended frame
unfolding IsRequests
requests_of reader bytes ended frame open_still is = subst (λ (z : Kind × ℕ). IsFrame z.0 z.1 reader.place bytes ended frame) (λ i. (open_still.kind i, open_still.max i)) is

read_of : (old new : Sides) (got : List ℕ) → Came old.flow new.flow got → new.taken ≡ old.taken → new.noted ≡ old.noted → old.read_faults ≤ new.read_faults → old.write_faults ≤ new.write_faults → Read old new got
read_of old new got takes same as_noted reads writes = record { flow = takes; taken = same; noted = as_noted; read_faults = reads; write_faults = writes }

gives_request : (reader after : ReaderState) (got : List ℕ) (message : Message) (front : List ℕ) (ended : Bool) → IsOpen reader → IsOpen after → reader.held ++ got ≡ front ++ after.held
    → after.place ≡ past reader.place (length front) → IsRequests reader.place (reader.held ++ got) ended (Given message after.held)
    → GivesMessage reader after got message
unfolding IsRequests
gives_request reader after got message front ended open_still open_after split place frame = record {
  open_still = open_after;
  request = message_request 1048576 reader.place (reader.held ++ got) after.held ended message frame;
  front = front;
  split = split;
  place = place;
  frame = request_whole 1048576 reader.place (reader.held ++ got) after.held ended message frame;
}

-- a fault other than want of memory and of the source
abbrev IsOfBytes : ReaderState → Sides → Sides → FrameFault → Type 0
IsOfBytes reader old new fault = (ended : Bool) × Reads reader old.flow new.flow ended (Refused fault)

module _ (reader after : ReaderState) (old new : Sides) (open_still : IsOpen reader) (same : new.taken ≡ old.taken) (as_noted : new.noted ≡ old.noted) (reads : old.read_faults ≤ new.read_faults) (writes : old.write_faults ≤ new.write_faults) where
  gives_bytes : (fault : FrameFault) → IsOfBytes reader old new fault
      → ((got : List ℕ) → (ended : Bool) → IsEnd new ended → IsRequests reader.place (reader.held ++ got) ended (Refused fault) → GivesFault reader old new got fault)
      → (got : List ℕ) × Read old new got × GivesFault reader old new got fault
  gives_bytes fault of_bytes make =
      let r = of_bytes.1 in
      (r.got, read_of old new r.got r.taken same as_noted reads writes, make r.got of_bytes.0 r.told (requests_of reader (reader.held ++ r.got) of_bytes.0 (Refused fault) open_still r.is_frame))

  gives_fault : (fault : FrameFault) → ((got : List ℕ) × Came old.flow new.flow got)
      → ((fault ≡ faults.ReadFault → ⊥) → (fault ≡ faults.NoMemory → ⊥) → (ended : Bool) × Reads reader old.flow new.flow ended (Refused fault))
      → (fault ≡ faults.ReadFault → Rose old.read_faults new.read_faults)
      → (got : List ℕ) × Read old new got × GivesFault reader old new got fault
  unfolding GivesFault
  gives_fault (faults.BadHead at) taken of_bytes rose = gives_bytes (faults.BadHead at) (of_bytes (λ e. cc) (λ e. cc)) (λ got ended is_end is. (ended, is_end, is))
  gives_fault (faults.HeadTooLong at) taken of_bytes rose = gives_bytes (faults.HeadTooLong at) (of_bytes (λ e. cc) (λ e. cc)) (λ got ended is_end is. (ended, is_end, is))
  gives_fault (faults.BadLength at) taken of_bytes rose = gives_bytes (faults.BadLength at) (of_bytes (λ e. cc) (λ e. cc)) (λ got ended is_end is. (ended, is_end, is))
  gives_fault (faults.BothLengths at) taken of_bytes rose = gives_bytes (faults.BothLengths at) (of_bytes (λ e. cc) (λ e. cc)) (λ got ended is_end is. (ended, is_end, is))
  gives_fault (faults.BadChunk at) taken of_bytes rose = gives_bytes (faults.BadChunk at) (of_bytes (λ e. cc) (λ e. cc)) (λ got ended is_end is. (ended, is_end, is))
  gives_fault (faults.BodyTooLong at) taken of_bytes rose = gives_bytes (faults.BodyTooLong at) (of_bytes (λ e. cc) (λ e. cc)) (λ got ended is_end is. (ended, is_end, is))
  gives_fault faults.Cut taken of_bytes rose = gives_bytes faults.Cut (of_bytes (λ e. cc) (λ e. cc)) (λ got ended is_end is. (ended, is_end, is))
  gives_fault faults.ReadFault taken of_bytes rose = (taken.0, read_of old new taken.0 taken.1 same as_noted reads writes, rose refl)
  gives_fault faults.NoMemory taken of_bytes rose = (taken.0, read_of old new taken.0 taken.1 same as_noted reads writes, tt)

  pub gives : (r : Result (Option Message) FrameFault)
      → IfOk r (λ o. IfSome o (λ m. ReadsMessage reader old.flow new.flow (Given m after.held) after.held after.place))
      → IfOk r (λ o. o ≡ None → Reads reader old.flow new.flow true Over)
      → IfErr r (λ f. (f ≡ faults.ReadFault → ⊥) → (f ≡ faults.NoMemory → ⊥) → (ended : Bool) × Reads reader old.flow new.flow ended (Refused f))
      → (r ≡ Err faults.ReadFault → Rose old.read_faults new.read_faults)
      → ((got : List ℕ) × Came old.flow new.flow got)
      → after.failed ≡ is_err r → after.kind ≡ reader.kind → after.max ≡ reader.max
      → Gives reader after old new r
  unfolding GivesOf
  gives (Ok (Some m)) message over fault rose taken failed kind max =
      let open_after : IsOpen after = record { kind = kind ∙ open_still.kind; max = max ∙ open_still.max; failed = failed } in
      let r = message.reading in (
        r.got,
        read_of old new r.got r.taken same as_noted reads writes,
        gives_request reader after r.got m message.of_message message.ended open_still open_after message.split message.counted
            (requests_of reader (reader.held ++ r.got) message.ended (Given m after.held) open_still r.is_frame),
      )
  gives (Ok None) message over fault rose taken failed kind max =
      let r = over refl in
      (r.got, read_of old new r.got r.taken same as_noted reads writes, (r.told, requests_of reader (reader.held ++ r.got) true Over open_still r.is_frame))
  gives (Err f) message over fault rose taken failed kind max = gives_fault f taken fault (λ e. rose (λ i. Err (e i)))
