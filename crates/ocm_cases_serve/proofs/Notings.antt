-- A connection that notes moments reads and writes as the one within.
use Rattle.std.proofs.Common.{◌≡◌, ℕ, List, [], ◌∷◌, ◌++◌, Option, Some, None, Result, Ok, Err, refl, sym, ap, subst, ◌∙◌, append-nil}
use Rattle.ocm_texts.specs.declared.failures.Failed.{Failed}
use Rattle.ocm_http.specs.Readers.{ReaderState}
use Rattle.ocm_http.specs.declared.messages.Message.{Message}
use Rattle.ocm_http.specs.declared.messages.FrameFault.{FrameFault}
use Rattle.ocm_http.specs.declared.messages.FrameFault.TheVariants as faults
use Rattle.ocm_server_connections.specs.Sides.{Noted, Sides, Wrote, GivesFault, GivesOf, Gives, Sends, as_fixed, as_page, noted_page}
use Rattle.ocm_cases_serve.specs.Notings.{WroteOf, noting}

module _ (old new : Sides) where
  fault_noting : (notes : List Noted) (reader : ReaderState) (got : List ℕ) (fault : FrameFault) → GivesFault reader old new got fault → GivesFault reader (noting old notes) (noting new notes) got fault
  unfolding GivesFault
  fault_noting notes reader got (faults.BadHead n) h = h
  fault_noting notes reader got (faults.HeadTooLong n) h = h
  fault_noting notes reader got (faults.BadLength n) h = h
  fault_noting notes reader got (faults.BothLengths n) h = h
  fault_noting notes reader got (faults.BadChunk n) h = h
  fault_noting notes reader got (faults.BodyTooLong n) h = h
  fault_noting notes reader got faults.Cut h = h
  fault_noting notes reader got faults.ReadFault h = h
  fault_noting notes reader got faults.NoMemory h = h

  given_noting : (notes : List Noted) (reader after : ReaderState) (got : List ℕ) (r : Result (Option Message) FrameFault) → GivesOf reader after old new got r → GivesOf reader after (noting old notes) (noting new notes) got r
  unfolding GivesOf
  given_noting notes reader after got (Ok (Some message)) h = h
  given_noting notes reader after got (Ok None) h = h
  given_noting notes reader after got (Err fault) h = fault_noting notes reader got fault h

  pub gives_noting : (notes : List Noted) (reader after : ReaderState) (r : Result (Option Message) FrameFault) → Gives reader after old new r → Gives reader after (noting old notes) (noting new notes) r
  gives_noting notes reader after r h = (
    h.0,
    record { flow = h.1.flow; taken = h.1.taken; noted = refl; read_faults = h.1.read_faults; write_faults = h.1.write_faults },
    given_noting notes reader after h.0 r h.2,
  )

  -- what was written of a piece
  pub wrote_of : (piece : List ℕ) (as_noted : List ℕ → List Noted) (r : Result (Unit {0}) Failed) → Sends old new piece as_noted r → (written : List ℕ) × WroteOf old new piece as_noted r written
  unfolding Sends WroteOf
  wrote_of piece as_noted (Ok done) h = (piece, (h, refl))
  wrote_of piece as_noted (Err failed) h = (h.0, (h.1, h.2, h.3))

  -- the same writing, with other notes
  wrote_noting : (written : List ℕ) (notes more by_conn : List Noted) (after : List Noted) → after ≡ notes ++ more → Wrote old new written by_conn → Wrote (noting old notes) (noting new after) written more
  wrote_noting written notes more by_conn after is h = record { flow = h.flow; taken = h.taken; noted = ap Some is; read_faults = h.read_faults; write_faults = h.write_faults }

  -- a page that was noted
  pub sends_page : (piece moments : List ℕ) (r : Result (Unit {0}) Failed) (notes after : List Noted) (page : Noted)
      → ((written : List ℕ) × WroteOf old new piece (as_page moments) r written × (page ≡ noted_page written moments)) → after ≡ notes ++ page ∷ []
      → Sends (noting old notes) (noting new after) piece (as_page moments) r
  unfolding Sends WroteOf
  sends_page piece moments (Ok done) notes after page h is =
      subst (λ (bytes : List ℕ). Wrote (noting old notes) (noting new after) bytes (as_page moments bytes)) h.1.1
      (wrote_noting h.0 notes (as_page moments h.0) (as_page moments h.0) after (is ∙ ap (λ (p : Noted). notes ++ p ∷ []) h.2) h.1.0)
  sends_page piece moments (Err failed) notes after page h is =
      (h.0, wrote_noting h.0 notes (as_page moments h.0) (as_page moments h.0) after (is ∙ ap (λ (p : Noted). notes ++ p ∷ []) h.2) h.1.0, h.1.1, h.1.2)

  -- a fixed reply is not noted
  pub sends_fixed : (piece : List ℕ) (r : Result (Unit {0}) Failed) (notes : List Noted) → Sends old new piece as_fixed r → Sends (noting old notes) (noting new notes) piece as_fixed r
  unfolding Sends
  sends_fixed piece (Ok done) notes h = wrote_noting piece notes [] [] notes (sym (append-nil notes)) h
  sends_fixed piece (Err failed) notes h = (h.0, wrote_noting h.0 notes [] [] notes (sym (append-nil notes)) h.1, h.2, h.3)
