-- A connection that notes moments, as contracts see it.
use Rattle.std.specs.Prelude.{◌≡◌, ℕ, List, Some, Result, Ok, Err}
use Rattle.ocm_base.specs.Outside.{Rose}
use Rattle.ocm_texts.specs.declared.failures.Failed.{Failed}
use Rattle.ocm_server_connections.specs.Sides.{Noted, Sides, Wrote, IsFront}
use Rattle.ocm_cases_serve.specs.declared.notes.PageNote.{PageNote}

-- a page as a contract of connections has it
abbrev pub as_noted : PageNote → Noted
as_noted page = record { bytes = page.bytes; moments = page.moments }

-- what is seen of a connection, with this noted of the pages that it wrote
abbrev pub noting : Sides → List Noted → Sides
noting sides notes = record sides { noted = Some notes }

-- this was written of a piece: all of it, or a front of it where the connection failed
unfoldable pub WroteOf : Sides → Sides → List ℕ → (List ℕ → List Noted) → Result (Unit {0}) Failed → List ℕ → Type 0
WroteOf old new piece as_noted (Ok done) written = Wrote old new written (as_noted written) × (written ≡ piece)
WroteOf old new piece as_noted (Err failed) written = Wrote old new written (as_noted written) × IsFront written piece × Rose old.write_faults new.write_faults
