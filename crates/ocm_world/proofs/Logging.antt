-- What a trace writes in part.
use Rattle.std.proofs.Common.{◌≡◌, ℕ, List, [], take, drop, Option, Some}
use Rattle.std.proofs.lemmas.List.{take-append-drop}
use Rattle.ocm_texts.specs.Hex.{AreBytes}
use Rattle.ocm_base.specs.Outside.{AppendsPart}
use Rattle.ocm_disk.specs.Shelf.{bytes_of, disk_of}
use Rattle.ocm_disk.specs.declared.shelf.ShelfPlace.{ShelfPlace}
use Rattle.ocm_script.specs.declared.events.Event.{Event}
use Rattle.ocm_script_run.specs.Servers.{World}
use Rattle.ocm_script_run.specs.Traces.{log_input}
use Rattle.ocm_world.specs.Shelves.{AreShelved}
use Rattle.ocm_world.specs.Traces.{Traced, TracesPart}

-- where an image and a log were written in part
pub TracesPart-cut : (es : List Event) (host text log image : List ℕ) (final : World) (places : List ShelfPlace) (old new : Option (List ℕ)) → Traced [] 1 host es text log final → AreShelved final places → AreBytes image
    → bytes_of (disk_of host places) ≡ Some image → AppendsPart old new (log_input image log) → TracesPart es host old new final places
TracesPart-cut es host text log image final places old new traced are bytes held part = (
  take part.0 (log_input image log),
  drop part.0 (log_input image log),
  text,
  image,
  log,
  traced,
  are,
  bytes,
  held,
  take-append-drop part.0 (log_input image log),
  part.2,
)
