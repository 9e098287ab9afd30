use Rattle.ocm_journal.specs.Openings.{new_area}
use Rattle.ocm_serve_store.specs.Runs.{IsOpenedTo}
use Rattle.ocm_store.specs.Stores.{disk_of}
use Rattle.ocm_serve_store.proofs.serving.serve.Given as goal

-- the base is what the disk opened to
abbrev pub ghosts-serve_store : goal.ghosts-serve_store
ghosts-serve_store g a = record { known = IsOpenedTo g.D.Disk a.config.now.host (new_area 1073741824) a.before.now.value (disk_of a.store) }
