use Rattle.std.proofs.Common.{◌≡◌, ◌++◌, ◌∷◌, ℕ, List, [], Some, subst, OnOk}
use Rattle.ocm_disk.specs.Memory.{DiskState}
use Rattle.ocm_disk.specs.declared.shelf.ShelfPlace.{ShelfPlace}
use Rattle.ocm_world.proofs.servers.shelve.Goals as goal

pub returns-clause-ok : goal.returns-clause-ok
returns-clause-ok c = subst (λ (parts : List ℕ × DiskState). OnOk c.put_at-put.result (c.put_at-put.new.shelf ≡ c.args.shelf.now ++ (let p : ShelfPlace = record { host = parts.0; disk = Some parts.1 } in p) ∷ []))
    c.into_parts-host.ensures c.put_at-put.ensures.ok
