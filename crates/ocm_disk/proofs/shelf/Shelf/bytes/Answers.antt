use Rattle.std.proofs.Common.{◌≡◌, List, get_or, sym, ap, ◌∙◌}
use Rattle.ocm_disk.specs.Shelf.{bytes_of}
use Rattle.ocm_disk.specs.declared.shelf.ShelfPlace.{ShelfPlace}
use Rattle.ocm_disk.proofs.Places.{stands_at, stands_nowhere}
use Rattle.ocm_disk.proofs.shelf.Shelf.bytes.Goals as goal

pub returns-in-Some : goal.returns-in-Some
returns-in-Some c =
    let here = stands_at c.args.host.now c.args.self.now c.in-Some.at c.index.result.now (sym c.in-Some.ensures) in
    let place : c.index.result.now ≡ get_or c.args.self.now c.in-Some.at c.index.result.now =
    c.index.ensures ∙ ap (λ (l : List ShelfPlace). get_or l c.in-Some.at c.index.result.now) c.self.view_is in
    c.bytes.ensures ∙ ap bytes_of (ap (λ (p : ShelfPlace). p.disk) place ∙ sym here.disk)

pub returns-in-None : goal.returns-in-None
returns-in-None c = sym (ap bytes_of (stands_nowhere c.args.host.now c.args.self.now (sym c.in-None.ensures)).disk)
