use Rattle.std.proofs.Common.{◌≡◌, List, Option, None, get_or, set, sym, ap, ◌∙◌}
use Rattle.ocm_disk.specs.Memory.{DiskState}
use Rattle.ocm_disk.specs.declared.shelf.ShelfPlace.{ShelfPlace}
use Rattle.ocm_disk.proofs.Places.{stands_at, stands_nowhere}
use Rattle.ocm_disk.proofs.shelf.Shelf.take.Goals as goal

pub returns-in-Some-clause-disk : goal.returns-in-Some-clause-disk
returns-in-Some-clause-disk c =
    let here = stands_at c.args.host.now c.args.self.now c.in-Some.at c.index_mut.result.now (sym c.in-Some.ensures) in
    let place : c.index_mut.result.now ≡ get_or c.args.self.now c.in-Some.at c.index_mut.result.now =
    c.index_mut.ensures.value ∙ ap (λ (l : List ShelfPlace). get_or l c.in-Some.at c.index_mut.result.now) c.self.view_is in
    c.take.ensures.value ∙ ap (λ (p : ShelfPlace). p.disk) place ∙ sym here.disk

pub returns-in-Some-clause-after : goal.returns-in-Some-clause-after
returns-in-Some-clause-after c =
    let here = stands_at c.args.host.now c.args.self.now c.in-Some.at c.index_mut.result.now (sym c.in-Some.ensures) in
    let place : c.index_mut.result.now ≡ get_or c.args.self.now c.in-Some.at c.index_mut.result.now =
    c.index_mut.ensures.value ∙ ap (λ (l : List ShelfPlace). get_or l c.in-Some.at c.index_mut.result.now) c.self.view_is in
    let with = λ (l : List ShelfPlace) (p : ShelfPlace) (disk : Option DiskState). set l c.in-Some.at (record { host = p.host; disk = disk }) in
    ap (λ (l : List ShelfPlace). with l c.index_mut.result.now c.take.new.self) c.self.view_is
    ∙ ap (λ (disk : Option DiskState). with c.args.self.now c.index_mut.result.now disk) c.take.ensures.after
    ∙ ap (λ (p : ShelfPlace). with c.args.self.now p None) place
    ∙ sym (here.after None)

pub returns-in-None-clause-disk : goal.returns-in-None-clause-disk
returns-in-None-clause-disk c = sym (stands_nowhere c.args.host.now c.args.self.now (sym c.in-None.ensures)).disk

pub returns-in-None-clause-after : goal.returns-in-None-clause-after
returns-in-None-clause-after c = sym ((stands_nowhere c.args.host.now c.args.self.now (sym c.in-None.ensures)).after None)
