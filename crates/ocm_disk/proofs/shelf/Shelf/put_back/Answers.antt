use Rattle.std.proofs.Common.{◌≡◌, List, get_or, set, sym, ap, ◌∙◌, is_none}
use Rattle.ocm_disk.specs.declared.shelf.ShelfPlace.{ShelfPlace}
use Rattle.ocm_disk.proofs.Places.{stands_at, stands_nowhere, filled}
use Rattle.ocm_disk.proofs.shelf.Shelf.put_back.Goals as goal

pub returns-in-Some-clause-vacant : goal.returns-in-Some-clause-vacant
returns-in-Some-clause-vacant c =
    let here = stands_at c.args.host.now c.args.self.now c.in-Some.at c.index_mut.result.now (sym c.in-Some.ensures) in
    let place : c.index_mut.result.now ≡ get_or c.args.self.now c.in-Some.at c.index_mut.result.now =
    c.index_mut.ensures.value ∙ ap (λ (l : List ShelfPlace). get_or l c.in-Some.at c.index_mut.result.now) c.self.view_is in
    c.fill.ensures.vacant ∙ ap (λ (p : ShelfPlace). is_none p.disk) place ∙ sym here.vacant

pub returns-in-Some-clause-after : goal.returns-in-Some-clause-after
returns-in-Some-clause-after c =
    let here = stands_at c.args.host.now c.args.self.now c.in-Some.at c.index_mut.result.now (sym c.in-Some.ensures) in
    let place : c.index_mut.result.now ≡ get_or c.args.self.now c.in-Some.at c.index_mut.result.now =
    c.index_mut.ensures.value ∙ ap (λ (l : List ShelfPlace). get_or l c.in-Some.at c.index_mut.result.now) c.self.view_is in
    ap (λ (l : List ShelfPlace). set l c.in-Some.at c.fill.new.self) c.self.view_is
    ∙ filled c.args.host.now c.args.self.now c.in-Some.at c.index_mut.result.now c.fill.new.self c.args.disk c.fill.result here place c.fill.ensures.after

pub returns-in-None-clause-vacant : goal.returns-in-None-clause-vacant
returns-in-None-clause-vacant c = sym (stands_nowhere c.args.host.now c.args.self.now (sym c.in-None.ensures)).vacant
