use Rattle.std.proofs.Common.{◌≡◌, ◌++◌, List, true, sym, subst, Some}
use Rattle.ocm_entry.specs.declared.entries.Entry.{Entry}
use Rattle.ocm_law_sessions.specs.Sessions.{would_change}
use Rattle.ocm_serve_store.specs.Following.{mark_in, store_in}
use Rattle.ocm_serve_store.specs.declared.followed.StoreOrFront.{StoreOrFront}
use Rattle.ocm_serve_store.proofs.Answering.{same-mark}
use Rattle.ocm_store.specs.Acts.{Acts, StandsLegally}
use Rattle.ocm_store.specs.Stores.{host_of}
use Rattle.ocm_store.specs.declared.stores.Store.{Store}
use Rattle.ocm_store.specs.Parting.{mark_of, mark_of_front}
use Rattle.ocm_store.specs.declared.apart.Mark.{Mark}
use Rattle.ocm_serve_store.proofs.following.ended.Goals as goal

pub returns-clause-acts : goal.returns-clause-acts
returns-clause-acts g c = λ ask is.
    let here = subst (λ (held : StoreOrFront g.row.D.Denot g.D.Disk). mark_in held ≡ Some (mark_of c.args.work)) c.in-Front.is c.requires in
    let same : mark_of_front c.in-Front.front ≡ mark_of c.args.work = same-mark _ _ here in
    subst (λ (held : StoreOrFront g.row.D.Denot g.D.Disk). Acts g.D.Disk (store_in held) c.end-store.result.0 ask c.end-store.result.1) (sym c.in-Front.is)
    (subst (λ (mark : Mark g.row.D.Denot g.D.Disk). Acts g.D.Disk mark.before.value c.end-store.result.0 ask c.end-store.result.1) (sym same) (c.end-store.ensures.acts ask is))

pub returns-clause-changes : goal.returns-clause-changes
returns-clause-changes g c = λ ask is.
    let Changes : Store g.row.D.Denot g.D.Disk → Type 0 = λ before. (k h : List Entry) → StandsLegally g.D.Disk before k h → would_change (host_of before) (h ++ k) ask ≡ true in
    let here = subst (λ (held : StoreOrFront g.row.D.Denot g.D.Disk). mark_in held ≡ Some (mark_of c.args.work)) c.in-Front.is c.requires in
    let same : mark_of_front c.in-Front.front ≡ mark_of c.args.work = same-mark _ _ here in
    subst (λ (held : StoreOrFront g.row.D.Denot g.D.Disk). Changes (store_in held)) (sym c.in-Front.is)
    (subst (λ (mark : Mark g.row.D.Denot g.D.Disk). Changes mark.before.value) (sym same) (c.end-store.ensures.changes ask is))
