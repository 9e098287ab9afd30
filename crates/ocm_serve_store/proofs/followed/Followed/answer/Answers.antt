use Rattle.std.proofs.Common.{sym, subst}
use Rattle.ocm_serve_store.specs.Following.{store_in}
use Rattle.ocm_serve_store.specs.declared.followed.StoreOrFront.{StoreOrFront}
use Rattle.ocm_serve_store.proofs.Answering.{answered-beside}
use Rattle.ocm_store.specs.Acts.{Acts}
use Rattle.ocm_store.specs.Parting.{mark_of_front}
use Rattle.ocm_serve_store.proofs.followed.Followed.answer.Goals as goal

pub returns-in-Store-clause-acts : goal.returns-in-Store-clause-acts
returns-in-Store-clause-acts g c = subst (λ (held : StoreOrFront g.row.D.Denot g.D.Disk). Acts g.D.Disk (store_in held) c.acted.new.store c.args.ask c.acted.result) (sym c.in-Store.is) c.acted.ensures

pub returns-in-Front-clause-acts : goal.returns-in-Front-clause-acts
returns-in-Front-clause-acts g c = let before = (mark_of_front c.in-Front.front).before.value in
    subst (λ (held : StoreOrFront g.row.D.Denot g.D.Disk). Acts g.D.Disk (store_in held) before c.args.ask c.unwrap_or.result) (sym c.in-Front.is)
    (subst (λ reply. Acts g.D.Disk before before c.args.ask reply) (sym c.unwrap_or.ensures) (answered-beside g.D.Disk g.met.D.Disk.only_now before c.args.ask c.act-reply.result c.act-reply.ensures.acts))
