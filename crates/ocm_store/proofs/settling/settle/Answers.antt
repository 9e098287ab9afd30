use Rattle.std.proofs.Common.{◌∷◌, ◌∙◌, ap, refl, subst, sym}
use Rattle.std.specs.Prelude.{Err, Ok}
use Rattle.ocm_history_records.specs.Kept.{IsBound}
use Rattle.ocm_history.specs.declared.histories.History.{History}
use Rattle.ocm_history.specs.Changes.{IsChange}
use Rattle.ocm_history.specs.Histories.{home_of}
use Rattle.ocm_law_sessions.specs.Sessions.{heard}
use Rattle.ocm_law_sessions.specs.Written.{asks_size}
use Rattle.ocm_rules.specs.Lean.{lean}
use Rattle.ocm_store.specs.Appends.{Writes}
use Rattle.ocm_store.proofs.Settled.{settled-failed, settled-made}
use Rattle.ocm_store.proofs.settling.settle.Goals as goal

pub returns-in-Ok-clause-acts : goal.returns-in-Ok-clause-acts
returns-in-Ok-clause-acts G c = λ before ask goes same none ready a.
    let d = G.D.Disk in
    let change = c.args.change in
    let w = subst (λ h. Writes d h change.planned change.draft before.journal c.after_append.new.journal (Ok tt)) (sym same) (c.in-Ok.ensures.writes before.journal a) in
    settled-made d before _ ask change c.make.result none refl ready w c.make.ensures.reply (c.make.ensures.home ∙ ap home_of (sym same))
    (λ g form is bound. c.make.ensures.goes_on g ask form change.draft (subst (λ h. IsChange h g ask change.planned form change.draft) same is) refl
    (subst (λ h. IsBound change.size (asks_size (lean (home_of h) (heard (home_of h) g ask ∷ g)))) same bound))

pub returns-in-Err-clause-acts : goal.returns-in-Err-clause-acts
returns-in-Err-clause-acts G c = λ before ask goes same none ready a.
    let d = G.D.Disk in
    let change = c.args.change in
    let fault = c.in-Err.fault in
    let w = subst (λ h. Writes d h change.planned change.draft before.journal c.after_append.new.journal (Err fault)) (sym same) (c.in-Err.ensures.writes before.journal a) in
    settled-failed d G.met.D.Disk.counts_now G.met.D.Disk.reads_an_image before _ ask change fault c.told_reply.result c.told_reply.ensures none c.told_count.ensures
    (record {
      lists = ap (λ (h : History). h.core.state) (sym same);
      entries = ap (λ (h : History). h.core.entries) (sym same);
      origins = ap (λ (h : History). h.core.origins) (sym same);
      records = ap (λ (h : History). h.records.items) (sym same);
      asks = ap (λ (h : History). h.records.asks) (sym same);
      size = ap (λ (h : History). h.records.size) (sym same);
    }) ready w
