use Rattle.std.proofs.Common.{List, ℕ, sym, subst}
use Rattle.ocm_history.specs.Histories.{home_of}
use Rattle.ocm_history.specs.Replays.{IsReplayFault}
use Rattle.ocm_journal.specs.Journals.{form_of}
use Rattle.ocm_law_sessions.specs.Readings.{refused_at}
use Rattle.ocm_store.specs.Opening.{IsRefused}
use Rattle.ocm_store.proofs.Opened.{refused-of}
use Rattle.ocm_store.proofs.stores.Store.replay.Goals as goal

pub returns-in-Err-clause-refused : goal.returns-in-Err-clause-refused
returns-in-Err-clause-refused g c =
    let says : List ℕ → ℕ → Type 0 = λ host form. IsReplayFault (refused_at host form c.args.records) c.in-Err.fault in
    subst (IsRefused (refused_at c.args.host (form_of c.args.journal) c.args.records)) (sym c.from.ensures)
    (refused-of _ c.in-Err.fault
    (subst (λ host. says host (form_of c.args.journal)) c.new-history.ensures.home
    (subst (says (home_of c.new-history.result)) c.form.ensures c.in-Err.ensures.refused)))
