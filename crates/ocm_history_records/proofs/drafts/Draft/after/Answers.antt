use Rattle.std.proofs.Common.{ap, ◌∙◌, sym}
use Rattle.std.specs.Prelude.{unwrap_or}
use Rattle.ocm_rules.specs.History.{kept}
use Rattle.ocm_rules.specs.Shares.{clock_of}
use Rattle.ocm_history_records.proofs.Drafting.{draft-of, moment-with}
use Rattle.ocm_history_records.proofs.drafts.Draft.after.Goals as goal

pub returns-clause-drafted : goal.returns-clause-drafted
returns-clause-drafted c = λ host g is.
    let ask = c.args.ask.now in
    draft-of host c.args.form g ask c.moment_at.result c.in_ok-draft.draft
    (c.moment_at.ensures ∙ ap (unwrap_or (clock_of ask)) is ∙ sym (moment-with (clock_of ask) (kept host g)))
    c.in_ok-draft.ensures.written c.in_ok-draft.ensures.newest c.in_ok-draft.ensures.size
