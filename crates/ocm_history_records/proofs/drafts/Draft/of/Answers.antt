use Rattle.std.proofs.Common.{◌≡◌, ℕ, List, ap, ◌∙◌, subst, sym}
use Rattle.std.specs.Prelude.{if◌then◌else◌, ◌==◌}
use Rattle.std.proofs.lemmas.Result.{IfOk-at_ok}
use Rattle.ocm_entry_bytes.specs.Spells.{spelling}
use Rattle.ocm_law_sessions.specs.Written.{stamp}
use Rattle.ocm_history_records.proofs.Fields.{IsLength, draft-length}
use Rattle.ocm_history_records.proofs.drafts.Draft.of.Goals as goal

pub returns-clause-length : goal.returns-clause-length
returns-clause-length c =
    let ask = c.args.ask.now in
    let form = c.args.form in
    let made : c.in_ok-newest.written ≡ (if form == 1 then spelling ask else c.in_ok-text-2.text) =
    IfOk-at_ok (λ (written : List ℕ). written ≡ (if form == 1 then spelling ask else c.in_ok-text-2.text)) c.in_ok-newest.ensures.ok.1 c.in_form.ensures in
    let text : c.in_ok-text-2.text ≡ stamp c.args.clock ask = c.in_ok-text-2.ensures.ok.0 ∙ c.in_ok-text.ensures.text in
    subst IsLength (sym (made ∙ ap (λ t. if form == 1 then spelling ask else t) text)) (draft-length form c.args.clock ask c.in_ok-text.ensures.fits)
