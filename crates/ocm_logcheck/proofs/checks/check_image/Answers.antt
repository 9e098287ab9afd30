use Rattle.std.proofs.Common.{◌≡◌, sym, ap, ◌∙◌}
use Rattle.ocm_access_log.specs.Lines.{log_of}
use Rattle.ocm_journal_records.specs.Stamps.{refused_from}
use Rattle.ocm_law_sessions.specs.Readings.{refused_at}
use Rattle.ocm_logcheck.specs.Checks.{opened_in, told_of, unless_refused}
use Rattle.ocm_journal_audit.proofs.OwnHosts.{host-is}
use Rattle.ocm_logcheck.proofs.Taking.{if-ok-at}
use Rattle.ocm_logcheck.proofs.Telling.{told-form, told-image}
use Rattle.ocm_logcheck.proofs.checks.check_image.Goals as goal

pub check_records-requires : goal.check_records-requires
check_records-requires c =
    c.in_ok-host-2.ensures.ok.0 ∙ (host-is c.args.image.now.header.label c.as_slice.result.now c.in_ok-host.host c.in-Some.host c.as_slice.ensures c.in_ok-host.ensures c.in-Some.is).1

pub returns-in-Some-refused : goal.returns-in-Some-refused
returns-in-Some-refused c = λ some.
    (let image = c.args.image.now in
    let form = image.live.form in
    let own = (host-is image.header.label c.as_slice.result.now c.in_ok-host.host c.in-Some.host c.as_slice.ensures c.in_ok-host.ensures c.in-Some.is).0 in
    let refused = if-ok-at c.first_refused-refused.result (λ place. place ≡ refused_from form 0 c.as_slice-2.result.now) c.in_ok-host-2.refused c.first_refused-refused.ensures c.in_ok-host-2.ensures.ok.1 in
    told-form image (log_of c.args.log.now) c.in-Some-refused.place own (ap (refused_from form 0) (sym c.as_slice-2.ensures) ∙ sym refused ∙ c.in-Some-refused.is))

pub returns-in-None : goal.returns-in-None
returns-in-None c = λ some.
    (let image = c.args.image.now in
    let form = image.live.form in
    let log = log_of c.args.log.now in
    let both = host-is image.header.label c.as_slice.result.now c.in_ok-host.host c.in-Some.host c.as_slice.ensures c.in_ok-host.ensures c.in-Some.is in
    let refused = if-ok-at c.first_refused-refused.result (λ place. place ≡ refused_from form 0 c.as_slice-2.result.now) c.in_ok-host-2.refused c.first_refused-refused.ensures c.in_ok-host-2.ensures.ok.1 in
    c.check_records.ensures some
    ∙ ap (λ h. told_of (unless_refused (refused_at h form image.live.records) (opened_in image)) log) (c.in_ok-host-2.ensures.ok.0 ∙ both.1)
    ∙ told-image image log both.0 (ap (refused_from form 0) (sym c.as_slice-2.ensures) ∙ sym refused ∙ c.in-None.is))
