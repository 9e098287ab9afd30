use Rattle.std.proofs.Common.{false, ◌∙◌, ap, List, ℕ, ◌≡◌, true}
use Rattle.std.specs.Str.{is_utf8}
use Rattle.std.proofs.lemmas.Bool.{false_from_ne_true}
use Rattle.std.proofs.lemmas.Str.{is_utf8-from_IsUtf8, IsUtf8-from_is_utf8}
use Rattle.ocm_types.specs.Hosts.{canonical_host_of}
use Rattle.ocm_journal_audit.proofs.OwnHosts.{IsHostOf, foreign-host, if-ok-of, own-host}
use Rattle.ocm_journal_audit.proofs.labels.own_host.Goals as goal

pub returns-in-Ok : goal.returns-in-Ok
returns-in-Ok c =
    let utf8 : is_utf8 c.args.label.now ≡ true = is_utf8-from_IsUtf8 c.args.label.now c.in-Ok.ensures.cases.1 in
    let same : c.in-Ok.text.now ≡ c.args.label.now = c.in-Ok.ensures.cases.0 in
    if-ok-of c.read_canonical.result (λ h. h ≡ canonical_host_of c.in-Ok.text.now) (IsHostOf c.args.label.now)
    (λ h is. is ∙ ap (λ (l : List ℕ). canonical_host_of l) same ∙ own-host c.args.label.now utf8) c.read_canonical.ensures

pub returns-in-Err : goal.returns-in-Err
returns-in-Err c =
    let utf8 : is_utf8 c.args.label.now ≡ false = false_from_ne_true (is_utf8 c.args.label.now) (λ e. c.in-Err.ensures.cases.0 (IsUtf8-from_is_utf8 c.args.label.now e)) in
    foreign-host c.args.label.now utf8
