use Rattle.std.proofs.Common.{sym}
use Rattle.ocm_records.proofs.Words.{no_event}
use Rattle.ocm_records.proofs.choices.event_of.Goals as goal

pub returns-in_default : goal.returns-in_default
returns-in_default c =
    sym
    (no_event c.args.word.now
    c.in_default.not-SHARE_ACCEPTED
    c.in_default.not-SHARE_DECLINED
    c.in_default.not-SHARE_UNSHARED
    c.in_default.not-REQUEST_RESHARE
    c.in_default.not-RESHARE_UNDO
    c.in_default.not-RESHARE_CHANGE_PERMISSION)
