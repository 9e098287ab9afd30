use Rattle.std.proofs.Common.{sym}
use Rattle.ocm_records.proofs.Words.{no_command}
use Rattle.ocm_records.proofs.choices.command_of.Goals as goal

pub returns-in_default : goal.returns-in_default
returns-in_default c =
    sym
    (no_command c.args.word.now
    c.in_default.not-user
    c.in_default.not-share
    c.in_default.not-unshare
    c.in_default.not-limit
    c.in_default.not-expire
    c.in_default.not-accept
    c.in_default.not-decline
    c.in_default.not-reshare
    c.in_default.not-undo
    c.in_default.not-list)
