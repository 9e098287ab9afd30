use Rattle.std.proofs.Common.{sym}
use Rattle.ocm_dav.proofs.Methods.{no_verb}
use Rattle.ocm_dav.proofs.verbs.verb_of.Goals as goal

pub returns-in_default : goal.returns-in_default
returns-in_default c =
    sym
    (no_verb c.args.method.now
    c.in_default.not-GET
    c.in_default.not-HEAD
    c.in_default.not-PUT
    c.in_default.not-DELETE
    c.in_default.not-MKCOL
    c.in_default.not-PROPFIND
    c.in_default.not-COPY
    c.in_default.not-MOVE)
