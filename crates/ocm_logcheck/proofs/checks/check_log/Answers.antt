use Rattle.std.proofs.Common.{rules}
use Rattle.ocm_journal_image.specs.Blank.{IsBlankForAny}
use Rattle.ocm_logcheck.proofs.Telling.{checks-blank, checks-fault}
use Rattle.ocm_logcheck.proofs.checks.check_log.Goals as goal

pub returns-then-branch : goal.returns-then-branch
returns-then-branch c = λ some.
    (let blank : IsBlankForAny c.args.image.now = search rules in
    checks-blank c.args.image.now c.args.log.now c.check_blank.result blank (c.check_blank.ensures some))

pub returns-in-Err : goal.returns-in-Err
returns-in-Err c = λ some.
    (let other : IsBlankForAny c.args.image.now → ⊥ = search rules in
    checks-fault c.args.image.now c.args.log.now c.in-Err.fault c.fault_of.result other c.in-Err.ensures c.fault_of.ensures some)
