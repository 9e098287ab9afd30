use Rattle.std.proofs.Common.{◌==◌, ap, sym}
use Rattle.ocm_journal_image.specs.Layout.{contents}
use Rattle.ocm_journal.specs.Openings.{new_area}
use Rattle.ocm_journal.specs.Passing.{FailsWithDisk}
use Rattle.ocm_journal.proofs.Begun.{begins}
use Rattle.ocm_journal.proofs.LiveAreas.{with_start}
use Rattle.ocm_journal.proofs.journal.Journal.load.Goals as goal

pub returns-in-Ok-clause-stands : goal.returns-in-Ok-clause-stands
returns-in-Ok-clause-stands g c = λ tells. let o = c.in-Ok.ensures.opens tells in record { image = o.0; selector = o.1; start = o.2; gate = o.3; durable = c.in-Ok.ensures.durable tells }

pub returns-in-Ok-clause-live : goal.returns-in-Ok-clause-live
returns-in-Ok-clause-live g c = λ tells. let o = c.in-Ok.ensures.opens tells in sym (with_start c.args.label.now c.in-Ok.opened.area c.in-Ok.opened.form (contents c.in-Ok.opened.records) (g.D.Disk.seen c.open.new.disk) c.in-Ok.opened.start o.0 o.2).1

pub returns-in-Ok-clause-first : goal.returns-in-Ok-clause-first
returns-in-Ok-clause-first g c = λ tells blank faithful. ap (λ k. k == 512) (c.in-Ok.ensures.first tells faithful blank)

pub returns-in-Ok-clause-count : goal.returns-in-Ok-clause-count
unfolding FailsWithDisk
returns-in-Ok-clause-count g c = c.in-Ok.ensures.unfailing.0

pub returns-in-Ok-clause-passes : goal.returns-in-Ok-clause-passes
unfolding FailsWithDisk
returns-in-Ok-clause-passes g c = λ all. (c.in-Ok.ensures.unfailing.1 all).0

pub returns-in-Err-clause-unfailing : goal.returns-in-Err-clause-unfailing
unfolding FailsWithDisk
returns-in-Err-clause-unfailing g c = λ all. (c.in-Err.ensures.unfailing.1 all).1

pub returns-in-Ok-clause-begins : goal.returns-in-Ok-clause-begins
returns-in-Ok-clause-begins g c = λ tells faithful live is.
    let o = c.in-Ok.ensures.opens tells in
    let seen = g.D.Disk.seen c.open.new.disk in
    begins g.D.Disk c.args.label.now (new_area c.args.limit) (g.D.Disk.seen c.args.disk) c.in-Ok.opened.records _ live (c.in-Ok.ensures.reads tells faithful)
    (record { image = o.0; selector = o.1; start = o.2; gate = o.3; durable = c.in-Ok.ensures.durable tells }) (c.in-Ok.ensures.same tells faithful) (c.in-Ok.ensures.made tells faithful)
    (λ blank. ap (λ k. k == 512) (c.in-Ok.ensures.first tells faithful blank))
    (sym (with_start c.args.label.now c.in-Ok.opened.area c.in-Ok.opened.form (contents c.in-Ok.opened.records) seen c.in-Ok.opened.start o.0 o.2).1) is

pub returns-in-Ok-clause-synced_ok : goal.returns-in-Ok-clause-synced_ok
returns-in-Ok-clause-synced_ok g c = λ tells one faithful x left. c.in-Ok.ensures.synced tells faithful one x left
