use Rattle.std.proofs.Common.{get_or, Some, ◌∙◌, ap}
use Rattle.ocm_journal_image.specs.declared.blanks.Blank.{Blank}
use Rattle.ocm_journal.proofs.Made.{blank_has}
use Rattle.ocm_journal.proofs.making.make.Goals as goal

pub returns-in-Written-clause-any_moment : goal.returns-in-Written-clause-any_moment
returns-in-Written-clause-any_moment g c = λ tells only label area label_size area_size is blank.
    let h = blank_has label area (g.D.Disk.seen c.args.disk.now) _ label_size (blank ∙ ap (λ (b : Blank). Some b) c.in-Written.is) in
    c.finish.ensures.any_moment tells only label area c.in-Written.field-0 (get_or (g.D.Disk.seen c.args.disk.now) 0 0) label_size area_size h.0 h.1
