use Rattle.std.proofs.Common.{[], refl, ap, ◌∙◌, Ok}
use Rattle.ocm_access_log.specs.Lines.{log_of}
use Rattle.ocm_logcheck.specs.Checks.{told_of}
use Rattle.ocm_logcheck.proofs.Telling.{gives-same, opening-image, told-bad, told-counted}
use Rattle.ocm_logcheck.proofs.checks.check_records.Goals as goal

pub returns-in_ok-found-in-Ok : goal.returns-in_ok-found-in-Ok
returns-in_ok-found-in-Ok c = λ some.
    (let image = c.args.image.now in
    let log = log_of c.args.log.now in
    let found = c.in_ok-found-in-Ok.found in
    c.told.ensures
    ∙ told-counted c.args.host image.live.form image.live.records log c.in-Ok.lines found c.len.result c.in-Ok.ensures.exact c.len.ensures
    (gives-same c.args.host image.live.form c.as_slice-records.result.now image.live.records c.as_slice.result.now c.in-Ok.lines (Ok found) c.as_slice-records.ensures c.as_slice.ensures c.in_ok-found-in-Ok.ensures)
    ∙ ap (λ o. told_of o log) (opening-image image c.args.host c.requires))

pub returns-in_ok-count_true-in-Err-BadLine : goal.returns-in_ok-count_true-in-Err-BadLine
returns-in_ok-count_true-in-Err-BadLine c = λ some.
    (let image = c.args.image.now in
    let log = log_of c.args.log.now in
    let found = c.in_ok-count_true-in-Err-BadLine.field-0 in
    told-bad c.args.host image.live.form image.live.records log c.in-Err-BadLine.number found (rw c.in-Err-BadLine.field-0-is at c.in-Err-BadLine.ensures.exact)
    (gives-same c.args.host image.live.form c.as_slice-records.result.now image.live.records [] [] (Ok found) c.as_slice-records.ensures refl c.in_ok-count_true-in-Err-BadLine.ensures)
    ∙ ap (λ o. told_of o log) (opening-image image c.args.host c.requires))
