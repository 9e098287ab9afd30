use Rattle.std.proofs.lemmas.Result.{err_from_is_err_and}
use Rattle.ocm_commands_files.specs.Checks as specified
use Rattle.ocm_commands_files.specs.declared.words.Command.TheVariants as commands
use Rattle.ocm_commands_files.proofs.Parts.{front-part, told-given}
use Rattle.ocm_commands_files.proofs.checks.check.Goals as goal

pub returns-in_err-write_all-clause-part : goal.returns-in_err-write_all-clause-part
returns-in_err-write_all-clause-part g c =
    let p = err_from_is_err_and c.from_residual-in_err-write_all.result c.from_residual-in_err-write_all.ensures.1 in
    let checks = told-given c.checked.result (specified.checked c.args.kind c.args.bytes.now) c.in_ok-end.end c.in_ok-end.text c.checked.ensures c.in_ok-end.ensures.known c.in_ok-end.ensures.tells in
    rw p.1 (front-part (commands.Check c.args.kind) c.args.bytes.now (g.K.Sink.taken c.args.sink.now) (g.K.Sink.taken c.write_all.new.sink) c.in_ok-end.end c.in_ok-end.text c.requires checks (rw c.as_slice.ensures at c.in_err-write_all.ensures.err))

pub returns-clause-whole : goal.returns-clause-whole
returns-clause-whole g c =
    let checks = told-given c.checked.result (specified.checked c.args.kind c.args.bytes.now) c.in_ok-end.end c.in_ok-end.text c.checked.ensures c.in_ok-end.ensures.known c.in_ok-end.ensures.tells in
    (c.requires, c.in_ok-end.text, rw c.as_slice.ensures at c.in_ok-write_all.ensures.ok, checks)
