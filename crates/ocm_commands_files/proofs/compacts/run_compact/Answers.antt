use Rattle.std.proofs.lemmas.Result.{err_from_is_err_and}
use Rattle.ocm_commands_files.specs.Compacts.{CompactsTo}
use Rattle.ocm_commands_files.specs.declared.words.Command.TheVariants as commands
use Rattle.ocm_commands_files.proofs.Parts.{front-part}
use Rattle.ocm_commands_files.proofs.compacts.run_compact.Goals as goal

pub returns-in_err-write_all-clause-part : goal.returns-in_err-write_all-clause-part
returns-in_err-write_all-clause-part g c =
    let p = err_from_is_err_and c.from_residual-in_err-write_all.result c.from_residual-in_err-write_all.ensures.1 in
    let writes : CompactsTo c.args.bytes.now c.in_ok-end.end c.in_ok-end.text = (c.compact.result, c.compact.ensures, c.in_ok-end.ensures) in
    rw p.1 (front-part commands.Compact c.args.bytes.now (g.K.Sink.taken c.args.sink.now) (g.K.Sink.taken c.write_all.new.sink) c.in_ok-end.end c.in_ok-end.text c.requires writes (rw c.as_slice.ensures at c.in_err-write_all.ensures.err))

pub returns-clause-whole : goal.returns-clause-whole
returns-clause-whole g c =
    (c.requires, c.in_ok-end.text, rw c.as_slice.ensures at c.in_ok-write_all.ensures.ok, (c.compact.result, c.compact.ensures, c.in_ok-end.ensures))
