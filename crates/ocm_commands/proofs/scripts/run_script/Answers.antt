use Rattle.std.proofs.lemmas.Result.{on_err_weaker}
use Rattle.std.proofs.Common.{refl}
use Rattle.ocm_commands.proofs.Parts.{front-part}
use Rattle.ocm_commands.proofs.Shelved.{left-plain}
use Rattle.ocm_commands_files.specs.Lines.{bad_line}
use Rattle.ocm_commands_files.specs.declared.ends.End.TheVariants as whole
use Rattle.ocm_commands_files.specs.declared.words.Command.TheVariants as commands
use Rattle.ocm_commands.proofs.scripts.run_script.Goals as goal

pub returns-in-Err-Line-clause-part : goal.returns-in-Err-Line-clause-part
returns-in-Err-Line-clause-part g c =
    let bad = rw c.in-Err-Line.field-0-is at c.in-Err-Line.ensures.exact in
    on_err_weaker c.name_line.result (λ part. front-part commands.Replay c.args.bytes.now (g.K.Sink.taken c.args.sink.now) (g.K.Sink.taken c.name_line.new.sink) whole.Script (bad_line c.in-Err-Line.number) c.requires.length (c.in-Err-Line.number, bad, refl) part) c.name_line.ensures.part

pub returns-in-Err-Line-clause-shelf_part : goal.returns-in-Err-Line-clause-shelf_part
returns-in-Err-Line-clause-shelf_part g c = left-plain commands.Replay c.args.bytes.now c.args.shelf.now c.name_line.result c.requires.empty
