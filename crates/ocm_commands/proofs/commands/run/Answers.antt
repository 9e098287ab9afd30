use Rattle.std.proofs.lemmas.Result.{on_err_weaker}
use Rattle.ocm_commands.specs.Commands.{LeavesPart, WritesPart}
use Rattle.ocm_commands_files.specs.Words.{input_of}
use Rattle.ocm_commands.proofs.Drilled.{on-input}
use Rattle.ocm_commands.proofs.Shelved.{left-input}
use Rattle.ocm_commands.proofs.commands.run.Goals as goal

pub returns-in-Ok-clause-part : goal.returns-in-Ok-clause-part
returns-in-Ok-clause-part g c =
    on_err_weaker c.run_on.result (λ part. on-input (input_of c.args.command.now (g.S.Source.left c.args.source.now)) c.in-Ok.bytes (λ bytes. WritesPart c.args.command.now bytes (g.K.Sink.taken c.args.sink.now) (g.K.Sink.taken c.run_on.new.sink)) c.in-Ok.ensures.input part) c.run_on.ensures.part

pub returns-in-Ok-clause-shelf_part : goal.returns-in-Ok-clause-shelf_part
returns-in-Ok-clause-shelf_part g c =
    on_err_weaker c.run_on.result (λ part. on-input (input_of c.args.command.now (g.S.Source.left c.args.source.now)) c.in-Ok.bytes (λ bytes. LeavesPart c.args.command.now bytes c.run_on.new.shelf) c.in-Ok.ensures.input part) c.run_on.ensures.shelf_part

pub returns-in-Err-clause-shelf_part : goal.returns-in-Err-clause-shelf_part
returns-in-Err-clause-shelf_part g c = left-input (input_of c.args.command.now (g.S.Source.left c.args.source.now)) c.args.command.now c.args.shelf.now c.requires.empty
