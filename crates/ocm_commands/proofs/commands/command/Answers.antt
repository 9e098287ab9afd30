use Rattle.std.specs.Prelude.{Err}
use mathlib.Core.Logic.{inr}
use Rattle.ocm_serve_options.specs.Plans.{texts}
use Rattle.ocm_commands_files.specs.declared.ends.Fault.TheVariants as faults
use Rattle.ocm_commands_files.specs.Words.{input_of}
use Rattle.ocm_commands.specs.Commands.{LeavesPart, WritesPart}
use Rattle.ocm_commands.proofs.Parts.{IsStatus-usage, not-other, run-came, run-early, run-whole}
use Rattle.ocm_commands.proofs.Shelved.{left-input, unshelved-status}
use Rattle.ocm_commands.proofs.commands.command.Goals as goal

pub returns-in-Ok-Some-clause-other_words : goal.returns-in-Ok-Some-clause-other_words
returns-in-Ok-Some-clause-other_words g c = λ other. absurd (not-other (texts c.args.words.now) c.in-Ok-Some.command (rw c.in-Ok-Some.field-0-is at c.in-Ok-Some.ensures.read) other)

pub returns-in-Ok-Some-clause-unread : goal.returns-in-Ok-Some-clause-unread
returns-in-Ok-Some-clause-unread g c = λ other. absurd (not-other (texts c.args.words.now) c.in-Ok-Some.command (rw c.in-Ok-Some.field-0-is at c.in-Ok-Some.ensures.read) other)

pub returns-in-Ok-Some-clause-part_of_usage : goal.returns-in-Ok-Some-clause-part_of_usage
returns-in-Ok-Some-clause-part_of_usage g c = λ other. absurd (not-other (texts c.args.words.now) c.in-Ok-Some.command (rw c.in-Ok-Some.field-0-is at c.in-Ok-Some.ensures.read) other)

pub returns-in-Ok-Some-clause-untested : goal.returns-in-Ok-Some-clause-untested
returns-in-Ok-Some-clause-untested g c = λ other. absurd (not-other (texts c.args.words.now) c.in-Ok-Some.command (rw c.in-Ok-Some.field-0-is at c.in-Ok-Some.ensures.read) other)

pub returns-in-Ok-Some-clause-whole : goal.returns-in-Ok-Some-clause-whole
returns-in-Ok-Some-clause-whole g c =
    λ d are done. run-whole (texts c.args.words.now) c.in-Ok-Some.command d c.run.result c.status_of.result (g.S.Source.left c.args.source.now) (g.K.Sink.taken c.args.sink.now) (g.K.Sink.taken c.run.new.sink) c.run.new.shelf (rw c.in-Ok-Some.field-0-is at c.in-Ok-Some.ensures.read) are c.status_of.ensures done c.run.ensures.whole

pub returns-in-Ok-Some-clause-came : goal.returns-in-Ok-Some-clause-came
returns-in-Ok-Some-clause-came g c =
    λ d are done. run-came (texts c.args.words.now) c.in-Ok-Some.command d c.run.result c.status_of.result (g.S.Source.received c.args.source.now) (g.S.Source.received c.run.new.source) (g.K.Sink.taken c.args.sink.now) (g.K.Sink.taken c.run.new.sink) c.run.new.shelf (rw c.in-Ok-Some.field-0-is at c.in-Ok-Some.ensures.read) are c.status_of.ensures done c.run.ensures.came

pub returns-in-Ok-Some-clause-part : goal.returns-in-Ok-Some-clause-part
returns-in-Ok-Some-clause-part g c =
    λ d are fault. run-early (λ k bytes. WritesPart k bytes (g.K.Sink.taken c.args.sink.now) (g.K.Sink.taken c.run.new.sink)) (texts c.args.words.now) c.in-Ok-Some.command d c.run.result c.status_of.result (g.S.Source.left c.args.source.now) (rw c.in-Ok-Some.field-0-is at c.in-Ok-Some.ensures.read) are c.status_of.ensures fault c.run.ensures.part

pub returns-in-Ok-Some-clause-shelf_part : goal.returns-in-Ok-Some-clause-shelf_part
returns-in-Ok-Some-clause-shelf_part g c =
    λ d are fault. run-early (λ k bytes. LeavesPart k bytes c.run.new.shelf) (texts c.args.words.now) c.in-Ok-Some.command d c.run.result c.status_of.result (g.S.Source.left c.args.source.now) (rw c.in-Ok-Some.field-0-is at c.in-Ok-Some.ensures.read) are c.status_of.ensures fault c.run.ensures.shelf_part

pub returns-in-Ok-Some-clause-unshelved : goal.returns-in-Ok-Some-clause-unshelved
returns-in-Ok-Some-clause-unshelved g c = unshelved-status c.run.result c.status_of.result c.run.new.shelf c.status_of.ensures c.run.ensures.unshelved

pub returns-in-Ok-None-clause-shelf_part : goal.returns-in-Ok-None-clause-shelf_part
returns-in-Ok-None-clause-shelf_part g c = λ d are fault. left-input (input_of d (g.S.Source.left c.args.source.now)) d c.args.shelf.now c.requires

pub returns-in-Err-clause-shelf_part : goal.returns-in-Err-clause-shelf_part
returns-in-Err-clause-shelf_part g c = λ d are fault. left-input (input_of d (g.S.Source.left c.args.source.now)) d c.args.shelf.now c.requires

pub returns-in-Ok-None-clause-one : goal.returns-in-Ok-None-clause-one
returns-in-Ok-None-clause-one g c = IsStatus-usage c.usage.result c.usage.ensures.one

pub returns-in-Err-clause-one : goal.returns-in-Err-clause-one
returns-in-Err-clause-one g c = inr (Err faults.NoMemory, c.status_of-in-Err.ensures)
