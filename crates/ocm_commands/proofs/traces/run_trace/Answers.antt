use Rattle.std.proofs.Common.{◌≡◌, false, refl, arith}
use Rattle.std.specs.List.{list_any}
use Rattle.std.proofs.lemmas.Result.{on_err_weaker}
use mathlib.Core.Logic.{inl, inr}
use Rattle.ocm_script_run.specs.Traces.{names}
use Rattle.ocm_commands.proofs.Parts.{front-part}
use Rattle.ocm_commands.proofs.Shelved.{left-plain}
use Rattle.ocm_commands_files.specs.Lines.{bad_line}
use Rattle.ocm_commands_files.specs.declared.ends.End.TheVariants as whole
use Rattle.ocm_commands_files.specs.declared.words.Command.TheVariants as commands
use Rattle.ocm_commands.proofs.traces.run_trace.Goals as goal

pub returns-in-Err-Line-clause-part : goal.returns-in-Err-Line-clause-part
returns-in-Err-Line-clause-part g c =
    let bad = rw c.in-Err-Line.field-0-is at c.in-Err-Line.ensures.exact in
    on_err_weaker c.name_line.result (λ part. front-part (commands.Trace c.args.host.now) c.args.bytes.now (g.K.Sink.taken c.args.sink.now) (g.K.Sink.taken c.name_line.new.sink) whole.Script (bad_line c.in-Err-Line.number) c.requires.length (inl (c.in-Err-Line.number, bad, refl)) part) c.name_line.ensures.part

pub returns-then-not-names-clause-part : goal.returns-then-not-names-clause-part
returns-then-not-names-clause-part g c =
    let none : list_any (names c.args.host.now) c.in-Ok.events ≡ false = grind arith in
    on_err_weaker c.name_line-then-not-names.result (λ part. front-part (commands.Trace c.args.host.now) c.args.bytes.now (g.K.Sink.taken c.args.sink.now) (g.K.Sink.taken c.name_line-then-not-names.new.sink) whole.Script (bad_line 0) c.requires.length (inr (c.in-Ok.events, c.in-Ok.ensures.exact, none, refl)) part) c.name_line-then-not-names.ensures.part

pub returns-in-Err-Line-clause-shelf_part : goal.returns-in-Err-Line-clause-shelf_part
returns-in-Err-Line-clause-shelf_part g c = left-plain (commands.Trace c.args.host.now) c.args.bytes.now c.args.shelf.now c.name_line.result c.requires.empty

pub returns-then-not-names-clause-shelf_part : goal.returns-then-not-names-clause-shelf_part
returns-then-not-names-clause-shelf_part g c = left-plain (commands.Trace c.args.host.now) c.args.bytes.now c.args.shelf.now c.name_line-then-not-names.result c.requires.empty
