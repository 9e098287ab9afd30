use Rattle.std.proofs.Common.{refl}
use Rattle.std.proofs.lemmas.Result.{on_err_weaker}
use Rattle.ocm_commands_files.specs.declared.ends.End.TheVariants as whole
use Rattle.ocm_commands_files.specs.declared.help.TheConstants.{DAV_HELP, HELP, SERVE_HELP, VERSION}
use Rattle.ocm_commands_files.specs.declared.words.Command.TheVariants as commands
use Rattle.ocm_commands_files.proofs.Parts.{front-part}
use Rattle.ocm_commands_files.proofs.commands.run_plain.Goals as goal

pub returns-in-Audit-clause-part : goal.returns-in-Audit-clause-part
returns-in-Audit-clause-part g c = rw c.in-Audit.is c.run_audit.ensures.part

pub returns-in-Logcheck-clause-part : goal.returns-in-Logcheck-clause-part
returns-in-Logcheck-clause-part g c = rw c.in-Logcheck.is c.run_logcheck.ensures.part

pub returns-in-Compact-clause-part : goal.returns-in-Compact-clause-part
returns-in-Compact-clause-part g c = rw c.in-Compact.is c.run_compact.ensures.part

pub returns-in-Help-clause-part : goal.returns-in-Help-clause-part
returns-in-Help-clause-part g c =
    let le = rw c.in-Help.is at c.requires.length in
    rw c.in-Help.is (on_err_weaker c.write_text.result (λ part. front-part commands.Help c.args.bytes.now (g.K.Sink.taken c.args.sink.now) (g.K.Sink.taken c.write_text.new.sink) whole.Done HELP.now le (refl, refl) part) c.write_text.ensures.part)

pub returns-in-ServeHelp-clause-part : goal.returns-in-ServeHelp-clause-part
returns-in-ServeHelp-clause-part g c =
    let le = rw c.in-ServeHelp.is at c.requires.length in
    rw c.in-ServeHelp.is (on_err_weaker c.write_text-in-ServeHelp.result (λ part. front-part commands.ServeHelp c.args.bytes.now (g.K.Sink.taken c.args.sink.now) (g.K.Sink.taken c.write_text-in-ServeHelp.new.sink) whole.Done SERVE_HELP.now le (refl, refl) part) c.write_text-in-ServeHelp.ensures.part)

pub returns-in-DavHelp-clause-part : goal.returns-in-DavHelp-clause-part
returns-in-DavHelp-clause-part g c =
    let le = rw c.in-DavHelp.is at c.requires.length in
    rw c.in-DavHelp.is (on_err_weaker c.write_text-in-DavHelp.result (λ part. front-part commands.DavHelp c.args.bytes.now (g.K.Sink.taken c.args.sink.now) (g.K.Sink.taken c.write_text-in-DavHelp.new.sink) whole.Done DAV_HELP.now le (refl, refl) part) c.write_text-in-DavHelp.ensures.part)

pub returns-in-Version-clause-part : goal.returns-in-Version-clause-part
returns-in-Version-clause-part g c =
    let le = rw c.in-Version.is at c.requires.length in
    rw c.in-Version.is (on_err_weaker c.write_text-in-Version.result (λ part. front-part commands.Version c.args.bytes.now (g.K.Sink.taken c.args.sink.now) (g.K.Sink.taken c.write_text-in-Version.new.sink) whole.Done VERSION.now le (refl, refl) part) c.write_text-in-Version.ensures.part)
