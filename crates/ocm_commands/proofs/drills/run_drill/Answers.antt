use Rattle.std.proofs.Common.{refl}
use Rattle.ocm_drill.specs.Script.{made_script}
use Rattle.ocm_commands_files.specs.declared.words.Command.TheVariants as commands
use Rattle.ocm_commands.proofs.Drilled.{drilled, drilled-part}
use Rattle.ocm_commands.proofs.Shelved.{left-events}
use Rattle.ocm_commands.proofs.drills.run_drill.Goals as goal

pub returns-in-Ok-clause-whole : goal.returns-in-Ok-clause-whole
returns-in-Ok-clause-whole g c =
    let ok = c.in-Ok.ensures.ok in
    λ bytes le. drilled c.args.number c.args.events (g.K.Sink.taken c.args.sink.now) (g.K.Sink.taken c.drill.new.sink) ok.0 c.drill.new.shelf ok.1 ok.2 bytes le

pub returns-in-Err-WriteFault-clause-part : goal.returns-in-Err-WriteFault-clause-part
returns-in-Err-WriteFault-clause-part g c =
    λ bytes le. drilled-part c.args.number c.args.events (g.K.Sink.taken c.args.sink.now) (g.K.Sink.taken c.drill.new.sink) c.in-Err-WriteFault.ensures.err bytes le

pub returns-in-Err-NoMemory-clause-part : goal.returns-in-Err-NoMemory-clause-part
returns-in-Err-NoMemory-clause-part g c =
    λ bytes le. drilled-part c.args.number c.args.events (g.K.Sink.taken c.args.sink.now) (g.K.Sink.taken c.drill.new.sink) c.in-Err-NoMemory.ensures.err bytes le

pub returns-in-Err-WriteFault-clause-shelf_part : goal.returns-in-Err-WriteFault-clause-shelf_part
returns-in-Err-WriteFault-clause-shelf_part g c =
    λ bytes. left-events (commands.Drill c.args.number c.args.events) bytes (made_script c.args.number c.args.events) c.drill.new.shelf refl c.in-Err-WriteFault.ensures.shelf_part

pub returns-in-Err-NoMemory-clause-shelf_part : goal.returns-in-Err-NoMemory-clause-shelf_part
returns-in-Err-NoMemory-clause-shelf_part g c =
    λ bytes. left-events (commands.Drill c.args.number c.args.events) bytes (made_script c.args.number c.args.events) c.drill.new.shelf refl c.in-Err-NoMemory.ensures.shelf_part
