use Rattle.ocm_commands_files.specs.declared.ends.End.TheVariants.{Done}
use Rattle.ocm_commands_files.specs.declared.words.Command.TheVariants.{Replay}
use Rattle.ocm_law_replay.proofs.Replays.{command-wrote}
use Rattle.ocm_law_replay.proofs.replaying.command_keeps_what_is_promised.Goals as goal

pub returns : goal.returns
returns g c = record { kept = λ are zero. command-wrote _ _ _ _ _ zero (c.command.ensures.whole Replay are (Done, zero)) }
