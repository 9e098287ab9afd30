use Rattle.ocm_law_replay.proofs.Replays.{replays-keep}
use Rattle.ocm_law_replay.proofs.replaying.a_replay_keeps_what_is_promised.Goals as goal

pub returns : goal.returns
returns c = replays-keep
