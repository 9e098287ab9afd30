use Rattle.ocm_law_openings.proofs.Promises.{keeps-reached}
use Rattle.ocm_law_network.specs.Network.{world_of}
use Rattle.ocm_law_network.proofs.Reached.{log-reached}
use Rattle.ocm_law_network.proofs.promises.every_server_of_a_log_keeps_what_is_promised.Goals as goal

pub returns : goal.returns
returns c = λ foreign log host s is theirs there.
    let at = log-reached foreign log is theirs in
    keeps-reached (world_of foreign log at.0) host s at.1 there
