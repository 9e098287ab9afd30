use Rattle.std.proofs.Common.{◌≡◌, ◌++◌, false, sym, ◌∙◌, subst}
use Rattle.ocm_rules.proofs.Searches.{some-same}
use Rattle.ocm_law_sessions.specs.Sessions.{would_change}
use Rattle.ocm_law_world.specs.World.{Session, history_of}
use Rattle.ocm_law_openings.proofs.Lives.{lives-along, lives-reached, repeat-along}
use Rattle.ocm_law_network.specs.Network.{world_of}
use Rattle.ocm_law_network.proofs.Reached.{log-further}
use Rattle.ocm_law_network.proofs.promises.a_repeat_changes_nothing_in_the_network.Goals as goal

pub returns : goal.returns
returns c = λ foreign log more host s t ask is theirs there now taken other.
    let at = log-further foreign log more is theirs in
    let w = world_of foreign log at.0 in
    let later = world_of foreign (more ++ log) at.1 in
    let life = lives-reached w at.2 host s there in
    let on = lives-along w later host s life.0 at.3 there life.1 in
    let same = some-same on.0 t (sym on.1 ∙ now) in
    let P : Session → Type 0 = λ x. would_change host (history_of x) ask ≡ false in
    subst P same (repeat-along host s on.0 life.0 on.2.0 ask life.1 on.2.1 on.2.2 taken other)
