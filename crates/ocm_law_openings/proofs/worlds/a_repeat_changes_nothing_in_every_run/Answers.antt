use Rattle.std.proofs.Common.{◌≡◌, false, sym, ◌∙◌, subst}
use Rattle.ocm_rules.proofs.Searches.{some-same}
use Rattle.ocm_law_sessions.specs.Sessions.{would_change}
use Rattle.ocm_law_world.specs.World.{Session, history_of}
use Rattle.ocm_law_openings.proofs.Lives.{lives-along, lives-reached, repeat-along}
use Rattle.ocm_law_openings.proofs.worlds.a_repeat_changes_nothing_in_every_run.Goals as goal

pub returns : goal.returns
returns c = λ w later host s t ask reached run there now taken other.
    let life = lives-reached w reached host s there in
    let on = lives-along w later host s life.0 run there life.1 in
    let same = some-same on.0 t (sym on.1 ∙ now) in
    let P : Session → Type 0 = λ x. would_change host (history_of x) ask ≡ false in
    subst P same (repeat-along host s on.0 life.0 on.2.0 ask life.1 on.2.1 on.2.2 taken other)
