use Rattle.std.specs.Prelude.{Some}
use Rattle.ocm_types.specs.declared.letters.Notice.TheVariants.{Accepted}
use Rattle.ocm_entry.specs.declared.asks.Ask.TheVariants.{Notice}
use Rattle.ocm_law_sessions.specs.Sessions.{fault_in}
use Rattle.ocm_law_sessions.proofs.Replying.{reply-given}
use Rattle.ocm_law_world.specs.World.{history_of}
use Rattle.ocm_law_world.proofs.Taken.{taken}
use Rattle.ocm_law_world.proofs.guests.an_acceptance_is_compared_by_the_owner.Goals as goal

pub returns : goal.returns
returns c = λ host s offer fresh reply told well.
    taken host (history_of s) offer fresh reply
    (reply-given host s.area (fault_in s.calls) (history_of s) (Notice (Accepted offer.id offer.secret (Some offer.owner) (Some offer.with) (Some offer.perms)) fresh) reply told) well
