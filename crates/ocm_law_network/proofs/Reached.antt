-- The laws of all runs, of logs.
use Rattle.std.proofs.Common.{◌≡◌, ◌≤◌, ◌<◌, ℕ, List, [], ◌∷◌, ◌++◌, Bool, false, ap}
use Rattle.std.specs.Prelude.{Option, Some, ◌⊎◌}
use Rattle.ocm_path.specs.Paths.{Segments}
use Rattle.ocm_types.specs.declared.letters.Offer.{Offer}
use Rattle.ocm_types.specs.declared.phases.Phase.TheVariants.{Confirmed}
use Rattle.ocm_entry.specs.declared.asks.Ask.TheVariants.{Dav}
use Rattle.ocm_entry.specs.declared.asks.Method.{Method}
use Rattle.ocm_entry.specs.declared.refusals.Why.TheVariants.{Unauthorized}
use Rattle.ocm_entry.specs.declared.replies.Reply.{Reply}
use Rattle.ocm_entry.specs.declared.replies.Reply.TheVariants.{NoMemory}
use Rattle.ocm_entry.specs.declared.rows.Share.{Share}
use Rattle.ocm_rules.specs.Answers.{refused}
use Rattle.ocm_rules.specs.Messages.{phase}
use Rattle.ocm_rules.specs.Numbers.{at_number}
use Rattle.ocm_rules.specs.Offers.{is_confirmed, offers, told}
use Rattle.ocm_law_sessions.specs.Sessions.{IsSession}
use Rattle.ocm_law_world.specs.Ends.{IsEnded}
use Rattle.ocm_law_world.specs.Guests.{HearsOwnerAlone, IsAfterLimit, IsMade}
use Rattle.ocm_law_world.specs.World.{Answer, IsReached, Run, Session, kept_at}
use Rattle.ocm_law_world.proofs.Hearing.{told-later}
use Rattle.ocm_law_world.proofs.Laws.{ended-later, refused-read, told-never_older}
use Rattle.ocm_law_world.proofs.Owning.{hears-run}
use Rattle.ocm_law_world.proofs.Reached.{guest}
use Rattle.ocm_law_world.proofs.Steps.{sessions-reached}
use Rattle.ocm_law_network.specs.Network.{Event, IsLog, RepliesAreTheirs, session_of, world_of}
use Rattle.ocm_law_network.specs.Network.Event.{Called}
use Rattle.ocm_law_network.specs.Hearing.{HearersKeepTheWord, HearsInLog, PostsAreItsWord}
use Rattle.ocm_law_network.proofs.Running.{at-further, at-log, owners-word}
use Rattle.ocm_law_network.proofs.Steps.{answers_in}

-- what was a log before it went on
was-log : (foreign : List ℕ → Bool) (log more : List Event) → IsLog foreign (more ++ log) → IsLog foreign log
was-log foreign log [] is = is
was-log foreign log (event ∷ more) is = was-log foreign log more is.1

were-theirs : (foreign : List ℕ → Bool) (log more : List Event) → RepliesAreTheirs foreign (more ++ log) → RepliesAreTheirs foreign log
were-theirs foreign log [] theirs = theirs
were-theirs foreign log (event ∷ more) theirs = were-theirs foreign log more theirs.1

pub log-reached : (foreign : List ℕ → Bool) (log : List Event) → IsLog foreign log → RepliesAreTheirs foreign log → (answers : List Answer) × IsReached (world_of foreign log answers)
log-reached foreign log is theirs = let at = at-log foreign log is theirs in (answers_in at.tagged, at.reached)

pub log-further : (foreign : List ℕ → Bool) (log more : List Event) → IsLog foreign (more ++ log) → RepliesAreTheirs foreign (more ++ log)
    → (answers : List Answer) × (later : List Answer) × IsReached (world_of foreign log answers) × Run (world_of foreign log answers) (world_of foreign (more ++ log) later)
log-further foreign log more is theirs =
    let at = at-log foreign log (was-log foreign log more is) (were-theirs foreign log more theirs) in
    let on = at-further foreign log more at is theirs in
    (answers_in at.tagged, answers_in on.0.tagged, at.reached, on.1)

pub log-session : (foreign : List ℕ → Bool) (log : List Event) (host : List ℕ) (s : Session) → IsLog foreign log → RepliesAreTheirs foreign log → session_of log host ≡ Some s → IsSession host s.area s.base s.calls
log-session foreign log host s is theirs there =
    let at = log-reached foreign log is theirs in
    sessions-reached (world_of foreign log at.0) at.1 host s there

pub log-made : (foreign : List ℕ → Bool) (log : List Event) (host : List ℕ) (s : Session) (n : ℕ) (offer : Offer) → IsLog foreign log → RepliesAreTheirs foreign log → session_of log host ≡ Some s
    → at_number (offers (kept_at host s)) n ≡ Some offer → phase host (kept_at host s) n ≡ Confirmed → foreign offer.owner.host ≡ false → IsMade (world_of foreign log []) offer
log-made foreign log host s n offer is theirs there taken confirmed ours =
    let at = log-reached foreign log is theirs in
    guest (world_of foreign log at.0) at.1 host s there n offer taken (ap is_confirmed confirmed) ours

pub log-ended : (foreign : List ℕ → Bool) (log more : List Event) (host : List ℕ) (i : ℕ) (m : Share) → IsLog foreign (more ++ log) → RepliesAreTheirs foreign (more ++ log)
    → IsEnded (world_of foreign log []) host i m → IsEnded (world_of foreign (more ++ log) []) host i m
log-ended foreign log more host i m is theirs ended =
    let on = log-further foreign log more is theirs in
    ended-later (world_of foreign log on.0) (world_of foreign (more ++ log) on.1) host i m on.2 on.3 ended

pub log-refused : (foreign : List ℕ → Bool) (log : List Event) (on : Option ℕ) (host : List ℕ) (i : ℕ) (m : Share) (method : Method) (path : Segments) (body : List ℕ) (reply : Reply)
    → IsLog foreign (Called host on (record { ask = Dav m.secret method path body; reply = reply }) ∷ log) → RepliesAreTheirs foreign log
    → IsEnded (world_of foreign log []) host i m → (reply ≡ refused Unauthorized) ⊎ (reply ≡ NoMemory)
log-refused foreign log on host i m method path body reply is theirs ended =
    let at = log-reached foreign log is.1 theirs in
    let call = is.0.0 in
    refused-read (world_of foreign log at.0) host call.session i m method path body reply at.1 ended call.there call.told

pub log-never_older : (foreign : List ℕ → Bool) (log more : List Event) (host : List ℕ) (s : Session) (n : ℕ) (offer : Offer) → IsLog foreign (more ++ log) → RepliesAreTheirs foreign (more ++ log) → session_of log host ≡ Some s
    → at_number (offers (kept_at host s)) n ≡ Some offer
    → (t : Session) × (session_of (more ++ log) host ≡ Some t) × (at_number (offers (kept_at host t)) n ≡ Some offer) × ((told (kept_at host s) n).serial ≤ (told (kept_at host t) n).serial)
log-never_older foreign log more host s n offer is theirs there taken =
    let on = log-further foreign log more is theirs in
    told-never_older (world_of foreign log on.0) (world_of foreign (more ++ log) on.1) host s n offer on.2 on.3 there taken

pub log-heard : HearersKeepTheWord
log-heard foreign log guest s offer is theirs hears there =
    let at = at-log foreign log is theirs in
    hears-run foreign (world_of foreign log (answers_in at.tagged)) at.reached guest offer (at.hears guest offer hears) s there

pub log-word : PostsAreItsWord
log-word foreign log host connection call post offer is theirs posted own ours = owners-word foreign log is.1 theirs (at-log foreign log is.1 theirs) host connection call offer post is.0 posted own ours

pub log-later : (foreign : List ℕ → Bool) (log : List Event) (host : List ℕ) (s : Session) (n : ℕ) (offer : Offer) → IsLog foreign log → RepliesAreTheirs foreign log → session_of log host ≡ Some s
    → at_number (offers (kept_at host s)) n ≡ Some offer → HearsOwnerAlone (world_of foreign log []) host s offer → 0 < (told (kept_at host s) n).serial
    → (y : Session) × (session_of log offer.owner.host ≡ Some y) × IsAfterLimit offer.owner.host (kept_at offer.owner.host y) offer (told (kept_at host s) n)
log-later foreign log host s n offer is theirs there taken hears later =
    let at = log-reached foreign log is theirs in
    told-later (world_of foreign log at.0) host s n offer at.1 there taken hears later

pub log-told : (foreign : List ℕ → Bool) (log : List Event) (host : List ℕ) (s : Session) (n : ℕ) (offer : Offer) → IsLog foreign log → RepliesAreTheirs foreign log → session_of log host ≡ Some s
    → at_number (offers (kept_at host s)) n ≡ Some offer → HearsInLog foreign host offer log → 0 < (told (kept_at host s) n).serial
    → (y : Session) × (session_of log offer.owner.host ≡ Some y) × IsAfterLimit offer.owner.host (kept_at offer.owner.host y) offer (told (kept_at host s) n)
log-told foreign log host s n offer is theirs there taken hears later = log-later foreign log host s n offer is theirs there taken (log-heard foreign log host s offer is theirs hears there) later
