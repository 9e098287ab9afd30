-- How the replies of a session to a request for files come.
use Rattle.std.proofs.Common.{◌≡◌, ℕ, List, [], ◌∷◌, ◌++◌, Bool, true, false, refl, sym, ap, ◌∙◌, subst}
use Rattle.std.specs.Prelude.{Option, Some, None, ◌⊎◌, if◌then◌else◌}
use mathlib.Core.Logic.{inl, inr}
use Rattle.ocm_entry.specs.declared.entries.Entry.{Entry}
use Rattle.ocm_entry.specs.declared.refusals.Why.{Why}
use Rattle.ocm_entry.specs.declared.refusals.Why.TheVariants as whys
use Rattle.ocm_entry.specs.declared.replies.Reply.{Reply}
use Rattle.ocm_entry.specs.declared.replies.Reply.TheVariants as replies
use Rattle.ocm_entry.specs.declared.rows.Place.{Place}
use Rattle.ocm_rules.specs.Views.{grant_in}
use Rattle.ocm_rules.specs.Messages.{view_of}
use Rattle.ocm_rules.specs.Answers.{refused, reply_in}
use Rattle.ocm_rules.specs.History.{IsAnswered, IsLegal, changes_in, is_failure, kept}
use Rattle.ocm_rules.proofs.Kept.{kept-answered}
use Rattle.ocm_rules.proofs.Lists.{not_both}
use Rattle.ocm_law_sessions.specs.Sessions.{IsReply, IsSession, IsToldReply, fault_in, fits, would_change}
use Rattle.ocm_law_sessions.proofs.Faultless.{answers-given}
use Rattle.ocm_law_served.specs.Requests.{FileRequest, ask_with, table_reply}
use Rattle.ocm_law_served.specs.Served.{IsAnsweredSo, IsGranted, IsServed, IsShort, IsUnheld, NotPermitted, OutOfMemory, Served, Unauthorized}
use Rattle.ocm_law_served.proofs.Granting.{Granted, Short, Standing, Unheld, granted-gives, granted-held, short-gives, short-unheld, stands}
use Rattle.ocm_law_served.proofs.Tables.{denies, granted_reply, refused-changes, replied-by_grant, table-denies}

-- ---- what the rules answer

answer-granted : (host : List ℕ) (g : List Entry) (secret : List ℕ) (request : FileRequest) (root : Place) → IsAnswered host g → IsGranted host g secret request root → reply_in (view_of host g) (ask_with secret request) ≡ table_reply (view_of host g) root request
answer-granted host g secret request root answered granted =
    let gives = granted-gives host g secret request root answered granted in
    replied-by_grant (view_of host g) secret request
    ∙ ap (granted_reply (view_of host g) request) gives.1
    ∙ ap (λ b. if b then table_reply (view_of host g) root request else refused whys.NotPermitted) gives.2

answer-short : (host : List ℕ) (g : List Entry) (secret : List ℕ) (request : FileRequest) → IsAnswered host g → IsShort host g secret request → reply_in (view_of host g) (ask_with secret request) ≡ refused whys.NotPermitted
answer-short host g secret request answered short =
    let gives = short-gives host g secret request answered short in
    replied-by_grant (view_of host g) secret request
    ∙ ap (granted_reply (view_of host g) request) gives.2
    ∙ ap (λ b. if b then table_reply (view_of host g) gives.0 request else refused whys.NotPermitted) gives.3

unheld-none : (host : List ℕ) (g : List Entry) (secret : List ℕ) (request : FileRequest) → IsAnswered host g → IsUnheld host g secret → grant_in (view_of host g) secret ≡ None
unheld-none host g secret request answered unheld = by_standing (stands host g secret request answered)
  where
    by_standing : Standing host g secret request → grant_in (view_of host g) secret ≡ None
    by_standing (Granted root granted) = absurd (unheld root (granted-held host g secret request root granted))
    by_standing (Short short) = absurd (short-unheld host g secret request short unheld)
    by_standing (Unheld other none) = none

answer-unheld : (host : List ℕ) (g : List Entry) (secret : List ℕ) (request : FileRequest) → IsAnswered host g → IsUnheld host g secret → reply_in (view_of host g) (ask_with secret request) ≡ refused whys.Unauthorized
answer-unheld host g secret request answered unheld =
    replied-by_grant (view_of host g) secret request
    ∙ ap (granted_reply (view_of host g) request) (unheld-none host g secret request answered unheld)

-- ---- what a session tells

-- what the session of these calls tells of a request, where this is the answer of the rules
abbrev pub TellsOf : List ℕ → ℕ → List Entry → List Entry → List ℕ → FileRequest → Reply → Reply → Type 0
TellsOf host area k h secret request answered reply =
    IsToldReply (would_change host (h ++ k) (ask_with secret request)) (fault_in h) (fits host area (h ++ k) (ask_with secret request)) answered reply

told-other : (host : List ℕ) (area : ℕ) (k h : List Entry) (secret : List ℕ) (request : FileRequest) (answered other reply : Reply) → answered ≡ other → TellsOf host area k h secret request answered reply → TellsOf host area k h secret request other reply
told-other host area k h secret request answered other reply same told = let P : Reply → Type 0 = λ r. TellsOf host area k h secret request r reply in subst P same told

unchanged-told : (change : Bool) (fault : Option ℕ) (room : Bool) (answered reply : Reply) → change ≡ false → IsToldReply change fault room answered reply → reply ≡ answered
unchanged-told true fault room answered reply h told = absurd (cc)
unchanged-told false fault room answered reply h told = told

told-unchanged : (change : Bool) (fault : Option ℕ) (room : Bool) (answered reply : Reply) → change ≡ false → reply ≡ answered → IsToldReply change fault room answered reply
told-unchanged true fault room answered reply h same = absurd (cc)
told-unchanged false fault room answered reply h same = same

-- a refusal would change nothing
refusal-unchanged : (host : List ℕ) (g : List Entry) (secret : List ℕ) (request : FileRequest) (why : Why) → reply_in (view_of host (kept host g)) (ask_with secret request) ≡ refused why → would_change host g (ask_with secret request) ≡ false
refusal-unchanged host g secret request why same =
    ap (λ r. changes_in (view_of host (kept host g)) (ask_with secret request) r) same ∙ refused-changes (view_of host (kept host g)) secret request why

-- where the rules refuse, the session tells that, and that alone
pub refused-told : (host : List ℕ) (area : ℕ) (k h : List Entry) (secret : List ℕ) (request : FileRequest) (why : Why) (reply : Reply) → reply_in (view_of host (kept host (h ++ k))) (ask_with secret request) ≡ refused why → TellsOf host area k h secret request (reply_in (view_of host (kept host (h ++ k))) (ask_with secret request)) reply → reply ≡ refused why
refused-told host area k h secret request why reply same told =
    unchanged-told (would_change host (h ++ k) (ask_with secret request)) (fault_in h) (fits host area (h ++ k) (ask_with secret request)) _ reply (refusal-unchanged host (h ++ k) secret request why same) told ∙ same

told-refused : (host : List ℕ) (area : ℕ) (k h : List Entry) (secret : List ℕ) (request : FileRequest) (why : Why) (reply : Reply) → reply_in (view_of host (kept host (h ++ k))) (ask_with secret request) ≡ refused why → reply ≡ refused why → TellsOf host area k h secret request (reply_in (view_of host (kept host (h ++ k))) (ask_with secret request)) reply
told-refused host area k h secret request why reply same is =
    told-unchanged (would_change host (h ++ k) (ask_with secret request)) (fault_in h) (fits host area (h ++ k) (ask_with secret request)) _ reply (refusal-unchanged host (h ++ k) secret request why same) (is ∙ sym same)

-- ---- the replies of a session

pub served-so : (host : List ℕ) (area : ℕ) (k h : List Entry) (secret : List ℕ) (request : FileRequest) (root : Place) (reply : Reply) → IsLegal host (h ++ k) → IsGranted host (kept host (h ++ k)) secret request root → IsReply host area k h (ask_with secret request) reply → (reply ≡ replies.NoMemory) ⊎ IsServed host area k h secret request root reply
served-so host area k h secret request root reply legal granted (inl wanting) = inl wanting
served-so host area k h secret request root reply legal granted (inr told) =
    inr (told-other host area k h secret request _ _ reply (answer-granted host (kept host (h ++ k)) secret request root (kept-answered host (h ++ k) legal) granted) told)

pub short-so : (host : List ℕ) (area : ℕ) (k h : List Entry) (secret : List ℕ) (request : FileRequest) (reply : Reply) → IsLegal host (h ++ k) → IsShort host (kept host (h ++ k)) secret request → IsReply host area k h (ask_with secret request) reply → (reply ≡ replies.NoMemory) ⊎ (reply ≡ refused whys.NotPermitted)
short-so host area k h secret request reply legal short (inl wanting) = inl wanting
short-so host area k h secret request reply legal short (inr told) =
    inr (refused-told host area k h secret request whys.NotPermitted reply (answer-short host (kept host (h ++ k)) secret request (kept-answered host (h ++ k) legal) short) told)

pub unheld-so : (host : List ℕ) (area : ℕ) (k h : List Entry) (secret : List ℕ) (request : FileRequest) (reply : Reply) → IsLegal host (h ++ k) → IsUnheld host (kept host (h ++ k)) secret → IsReply host area k h (ask_with secret request) reply → (reply ≡ replies.NoMemory) ⊎ (reply ≡ refused whys.Unauthorized)
unheld-so host area k h secret request reply legal unheld (inl wanting) = inl wanting
unheld-so host area k h secret request reply legal unheld (inr told) =
    inr (refused-told host area k h secret request whys.Unauthorized reply (answer-unheld host (kept host (h ++ k)) secret request (kept-answered host (h ++ k) legal) unheld) told)

-- each reply comes in one of the four ways
pub answered-so : (host : List ℕ) (area : ℕ) (k h : List Entry) (secret : List ℕ) (request : FileRequest) (reply : Reply) → IsLegal host (h ++ k) → IsReply host area k h (ask_with secret request) reply → IsAnsweredSo host area k h secret request reply
answered-so host area k h secret request reply legal said = by_standing (stands host (kept host (h ++ k)) secret request (kept-answered host (h ++ k) legal))
  where
    served : (root : Place) → IsGranted host (kept host (h ++ k)) secret request root → (reply ≡ replies.NoMemory) ⊎ IsServed host area k h secret request root reply → IsAnsweredSo host area k h secret request reply
    served root granted (inl wanting) = OutOfMemory wanting
    served root granted (inr told) = Served root granted told

    short_of : IsShort host (kept host (h ++ k)) secret request → (reply ≡ replies.NoMemory) ⊎ (reply ≡ refused whys.NotPermitted) → IsAnsweredSo host area k h secret request reply
    short_of short (inl wanting) = OutOfMemory wanting
    short_of short (inr told) = NotPermitted short told

    unheld_by : IsUnheld host (kept host (h ++ k)) secret → (reply ≡ replies.NoMemory) ⊎ (reply ≡ refused whys.Unauthorized) → IsAnsweredSo host area k h secret request reply
    unheld_by unheld (inl wanting) = OutOfMemory wanting
    unheld_by unheld (inr told) = Unauthorized unheld told

    by_standing : Standing host (kept host (h ++ k)) secret request → IsAnsweredSo host area k h secret request reply
    by_standing (Granted root granted) = served root granted (served-so host area k h secret request root reply legal granted said)
    by_standing (Short short) = short_of short (short-so host area k h secret request reply legal short said)
    by_standing (Unheld unheld none) = unheld_by unheld (unheld-so host area k h secret request reply legal unheld said)

-- and each of the four ways is a reply
pub so-answered : (host : List ℕ) (area : ℕ) (k h : List Entry) (secret : List ℕ) (request : FileRequest) (reply : Reply) → IsLegal host (h ++ k) → IsAnsweredSo host area k h secret request reply → IsReply host area k h (ask_with secret request) reply
so-answered host area k h secret request reply legal (Served root granted told) =
    inr (told-other host area k h secret request _ _ reply (sym (answer-granted host (kept host (h ++ k)) secret request root (kept-answered host (h ++ k) legal) granted)) told)
so-answered host area k h secret request reply legal (NotPermitted short is) =
    inr (told-refused host area k h secret request whys.NotPermitted reply (answer-short host (kept host (h ++ k)) secret request (kept-answered host (h ++ k) legal) short) is)
so-answered host area k h secret request reply legal (Unauthorized unheld is) =
    inr (told-refused host area k h secret request whys.Unauthorized reply (answer-unheld host (kept host (h ++ k)) secret request (kept-answered host (h ++ k) legal) unheld) is)
so-answered host area k h secret request reply legal (OutOfMemory wanting) = inl wanting

-- the calls before some are those of a session too
pub session-before : (host : List ℕ) (area : ℕ) (k later before : List Entry) → IsSession host area k (later ++ before) → IsSession host area k before
session-before host area k [] before session = session
session-before host area k (e ∷ later) before session = session-before host area k later before session.1

-- ---- refusals come there alone

-- what a session tells of a table's reply says nothing of the secret
told-denies : (change : Bool) (fault : Option ℕ) (room : Bool) (answered reply : Reply) → denies answered ≡ false → IsToldReply change fault room answered reply → denies reply ≡ false
told-denies true (Some count) room answered reply h told = ap denies told
told-denies true None true answered reply h (inl told) = ap denies told ∙ h
told-denies true None true answered reply h (inr (count, told)) = ap denies told
told-denies true None false answered reply h told = ap denies told
told-denies false fault room answered reply h told = ap denies told ∙ h

served-denies : (host : List ℕ) (area : ℕ) (k h : List Entry) (secret : List ℕ) (request : FileRequest) (root : Place) (reply : Reply) → IsServed host area k h secret request root reply → denies reply ≡ false
served-denies host area k h secret request root reply told =
    told-denies (would_change host (h ++ k) (ask_with secret request)) (fault_in h) (fits host area (h ++ k) (ask_with secret request)) _ reply (table-denies (view_of host (kept host (h ++ k))) root request) told

pub unauthorized-unheld : (host : List ℕ) (area : ℕ) (k h : List Entry) (secret : List ℕ) (request : FileRequest) → IsLegal host (h ++ k) → IsReply host area k h (ask_with secret request) (refused whys.Unauthorized) → IsUnheld host (kept host (h ++ k)) secret
unauthorized-unheld host area k h secret request legal said = by_way (answered-so host area k h secret request (refused whys.Unauthorized) legal said)
  where
    by_way : IsAnsweredSo host area k h secret request (refused whys.Unauthorized) → IsUnheld host (kept host (h ++ k)) secret
    by_way (Served root granted told) = absurd (not_both true refl (served-denies host area k h secret request root (refused whys.Unauthorized) told))
    by_way (NotPermitted short is) = absurd (cc)
    by_way (Unauthorized unheld is) = unheld
    by_way (OutOfMemory wanting) = absurd (cc)

pub not_permitted-short : (host : List ℕ) (area : ℕ) (k h : List Entry) (secret : List ℕ) (request : FileRequest) → IsLegal host (h ++ k) → IsReply host area k h (ask_with secret request) (refused whys.NotPermitted) → IsShort host (kept host (h ++ k)) secret request
not_permitted-short host area k h secret request legal said = by_way (answered-so host area k h secret request (refused whys.NotPermitted) legal said)
  where
    by_way : IsAnsweredSo host area k h secret request (refused whys.NotPermitted) → IsShort host (kept host (h ++ k)) secret request
    by_way (Served root granted told) = absurd (not_both true refl (served-denies host area k h secret request root (refused whys.NotPermitted) told))
    by_way (NotPermitted short is) = short
    by_way (Unauthorized unheld is) = absurd (cc)
    by_way (OutOfMemory wanting) = absurd (cc)

-- ---- the other replies of a session

-- a request is granted, and would change something
abbrev pub IsGrantedChange : List ℕ → List Entry → List ℕ → FileRequest → Type 0
IsGrantedChange host g secret request = ((root : Place) × IsGranted host (kept host g) secret request root) × (would_change host g (ask_with secret request) ≡ true)

-- that a server could not do it is told of a request that is granted
pub failure-granted : (host : List ℕ) (area : ℕ) (k h : List Entry) (secret : List ℕ) (request : FileRequest) (reply : Reply) → IsLegal host (h ++ k) → is_failure reply ≡ true → (reply ≡ replies.NoMemory → ⊥) → IsReply host area k h (ask_with secret request) reply → (root : Place) × IsGranted host (kept host (h ++ k)) secret request root
failure-granted host area k h secret request reply legal failed fine said = by_way (answered-so host area k h secret request reply legal said)
  where
    no_refusal : (why : Why) → reply ≡ refused why → ⊥
    no_refusal why is = not_both (is_failure reply) failed (ap is_failure is)

    by_way : IsAnsweredSo host area k h secret request reply → (root : Place) × IsGranted host (kept host (h ++ k)) secret request root
    by_way (Served root granted told) = (root, granted)
    by_way (NotPermitted short is) = absurd (no_refusal whys.NotPermitted is)
    by_way (Unauthorized unheld is) = absurd (no_refusal whys.Unauthorized is)
    by_way (OutOfMemory wanting) = absurd (fine wanting)

-- an answer tells no failure
no_answer : (answered reply : Reply) → is_failure answered ≡ false → is_failure reply ≡ true → reply ≡ answered → ⊥
no_answer answered reply fine failed is = not_both (is_failure reply) failed (ap is_failure is ∙ fine)

told-stopped : (change : Bool) (fault : Option ℕ) (room : Bool) (answered : Reply) (count : ℕ) → is_failure answered ≡ false → IsToldReply change fault room answered (replies.Stopped count) → (change ≡ true) × (fault ≡ Some count)
told-stopped true (Some other) room answered count fine told = let same : count ≡ other = cc in (refl, ap (λ n. Some n) (sym same))
told-stopped true None true answered count fine (inl told) = absurd (no_answer answered (replies.Stopped count) fine refl told)
told-stopped true None true answered count fine (inr (other, told)) = absurd (cc)
told-stopped true None false answered count fine told = absurd (cc)
told-stopped false fault room answered count fine told = absurd (no_answer answered (replies.Stopped count) fine refl told)

told-full : (change : Bool) (fault : Option ℕ) (room : Bool) (answered : Reply) → is_failure answered ≡ false → IsToldReply change fault room answered replies.JournalFull → (change ≡ true) × (fault ≡ None) × (room ≡ false)
told-full true (Some other) room answered fine told = absurd (cc)
told-full true None true answered fine (inl told) = absurd (no_answer answered replies.JournalFull fine refl told)
told-full true None true answered fine (inr (other, told)) = absurd (cc)
told-full true None false answered fine told = (refl, refl, refl)
told-full false fault room answered fine told = absurd (no_answer answered replies.JournalFull fine refl told)

told-fault : (change : Bool) (fault : Option ℕ) (room : Bool) (answered : Reply) (count : ℕ) → is_failure answered ≡ false → IsToldReply change fault room answered (replies.DiskFault count) → (change ≡ true) × (fault ≡ None) × (room ≡ true)
told-fault true (Some other) room answered count fine told = absurd (cc)
told-fault true None true answered count fine told = (refl, refl, refl)
told-fault true None false answered count fine told = absurd (cc)
told-fault false fault room answered count fine told = absurd (no_answer answered (replies.DiskFault count) fine refl told)

-- what is no want of memory is told
told-of : (host : List ℕ) (area : ℕ) (k h : List Entry) (secret : List ℕ) (request : FileRequest) (reply : Reply) → (reply ≡ replies.NoMemory → ⊥) → IsReply host area k h (ask_with secret request) reply → TellsOf host area k h secret request (reply_in (view_of host (kept host (h ++ k))) (ask_with secret request)) reply
told-of host area k h secret request reply fine (inl wanting) = absurd (fine wanting)
told-of host area k h secret request reply fine (inr told) = told

pub stopped-so : (host : List ℕ) (area : ℕ) (k h : List Entry) (secret : List ℕ) (request : FileRequest) (count : ℕ) → IsReply host area k h (ask_with secret request) (replies.Stopped count) → (would_change host (h ++ k) (ask_with secret request) ≡ true) × (fault_in h ≡ Some count)
stopped-so host area k h secret request count said =
    told-stopped (would_change host (h ++ k) (ask_with secret request)) (fault_in h) (fits host area (h ++ k) (ask_with secret request)) _ count
    (answers-given (view_of host (kept host (h ++ k))) (ask_with secret request)) (told-of host area k h secret request (replies.Stopped count) (λ e. cc) said)

pub full-so : (host : List ℕ) (area : ℕ) (k h : List Entry) (secret : List ℕ) (request : FileRequest) → IsReply host area k h (ask_with secret request) replies.JournalFull → (would_change host (h ++ k) (ask_with secret request) ≡ true) × (fault_in h ≡ None) × (fits host area (h ++ k) (ask_with secret request) ≡ false)
full-so host area k h secret request said =
    told-full (would_change host (h ++ k) (ask_with secret request)) (fault_in h) (fits host area (h ++ k) (ask_with secret request)) _
    (answers-given (view_of host (kept host (h ++ k))) (ask_with secret request)) (told-of host area k h secret request replies.JournalFull (λ e. cc) said)

pub fault-so : (host : List ℕ) (area : ℕ) (k h : List Entry) (secret : List ℕ) (request : FileRequest) (count : ℕ) → IsReply host area k h (ask_with secret request) (replies.DiskFault count) → (would_change host (h ++ k) (ask_with secret request) ≡ true) × (fault_in h ≡ None) × (fits host area (h ++ k) (ask_with secret request) ≡ true)
fault-so host area k h secret request count said =
    told-fault (would_change host (h ++ k) (ask_with secret request)) (fault_in h) (fits host area (h ++ k) (ask_with secret request)) _ count
    (answers-given (view_of host (kept host (h ++ k))) (ask_with secret request)) (told-of host area k h secret request (replies.DiskFault count) (λ e. cc) said)
