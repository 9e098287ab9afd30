-- A log is a run of the world of servers that deliver messages and crash.
use Rattle.std.proofs.Common.{◌≡◌, ℕ, zero, suc, arith, List, [], ◌∷◌, ◌++◌, true, false, refl, sym, ap, ◌∙◌, subst}
use Rattle.std.specs.Prelude.{Bool, Some, None, nat_eq, ◌⊎◌, IsTrue}
use mathlib.Core.Logic.{inl, inr}
use Rattle.ocm_types.specs.declared.letters.Offer.{Offer}
use Rattle.ocm_entry.specs.declared.asks.Ask.{Ask}
use Rattle.ocm_entry.specs.declared.asks.Ask.TheVariants.{Settle}
use Rattle.ocm_entry.specs.declared.entries.Entry.{Entry}
use Rattle.ocm_pump.specs.Delivery.{post_request}
use Rattle.ocm_pump.specs.declared.deliveries.Answered.{Answered}
use Rattle.ocm_pump.specs.declared.sites.Site.{Site}
use Rattle.ocm_rules.specs.Numbers.{at_number}
use Rattle.ocm_rules.proofs.Lists.{not_both}
use Rattle.ocm_rules.proofs.Searches.{neither}
use Rattle.ocm_law_sessions.specs.Sessions.{IsReply as IsSessionReply}
use Rattle.ocm_entry.specs.Deliveries.{letter_ask}
use Rattle.ocm_law_world.specs.World.{Answer, Run, Session, World, answer_to, changed, empty_among, is_settlement, settlement_by, with_call}
use Rattle.ocm_law_world.specs.World.Run.{Stays, Goes_on}
use Rattle.ocm_law_world.specs.World.Step.{Begins as ServerBegins, Delivers, Foreign}
use Rattle.ocm_law_world.proofs.Growth.{HasMessage, message-lasts}
use Rattle.ocm_law_world.proofs.Steps.{HoldsAt, lasts-run, sessions-reached}
use Rattle.ocm_law_posts.specs.Documents.{own_site}
use Rattle.ocm_law_network.specs.Network.{ComesBy, Event, FirstAsks, InFlight, Has, IsAnswerFrom, IsLog, MayHappen, Post, Posts, RepliesAreTheirs, Settles, is_decisive, is_used, posts, session_of, world_of}
use Rattle.ocm_law_network.specs.Network.Event.{Begins, Called, Posted, Returned, Settled, Crashed}
use Rattle.ocm_law_network.specs.Network.InFlight.{Nothing, Asked, Settling}
use Rattle.ocm_law_world.specs.Hearing.{HearsInRun, IsOwnersWord}
use Rattle.ocm_law_world.proofs.Owning.{sent-said}
use Rattle.ocm_law_network.specs.Hearing.{HearsInEvent, HearsInLog}
use Rattle.ocm_law_network.proofs.Bytes.{asked-letter}
use Rattle.ocm_law_network.proofs.Events.{Sound, called-on, came-back, one-post, posts-home, posts-on, posts-sound, posts-were}
use Rattle.ocm_law_network.proofs.Steps.{Goes, Hearing, StepHearing, Tagged, call_hears, crash_hears, event_hears, nothing, stays, answers-append, answers_in, asks-run, call-goes, comes-run, crash-answered-run, crash-asked-run, crash-run, left-over, parted, settles-nothing-run}

-- ---- runs

pub run-on : (first w later : World) → Run first w → Run w later → Run first later
run-on first w _ run Stays = run
run-on first w _ run (Goes_on mid next more step) = Goes_on mid next (run-on first w mid run more) step

-- who hears the owner alone in both, does in all
hears-on : (guest : List ℕ) (offer : Offer) (first w later : World) (run : Run first w) (more : Run w later) → HearsInRun guest offer first w run → HearsInRun guest offer w later more → HearsInRun guest offer first later (run-on first w later run more)
unfolding run-on
hears-on guest offer first w _ run Stays before after = before
hears-on guest offer first w _ run (Goes_on mid next more step) before after = (hears-on guest offer first w mid run more before after.0, after.1)

-- ---- what is under way

-- a letter was answered on a connection by the server of a host that is not foreign, and nothing was settled by that yet
pub record IsOpen (foreign : List ℕ → Bool) (log : List Event) (connection : ℕ) (a : Answer) : Type 0 where
  pub unused : is_used connection log ≡ false
  pub post : Post
  pub posted : at_number (posts log) connection ≡ Some post
  pub ours : foreign post.message.to ≡ false
  pub call : Entry
  pub called : Has log (Called post.message.to (Some connection) call)
  pub is : a ≡ answer_to post.host post.number call.reply

-- each such answer is among these
abbrev pub AreThere : (List ℕ → Bool) → List Event → Tagged → Type 0
AreThere foreign log tagged = (connection : ℕ) (a : Answer) → IsOpen foreign log connection a → Has tagged (connection, a)

-- each post is of a message that its host has sent
abbrev pub AreSent : (List ℕ → Bool) → List Event → Type 0
AreSent foreign log = (n : ℕ) (post : Post) → at_number (posts log) n ≡ Some post → HoldsAt (HasMessage post.number post.message) (world_of foreign log []) post.host

-- a world that a run reaches has the sessions of a log, and under way what is opened
pub record At (foreign : List ℕ → Bool) (log : List Event) : Type 0 where
  pub tagged : Tagged
  pub reached : Run (empty_among foreign) (world_of foreign log (answers_in tagged))
  pub hears : (guest : List ℕ) (offer : Offer) → HearsInLog foreign guest offer log → HearsInRun guest offer (empty_among foreign) (world_of foreign log (answers_in tagged)) reached
  pub sent : AreSent foreign log
  pub under_way : AreThere foreign log tagged

-- an event leads on from there
abbrev pub GoesOn : (List ℕ → Bool) → List Event → Event → Tagged → Type 0
GoesOn foreign log event tagged = (others : Tagged) × Goes (event_hears foreign log event) foreign log (answers_in tagged) (event ∷ log) (answers_in others) × AreThere foreign (event ∷ log) others

-- ---- what opens

-- it is answered now
record IsNew (foreign : List ℕ → Bool) (log : List Event) (event : Event) (connection : ℕ) (a : Answer) : Type 0 where
  pub post : Post
  pub posted : at_number (posts (event ∷ log)) connection ≡ Some post
  pub ours : foreign post.message.to ≡ false
  pub call : Entry
  pub is_call : event ≡ Called post.message.to (Some connection) call
  pub is : a ≡ answer_to post.host post.number call.reply

-- what was used before is used
used-on : (event : Event) (log : List Event) (connection : ℕ) → is_used connection (event ∷ log) ≡ false → is_used connection log ≡ false
used-on (Begins host area) log connection h = h
used-on (Called host on call) log connection h = h
used-on (Posted post) log connection h = h
used-on (Returned other bytes) log connection h = h
used-on (Settled host other call) log connection h = (neither (nat_eq connection other) (is_used connection log) h).1
used-on (Crashed host flight next) log connection h = (neither _ (is_used connection log) h).1

-- what is opened was opened before, or is answered now
was-so : (foreign : List ℕ → Bool) (event : Event) (log : List Event) → IsLog foreign log → (connection : ℕ) (a : Answer) → IsOpen foreign (event ∷ log) connection a → IsOpen foreign log connection a ⊎ IsNew foreign log event connection a
was-so foreign event log is connection a opened = by_case opened.called
  where
    by_case : (event ≡ Called opened.post.message.to (Some connection) opened.call) ⊎ Has log (Called opened.post.message.to (Some connection) opened.call) → IsOpen foreign log connection a ⊎ IsNew foreign log event connection a
    by_case (inl same) = inr (record { post = opened.post; posted = opened.posted; ours = opened.ours; call = opened.call; is_call = same; is = opened.is })
    by_case (inr called) =
        let on = called-on foreign log is opened.post.message.to connection opened.call called in
        let same : on.post ≡ opened.post = one-post (event ∷ log) connection on.post opened.post (posts-on event log connection on.post on.posted) opened.posted in
        inl (record {
          unused = used-on event log connection opened.unused;
          post = opened.post;
          posted = subst (λ p. at_number (posts log) connection ≡ Some p) same on.posted;
          ours = opened.ours;
          call = opened.call;
          called = called;
          is = opened.is;
        })

-- whether an event is a call on a connection
abbrev is_call_on : Event → Bool
is_call_on (Called host (Some connection) call) = true
is_call_on _ = false

-- where nothing is answered, nothing opens
stays-there : (foreign : List ℕ → Bool) (event : Event) (log : List Event) (tagged : Tagged) → IsLog foreign log → is_call_on event ≡ false → AreThere foreign log tagged → AreThere foreign (event ∷ log) tagged
stays-there foreign event log tagged is no_call there connection a opened = by_case (was-so foreign event log is connection a opened)
  where
    by_case : IsOpen foreign log connection a ⊎ IsNew foreign log event connection a → Has tagged (connection, a)
    by_case (inl old) = there connection a old
    by_case (inr new) = absurd (not_both (is_call_on event) (ap is_call_on new.is_call) no_call)

-- ---- calls

-- a call on a connection: an answer to a letter, where that is for a host that is not foreign
module _ (foreign : List ℕ → Bool) (log : List Event) (is : IsLog foreign log) (theirs : RepliesAreTheirs foreign log) (at : At foreign log) where
  abbrev w : World
  w = world_of foreign log (answers_in at.tagged)

  -- it asks what the letter says, where that is for a host that is not foreign
  asks-letter : (host : List ℕ) (connection : ℕ) (call : Entry) (post : Post) → at_number (posts log) connection ≡ Some post → foreign post.message.to ≡ false → (comes : ComesBy post host call) → call.ask ≡ letter_ask post.message.letter comes.fresh
  asks-letter host connection call post posted ours comes =
      let sound : Sound post = posts-sound foreign log is connection post posted in
      asked-letter post.message.to comes.config post.message.letter comes.fresh call.ask sound.target sound.letter
      (subst (λ s. FirstAsks comes.config (post_request s post.message.letter) comes.fresh call.ask) (posts-home foreign log theirs connection post posted ours) comes.asks)

  -- and where the owner's server posted it, its word
  pub owners-word : (host : List ℕ) (connection : ℕ) (call : Entry) (offer : Offer) (post : Post) → MayHappen foreign log (Called host (Some connection) call) → at_number (posts log) connection ≡ Some post
      → post.host ≡ offer.owner.host → foreign post.message.to ≡ false → IsOwnersWord (world_of foreign log []) offer call.ask
  owners-word host connection call offer post may posted own ours =
      let comes : ComesBy post host call = subst (λ p. ComesBy p host call) (one-post log connection may.2.0 post may.2.1 posted) may.2.2 in
      let sent = subst (HoldsAt (HasMessage post.number post.message) (world_of foreign log [])) own (at.sent connection post posted) in
      subst (IsOwnersWord (world_of foreign log []) offer) (sym (asks-letter host connection call post posted ours comes))
      (sent-said (world_of foreign log []) offer sent.0 post.number post.message comes.fresh sent.1 sent.2)

  called-goes : (host : List ℕ) (connection : ℕ) (call : Entry) → MayHappen foreign log (Called host (Some connection) call) → GoesOn foreign log (Called host (Some connection) call) at.tagged
  called-goes host connection call may = by_test (foreign post.message.to) refl
    where
      post : Post
      post = may.2.0

      posted : at_number (posts log) connection ≡ Some post
      posted = may.2.1

      comes : ComesBy post host call
      comes = may.2.2

      event : Event
      event = Called host (Some connection) call

      -- the same post is meant
      same-post : (c : ℕ) (a : Answer) (new : IsNew foreign log event c a) → (c ≡ connection) × (new.post ≡ post) × (new.call ≡ call)
      same-post c a new =
          let same : connection ≡ c = cc new.is_call in
          let calls : call ≡ new.call = cc new.is_call in
          (sym same, one-post log connection new.post post (subst (λ n. at_number (posts log) n ≡ Some new.post) (sym same) new.posted) posted, sym calls)

      by_test : (b : Bool) → foreign post.message.to ≡ b → GoesOn foreign log event at.tagged
      by_test true abroad = (at.tagged, asks-run foreign log (Some connection) host (answers_in at.tagged) call may.0 may.1, there)
        where
          there : AreThere foreign (event ∷ log) at.tagged
          there c a opened = by_case (was-so foreign event log is c a opened)
            where
              by_case : IsOpen foreign log c a ⊎ IsNew foreign log event c a → Has at.tagged (c, a)
              by_case (inl old) = at.under_way c a old
              by_case (inr new) = absurd (not_both (foreign post.message.to) abroad (subst (λ (p : Post). foreign p.message.to ≡ false) (same-post c a new).1 new.ours))
      by_test false ours = ((connection, answer) ∷ at.tagged, run, there)
        where
          answer : Answer
          answer = answer_to post.host post.number call.reply

          home : post.site ≡ own_site post.message.to
          home = posts-home foreign log theirs connection post posted ours

          here : post.message.to ≡ host
          here = ap (λ (s : Site). s.host) (sym home) ∙ comes.there

          ask : call.ask ≡ letter_ask post.message.letter comes.fresh
          ask = asks-letter host connection call post posted ours comes

          step : (h : List ℕ) (q : Ask) (s : Session) → post.message.to ≡ h → letter_ask post.message.letter comes.fresh ≡ q → session_of log h ≡ Some s → IsSessionReply h s.area s.base s.calls q call.reply
              → StepHearing (call_hears foreign log h q call.reply) w (changed w h (with_call s q call.reply) (answer ∷ answers_in at.tagged))
          step h q s same asked =
              let sent = at.sent connection post posted in
              subst (λ x. session_of log x ≡ Some s → IsSessionReply x s.area s.base s.calls q call.reply → StepHearing (call_hears foreign log x q call.reply) w (changed w x (with_call s q call.reply) (answer ∷ answers_in at.tagged))) same
              (subst (λ x. session_of log post.message.to ≡ Some s → IsSessionReply post.message.to s.area s.base s.calls x call.reply → StepHearing (call_hears foreign log post.message.to x call.reply) w (changed w post.message.to (with_call s x call.reply) (answer ∷ answers_in at.tagged))) asked
              (λ there told. (Delivers post.host sent.0 post.number post.message s comes.fresh call.reply sent.1 sent.2 there told, λ guest offer known. known)))

          run : Goes (event_hears foreign log event) foreign log (answers_in at.tagged) (event ∷ log) (answer ∷ answers_in at.tagged)
          run =
              call-goes (event_hears foreign log event) foreign log event host (answers_in at.tagged) (answer ∷ answers_in at.tagged) call may.0.session may.0.there
              (step host call.ask may.0.session here (sym ask) may.0.there may.0.told)

          there : AreThere foreign (event ∷ log) ((connection, answer) ∷ at.tagged)
          there c a opened = by_case (was-so foreign event log is c a opened)
            where
              by_case : IsOpen foreign log c a ⊎ IsNew foreign log event c a → Has ((connection, answer) ∷ at.tagged) (c, a)
              by_case (inl old) = inr (at.under_way c a old)
              by_case (inr new) =
                  let same = same-post c a new in
                  let also : a ≡ answer = new.is ∙ (λ i. answer_to ((same.1 i).host) ((same.1 i).number) ((same.2 i).reply)) in
                  inl (λ i. (sym same.0 i, sym also i))

  -- ---- settlements

  -- an answer that settles by a connection is under way, alone or among others; those on other connections stay
  record Ready (host : List ℕ) (connection : ℕ) (ask : Ask) : Type 0 where
    pub a : Answer
    pub newer : Tagged
    pub older : Tagged
    pub run : Goes nothing foreign log (answers_in at.tagged) log (answers_in newer ++ a ∷ answers_in older)
    pub own : a.host ≡ host
    pub asks : settlement_by a ≡ ask
    pub others : (c : ℕ) (b : Answer) → IsOpen foreign log c b → (c ≡ connection → ⊥) → Has (newer ++ older) (c, b)

  ready : (host : List ℕ) (connection : ℕ) (ask : Ask) → Settles log host connection ask → is_settlement ask ≡ true → Ready host connection ask
  ready host connection ask by settles = by_test (foreign by.post.message.to) refl
    where
      post : Post
      post = by.post

      by_test : (b : Bool) → foreign post.message.to ≡ b → Ready host connection ask
      by_test true abroad =
          let sent = at.sent connection post by.posted in
          let a : Answer = record { host = post.host; number = post.number; status = by.answered.status; id = by.answered.id } in
          record {
            a = a;
            newer = [];
            older = at.tagged;
            run = (Goes_on w (world_of foreign log (a ∷ answers_in at.tagged)) Stays (Foreign post.host sent.0 post.number post.message by.answered.status by.answered.id sent.1 sent.2 abroad), λ guest offer known. (tt, tt));
            own = by.own;
            asks = sym by.is;
            others = λ c b opened other. at.under_way c b opened;
          }
      by_test false ours =
          let well : IsTrue (is_decisive by.answered.status) = sym (ap is_settlement by.is) ∙ settles in
          let from : IsAnswerFrom log connection post.message.to by.answered = came-back foreign log is theirs connection by.bytes post by.came by.posted by.answered ours by.told well in
          let a : Answer = answer_to post.host post.number from.call.reply in
          let there : Has at.tagged (connection, a) = at.under_way connection a (record { unused = by.once; post = post; posted = by.posted; ours = ours; call = from.call; called = from.called; is = refl }) in
          let parts = parted at.tagged connection a there in
          record {
            a = a;
            newer = parts.0;
            older = parts.1;
            run = stays foreign log (answers_in at.tagged) (answers_in parts.0 ++ a ∷ answers_in parts.1) parts.3;
            own = by.own;
            asks = ap (λ (x : Answered). Settle post.number x.status x.id) (sym from.is) ∙ sym by.is;
            others = λ c b opened other. left-over at.tagged parts.0 parts.1 (connection, a) (c, b) parts.2 (λ same. other (sym (ap (λ (x : ℕ × Answer). x.0) same))) (at.under_way c b opened);
          }

  -- an event at a server whose answer is ready
  after-ready : (host : List ℕ) (connection : ℕ) (ask : Ask) (r : Ready host connection ask) (hears : Hearing) (event : Event) → Goes hears foreign log (answers_in r.newer ++ r.a ∷ answers_in r.older) (event ∷ log) (answers_in r.newer ++ answers_in r.older)
      → Goes hears foreign log (answers_in at.tagged) (event ∷ log) (answers_in (r.newer ++ r.older))
  after-ready host connection ask r hears event goes =
      let mid : World = world_of foreign log (answers_in r.newer ++ r.a ∷ answers_in r.older) in
      let later : World = world_of foreign (event ∷ log) (answers_in (r.newer ++ r.older)) in
      let more = subst (λ l. Goes hears foreign log (answers_in r.newer ++ r.a ∷ answers_in r.older) (event ∷ log) l) (sym (answers-append r.newer r.older)) goes in
      (run-on w mid later r.run.0 more.0, λ guest offer known. hears-on guest offer w mid later r.run.0 more.0 (r.run.1 guest offer tt) (more.1 guest offer known))

  -- a run of which more is known
  knowing : (hears : Hearing) (event : Event) {others : List Answer} → Goes hears foreign log (answers_in at.tagged) (event ∷ log) others → ((guest : List ℕ) (offer : Offer) → HearsInEvent foreign guest offer log event → hears guest offer)
      → Goes (event_hears foreign log event) foreign log (answers_in at.tagged) (event ∷ log) others
  knowing hears event goes known = (goes.0, λ guest offer h. goes.1 guest offer (known guest offer h))

  -- what is left under way when a connection was used
  left-there : (event : Event) (host : List ℕ) (connection : ℕ) (ask : Ask) → is_call_on event ≡ false → ((c : ℕ) → is_used c (event ∷ log) ≡ false → c ≡ connection → ⊥) → (r : Ready host connection ask) → AreThere foreign (event ∷ log) (r.newer ++ r.older)
  left-there event host connection ask no_call used r c b opened = by_case (was-so foreign event log is c b opened)
    where
      by_case : IsOpen foreign log c b ⊎ IsNew foreign log event c b → Has (r.newer ++ r.older) (c, b)
      by_case (inl old) = r.others c b old (used c opened.unused)
      by_case (inr new) = absurd (not_both (is_call_on event) (ap is_call_on new.is_call) no_call)

  used-now : (connection : ℕ) (c : ℕ) → nat_eq c connection ≡ false → c ≡ connection → ⊥
  used-now connection c far same = grind (arith, far, same)

  settled-goes : (host : List ℕ) (connection : ℕ) (call : Entry) → MayHappen foreign log (Settled host connection call) → GoesOn foreign log (Settled host connection call) at.tagged
  settled-goes host connection call may = by_test (is_settlement call.ask) refl
    where
      event : Event
      event = Settled host connection call

      by_test : (b : Bool) → is_settlement call.ask ≡ b → GoesOn foreign log event at.tagged
      by_test false plain = (at.tagged, settles-nothing-run foreign log connection host (answers_in at.tagged) call may.1.post.number may.1.answered.status may.1.answered.id may.1.is may.0 plain, stays-there foreign event log at.tagged is refl at.under_way)
      by_test true settles =
          let r = ready host connection call.ask may.1 settles in (
            r.newer ++ r.older,
            after-ready host connection call.ask r nothing event
                (comes-run foreign log connection host (answers_in r.newer) (answers_in r.older) r.a call r.own r.asks may.0),
            left-there event host connection call.ask refl (λ c unused. used-now connection c (neither (nat_eq c connection) (is_used c log) unused).0) r,
          )

  crashed-goes : (host : List ℕ) (flight : InFlight) (next : List Entry) → MayHappen foreign log (Crashed host flight next) → GoesOn foreign log (Crashed host flight next) at.tagged
  crashed-goes host Nothing next may =
      (at.tagged, knowing (crash_hears foreign log host None next may.session) (Crashed host Nothing next) (crash-run foreign log host Nothing (answers_in at.tagged) next may.session may.there may.comes) (λ guest offer known here q. known here may.session q may.there), stays-there foreign (Crashed host Nothing next) log at.tagged is refl at.under_way)
  crashed-goes host (Asked ask) next may =
      (at.tagged, knowing (crash_hears foreign log host (Some ask) next may.session) (Crashed host (Asked ask) next) (crash-asked-run foreign log host (Asked ask) ask (answers_in at.tagged) next may.session may.in_flight may.there may.comes) (λ guest offer known here q. known here may.session q may.there), stays-there foreign (Crashed host (Asked ask) next) log at.tagged is refl at.under_way)
  crashed-goes host (Settling connection ask) next may = by_test (is_settlement ask) refl
    where
      event : Event
      event = Crashed host (Settling connection ask) next

      by_test : (b : Bool) → is_settlement ask ≡ b → GoesOn foreign log event at.tagged
      by_test false plain =
          (at.tagged, knowing (crash_hears foreign log host (Some ask) next may.session) event (crash-asked-run foreign log host (Settling connection ask) ask (answers_in at.tagged) next may.session plain may.there may.comes) (λ guest offer known here q. known here may.session q may.there), stays-there foreign event log at.tagged is refl at.under_way)
      by_test true settles =
          let r = ready host connection ask may.in_flight settles in (
            r.newer ++ r.older,
            knowing (crash_hears foreign log host (Some ask) next may.session) event
                (after-ready host connection ask r (crash_hears foreign log host (Some ask) next may.session) event
                (crash-answered-run foreign log connection host (answers_in r.newer) (answers_in r.older) r.a ask next may.session r.own r.asks may.there may.comes))
                (λ guest offer known here q. known here may.session q may.there),
            left-there event host connection ask refl (λ c unused. used-now connection c (neither (nat_eq c connection) (is_used c log) unused).0) r,
          )

  -- ---- any event

  goes-on : (event : Event) → MayHappen foreign log event → GoesOn foreign log event at.tagged
  goes-on (Begins host area) may = (at.tagged, (Goes_on w (world_of foreign (Begins host area ∷ log) (answers_in at.tagged)) Stays (ServerBegins host area may.0 may.1), λ guest offer known. (tt, tt)), stays-there foreign (Begins host area) log at.tagged is refl at.under_way)
  goes-on (Called host None call) may = (at.tagged, asks-run foreign log None host (answers_in at.tagged) call may.0 may.1, stays-there foreign (Called host None call) log at.tagged is refl at.under_way)
  goes-on (Called host (Some connection) call) may = called-goes host connection call may
  goes-on (Posted post) may = (at.tagged, (Stays, λ guest offer known. tt), stays-there foreign (Posted post) log at.tagged is refl at.under_way)
  goes-on (Returned connection bytes) may = (at.tagged, (Stays, λ guest offer known. tt), stays-there foreign (Returned connection bytes) log at.tagged is refl at.under_way)
  goes-on (Settled host connection call) may = settled-goes host connection call may
  goes-on (Crashed host flight next) may = crashed-goes host flight next may

  -- each post is still of a sent message
  sent-on : (event : Event) (others : Tagged) → MayHappen foreign log event → Run w (world_of foreign (event ∷ log) (answers_in others)) → AreSent foreign (event ∷ log)
  sent-on event others may run n post posted = by_case (posts-were event log n post posted)
    where
      later : World
      later = world_of foreign (event ∷ log) (answers_in others)

      on : HoldsAt (HasMessage post.number post.message) w post.host → HoldsAt (HasMessage post.number post.message) later post.host
      on = lasts-run (HasMessage post.number post.message) w later post.host (message-lasts post.number post.message) (sessions-reached w at.reached) run

      new : Posts log post → HoldsAt (HasMessage post.number post.message) w post.host
      new may = (may.session, may.there, may.sent)

      by_case : (at_number (posts log) n ≡ Some post) ⊎ (event ≡ Posted post) → HoldsAt (HasMessage post.number post.message) later post.host
      by_case (inl old) = on (at.sent n post old)
      by_case (inr same) = on (new (subst (MayHappen foreign log) same may))

  -- so after the event
  next-at : (event : Event) → MayHappen foreign log event → (next : At foreign (event ∷ log)) × Run w (world_of foreign (event ∷ log) (answers_in next.tagged))
  next-at event may =
      let on = goes-on event may in
      let later : World = world_of foreign (event ∷ log) (answers_in on.0) in (
        record {
          tagged = on.0;
          reached = run-on (empty_among foreign) w later at.reached on.1.0;
          hears = λ guest offer hears. hears-on guest offer (empty_among foreign) w later at.reached on.1.0 (at.hears guest offer hears.1) (on.1.1 guest offer hears.0);
          sent = sent-on event on.0 may on.1.0;
          under_way = on.2;
        },
        on.1.0,
      )

-- ---- logs

begun : (foreign : List ℕ → Bool) → At foreign []
begun foreign = record {
  tagged = [];
  reached = Stays;
  hears = λ guest offer hears. tt;
  sent = λ n post posted. absurd (none n post posted);
  under_way = λ connection a new. absurd new.called;
}
  where
    none : (n : ℕ) (post : Post) → at_number {X = Post} [] n ≡ Some post → ⊥
    none zero post posted = cc
    none (suc n) post posted = cc

pub at-log : (foreign : List ℕ → Bool) (log : List Event) → IsLog foreign log → RepliesAreTheirs foreign log → At foreign log
at-log foreign [] is theirs = begun foreign
at-log foreign (event ∷ log) is theirs = (next-at foreign log is.1 theirs.1 (at-log foreign log is.1 theirs.1) event is.0).0

-- a log goes on by a run
pub at-further : (foreign : List ℕ → Bool) (log more : List Event) (at : At foreign log) → IsLog foreign (more ++ log) → RepliesAreTheirs foreign (more ++ log)
    → (later : At foreign (more ++ log)) × Run (world_of foreign log (answers_in at.tagged)) (world_of foreign (more ++ log) (answers_in later.tagged))
at-further foreign log [] at is theirs = (at, Stays)
at-further foreign log (event ∷ more) at is theirs =
    let mid = at-further foreign log more at is.1 theirs.1 in
    let last = next-at foreign (more ++ log) is.1 theirs.1 mid.0 event is.0 in
    (last.0, run-on (world_of foreign log (answers_in at.tagged)) (world_of foreign (more ++ log) (answers_in mid.0.tagged)) (world_of foreign (event ∷ (more ++ log)) (answers_in last.0.tagged)) mid.1 last.1)
