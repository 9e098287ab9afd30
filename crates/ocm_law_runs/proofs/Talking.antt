-- What a connection asks of a server.
use Rattle.std.proofs.Common.{◌≡◌, ◌⊎◌, ℕ, ◌+◌, List, [], ◌∷◌, ◌++◌, Bool, true, false, refl, sym, ap, ◌∙◌, subst, Option, Some, None, Result, Ok, Err}
use mathlib.Core.Logic.{inl, inr}
use Rattle.ocm_entry.specs.declared.asks.Ask as asked
use Rattle.ocm_entry.specs.declared.asks.Ask.TheVariants as asks
use Rattle.ocm_entry.specs.declared.entries.Entry.{Entry}
use Rattle.ocm_entry.specs.declared.refusals.Why.TheVariants.{Unauthorized}
use Rattle.ocm_entry.specs.declared.replies.Reply.{Reply}
use Rattle.ocm_entry.specs.declared.replies.Reply.TheVariants as replies
use Rattle.ocm_entry.specs.declared.rows.Share.{Share}
use Rattle.ocm_http.specs.declared.messages.Message.{Message}
use Rattle.ocm_dav_pages.specs.declared.shapes.Page.{Page}
use Rattle.ocm_dav_pages.specs.declared.shapes.Shape.{Shape}
use Rattle.ocm_dav_pages.specs.Pages.{page_of}
use Rattle.ocm_dav.specs.Routes.{wanted_of}
use Rattle.ocm_dav.specs.Sound.{AsksOutside, is_requested}
use Rattle.ocm_dav.specs.declared.configs.Config.{Config}
use Rattle.ocm_dav.specs.declared.wants.Wanted.{Wanted}
use Rattle.ocm_dav.specs.declared.wants.Wanted.TheVariants as wants
use Rattle.ocm_dav.proofs.SoundWants.{sound-wanted_of}
use Rattle.ocm_server_connections.specs.Talk.{Answers, Replied, Shown, Talk, counted, is_done, is_no_memory, is_spent, ticked, wanted_at}
use Rattle.ocm_server_connections.specs.Talk.Talk.{silent, last, next}
use Rattle.ocm_server_connections.specs.declared.endings.Ended.{Ended}
use Rattle.ocm_server_connections.specs.declared.endings.Missed.{Missed}
use Rattle.ocm_server_connections.specs.declared.endings.Missed.TheVariants as misses
use Rattle.ocm_rules.specs.Answers.{refused}
use Rattle.ocm_rules.specs.History.{answer, is_failure}
use Rattle.ocm_law_sessions.specs.Sessions.{IsReply, fault_in}
use Rattle.ocm_law_sessions.proofs.Replying.{reply-given}
use Rattle.ocm_law_world.specs.Ends as ends
use Rattle.ocm_law_world.specs.World.{Run, World, empty, is_settlement}
use Rattle.ocm_law_world.proofs.Laws.{ended-later, refused-carry, refused-read}
use Rattle.ocm_law_world.proofs.Steps.{alone-reached}
use Rattle.ocm_script_run.specs.Servers.{Server, area, history, reply_of, server_after, with_call}
use Rattle.ocm_script_run.specs.Talks.{Replies, after_calls}
use Rattle.ocm_script_run.proofs.Talking.{after-more}
use Rattle.ocm_law_runs.specs.Standing.{EachIsRefused, AreRefused, AsksWith, IsMessageRefused, IsRefusal, session_of}
use Rattle.ocm_law_runs.proofs.Asking.{asks-with}
use Rattle.ocm_law_runs.proofs.Replies.{reply-legal}
use Rattle.ocm_law_runs.proofs.Steps.{IsAlone, Reaches, With, reaches-on, run-on, stays}

-- ---- what is asked

-- none of these calls settles a message
abbrev pub ArePlain : List Entry → Type 0
ArePlain [] = Unit {0}
ArePlain (call ∷ older) = (is_settlement call.ask ≡ false) × ArePlain older

plain-more : (newer older : List Entry) → ArePlain newer → ArePlain older → ArePlain (newer ++ older)
plain-more [] older h k = k
plain-more (call ∷ newer) older h k = (h.0, plain-more newer older h.1 k)

-- what requests spell settles no message
unsettling : (ask : asked.Ask) → is_requested ask ≡ true → is_settlement ask ≡ false
unsettling (asks.Settle number status id) outside = absurd (cc)
unsettling _ outside = refl

replied-plain : (ask : asked.Ask) (clock : ℕ) (calls : List Entry) (reply : Reply) → is_settlement ask ≡ false → Replied ask clock calls reply → ArePlain calls
unfolding Replied
replied-plain ask clock calls reply plain (inl (is, undone)) = subst ArePlain (sym is) (refl, tt)
replied-plain ask clock calls reply plain (inr is) = subst ArePlain (sym is) (plain, (refl, tt))

-- a talk in which no limit of calls is reached
answers-plain : (wanted : Wanted) (clock : ℕ) (calls : List Entry) (answer : Result Page Missed) → AsksOutside wanted → is_spent answer ≡ false → Answers wanted clock calls answer → ArePlain calls
unfolding Answers
answers-plain (wants.Page page) clock calls (Ok shown) outside unspent (is, same) = subst ArePlain (sym is) tt
answers-plain (wants.Ask ask shape) clock calls (Ok shown) outside unspent (reply, replied, had, same) = replied-plain ask clock calls reply (unsettling ask outside) replied
answers-plain wanted clock calls (Err misses.Spent) outside unspent answers = absurd (cc)
answers-plain (wants.Page page) clock calls (Err misses.NoMemory) outside unspent is = subst ArePlain (sym is) tt
answers-plain (wants.Ask ask shape) clock calls (Err misses.NoMemory) outside unspent (inl is) = subst ArePlain (sym is) tt
answers-plain (wants.Ask ask shape) clock calls (Err misses.NoMemory) outside unspent (inr (reply, replied)) = replied-plain ask clock calls reply (unsettling ask outside) replied

message-plain : (config : Config) (number : ℕ) (message : Message) (fresh : List ℕ) (clock : ℕ) (calls : List Entry) (answer : Result Page Missed) → is_spent answer ≡ false
    → Answers (wanted_at config number message fresh) clock calls answer → ArePlain calls
unfolding wanted_at
message-plain config number message fresh clock calls answer unspent answers =
    answers-plain (wanted_of config (counted number message) fresh) clock calls answer (sound-wanted_of config (counted number message) fresh).outside unspent answers

pub talk-plain : (config : Config) (shown : Shown) (number place : ℕ) (bytes : List ℕ) (ended : Bool) (drawn : List (List ℕ)) (clocks : List ℕ) (calls : List Entry) (written : List ℕ) (ending : Ended) → shown.spent ≡ false
    → Talk config shown number place bytes ended drawn clocks calls written ending → ArePlain calls
talk-plain config shown _ _ _ _ _ _ _ _ _ unspent (silent number place bytes ended written ending stops) = tt
talk-plain config shown _ _ _ _ _ _ _ _ _ unspent (last number place bytes rest ended message fresh clock calls answer written ending given answers ends spent) =
    message-plain config number message fresh clock calls answer (spent ∙ unspent) answers
talk-plain config shown _ _ _ _ _ _ _ _ _ unspent (next number place bytes front rest ended message fresh clock calls page drawn clocks later written ending given split answers goes_on more) =
    plain-more later calls (talk-plain config shown _ _ _ _ _ _ _ _ _ unspent more) (message-plain config number message fresh clock calls (Ok page) refl answers)

-- ---- calls are a run

pub calls-run : (w : World) (servers : List Server) (host : List ℕ) (server : Server) (calls : List Entry) → ArePlain calls → Replies server calls → With servers host server w
    → Reaches w (With servers host (after_calls server calls))
calls-run w servers host server [] plain made with = stays _ w with
calls-run w servers host server (call ∷ older) plain (made, wanting, is) with =
    reaches-on (With servers host (after_calls server older)) (With servers host (after_calls server (call ∷ older))) w (calls-run w servers host server older plain.1 made with)
    (λ mid run at. subst (λ (r : Reply). Reaches mid (With servers host (with_call (after_calls server older) call.ask r))) (sym is) (asks-with mid servers host (after_calls server older) wanting call.ask plain.0 at))

-- ---- what has ended

module _ (servers : List Server) (host : List ℕ) (i : ℕ) (m : Share) where
  refused-ask : (w : World) (server : Server) (wanting : Bool) (ask : asked.Ask) → IsAlone w → ends.IsEnded w host i m → With servers host server w → AsksWith m.secret ask
      → (reply_of wanting server ask ≡ refused Unauthorized) ⊎ (reply_of wanting server ask ≡ replies.NoMemory)
  refused-ask w server wanting (asks.Dav s method path body) reached ended with uses =
      subst (λ (x : List ℕ). (reply_of wanting server (asks.Dav x method path body) ≡ refused Unauthorized) ⊎ (reply_of wanting server (asks.Dav x method path body) ≡ replies.NoMemory)) (sym uses)
      (refused-read w host (session_of server) i m method path body _ (alone-reached w reached) ended with.here (reply-legal wanting server host (asks.Dav m.secret method path body) with.own))
  refused-ask w server wanting (asks.Carry s from to moving overwrite) reached ended with uses =
      subst (λ (x : List ℕ). (reply_of wanting server (asks.Carry x from to moving overwrite) ≡ refused Unauthorized) ⊎ (reply_of wanting server (asks.Carry x from to moving overwrite) ≡ replies.NoMemory)) (sym uses)
      (refused-carry w host (session_of server) i m from to moving overwrite _ (alone-reached w reached) ended with.here (reply-legal wanting server host (asks.Carry m.secret from to moving overwrite) with.own))
  refused-ask w server wanting _ reached ended with uses = absurd uses

  pub calls-refused : (w : World) (server : Server) (calls : List Entry) → IsAlone w → ends.IsEnded w host i m → With servers host server w → ArePlain calls → Replies server calls → AreRefused m.secret calls
  calls-refused w server [] reached ended with plain made = tt
  calls-refused w server (call ∷ older) reached ended with plain (made, wanting, is) =
      let mid = calls-run w servers host server older plain.1 made with in
      let still = ended-later w mid.0 host i m (alone-reached w reached) mid.1 ended in (
        λ uses. subst (λ (r : Reply). (r ≡ refused Unauthorized) ⊎ (r ≡ replies.NoMemory)) (sym is) (refused-ask mid.0 (after_calls server older) wanting call.ask (run-on empty w mid.0 reached mid.1) still mid.2 uses),
        calls-refused w server older reached ended with plain.1 made,
      )

-- ---- pages

replies-newer : (server : Server) (older newer : List Entry) → Replies server (newer ++ older) → Replies (after_calls server older) newer
replies-newer server older [] made = tt
replies-newer server older (call ∷ newer) (made, wanting, is) = (
  replies-newer server older newer made,
  wanting,
  is ∙ ap (λ (s : Server). reply_of wanting s call.ask) (sym (after-more server older newer)),
)

replies-older : (server : Server) (older newer : List Entry) → Replies server (newer ++ older) → Replies server older
replies-older server older [] made = made
replies-older server older (call ∷ newer) (made, wanting, is) = replies-older server older newer made

refused-newer : (secret : List ℕ) (older newer : List Entry) → AreRefused secret (newer ++ older) → AreRefused secret newer
refused-newer secret older [] are = tt
refused-newer secret older (call ∷ newer) are = (are.0, refused-newer secret older newer are.1)

refused-older : (secret : List ℕ) (older newer : List Entry) → AreRefused secret (newer ++ older) → AreRefused secret older
refused-older secret older [] are = are
refused-older secret older (call ∷ newer) are = refused-older secret older newer are.1

-- a tick that is not done has failed
tick-failed : (server : Server) (wanting : Bool) (clock : ℕ) (reply : Reply) → reply ≡ reply_of wanting server (asks.Tick clock) → is_done reply ≡ false → is_failure reply ≡ true
tick-failed server wanting clock reply is undone =
    by_given (reply-given server.host area (fault_in server.calls) (history server) (asks.Tick clock) reply
    (subst (λ (r : Reply). IsReply server.host area server.base server.calls (asks.Tick clock) r) (sym is) (reply-legal wanting server server.host (asks.Tick clock) refl)))
  where
    by_given : (reply ≡ replies.Done) ⊎ (is_failure reply ≡ true) → is_failure reply ≡ true
    by_given (inl done) = absurd (let e : true ≡ false = sym (ap is_done done) ∙ undone in cc)
    by_given (inr failed) = failed

-- the page of an ask that is refused behind its tick, or whose tick failed
replied-refused : (secret : List ℕ) (ask : asked.Ask) (shape : Shape) (clock : ℕ) (server : Server) (calls : List Entry) (reply : Reply) → AsksWith secret ask → Replied ask clock calls reply → is_no_memory reply ≡ false
    → Replies server calls → AreRefused secret calls → IsRefusal shape (page_of reply shape)
unfolding Replied
replied-refused secret ask shape clock server calls reply uses (inl (is, undone)) had made are =
    let one = subst (Replies server) is made in
    inr (reply, tick-failed server one.1 clock reply one.2 undone, refl)
replied-refused secret ask shape clock server calls reply uses (inr is) had made are = by_reply ((subst (AreRefused secret) is are).0 uses)
  where
    by_reply : (reply ≡ refused Unauthorized) ⊎ (reply ≡ replies.NoMemory) → IsRefusal shape (page_of reply shape)
    by_reply (inl told) = inl (ap (λ (r : Reply). page_of r shape) told)
    by_reply (inr told) = absurd (let e : true ≡ false = sym (ap is_no_memory told) ∙ had in cc)

answered-so : (secret : List ℕ) (wanted : Wanted) (clock : ℕ) (server : Server) (calls : List Entry) (answer : Result Page Missed) → Answers wanted clock calls answer → Replies server calls → AreRefused secret calls
    → IsMessageRefused secret wanted answer
unfolding Answers
answered-so secret (wants.Ask ask shape) clock server calls (Ok page) (reply, replied, had, same) made are =
    λ uses. subst (IsRefusal shape) (sym same) (replied-refused secret ask shape clock server calls reply uses replied had made are)
answered-so secret (wants.Ask ask shape) clock server calls (Err missed) answers made are = tt
answered-so secret (wants.Page page) clock server calls answer answers made are = tt

pub talk-refused : {config : Config} {shown : Shown} {number place : ℕ} {bytes : List ℕ} {ended : Bool} {drawn : List (List ℕ)} {clocks : List ℕ} {calls : List Entry} {written : List ℕ} {ending : Ended}
    → (secret : List ℕ) (server : Server) (said : Talk config shown number place bytes ended drawn clocks calls written ending) → Replies server calls → AreRefused secret calls → EachIsRefused secret said
talk-refused secret server (silent number place bytes ended written ending stops) made are = tt
talk-refused {config} secret server (last number place bytes rest ended message fresh clock calls answer written ending given answers ends spent) made are =
    answered-so secret (wanted_at config number message fresh) clock server calls answer answers made are
talk-refused {config} secret server (next number place bytes front rest ended message fresh clock calls page drawn clocks later written ending given split answers goes_on more) made are = (
  answered-so secret (wanted_at config number message fresh) clock server calls (Ok page) answers (replies-older server calls later made) (refused-older secret calls later are),
  talk-refused secret (after_calls server calls) more (replies-newer server calls later made) (refused-newer secret calls later are),
)
