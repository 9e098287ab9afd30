-- The calls of a connection of a script are those of its server's session.
use Rattle.std.proofs.Common.{◌≡◌, ℕ, List, [], ◌∷◌, ◌++◌, Bool, refl, sym, ap, ◌∙◌, subst}
use Rattle.ocm_entry.specs.declared.entries.Entry.{Entry}
use Rattle.ocm_entry.specs.declared.replies.Reply.{Reply}
use Rattle.ocm_law_served.specs.Requests.{FileRequest, ask_with}
use Rattle.ocm_law_served.proofs.Answering.{answered-so, session-before}
use Rattle.ocm_law_sessions.specs.Sessions.{IsReply, IsSession}
use Rattle.ocm_law_sessions.proofs.Replying.{session-legal}
use Rattle.ocm_script_run.specs.Servers.{Server, area, reply_of, with_call}
use Rattle.ocm_script_run.specs.Talks.{Replies, after_calls}
use Rattle.ocm_law_runs.specs.Promises.{AreServed}
use Rattle.ocm_law_runs.proofs.Replies.{reply-legal}

-- ---- the server after some calls

pub after-host : (server : Server) (calls : List Entry) → (after_calls server calls).host ≡ server.host
after-host server [] = refl
after-host server (call ∷ older) = after-host server older

after-base : (server : Server) (calls : List Entry) → (after_calls server calls).base ≡ server.base
after-base server [] = refl
after-base server (call ∷ older) = after-base server older

after-has : (server : Server) (calls : List Entry) → (after_calls server calls).calls ≡ calls ++ server.calls
after-has server [] = refl
after-has server (call ∷ older) = ap (λ l. call ∷ l) (after-has server older)

-- ---- a session goes on by replies

calls-session : (host : List ℕ) (server : Server) (calls : List Entry) → server.host ≡ host → IsSession host area server.base server.calls → Replies server calls → IsSession host area server.base (calls ++ server.calls)
calls-session host server [] own session made = session
calls-session host server (call ∷ older) own session (made, wanting, is) =
    let mid = after_calls server older in
    let told : IsReply host area mid.base mid.calls call.ask (reply_of wanting mid call.ask) = reply-legal wanting mid host call.ask (after-host server older ∙ own) in
    let P : Reply → Type 0 = λ r. IsReply host area mid.base mid.calls call.ask r in
    let Q : List Entry → Type 0 = λ k. IsReply host area k mid.calls call.ask call.reply in
    let R : List Entry → Type 0 = λ h. IsReply host area server.base h call.ask call.reply in
    (subst R (after-has server older) (subst Q (after-base server older) (subst P (sym is) told)), calls-session host server older own session made)

append-more : (later before old : List Entry) (e : Entry) → (later ++ e ∷ before) ++ old ≡ later ++ e ∷ (before ++ old)
append-more [] before old e = refl
append-more (x ∷ later) before old e = ap (λ l. x ∷ l) (append-more later before old e)

pub calls-served : (host : List ℕ) (server : Server) (calls : List Entry) → server.host ≡ host → IsSession host area server.base server.calls → Replies server calls → AreServed host server calls
calls-served host server calls own session made later before secret request reply split =
    let e : Entry = record { ask = ask_with secret request; reply = reply } in
    let P : List Entry → Type 0 = λ h. IsSession host area server.base h in
    let all = subst P (ap (λ l. l ++ server.calls) split ∙ append-more later before server.calls e) (calls-session host server calls own session made) in
    let here = session-before host area server.base later (e ∷ (before ++ server.calls)) all in
    answered-so host area server.base (before ++ server.calls) secret request reply (session-legal host area server.base (before ++ server.calls) here.1) here.0
