-- What a server of a script replies is what its session allows, and so is what a crash leaves of it.
use Rattle.std.proofs.Common.{◌≡◌, ℕ, List, ◌∷◌, ◌++◌, Bool, true, false, refl, sym, ap, subst, Option, Some, None}
use Rattle.std.specs.Prelude.{option_and_then}
use Rattle.std.specs.Option.{option_or}
use mathlib.Core.Logic.{inl, inr}
use Rattle.ocm_entry.specs.declared.asks.Ask.{Ask}
use Rattle.ocm_entry.specs.declared.entries.Entry.{Entry}
use Rattle.ocm_entry.specs.declared.replies.Reply.{Reply}
use Rattle.ocm_rules.specs.History.{IsLegal, answer}
use Rattle.ocm_law_sessions.specs.Crashes.{HasLeanWith, IsNext, faulted, if_changing, unheard}
use Rattle.ocm_law_sessions.specs.Sessions.{IsChangeReply, IsReply, IsToldReply, fault_in, fits, heard, would_change}
use Rattle.ocm_script_run.specs.Servers.{Server, area, change_reply, crashed, history, kept_by_crash, reply_of, told_reply}

change-legal : (fault : Option ℕ) (room short : Bool) (answered : Reply) → IsChangeReply fault room answered (change_reply fault room short answered)
change-legal (Some count) room short answered = refl
change-legal None false short answered = refl
change-legal None true true answered = inr (1, refl)
change-legal None true false answered = inl refl

told-legal : (change : Bool) (server : Server) (ask : Ask)
    → IsToldReply change (fault_in server.calls) (fits server.host area (history server) ask) (answer server.host (history server) ask) (told_reply change server ask)
told-legal true server ask = change-legal (fault_in server.calls) _ _ _
told-legal false server ask = refl

own-legal : (wanting : Bool) (server : Server) (ask : Ask) → IsReply server.host area server.base server.calls ask (reply_of wanting server ask)
own-legal true server ask = inl refl
own-legal false server ask = inr (told-legal (would_change server.host (history server) ask) server ask)

-- the reply of the server of a host is one that its session allows
pub reply-legal : (wanting : Bool) (server : Server) (host : List ℕ) (ask : Ask) → server.host ≡ host → IsReply host area server.base server.calls ask (reply_of wanting server ask)
reply-legal wanting server host ask same = subst (λ h. IsReply h area server.base server.calls ask (reply_of wanting server ask)) same (own-legal wanting server ask)

-- ---- crashes

kept-next : (keeps : Bool) (host : List ℕ) (k h : List Entry) → IsLegal host (h ++ k) → IsNext host k h None (kept_by_crash keeps host (faulted h) (h ++ k))
kept-next false host k h legal = (legal, inl refl)
kept-next true host k h legal = by_ask (faulted h) refl
  where
    by_ask : (o : Option Ask) → faulted h ≡ o → IsNext host k h None (kept_by_crash true host o (h ++ k))
    by_ask None e = (legal, inl refl)
    by_ask (Some ask) e =
        let is : unheard host k h None ≡ Some ask = ap (λ o. option_or o (option_and_then (if_changing host (h ++ k)) None)) e in
        ((inl refl, legal), inr (subst (λ o. HasLeanWith host (h ++ k) o (heard host (h ++ k) ask ∷ h ++ k)) (sym is) refl))

-- what the server of a host keeps over a crash may follow its session
pub crash-next : (keeps : Bool) (server : Server) (host : List ℕ) → server.host ≡ host → IsLegal host (history server) → IsNext host server.base server.calls None (crashed keeps server).base
crash-next keeps server host same legal =
    subst (λ h. IsNext host server.base server.calls None (kept_by_crash keeps h (faulted server.calls) (history server))) (sym same) (kept-next keeps host server.base server.calls legal)
