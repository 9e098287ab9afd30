-- The lines of the reads of a session are true of its history.
use Rattle.std.proofs.Common.{◌≡◌, ℕ, List, [], ◌∷◌, ◌++◌, Bool, true, false, Option, Some, None, refl, sym, ap, ◌∙◌, if◌then◌else◌}
use Rattle.std.specs.Prelude.{not}
use Rattle.std.specs.Option.{option_map_or}
use mathlib.Core.Logic.{inl, inr}
use Rattle.ocm_entry.specs.declared.asks.Ask.{Ask}
use Rattle.ocm_entry.specs.declared.asks.Ask.TheVariants as asks
use Rattle.ocm_entry.specs.declared.asks.Method.{Method}
use Rattle.ocm_entry.specs.declared.asks.Method.TheVariants as methods
use Rattle.ocm_entry.specs.declared.entries.Entry.{Entry}
use Rattle.ocm_entry.specs.declared.replies.Reply.{Reply}
use Rattle.ocm_entry.specs.declared.replies.Reply.TheVariants.{DiskFault, JournalFull, NoMemory, Stopped}
use Rattle.ocm_rules.specs.History.{answer, writes}
use Rattle.ocm_access_log.specs.Lines.{is_reading}
use Rattle.ocm_access_log.specs.Truth.{status_of}
use Rattle.ocm_access_log.specs.declared.lines.LogLine.{LogLine}
use Rattle.ocm_law_logs.specs.Logged.{AreTrue, is_read, line_after}
use Rattle.ocm_law_logs.proofs.Truths.{all-later, logged-true}
use Rattle.ocm_law_sessions.specs.Sessions.{IsReply, IsSession, IsToldReply, fault_in, fits, would_change}
use Rattle.ocm_serve_log.specs.Logs.{line_of, lines_since, reads}

writes-nothing : (method : Method) → is_reading method ≡ true → not (writes method) ≡ true
writes-nothing methods.Get is = refl
writes-nothing methods.Head is = refl
writes-nothing methods.List0 is = refl
writes-nothing methods.List1 is = refl
writes-nothing methods.Put is = absurd cc
writes-nothing methods.Delete is = absurd cc
writes-nothing methods.Mkcol is = absurd cc

-- an ask that is logged reads
pub read-is : (ask : Ask) → reads ask ≡ true → is_read ask ≡ true
read-is (asks.Dav secret method path body) is = writes-nothing method is
read-is _ is = absurd cc

-- a reply that none of the rules gives has no status
statusless : (reply other : Reply) (status : ℕ) → reply ≡ other → status_of other ≡ None → status_of reply ≡ Some status → ⊥
statusless reply other status is none has = let e : None ≡ Some status = sym none ∙ sym (ap status_of is) ∙ has in cc

told-answer : (changing : Bool) (fault : Option ℕ) (room : Bool) (answered reply : Reply) (status : ℕ) → IsToldReply changing fault room answered reply → status_of reply ≡ Some status → reply ≡ answered
told-answer false fault room answered reply status is has = is
told-answer true (Some count) room answered reply status is has = absurd (statusless reply (Stopped count) status is refl has)
told-answer true None false answered reply status is has = absurd (statusless reply JournalFull status is refl has)
told-answer true None true answered reply status (inl is) has = is
told-answer true None true answered reply status (inr is) has = absurd (statusless reply (DiskFault is.0) status is.1 refl has)

-- a reply with a status is the answer of the rules
answered-so : (host : List ℕ) (area : ℕ) (k h : List Entry) (ask : Ask) (reply : Reply) (status : ℕ) → IsReply host area k h ask reply → status_of reply ≡ Some status → status_of (answer host (h ++ k) ask) ≡ Some status
answered-so host area k h ask reply status (inl is) has = absurd (statusless reply NoMemory status is refl has)
answered-so host area k h ask reply status (inr is) has =
    sym (ap status_of (told-answer (would_change host (h ++ k) ask) (fault_in h) (fits host area (h ++ k) ask) (answer host (h ++ k) ask) reply status is has)) ∙ has

both-true : (host : List ℕ) (g : List Entry) (xs ys : List LogLine) → AreTrue host g xs → AreTrue host g ys → AreTrue host g (xs ++ ys)
both-true host g [] ys a b = b
both-true host g (x ∷ xs) ys a b = (a.0, a.1, both-true host g xs ys a.2 b)

-- the line of a call is true of the history with it
one-true : (host : List ℕ) (area : ℕ) (k h : List Entry) (e : Entry) → IsReply host area k h e.ask e.reply → AreTrue host (e ∷ h ++ k) (line_of host (h ++ k) e)
one-true host area k h e replied = by (reads e.ask) refl (status_of e.reply) refl
  where
    by : (b : Bool) → reads e.ask ≡ b → (o : Option ℕ) → status_of e.reply ≡ o → AreTrue host (e ∷ h ++ k) (if b then option_map_or (λ status. line_after host (h ++ k) e.ask status ∷ []) o [] else [])
    by false other o has = tt
    by true is None has = tt
    by true is (Some status) has =
        let read = read-is e.ask is in
        all-later host (e ∷ []) (h ++ k) (e ∷ h ++ k) (line_after host (h ++ k) e.ask status ∷ []) refl
        (read, logged-true host (h ++ k) e.ask status read (answered-so host area k h e.ask e.reply status replied has), tt)

pub lines-true : (host : List ℕ) (area : ℕ) (k h : List Entry) → IsSession host area k h → AreTrue host (h ++ k) (lines_since host k h)
lines-true host area k [] session = tt
lines-true host area k (e ∷ h) session =
    both-true host (e ∷ h ++ k) (lines_since host k h) (line_of host (h ++ k) e)
    (all-later host (e ∷ []) (h ++ k) (e ∷ h ++ k) (lines_since host k h) refl (lines-true host area k h session.1))
    (one-true host area k h e session.0)
