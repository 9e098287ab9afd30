-- A change is no read, and has no line.
use Rattle.std.proofs.Common.{◌≡◌, ℕ, List, [], ◌∷◌, ◌++◌, Bool, true, false, Option, sym, refl, ap, ◌∙◌, append-nil}
use Rattle.std.specs.Prelude.{if◌then◌else◌}
use Rattle.std.specs.Option.{option_map_or}
use Rattle.std.proofs.lemmas.Bool.{false≢true}
use Rattle.ocm_access_log.specs.Lines.{is_reading}
use Rattle.ocm_access_log.specs.Truth.{status_of}
use Rattle.ocm_entry.specs.declared.asks.Ask.{Ask}
use Rattle.ocm_entry.specs.declared.asks.Ask.TheVariants as asks
use Rattle.ocm_entry.specs.declared.asks.Method.{Method}
use Rattle.ocm_entry.specs.declared.asks.Method.TheVariants as methods
use Rattle.ocm_entry.specs.declared.entries.Entry.{Entry}
use Rattle.ocm_entry.specs.declared.replies.Reply.{Reply}
use Rattle.ocm_entry.specs.declared.replies.Reply.TheVariants as replies
use Rattle.ocm_law_logs.specs.Logged.{line_after}
use Rattle.ocm_law_sessions.specs.Sessions.{heard, would_change}
use Rattle.ocm_rules.specs.History.{changes, changes_in, kept, writes}
use Rattle.ocm_rules.specs.Messages.{view_of}
use Rattle.ocm_rules.specs.Views.{View}
use Rattle.ocm_serve_log.specs.Logs.{lines_since, reads}

-- no method that reads writes
not-writing : (method : Method) → is_reading method ≡ true → writes method ≡ false
not-writing methods.Put is = absurd (false≢true is)
not-writing methods.Mkcol is = absurd (false≢true is)
not-writing methods.Delete is = absurd (false≢true is)
not-writing _ is = refl

-- a read changes nothing, whatever it is answered with
reads-idle : (v : View) (ask : Ask) (reply : Reply) → reads ask ≡ true → changes_in v ask reply ≡ false
reads-idle v (asks.Dav secret method path body) replies.Created is = not-writing method is
reads-idle v (asks.Dav secret method path body) replies.Replaced is = not-writing method is
reads-idle v (asks.Dav secret method path body) replies.Removed is = not-writing method is
reads-idle v (asks.Dav secret method path body) _ is = refl
reads-idle v _ reply is = absurd (false≢true is)

-- what would change something is no read
pub not-read : (host : List ℕ) (g : List Entry) (ask : Ask) → would_change host g ask ≡ true → reads ask ≡ false
not-read host g ask changes = by (reads ask) refl
  where
    by : (b : Bool) → reads ask ≡ b → reads ask ≡ false
    by false is = is
    by true is = absurd (false≢true (sym (reads-idle (view_of host (kept host g)) ask (heard host g ask).reply is) ∙ changes))

-- and has no line
pub no-line : (host : List ℕ) (k h : List Entry) (ask : Ask) (reply : Reply) → reads ask ≡ false → lines_since host k (record { ask = ask; reply = reply } ∷ h) ≡ lines_since host k h
no-line host k h ask reply is =
    ap (λ (b : Bool). lines_since host k h ++ (if b then option_map_or (λ status. line_after host (h ++ k) ask status ∷ []) (status_of reply) [] else [])) is ∙ append-nil (lines_since host k h)
