-- What is taken to change nothing changes nothing, unless it is a tick.
use Rattle.std.proofs.Common.{◌≡◌, ℕ, List, Bool, true, false, refl, sym}
use Rattle.std.proofs.lemmas.Bool.{false≢true}
use Rattle.ocm_entry.specs.Ticks.{is_tick}
use Rattle.ocm_entry.specs.declared.asks.Ask.{Ask}
use Rattle.ocm_entry.specs.declared.asks.Ask.TheVariants as asks
use Rattle.ocm_entry.specs.declared.asks.Cmd.TheVariants as commands
use Rattle.ocm_entry.specs.declared.entries.Entry.{Entry}
use Rattle.ocm_entry.specs.declared.replies.Reply.{Reply}
use Rattle.ocm_entry.specs.declared.replies.Reply.TheVariants as replies
use Rattle.ocm_law_sessions.specs.Sessions.{heard, would_change}
use Rattle.ocm_rules.specs.History.{changes_in, kept}
use Rattle.ocm_rules.specs.Messages.{view_of}
use Rattle.ocm_rules.specs.Views.{View}
use Rattle.ocm_serve_store.specs.Asking.{may_change}

-- whatever it is answered with
no_change : (v : View) (ask : Ask) (reply : Reply) → may_change ask ≡ false → is_tick ask ≡ false → changes_in v ask reply ≡ false
no_change v asks.Due reply may tick = refl
no_change v (asks.Tick clock) reply may tick = absurd (false≢true (sym tick))
no_change v (asks.Local key cmd) (replies.Number number) may tick = may
no_change v (asks.Local key cmd) replies.Done may tick = may
no_change v (asks.Local key cmd) _ may tick = refl
no_change v (asks.Dav secret method path body) replies.Created may tick = may
no_change v (asks.Dav secret method path body) replies.Replaced may tick = may
no_change v (asks.Dav secret method path body) replies.Removed may tick = may
no_change v (asks.Dav secret method path body) _ may tick = refl
no_change v _ reply may tick = absurd (false≢true (sym may))

pub idle : (ask : Ask) → may_change ask ≡ false → is_tick ask ≡ false → (host : List ℕ) (g : List Entry) → would_change host g ask ≡ false
idle ask may tick host g = no_change (view_of host (kept host g)) ask (heard host g ask).reply may tick
