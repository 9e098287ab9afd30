-- Replies to what requests ask have pages.
use Rattle.std.proofs.Common.{◌≡◌, Bool, true, false, List, ◌∷◌, length, Result, Ok, Err, refl, subst}
use Rattle.std.specs.Prelude.{◌||◌, IfOk, IsTrue}
use Rattle.ocm_entry.specs.Fitting.{Fits, is_due, is_settle}
use Rattle.ocm_entry.specs.declared.asks.Ask.{Ask}
use Rattle.ocm_entry.specs.declared.asks.Ask.TheVariants as asks
use Rattle.ocm_entry.specs.declared.entries.Entry.{Entry}
use Rattle.ocm_entry.specs.declared.replies.Reply.{Reply}
use Rattle.ocm_entry.specs.declared.replies.Reply.TheVariants as replies
use Rattle.ocm_dav_pages.specs.Pages.{HasPage}
use Rattle.ocm_dav.specs.Sound.{is_requested}
use Rattle.ocm_turn.specs.declared.turnstile.Spent.{Spent}
use Rattle.ocm_turn.specs.Calls.{IsOlderPart, entry}
use Rattle.ocm_turn.specs.Passes.{Known}
use Rattle.ocm_entry.specs.Ticks.{is_tick}

not_due : (ask : Ask) → IsTrue (is_due ask) → IsTrue (is_requested ask || is_tick ask) → ⊥
not_due (asks.AddUser name fresh) is asked = cc
not_due (asks.Local key cmd) is asked = cc
not_due (asks.Offer offer) is asked = cc
not_due (asks.Notice notice fresh) is asked = cc
not_due (asks.Dav secret method path body) is asked = cc
not_due asks.Due is asked = cc
not_due (asks.Settle number status id) is asked = cc
not_due (asks.Tick clock) is asked = cc
not_due (asks.Carry secret from to moving overwrite) is asked = cc

not_settle : (ask : Ask) → IsTrue (is_settle ask) → IsTrue (is_requested ask || is_tick ask) → ⊥
not_settle (asks.AddUser name fresh) is asked = cc
not_settle (asks.Local key cmd) is asked = cc
not_settle (asks.Offer offer) is asked = cc
not_settle (asks.Notice notice fresh) is asked = cc
not_settle (asks.Dav secret method path body) is asked = cc
not_settle asks.Due is asked = cc
not_settle (asks.Settle number status id) is asked = cc
not_settle (asks.Tick clock) is asked = cc
not_settle (asks.Carry secret from to moving overwrite) is asked = cc

pub or_left : (a b : Bool) → IsTrue a → IsTrue (a || b)
or_left true b h = refl
or_left false b h = absurd (let e : false ≡ true = h in cc)

-- a reply that fits what requests ask, or a tick, has a page
pub page_fits : (ask : Ask) (reply : Reply) → IsTrue (is_requested ask || is_tick ask) → Fits ask reply → HasPage reply
page_fits ask (replies.Key key) asked fits = refl
page_fits ask (replies.Number number) asked fits = refl
page_fits ask replies.Done asked fits = refl
page_fits ask replies.Left asked fits = absurd (not_settle ask fits asked)
page_fits ask (replies.Listing lines) asked fits = refl
page_fits ask (replies.Recipient user) asked fits = refl
page_fits ask replies.Noticed asked fits = refl
page_fits ask (replies.Child id) asked fits = refl
page_fits ask (replies.File body) asked fits = refl
page_fits ask (replies.Items items) asked fits = refl
page_fits ask replies.Created asked fits = refl
page_fits ask replies.Replaced asked fits = refl
page_fits ask replies.Removed asked fits = refl
page_fits ask (replies.Due messages) asked fits = absurd (not_due ask fits asked)
page_fits ask (replies.Refused why) asked fits = refl
page_fits ask replies.JournalFull asked fits = refl
page_fits ask replies.NoMemory asked fits = refl
page_fits ask (replies.DiskFault count) asked fits = refl
page_fits ask (replies.Stopped count) asked fits = refl

module _ {Terms : Type 0} (legal : Terms → List Entry → List Entry → Type 0) (fits : (t : Terms) (k h : List Entry) (ask : Ask) (reply : Reply) → legal t k (entry ask reply ∷ h) → Fits ask reply) where
  -- the reply of a call has a page
  pub call_page : (ask : Ask) (old new : Known Terms) (r : Result Reply Spent) → IsTrue (is_requested ask || is_tick ask) → legal new.terms new.base new.seen
      → IfOk r (λ reply. (before : List Entry) × (new.seen ≡ entry ask reply ∷ before) × IsOlderPart old.seen before × (length before ≡ new.drawn))
      → IfOk r HasPage
  call_page ask old new (Ok reply) asked law seen = page_fits ask reply asked (fits new.terms new.base seen.0 ask reply (subst (λ (l : List Entry). legal new.terms new.base l) seen.1 law))
  call_page ask old new (Err spent) asked law seen = tt

  -- the reply of one step has a page
  pub act_page : (ask : Ask) (reply : Reply) (terms : Terms) (k h : List Entry) → IsTrue (is_requested ask || is_tick ask) → legal terms k (entry ask reply ∷ h) → HasPage reply
  act_page ask reply terms k h asked law = page_fits ask reply asked (fits terms k h ask reply law)
