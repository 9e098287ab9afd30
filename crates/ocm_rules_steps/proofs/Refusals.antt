use Rattle.std.proofs.Common.{◌≡◌, Bool, true, false, refl, sym, subst, if◌then◌else◌}
use Rattle.ocm_types.specs.declared.letters.Notice.TheVariants as notices
use Rattle.ocm_entry.specs.declared.asks.Ask.{Ask}
use Rattle.ocm_entry.specs.declared.asks.Ask.TheVariants as asks
use Rattle.ocm_entry.specs.declared.refusals.Why.{Why}
use Rattle.ocm_entry.specs.declared.replies.Reply.TheVariants.{Refused}
use Rattle.ocm_rules.specs.Views.{View}
use Rattle.ocm_rules.specs.History.{changes_in}
use Rattle.ocm_rules.specs.State.{State, after, step, view_in}

-- an ask that is refused changes nothing
pub refused-entry : (v : View) (ask : Ask) (why : Why) → changes_in v ask (Refused why) ≡ false
refused-entry v (asks.AddUser name fresh) why = refl
refused-entry v (asks.Local key cmd) why = refl
refused-entry v (asks.Offer offer) why = refl
refused-entry v (asks.Notice (notices.Accepted id secret owner with perms) fresh) why = refl
refused-entry v (asks.Notice (notices.Declined id secret) fresh) why = refl
refused-entry v (asks.Notice (notices.Unshared id secret) fresh) why = refl
refused-entry v (asks.Notice (notices.ReshareRequest id secret with sender_id perms) fresh) why = refl
refused-entry v (asks.Notice (notices.ReshareUndo id secret) fresh) why = refl
refused-entry v (asks.Notice (notices.Changed id secret serial perms) fresh) why = refl
refused-entry v (asks.Dav secret method path body) why = refl
refused-entry v asks.Due why = refl
refused-entry v (asks.Settle number status id) why = refl
refused-entry v (asks.Tick clock) why = refl
refused-entry v (asks.Carry secret from to moving overwrite) why = refl

-- and leaves the lists as they are
pub refused-lists : (st : State) (ask : Ask) (why : Why) → after st ask (Refused why) ≡ st
refused-lists st ask why =
    let P : Bool → Type 0 = λ b. (if b then step st ask (Refused why) else st) ≡ st in
    subst P (sym (refused-entry (view_in st) ask why)) refl
