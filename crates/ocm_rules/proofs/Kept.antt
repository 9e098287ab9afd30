use Rattle.std.proofs.Common.{◌≡◌, ℕ, List, [], ◌∷◌, Bool, true, false, refl}
use Rattle.std.specs.Prelude.{if◌then◌else◌}
use mathlib.Core.Logic.{inl, inr}
use Rattle.ocm_types.specs.declared.letters.Notice.{Notice}
use Rattle.ocm_types.specs.declared.letters.Notice.TheVariants as notices
use Rattle.ocm_entry.specs.declared.asks.Ask.{Ask}
use Rattle.ocm_entry.specs.declared.asks.Ask.TheVariants as asks
use Rattle.ocm_entry.specs.declared.replies.Reply.{Reply}
use Rattle.ocm_entry.specs.declared.replies.Reply.TheVariants as replies
use Rattle.ocm_entry.specs.declared.entries.Entry.{Entry}
use Rattle.ocm_rules.specs.Views.{View}
use Rattle.ocm_rules.proofs.Lists.{not_both}
use Rattle.ocm_rules.specs.Messages.{view_of}
use Rattle.ocm_rules.specs.History.{kept, changes, changes_in, notice_changes, is_failure, IsGiven, IsLegal, IsAnswered}

-- what is kept of a history is kept of it again
pub kept-kept : (host : List ℕ) (g : List Entry) → kept host (kept host g) ≡ kept host g
kept-kept host [] = refl
kept-kept host (e ∷ before) = cases (kept-kept host before) (changes host (kept host before) e) refl
  where
    goal : Bool → Type 0
    goal b = kept host (if b then e ∷ kept host before else kept host before) ≡ (if b then e ∷ kept host before else kept host before)

    cases : kept host (kept host before) ≡ kept host before → (b : Bool) → changes host (kept host before) e ≡ b → goal b
    cases again true h = rw (again, h) refl
    cases again false h = again

-- a notice of which the server tells that it could not take it changes nothing
notice-failure : (v : View) (notice : Notice) (reply : Reply) → is_failure reply ≡ true → notice_changes v notice reply ≡ false
notice-failure v (notices.Declined id secret) replies.Noticed h = absurd (cc)
notice-failure v (notices.Declined id secret) _ h = refl
notice-failure v (notices.ReshareUndo id secret) replies.Noticed h = absurd (cc)
notice-failure v (notices.ReshareUndo id secret) _ h = refl
notice-failure v (notices.ReshareRequest id secret with sender_id perms) (replies.Child n) h = absurd (cc)
notice-failure v (notices.ReshareRequest id secret with sender_id perms) _ h = refl
notice-failure v (notices.Unshared id secret) replies.Noticed h = absurd (cc)
notice-failure v (notices.Unshared id secret) _ h = refl
notice-failure v (notices.Changed id secret serial perms) replies.Noticed h = absurd (cc)
notice-failure v (notices.Changed id secret serial perms) _ h = refl
notice-failure v (notices.Accepted id secret owner with perms) _ h = refl

-- an ask of which the server tells that it could not do it changes nothing
pub failure-changes : (v : View) (ask : Ask) (reply : Reply) → is_failure reply ≡ true → changes_in v ask reply ≡ false
failure-changes v (asks.AddUser name fresh) (replies.Key key) h = absurd (cc)
failure-changes v (asks.AddUser name fresh) _ h = refl
failure-changes v (asks.Local key cmd) (replies.Number number) h = absurd (cc)
failure-changes v (asks.Local key cmd) replies.Done h = absurd (cc)
failure-changes v (asks.Local key cmd) _ h = refl
failure-changes v (asks.Offer offer) (replies.Recipient user) h = absurd (cc)
failure-changes v (asks.Offer offer) _ h = refl
failure-changes v (asks.Notice notice fresh) reply h = notice-failure v notice reply h
failure-changes v (asks.Dav secret method path body) replies.Created h = absurd (cc)
failure-changes v (asks.Dav secret method path body) replies.Replaced h = absurd (cc)
failure-changes v (asks.Dav secret method path body) replies.Removed h = absurd (cc)
failure-changes v (asks.Dav secret method path body) _ h = refl
failure-changes v asks.Due reply h = refl
failure-changes v (asks.Settle number status id) replies.Done h = absurd (cc)
failure-changes v (asks.Settle number status id) _ h = refl
failure-changes v (asks.Tick clock) replies.Done h = absurd (cc)
failure-changes v (asks.Tick clock) _ h = refl
failure-changes v (asks.Carry secret from to moving overwrite) replies.Created h = absurd (cc)
failure-changes v (asks.Carry secret from to moving overwrite) replies.Replaced h = absurd (cc)
failure-changes v (asks.Carry secret from to moving overwrite) _ h = refl

-- of a legal history, each kept entry changed something and has the reply that the rules give after the kept ones before it
pub kept-answered : (host : List ℕ) (g : List Entry) → IsLegal host g → IsAnswered host (kept host g)
kept-answered host [] legal = tt
kept-answered host (e ∷ before) legal = cases (kept-answered host before legal.1) (changes host (kept host before) e) refl legal.0
  where
    goal : Bool → Type 0
    goal b = IsAnswered host (if b then e ∷ kept host before else kept host before)

    cases : IsAnswered host (kept host before) → (b : Bool) → changes host (kept host before) e ≡ b → IsGiven host before e → goal b
    cases older true h (inl answered) = (answered, h, older)
    cases older true h (inr failed) = absurd (not_both (changes host (kept host before) e) h (failure-changes (view_of host (kept host before)) e.ask e.reply failed))
    cases older false h given = older
