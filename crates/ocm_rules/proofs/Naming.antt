use Rattle.std.proofs.Common.{◌≡◌, ℕ, List, Bool, true, false, not, refl, sym, subst, eqb-true}
use Rattle.std.specs.Prelude.{Option, Some, None, nat_eq, if◌then◌else◌}
use Rattle.std.specs.Option.{option_map_or}
use Rattle.ocm_types.specs.declared.addresses.Address.{Address}
use Rattle.ocm_types.specs.declared.letters.Notice.TheVariants as notices
use Rattle.ocm_types.specs.declared.rights.Rights.{Rights}
use Rattle.ocm_entry.specs.declared.asks.Ask.{Ask}
use Rattle.ocm_entry.specs.declared.asks.Ask.TheVariants as asks
use Rattle.ocm_entry.specs.declared.asks.Cmd.TheVariants as commands
use Rattle.ocm_rules.specs.declared.rows.Message.{Message}
use Rattle.ocm_rules.specs.Numbers.{at_number, is_number}
use Rattle.ocm_rules.specs.Users.{user_of_key}
use Rattle.ocm_rules.specs.Shares.{named, closed_by, end_by, limit_by}
use Rattle.ocm_rules.specs.Settlements.{settled_by, settles}
use Rattle.ocm_rules.specs.Offers.{declines, accepts, is_pending}
use Rattle.ocm_rules.specs.Requests.{undoes}
use Rattle.ocm_types.specs.declared.letters.Offer.{Offer}
use Rattle.ocm_entry.specs.declared.replies.Reply.TheVariants as replies
use Rattle.ocm_rules.specs.Views.{View, is_live_in, record_of_user}
use Rattle.ocm_rules.specs.Answers.{reply_in, local_reply, noticed_if, phase_reply, settle_reply}
use Rattle.ocm_rules.specs.History.{changes_in, is_live_named}
use Rattle.ocm_rules.proofs.Lists.{not_both}

-- numbers that are not the same do not compare equal
not_named : (a b : ℕ) → (a ≡ b → ⊥) → nat_eq a b ≡ false
not_named a b h = by_test (nat_eq a b) refl
  where
    by_test : (r : Bool) → nat_eq a b ≡ r → r ≡ false
    by_test true e = absurd (h (eqb-true a b e))
    by_test false e = refl

-- ---- commands about what is not there change nothing

unshare-nothing : (v : View) (key : List ℕ) (id : ℕ) (user : Option ℕ) → at_number v.shares id ≡ None → changes_in v (asks.Local key (commands.Unshare id)) (local_reply v user (commands.Unshare id)) ≡ false
unshare-nothing v key id None h = refl
unshare-nothing v key id (Some user) h = rw h refl

limit-nothing : (v : View) (key : List ℕ) (id : ℕ) (perms : Rights) (user : Option ℕ) → at_number v.shares id ≡ None → changes_in v (asks.Local key (commands.Limit id perms)) (local_reply v user (commands.Limit id perms)) ≡ false
limit-nothing v key id perms None h = refl
limit-nothing v key id perms (Some user) h = rw h refl

expire-nothing : (v : View) (key : List ℕ) (id until : ℕ) (user : Option ℕ) → at_number v.shares id ≡ None → changes_in v (asks.Local key (commands.Expire id until)) (local_reply v user (commands.Expire id until)) ≡ false
expire-nothing v key id until None h = refl
expire-nothing v key id until (Some user) h = rw h refl

pub accept-nothing : (v : View) (key : List ℕ) (n : ℕ) (user : Option ℕ) → at_number v.offers n ≡ None → changes_in v (asks.Local key (commands.Accept n)) (local_reply v user (commands.Accept n)) ≡ false
accept-nothing v key n None h = refl
accept-nothing v key n (Some user) h = rw h refl

decline-nothing : (v : View) (key : List ℕ) (n : ℕ) (user : Option ℕ) → at_number v.offers n ≡ None → changes_in v (asks.Local key (commands.Decline n)) (local_reply v user (commands.Decline n)) ≡ false
decline-nothing v key n None h = refl
decline-nothing v key n (Some user) h = rw h refl

pub reshare-nothing : (v : View) (key : List ℕ) (n : ℕ) (with : Address) (perms : Option Rights) (user : Option ℕ) → at_number v.offers n ≡ None → changes_in v (asks.Local key (commands.Reshare n with perms)) (local_reply v user (commands.Reshare n with perms)) ≡ false
reshare-nothing v key n with perms None h = refl
reshare-nothing v key n with perms (Some user) h = rw h refl

undo-nothing : (v : View) (key : List ℕ) (r : ℕ) (user : Option ℕ) → at_number v.requests r ≡ None → changes_in v (asks.Local key (commands.Undo r)) (local_reply v user (commands.Undo r)) ≡ false
undo-nothing v key r None h = refl
undo-nothing v key r (Some user) h = rw h refl

settle-nothing : (v : View) (m status : ℕ) (id : Option (List ℕ)) → at_number v.messages m ≡ None → changes_in v (asks.Settle m status id) (reply_in v (asks.Settle m status id)) ≡ false
settle-nothing v m status id h = rw h refl

-- a share that is not there is not live
live-there : (v : View) (i : ℕ) → is_live_in v i ≡ true → at_number v.shares i ≡ None → ⊥
live-there v i live none = let bad = rw none at live in cc

-- ---- what changes something names what is there

-- the number that an ask names, where what is said of a number that is not there is false
abbrev Unnamed : {X : Type 0} → List X → ℕ → Type 0
Unnamed xs i = at_number xs i ≡ None

not_this : {X : Type 0} (xs : List X) (f : Bool) (id i : ℕ) → (at_number xs id ≡ None → f ≡ false) → f ≡ true → Unnamed xs i → id ≡ i → ⊥
not_this xs f id i nothing h none e = not_both f h (nothing (subst (λ k. at_number xs k ≡ None) (sym e) none))

-- a notice that ends a share and changes something names a live one
end-live : (v : View) (id secret fresh : List ℕ) (b : Bool) → changes_in v (asks.Notice (notices.Declined id secret) fresh) (noticed_if b) ≡ true → is_live_named v id ≡ true
end-live v id secret fresh true h = h
end-live v id secret fresh false h = absurd (cc)

undo-live : (v : View) (id secret fresh : List ℕ) (b : Bool) → changes_in v (asks.Notice (notices.ReshareUndo id secret) fresh) (noticed_if b) ≡ true → is_live_named v id ≡ true
undo-live v id secret fresh true h = h
undo-live v id secret fresh false h = absurd (cc)

not_ended : (v : View) (i : ℕ) → Unnamed v.shares i → (number : Option ℕ) → option_map_or (is_live_in v) number false ≡ true → is_number i number ≡ false
not_ended v i none None h = refl
not_ended v i none (Some k) h = not_named i k (λ e. live-there v k h (subst (λ j. at_number v.shares j ≡ None) e none))

-- an ask that changes something does nothing to a share that is not there
pub unnamed_share : (v : View) (ask : Ask) → changes_in v ask (reply_in v ask) ≡ true → (i : ℕ) → at_number v.shares i ≡ None
    → (limit_by i ask ≡ None) × (is_number i (closed_by ask) ≡ false) × (end_by i ask ≡ None)
unnamed_share v (asks.Local key (commands.Unshare id)) h i none =
    (refl, not_named i id (λ e. not_this v.shares _ id i (unshare-nothing v key id (user_of_key v.users key)) h none (sym e)), refl)
unnamed_share v (asks.Local key (commands.Limit id perms)) h i none =
    (rw (not_named id i (not_this v.shares _ id i (limit-nothing v key id perms (user_of_key v.users key)) h none)) refl, refl, refl)
unnamed_share v (asks.Local key (commands.Expire id until)) h i none =
    (refl, refl, rw (not_named id i (not_this v.shares _ id i (expire-nothing v key id until (user_of_key v.users key)) h none)) refl)
unnamed_share v (asks.Notice (notices.Declined id secret) fresh) h i none = (refl, not_ended v i none (named id) (end-live v id secret fresh _ h), refl)
unnamed_share v (asks.Notice (notices.ReshareUndo id secret) fresh) h i none = (refl, not_ended v i none (named id) (undo-live v id secret fresh _ h), refl)
unnamed_share v _ h i none = (refl, refl, refl)

-- and nothing to a record that is not there
pub unnamed_record : (v : View) (ask : Ask) → changes_in v ask (reply_in v ask) ≡ true → (n : ℕ) → at_number v.offers n ≡ None → (declines n ask ≡ false) × (accepts n ask ≡ false)
unnamed_record v (asks.Local key (commands.Accept number)) h n none =
    (refl, not_named number n (not_this v.offers _ number n (accept-nothing v key number (user_of_key v.users key)) h none))
unnamed_record v (asks.Local key (commands.Decline number)) h n none =
    (not_named number n (not_this v.offers _ number n (decline-nothing v key number (user_of_key v.users key)) h none), refl)
unnamed_record v _ h n none = (refl, refl)

-- and nothing to a request that is not there
pub unnamed_request : (v : View) (ask : Ask) → changes_in v ask (reply_in v ask) ≡ true → (r : ℕ) → at_number v.requests r ≡ None → undoes r ask ≡ false
unnamed_request v (asks.Local key (commands.Undo request)) h r none = not_named request r (not_this v.requests _ request r (undo-nothing v key request (user_of_key v.users key)) h none)
unnamed_request v _ h r none = refl

-- and nothing to a message that is not there
pub unnamed_message : (v : View) (ask : Ask) → changes_in v ask (reply_in v ask) ≡ true → (m : ℕ) → at_number v.messages m ≡ None → settled_by m ask ≡ None
unnamed_message v (asks.Settle number status id) h m none = rw (not_named number m (not_this v.messages _ number m (settle-nothing v number status id) h none)) refl
unnamed_message v _ h m none = refl

-- ---- what else is known of an ask that changes something

pub pending_where_accepted : (v : View) (key : List ℕ) (n : ℕ) (user : Option ℕ) → changes_in v (asks.Local key (commands.Accept n)) (local_reply v user (commands.Accept n)) ≡ true → is_pending (v.phase n) ≡ true
pending_where_accepted v key n None h = absurd (cc)
pending_where_accepted v key n (Some user) h = by_case (record_of_user v user n) (is_pending (v.phase n)) h
  where
    by_case : (o : Option Offer) (b : Bool) → changes_in v (asks.Local key (commands.Accept n)) (phase_reply o b) ≡ true → b ≡ true
    by_case None b h = absurd (cc)
    by_case (Some x) true h = refl
    by_case (Some x) false h = absurd (cc)

not-true : (b : Bool) → not b ≡ true → b ≡ false
not-true true h = absurd (cc)
not-true false h = refl

pub unsettled_before : (v : View) (number status : ℕ) (id : Option (List ℕ)) → changes_in v (asks.Settle number status id) (reply_in v (asks.Settle number status id)) ≡ true → v.is_settled number ≡ false
unsettled_before v number status id h = by_case (at_number v.messages number) (v.is_settled number) h
  where
    by_case : (o : Option Message) (b : Bool) → changes_in v (asks.Settle number status id) (settle_reply o b status id) ≡ true → v.is_settled number ≡ false
    by_case None b h = absurd (cc)
    by_case (Some m) true h = not-true _ h
    by_case (Some m) false h = by_status (settles m.letter status id) h
      where
        by_status : (c : Bool) → changes_in v (asks.Settle number status id) (if c then replies.Done else replies.Left) ≡ true → v.is_settled number ≡ false
        by_status true h = not-true _ h
        by_status false h = absurd (cc)
