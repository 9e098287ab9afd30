use Rattle.std.proofs.Common.{◌≡◌, ℕ, ◌≤◌, List, ◌∷◌, Bool, true, false, refl, sym, subst, arith}
use Rattle.std.specs.Prelude.{Option, Some, None, nat_eq, nat_le, nat_lt, ◌&&◌, ◌||◌, not, unwrap_or}
use Rattle.std.specs.Option.{option_map_or, option_or}
use Rattle.std.proofs.lemmas.Bool.{eqb-true, leb-true, le-leb, ltb-true}
use Rattle.ocm_entry.specs.declared.asks.Ask.{Ask}
use Rattle.ocm_entry.specs.declared.asks.Ask.TheVariants as asks
use Rattle.ocm_entry.specs.declared.asks.Cmd.TheVariants as commands
use Rattle.ocm_entry.specs.declared.replies.Reply.{Reply}
use Rattle.ocm_entry.specs.declared.entries.Entry.{Entry}
use Rattle.ocm_entry.specs.declared.rows.Share.{Share}
use Rattle.ocm_rules.specs.Numbers.{is_number, latest}
use Rattle.ocm_rules.specs.Shares.{moment, clock_of, closed_by, is_closed, end_by, until, is_over, goes_on, made}
use Rattle.ocm_rules.specs.Views.{View, is_live_in, share_of_owner}
use Rattle.ocm_rules.specs.Users.{user_of_key}
use Rattle.ocm_rules.specs.Messages.{view_of}
use Rattle.ocm_rules.specs.Answers.{end_reply, local_reply}
use Rattle.ocm_rules.specs.History.{changes_in, answer_kept}
use Rattle.ocm_law_grants.proofs.Links.{both_true, live-goes_on}

-- whether an end has come at a moment
abbrev ended_by : Option ℕ → ℕ → Bool
ended_by end now = option_map_or (λ e. nat_le e now) end false

-- a test does not answer both
not_both : (b : Bool) → b ≡ true → not b ≡ true → ⊥
not_both true h k = cc
not_both false h k = cc

-- an end that has not come by a later moment has not come
not_ended-sooner : (end : Option ℕ) (now later : ℕ) → now ≤ later → not (ended_by end later) ≡ true → not (ended_by end now) ≡ true
not_ended-sooner None now later le h = refl
not_ended-sooner (Some e) now later le h = cases (nat_le e now) refl
  where
    cases : (b : Bool) → nat_le e now ≡ b → not b ≡ true
    cases false k = refl
    cases true k = absurd (let at_now = leb-true e now k in let sooner : nat_le e later ≡ true = le-leb e later (omega arith) in not_both (nat_le e later) sooner h)

-- a test that no more is true is true
neither : (a b c : Bool) → (not (a || b) && not c) ≡ true → (not b ≡ true) × (not c ≡ true)
neither true b c h = absurd (cc)
neither false b c h = both_true (not b) (not c) h

-- an entry that neither ticks nor ends this share at a moment lets it go on only where it went on
goes_on-else : (before : List Entry) (ask : Ask) (reply : Reply) (j : ℕ) → end_by j ask ≡ None → clock_of ask ≡ None → goes_on (record { ask = ask; reply = reply } ∷ before) j ≡ true → goes_on before j ≡ true
goes_on-else before ask reply j no_end no_clock h =
    let P : Option ℕ → Option ℕ → Type 0 = λ o c. (not (is_number j (closed_by ask) || is_closed before j) && not (ended_by (option_or o (until before j)) (unwrap_or (option_or c (latest (λ (x : Entry). clock_of x.ask) before)) 0))) ≡ true in
    let same : P None None = subst (P None) no_clock (subst (λ o. P o (clock_of ask)) no_end h) in
    let r = neither (is_number j (closed_by ask)) (is_closed before j) (is_over before j) same in
    rw (r.0, r.1) refl

-- where an end at a moment was taken, the share was live
end-live : (v : View) (key : List ℕ) (id end : ℕ) (owned : Option Share) (live : Bool) (reply : Reply) → reply ≡ end_reply owned live → changes_in v (asks.Local key (commands.Expire id end)) reply ≡ true → live ≡ true
end-live v key id end owned true reply is h = refl
end-live v key id end None false reply is h =
    let P : Reply → Type 0 = λ r. changes_in v (asks.Local key (commands.Expire id end)) r ≡ true in
    let never = subst P is h in absurd (cc)
end-live v key id end (Some share) false reply is h =
    let P : Reply → Type 0 = λ r. changes_in v (asks.Local key (commands.Expire id end)) r ≡ true in
    let never = subst P is h in absurd (cc)

-- the same of the command
expire-live : (v : View) (key : List ℕ) (user : Option ℕ) (id end : ℕ) (reply : Reply) → reply ≡ local_reply v user (commands.Expire id end) → changes_in v (asks.Local key (commands.Expire id end)) reply ≡ true → is_live_in v id ≡ true
expire-live v key None id end reply is h =
    let P : Reply → Type 0 = λ r. changes_in v (asks.Local key (commands.Expire id end)) r ≡ true in
    let never = subst P is h in absurd (cc)
expire-live v key (Some user) id end reply is h = end-live v key id end (share_of_owner v user id) (is_live_in v id) reply is h

-- a share goes on after a kept entry only where it went on before
pub goes_on-step : (host : List ℕ) (before : List Entry) (ask : Ask) (reply : Reply) (j : ℕ) → reply ≡ answer_kept host before ask → changes_in (view_of host before) ask reply ≡ true → goes_on (record { ask = ask; reply = reply } ∷ before) j ≡ true → goes_on before j ≡ true
goes_on-step host before (asks.AddUser name fresh) reply j is ch h = goes_on-else before (asks.AddUser name fresh) reply j refl refl h
goes_on-step host before (asks.Local key (commands.Share path with perms fresh)) reply j is ch h = goes_on-else before (asks.Local key (commands.Share path with perms fresh)) reply j refl refl h
goes_on-step host before (asks.Local key (commands.Unshare id)) reply j is ch h = goes_on-else before (asks.Local key (commands.Unshare id)) reply j refl refl h
goes_on-step host before (asks.Local key (commands.Limit id perms)) reply j is ch h = goes_on-else before (asks.Local key (commands.Limit id perms)) reply j refl refl h
goes_on-step host before (asks.Local key (commands.Accept number)) reply j is ch h = goes_on-else before (asks.Local key (commands.Accept number)) reply j refl refl h
goes_on-step host before (asks.Local key (commands.Decline number)) reply j is ch h = goes_on-else before (asks.Local key (commands.Decline number)) reply j refl refl h
goes_on-step host before (asks.Local key (commands.Reshare number with perms)) reply j is ch h = goes_on-else before (asks.Local key (commands.Reshare number with perms)) reply j refl refl h
goes_on-step host before (asks.Local key (commands.Undo request)) reply j is ch h = goes_on-else before (asks.Local key (commands.Undo request)) reply j refl refl h
goes_on-step host before (asks.Local key commands.List) reply j is ch h = goes_on-else before (asks.Local key commands.List) reply j refl refl h
goes_on-step host before (asks.Local key (commands.Expire id end)) reply j is ch h = cases (nat_eq id j) refl
  where
    cases : (b : Bool) → nat_eq id j ≡ b → goes_on before j ≡ true
    cases true e =
        let live = expire-live (view_of host before) key (user_of_key (view_of host before).users key) id end reply is ch in
        rw (sym (eqb-true id j e)) (live-goes_on (made host before) (goes_on before) id live)
    cases false e = goes_on-else before (asks.Local key (commands.Expire id end)) reply j (rw e refl) refl h
goes_on-step host before (asks.Offer offer) reply j is ch h = goes_on-else before (asks.Offer offer) reply j refl refl h
goes_on-step host before (asks.Notice notice fresh) reply j is ch h = goes_on-else before (asks.Notice notice fresh) reply j refl refl h
goes_on-step host before (asks.Dav secret method path body) reply j is ch h = goes_on-else before (asks.Dav secret method path body) reply j refl refl h
goes_on-step host before asks.Due reply j is ch h = goes_on-else before asks.Due reply j refl refl h
goes_on-step host before (asks.Settle number status id) reply j is ch h = goes_on-else before (asks.Settle number status id) reply j refl refl h
goes_on-step host before (asks.Carry secret from to moving overwrite) reply j is ch h = goes_on-else before (asks.Carry secret from to moving overwrite) reply j refl refl h
goes_on-step host before (asks.Tick clock) reply j is ch h =
    let P : Reply → Type 0 = λ r. changes_in (view_of host before) (asks.Tick clock) r ≡ true in
    let later : nat_lt (moment before) clock ≡ true = subst P is ch in
    let sooner = ltb-true (moment before) clock later in
    let r = both_true (not (is_closed before j)) _ h in
    rw (r.0, not_ended-sooner (until before j) (moment before) clock (omega arith) r.1) refl
