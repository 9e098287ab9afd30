use Rattle.std.proofs.Common.{◌≡◌, ℕ, List, ◌∷◌, Bool, true, false, ◌&&◌, ◌||◌, not, refl, sym, ap}
use Rattle.std.specs.Prelude.{Option, Some, None, unwrap_or, nat_eq, if◌then◌else◌}
use Rattle.std.specs.Option.{option_or}
use Rattle.ocm_types.specs.declared.letters.Notice.TheVariants as notices
use Rattle.ocm_types.specs.declared.rights.Rights.{Rights}
use Rattle.ocm_entry.specs.declared.asks.Ask.{Ask}
use Rattle.ocm_entry.specs.declared.asks.Ask.TheVariants as asks
use Rattle.ocm_entry.specs.declared.asks.Cmd.TheVariants as commands
use Rattle.ocm_entry.specs.declared.replies.Reply.{Reply}
use Rattle.ocm_entry.specs.declared.entries.Entry.{Entry}
use Rattle.ocm_entry.specs.declared.rows.Share.{Share}
use Rattle.ocm_rules.specs.Numbers.{is_number, latest}
use Rattle.ocm_rules.specs.Shares.{named, is_closed, is_over, goes_on, made, is_live_among, is_live, perms_among, granted_to, limit_by, effective, effective_among}
use Rattle.ocm_rules.specs.Views.{is_live_without, effective_with}
use Rattle.ocm_rules.specs.Messages.{view_of}
use Rattle.ocm_rules.proofs.Searches.{some-same}
use Rattle.std.proofs.lemmas.Cmp.{nat_eq_equiv}

-- the two ways to say that a link was not closed
both_ways : (a b c : Bool) → ((not b && not c) && not a) ≡ (not (a || b) && not c)
both_ways true true c = refl
both_ways true false true = refl
both_ways true false false = refl
both_ways false true c = refl
both_ways false false true = refl
both_ways false false false = refl

-- tests that are the same at each number
live-alike : (ms : List Share) (p q : ℕ → Bool) → ((i : ℕ) → p i ≡ q i) → (i : ℕ) → is_live_among ms p i ≡ is_live_among ms q i
live-alike ms p q h i = ap (λ on. is_live_among ms on i) (λ j k. h k j)

-- the shares that an unshare leaves live are those that are live after it
pub unshare-leaves : (host : List ℕ) (before : List Entry) (key : List ℕ) (closed : ℕ) (reply : Reply) (i : ℕ)
    → is_live_without (view_of host before) closed i ≡ is_live host (record { ask = asks.Local key (commands.Unshare closed); reply = reply } ∷ before) i
unshare-leaves host before key closed reply i =
    live-alike (made host before) _ (goes_on (record { ask = asks.Local key (commands.Unshare closed); reply = reply } ∷ before))
    (λ link. both_ways (nat_eq link closed) (is_closed before link) (is_over before link)) i

-- and so it is at a notice that names the share
noticed-leaves : (host : List ℕ) (before : List Entry) (ask : Ask) (reply : Reply) (closed : ℕ) (number : Option ℕ) → number ≡ Some closed
    → (i : ℕ) → is_live_among (made host before) (λ link. goes_on before link && not (nat_eq link closed)) i ≡ is_live_among (made host before) (λ link. not (is_number link number || is_closed before link) && not (is_over before link)) i
noticed-leaves host before ask reply closed None e i = absurd (cc)
noticed-leaves host before ask reply closed (Some k) e i =
    live-alike (made host before) _ _ (λ link. rw (sym (some-same k closed e)) (both_ways (nat_eq link k) (is_closed before link) (is_over before link))) i

pub decline-leaves : (host : List ℕ) (before : List Entry) (id secret fresh : List ℕ) (closed : ℕ) (reply : Reply) → named id ≡ Some closed → (i : ℕ)
    → is_live_without (view_of host before) closed i ≡ is_live host (record { ask = asks.Notice (notices.Declined id secret) fresh; reply = reply } ∷ before) i
decline-leaves host before id secret fresh closed reply h i = noticed-leaves host before (asks.Notice (notices.Declined id secret) fresh) reply closed (named id) h i

pub undo-leaves : (host : List ℕ) (before : List Entry) (id secret fresh : List ℕ) (closed : ℕ) (reply : Reply) → named id ≡ Some closed → (i : ℕ)
    → is_live_without (view_of host before) closed i ≡ is_live host (record { ask = asks.Notice (notices.ReshareUndo id secret) fresh; reply = reply } ∷ before) i
undo-leaves host before id secret fresh closed reply h i = noticed-leaves host before (asks.Notice (notices.ReshareUndo id secret) fresh) reply closed (named id) h i

-- what the guests of shares may do once a share is limited is what they may do after the limit
pub limit-leaves : (host : List ℕ) (before : List Entry) (key : List ℕ) (limited : ℕ) (perms : Rights) (reply : Reply) (i : ℕ)
    → effective_with (view_of host before) limited perms i ≡ effective host (record { ask = asks.Local key (commands.Limit limited perms); reply = reply } ∷ before) i
limit-leaves host before key limited perms reply i = ap (λ rights. effective_among (made host before) rights i) (λ j link. same link j)
  where
    by_test : (link : ℕ) (b c : Bool) → b ≡ c → (if b then perms else perms_among (made host before) before link) ≡ unwrap_or (option_or (if c then Some perms else None) (latest (λ (e : Entry). limit_by link e.ask) before)) (granted_to (made host before) link)
    by_test link true true e = refl
    by_test link false false e = refl
    by_test link true false e = absurd (cc)
    by_test link false true e = absurd (cc)

    same : (link : ℕ) → (if nat_eq link limited then perms else perms_among (made host before) before link) ≡ perms_among (made host before) (record { ask = asks.Local key (commands.Limit limited perms); reply = reply } ∷ before) link
    same link = by_test link (nat_eq link limited) (nat_eq limited link) (nat_eq_equiv.symm link limited)
