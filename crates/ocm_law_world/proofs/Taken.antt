-- Who answers an acceptance with yes has made the share that it tells of.
use Rattle.std.proofs.Common.{◌≡◌, ℕ, List, Bool, true, false, refl, subst}
use Rattle.std.specs.Prelude.{Option, Some, None, not, ◌||◌, if◌then◌else◌, option_map, option_and_then}
use mathlib.Core.Logic.{inl, inr}
use Rattle.ocm_types.specs.declared.addresses.Address.{Address}
use Rattle.ocm_types.specs.declared.letters.Offer.{Offer}
use Rattle.ocm_types.specs.declared.letters.Notice.TheVariants as notices
use Rattle.ocm_types.specs.declared.rights.Rights.{Rights}
use Rattle.ocm_types.specs.Rights.{is_within}
use Rattle.ocm_entry.specs.declared.asks.Ask.TheVariants as asks
use Rattle.ocm_entry.specs.declared.entries.Entry.{Entry}
use Rattle.ocm_entry.specs.declared.refusals.Why.TheVariants.{ShareClosed, NotPermitted}
use Rattle.ocm_entry.specs.declared.replies.Reply.{Reply}
use Rattle.ocm_entry.specs.declared.replies.Reply.TheVariants as replies
use Rattle.ocm_entry.specs.declared.rows.Share.{Share}
use Rattle.ocm_rules.specs.Numbers.{at_number}
use Rattle.ocm_rules.specs.Equal.{same_address}
use Rattle.ocm_rules.specs.Shares.{named, address_of, has_secret}
use Rattle.ocm_rules.specs.Settlements.{is_success}
use Rattle.ocm_rules.specs.Views.{View, is_live_in}
use Rattle.ocm_rules.specs.Messages.{view_of}
use Rattle.ocm_rules.specs.Answers.{refused, numbered_share, share_with, fails, accepted_reply}
use Rattle.ocm_rules.specs.History.{kept, is_failure, IsGiven}
use Rattle.ocm_rules.proofs.Lists.{not_both}
use Rattle.ocm_rules.proofs.Searches.{neither, some-same}
use Rattle.ocm_entry.specs.Deliveries.{delivered_status}
use Rattle.ocm_law_world.specs.Guests.{Makes}
use Rattle.ocm_law_world.proofs.Texts.{text-equal, address-equal}

not_false : (b : Bool) → not b ≡ false → b ≡ true
not_false true h = refl
not_false false h = absurd (cc)

-- ---- the share that is named, with its secret

-- a share that is found so
abbrev IsFound : View → List ℕ → List ℕ → ℕ → Share → Type 0
IsFound v id secret i share = (named id ≡ Some i) × (at_number v.shares i ≡ Some share) × (share.secret ≡ secret)

abbrev picked : Bool → ℕ × Share → Option (ℕ × Share)
picked b pair = if b then Some pair else None

abbrev tested : List ℕ → Option (ℕ × Share) → Option (ℕ × Share)
tested secret o = option_and_then (λ (pair : ℕ × Share). picked (has_secret secret pair.1) pair) o

found : (v : View) (id secret : List ℕ) (i : ℕ) (share : Share) → share_with v id secret ≡ Some (i, share) → IsFound v id secret i share
found v id secret i share h = by_name (named id) refl h
  where
    by_secret : (k : ℕ) (m : Share) → named id ≡ Some k → at_number v.shares k ≡ Some m → (b : Bool) → has_secret secret m ≡ b
        → picked b (k, m) ≡ Some (i, share) → IsFound v id secret i share
    by_secret k m e f true s g =
        let pair : (let p : ℕ × Share = (k, m) in p) ≡ (i, share) = some-same (k, m) (i, share) g in
        let P : ℕ × Share → Type 0 = λ p. IsFound v id secret p.0 p.1 in
        subst P pair (e, f, text-equal m.secret secret s)
    by_secret k m e f false s g = absurd (cc)

    by_share : (k : ℕ) → named id ≡ Some k → (o : Option Share) → at_number v.shares k ≡ o → tested secret (option_map (λ (m : Share). (k, m)) o) ≡ Some (i, share) → IsFound v id secret i share
    by_share k e None f g = absurd (cc)
    by_share k e (Some m) f g = by_secret k m e f (has_secret secret m) refl g

    by_name : (o : Option ℕ) → named id ≡ o → tested secret (option_and_then (numbered_share v) o) ≡ Some (i, share) → IsFound v id secret i share
    by_name None e g = absurd (cc)
    by_name (Some k) e g = by_share k e (at_number v.shares k) refl g

-- ---- the answer to an acceptance

-- an acceptance that is answered yes failed no test
no_fault : (live bad : Bool) → is_success (delivered_status (if not live then refused ShareClosed else (if bad then refused NotPermitted else replies.Noticed))) ≡ true → bad ≡ false
no_fault true true h = absurd (cc)
no_fault true false h = refl
no_fault false bad h = absurd (cc)

taken-share : (v : View) (offer : Offer) (i : ℕ) (share : Share) → IsFound v offer.id offer.secret i share
    → is_success (delivered_status (accepted_reply v (Some (i, share)) (Some offer.owner) (Some offer.with) (Some offer.perms))) ≡ true → Makes v offer
taken-share v offer i share is well =
    let owner : Address → Bool = same_address (address_of v.host v.users share.owner) in
    let rights : Rights → Bool = λ p. is_within p share.granted in
    let none = no_fault (is_live_in v i) (fails owner (Some offer.owner) || fails (same_address share.with) (Some offer.with) || fails rights (Some offer.perms)) well in
    let first = neither (fails owner (Some offer.owner) || fails (same_address share.with) (Some offer.with)) (fails rights (Some offer.perms)) none in
    let rest = neither (fails owner (Some offer.owner)) (fails (same_address share.with) (Some offer.with)) first.0 in
    record {
      id = i;
      share = share;
      named = is.0;
      made = is.1;
      owner = address-equal (address_of v.host v.users share.owner) offer.owner (not_false _ rest.0);
      guest = address-equal share.with offer.with (not_false _ rest.1);
      secret = is.2;
      perms = not_false _ first.1;
    }

taken-by_rules : (v : View) (offer : Offer) → is_success (delivered_status (accepted_reply v (share_with v offer.id offer.secret) (Some offer.owner) (Some offer.with) (Some offer.perms))) ≡ true → Makes v offer
taken-by_rules v offer well = by_share (share_with v offer.id offer.secret) refl well
  where
    by_share : (o : Option (ℕ × Share)) → share_with v offer.id offer.secret ≡ o → is_success (delivered_status (accepted_reply v o (Some offer.owner) (Some offer.with) (Some offer.perms))) ≡ true → Makes v offer
    by_share None e h = absurd (cc)
    by_share (Some (i, share)) e h = taken-share v offer i share (found v offer.id offer.secret i share e) h

-- who could not do it does not answer yes
failure-status : (reply : Reply) → is_failure reply ≡ true → is_success (delivered_status reply) ≡ false
failure-status replies.JournalFull h = refl
failure-status replies.NoMemory h = refl
failure-status (replies.DiskFault count) h = refl
failure-status (replies.Stopped count) h = refl
failure-status _ h = absurd (cc)

-- the owner's server compared owner, recipient, secret and permissions of an acceptance that it answered yes
pub taken : (host : List ℕ) (g : List Entry) (offer : Offer) (fresh : List ℕ) (reply : Reply)
    → IsGiven host g (record { ask = asks.Notice (notices.Accepted offer.id offer.secret (Some offer.owner) (Some offer.with) (Some offer.perms)) fresh; reply = reply })
    → is_success (delivered_status reply) ≡ true → Makes (view_of host (kept host g)) offer
taken host g offer fresh reply (inl is) well =
    taken-by_rules (view_of host (kept host g)) offer (let P : Reply → Type 0 = λ r. is_success (delivered_status r) ≡ true in subst P is well)
taken host g offer fresh reply (inr failed) well = absurd (not_both _ well (failure-status reply failed))
