use Rattle.std.proofs.Common.{◌≡◌, ℕ, List, Bool, true, false, not, ◌||◌, Option, Some, None, refl, sym, ap, ◌∙◌, if◌then◌else◌, nat_lt, length, is_some, option_map}
use Rattle.std.specs.Option.{option_map_or}
use Rattle.ocm_texts.specs.Hex.{hex}
use Rattle.ocm_types.specs.declared.addresses.Address.{Address}
use Rattle.ocm_types.specs.declared.letters.Notice.TheVariants as notices
use Rattle.ocm_types.specs.declared.rights.Rights.{Rights}
use Rattle.ocm_types.specs.Rights.{is_within}
use Rattle.ocm_entry.specs.declared.asks.Ask.TheVariants.{Notice}
use Rattle.ocm_entry.specs.declared.replies.Reply.{Reply}
use Rattle.ocm_entry.specs.declared.replies.Reply.TheVariants.{Noticed}
use Rattle.ocm_entry.specs.declared.refusals.Why.TheVariants.{Collision, NotPermitted, ShareClosed, UnknownShare}
use Rattle.ocm_entry.specs.declared.rows.Share.{Share}
use Rattle.ocm_entry.specs.declared.rows.User.{User}
use Rattle.ocm_rules.specs.Equal.{same_address}
use Rattle.ocm_rules.specs.Numbers.{at_number}
use Rattle.ocm_rules.specs.Shares.{address_of, named}
use Rattle.ocm_rules.specs.Views.{View, is_live_in}
use Rattle.ocm_rules.specs.History.{is_live_named}
use Rattle.ocm_rules.specs.Answers.{accepted_reply, fails, is_child_of, is_received, noticed_if, refused, reply_in, request_reply, repeated_reply, first_reply, child_for, is_for_request, share_with}
use Rattle.ocm_plan_peers.proofs.ListRows.{found-before}
use Rattle.ocm_plan_peers.proofs.NamedShares.{shared-some}
use Rattle.ocm_plan_peers.proofs.Children.{name-found}

-- the share that is named, with its secret and this row
pub shared-is : (v : View) (id secret : List ℕ) (n : ℕ) (share : Share) → Some n ≡ option_map (λ (p : ℕ × Share). p.0) (share_with v id secret) → at_number v.shares n ≡ Some share → share_with v id secret ≡ Some (n, share)
shared-is v id secret n share e there =
    let found = shared-some v id secret n e in
    let same : found.0 ≡ share = one-row (at_number v.shares n) found.0 share (sym found.3) there in
    found.1 ∙ ap (λ (s : Share). Some (n, s)) same
  where
    one-row : (o : Option Share) (x y : Share) → Some x ≡ o → o ≡ Some y → x ≡ y
    one-row None x y e f = absurd (cc)
    one-row (Some z) x y e f = let first : x ≡ z = cc in let second : z ≡ y = cc in first ∙ second

-- ---- that a guest took a share

-- the reply, by the share that is found
pub accepted-by : (v : View) (id secret : List ℕ) (owner with : Option Address) (perms : Option Rights) (fresh : List ℕ) (o : Option (ℕ × Share)) → share_with v id secret ≡ o
    → accepted_reply v o owner with perms ≡ reply_in v (Notice (notices.Accepted id secret owner with perms) fresh)
accepted-by v id secret owner with perms fresh o e = ap (λ found. accepted_reply v found owner with perms) (sym e)

pub accepted-closed : (v : View) (i : ℕ) (share : Share) (owner with : Option Address) (perms : Option Rights) → is_live_in v i ≡ false → refused ShareClosed ≡ accepted_reply v (Some (i, share)) owner with perms
accepted-closed v i share owner with perms e = rw e refl

by_offer : (x b : Bool) → b ≡ not x → b ≡ false → refused NotPermitted ≡ (if x then refused NotPermitted else Noticed)
by_offer true b e f = refl
by_offer false b e f = absurd (cc)

as_offer : (x b : Bool) → b ≡ not x → b ≡ true → Noticed ≡ (if x then refused NotPermitted else Noticed)
as_offer true b e f = absurd (cc)
as_offer false b e f = refl

offered_by : (v : View) (share : Share) (name : List ℕ) (owner with : Option Address) (perms : Option Rights) → Bool
offered_by v share name owner with perms = fails (same_address (record { user = name; host = v.host })) owner || fails (same_address share.with) with || fails (λ p. is_within p share.granted) perms

pub accepted-other : (v : View) (i : ℕ) (share : Share) (user : User) (owner with : Option Address) (perms : Option Rights) (b : Bool) → is_live_in v i ≡ true → at_number v.users share.owner ≡ Some user
    → b ≡ not (fails (same_address (record { user = user.name; host = v.host })) owner || fails (same_address share.with) with || fails (λ p. is_within p share.granted) perms) → b ≡ false
    → refused NotPermitted ≡ accepted_reply v (Some (i, share)) owner with perms
unfolding offered_by
accepted-other v i share user owner with perms b live owned e f =
    let name = name-found v.users share.owner user owned in
    rw live (by_offer (fails (same_address (address_of v.host v.users share.owner)) owner || fails (same_address share.with) with || fails (λ p. is_within p share.granted) perms) b (e ∙ ap (λ n. not (offered_by v share n owner with perms)) name) f)

pub accepted-same : (v : View) (i : ℕ) (share : Share) (user : User) (owner with : Option Address) (perms : Option Rights) (b : Bool) → is_live_in v i ≡ true → at_number v.users share.owner ≡ Some user
    → b ≡ not (fails (same_address (record { user = user.name; host = v.host })) owner || fails (same_address share.with) with || fails (λ p. is_within p share.granted) perms) → b ≡ true
    → Noticed ≡ accepted_reply v (Some (i, share)) owner with perms
unfolding offered_by
accepted-same v i share user owner with perms b live owned e f =
    let name = name-found v.users share.owner user owned in
    rw live (as_offer (fails (same_address (address_of v.host v.users share.owner)) owner || fails (same_address share.with) with || fails (λ p. is_within p share.granted) perms) b (e ∙ ap (λ n. not (offered_by v share n owner with perms)) name) f)

-- ---- the ends of shares

pub declined-by : (v : View) (id secret fresh : List ℕ) (o : Option (ℕ × Share)) → share_with v id secret ≡ o → noticed_if (is_some o) ≡ reply_in v (Notice (notices.Declined id secret) fresh)
declined-by v id secret fresh o e = ap (λ found. noticed_if (is_some found)) (sym e)

pub undone-by : (v : View) (id secret fresh : List ℕ) (b : Bool) → is_child_of v id secret ≡ b → noticed_if b ≡ reply_in v (Notice (notices.ReshareUndo id secret) fresh)
undone-by v id secret fresh b e = ap noticed_if (sym e)

pub live-named : (v : View) (id : List ℕ) (n : ℕ) (b : Bool) → named id ≡ Some n → is_live_in v n ≡ b → is_live_named v id ≡ b
live-named v id n b e live = ap (λ o. option_map_or (is_live_in v) o false) e ∙ live

-- ---- news

pub unshared-by : (v : View) (id secret fresh : List ℕ) (b : Bool) → is_received v id secret ≡ b → noticed_if b ≡ reply_in v (Notice (notices.Unshared id secret) fresh)
unshared-by v id secret fresh b e = ap noticed_if (sym e)

pub changed-by : (v : View) (id secret : List ℕ) (serial : ℕ) (perms : Rights) (fresh : List ℕ) (b : Bool) → is_received v id secret ≡ b → noticed_if b ≡ reply_in v (Notice (notices.Changed id secret serial perms) fresh)
changed-by v id secret serial perms fresh b e = ap noticed_if (sym e)

-- ---- requests

-- the drawn secret was used before
pub drawn-before : (used : Bool) (reply other : Reply) → used ≡ true → reply ≡ (if used then refused Collision else other) → refused Collision ≡ reply
drawn-before true reply other e f = sym f
drawn-before false reply other e f = absurd (cc)

pub request-unknown : (v : View) (id secret : List ℕ) (with : Address) (sender_id : List ℕ) (asked : Option Rights) (fresh : List ℕ) → share_with v id secret ≡ None
    → refused UnknownShare ≡ reply_in v (Notice (notices.ReshareRequest id secret with sender_id asked) fresh)
request-unknown v id secret with sender_id asked fresh e = ap (λ found. request_reply v found with sender_id asked (hex fresh)) (sym e)

-- the reply, by the child that is found
pub request-by : (v : View) (id secret : List ℕ) (with : Address) (sender_id : List ℕ) (asked : Option Rights) (fresh : List ℕ) (parent : ℕ) (share : Share) (o : Option ℕ) → share_with v id secret ≡ Some (parent, share) → child_for v parent sender_id ≡ o
    → reply_in v (Notice (notices.ReshareRequest id secret with sender_id asked) fresh) ≡ option_map_or (λ n. repeated_reply n (at_number v.shares n) with asked) o (first_reply v parent with asked (hex fresh))
request-by v id secret with sender_id asked fresh parent share o e f =
    ap (λ found. request_reply v found with sender_id asked (hex fresh)) e
    ∙ ap (λ child. option_map_or (λ n. repeated_reply n (at_number v.shares n) with asked) child (first_reply v parent with asked (hex fresh))) f

-- a child that is there is no new one
pub child-before : (v : View) (parent : ℕ) (sender_id : List ℕ) (n : ℕ) → child_for v parent sender_id ≡ Some n → nat_lt (length v.shares) n ≡ false
child-before v parent sender_id n e = found-before (is_for_request parent sender_id) v.shares n e
