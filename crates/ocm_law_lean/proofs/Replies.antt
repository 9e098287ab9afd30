use Rattle.std.proofs.Common.{◌≡◌, ℕ, List, [], map, Bool, true, false, refl, ap, ◌∙◌}
use Rattle.std.specs.Prelude.{Option, Some, None, ◌&&◌, not, if◌then◌else◌, option_map, is_some, length}
use Rattle.ocm_texts.specs.Hex.{hex}
use Rattle.ocm_path.specs.Paths.{Segments, is_root}
use Rattle.ocm_types.specs.declared.addresses.Address.{Address}
use Rattle.ocm_types.specs.declared.rights.Rights.{Rights}
use Rattle.ocm_types.specs.declared.letters.Notice.{Notice}
use Rattle.ocm_types.specs.declared.letters.Notice.TheVariants as notices
use Rattle.ocm_types.specs.declared.phases.Which.{Which}
use Rattle.ocm_entry.specs.declared.asks.Ask.{Ask}
use Rattle.ocm_entry.specs.declared.asks.Ask.TheVariants as asks
use Rattle.ocm_entry.specs.declared.asks.Cmd.{Cmd}
use Rattle.ocm_entry.specs.declared.asks.Cmd.TheVariants as commands
use Rattle.ocm_entry.specs.declared.asks.Method.{Method}
use Rattle.ocm_entry.specs.declared.asks.Method.TheVariants as methods
use Rattle.ocm_entry.specs.declared.replies.Reply.{Reply}
use Rattle.ocm_entry.specs.declared.replies.Reply.TheVariants as replies
use Rattle.ocm_entry.specs.declared.refusals.Why.TheVariants.{NotPermitted, RootStays, ParentMissing, SamePlace, Occupied}
use Rattle.ocm_entry.specs.declared.rows.Place.{Place}
use Rattle.ocm_entry.specs.declared.rows.Node.{Node}
use Rattle.ocm_entry.specs.declared.rows.Grant.{Grant}
use Rattle.ocm_entry.specs.declared.rows.Share.{Share}
use Rattle.ocm_entry.specs.declared.rows.Standing.{Standing}
use Rattle.ocm_entry.specs.declared.rows.Standing.TheVariants.{Collection, File}
use Rattle.ocm_rules.specs.Numbers.{same_text}
use Rattle.ocm_rules.specs.Users.{user_of_key}
use Rattle.ocm_rules.specs.Shares.{is_used}
use Rattle.ocm_rules.specs.Holders.{permits, permits_carry}
use Rattle.ocm_rules.specs.Files.{below, parent_of, overlap, limit_of, limit_of_carry}
use Rattle.ocm_rules.specs.Views.{View, grant_in}
use Rattle.ocm_rules.specs.Answers.{refused, limited, unless_limited, is_collection, put_done, put_reply, mkcol_reply, delete_reply, method_reply, dav_reply, carried_reply, carries_root, carry_reply, share_reply, local_reply, share_with, accepted_reply, request_reply, notice_reply, has_bytes, reply_in}
use Rattle.ocm_rules.specs.History.{changes_in, writes}
use Rattle.ocm_rules.specs.Lean.{without_body}
use Rattle.ocm_law_lean.proofs.Thin.{kept_ask}
use Rattle.ocm_law_lean.proofs.Views.{with_files}
use Rattle.ocm_law_lean.proofs.Hollow.{hollow, hollow_standing}
use Rattle.ocm_rules.specs.State.{EachOnce}
use Rattle.ocm_law_lean.proofs.Limits.{limit-hollow, carry-hollow}

-- what stands, hollow or not
abbrev pub hollowed : Bool → Option Standing → Option Standing
hollowed keeps o = option_map (hollow_standing keeps) o

-- all that is read is read alike, but that some files are hollow
abbrev pub Hollowed : View → (Place → Option Standing) → (Place → Bool) → Type 0
Hollowed v stands p = ((place : Place) → stands place ≡ hollowed (p place) (v.stands place)) × EachOnce v.nodes

-- the view with hollow files
abbrev pub hollow_view : View → (Place → Option Standing) → (Place → Bool) → View
hollow_view v stands p = with_files v stands (map (hollow p) v.nodes)

-- an ask that reads is no change
reads : (v : View) (secret : List ℕ) (method : Method) (path : Segments) (body : List ℕ) (reply : Reply) → writes method ≡ false → changes_in v (asks.Dav secret method path body) reply ≡ false
reads v secret method path body replies.Created h = h
reads v secret method path body replies.Replaced h = h
reads v secret method path body replies.Removed h = h
reads v secret method path body _ h = refl

-- ---- PUT

put-same : (v : View) (secret : List ℕ) (path : Segments) (body : List ℕ) (here at_parent : Option Standing) (b c : Bool) (limit less : Option Which) → (limit ≡ None → less ≡ None)
    → changes_in v (asks.Dav secret methods.Put path body) (put_reply here at_parent limit) ≡ true → put_reply (hollowed b here) (hollowed c at_parent) less ≡ put_reply here at_parent limit
put-same v secret path body (Some Collection) at_parent b c limit less fits h = refl
put-same v secret path body None None b c limit less fits h = refl
put-same v secret path body None (Some (File bytes)) b c limit less fits h = refl
put-same v secret path body None (Some Collection) b c None less fits h = rw (fits refl) refl
put-same v secret path body None (Some Collection) b c (Some which) less fits h = absurd (cc)
put-same v secret path body (Some (File bytes)) None b c limit less fits h = refl
put-same v secret path body (Some (File bytes)) (Some (File more)) b c limit less fits h = refl
put-same v secret path body (Some (File bytes)) (Some Collection) b c None less fits h = rw (fits refl) refl
put-same v secret path body (Some (File bytes)) (Some Collection) b c (Some which) less fits h = absurd (cc)

put-hollow : (v : View) (stands : Place → Option Standing) (p : Place → Bool) (keeps : Bool) (secret : List ℕ) (path : Segments) (body : List ℕ) → Hollowed v stands p
    → changes_in v (asks.Dav secret methods.Put path body) (reply_in v (asks.Dav secret methods.Put path body)) ≡ true
    → reply_in (hollow_view v stands p) (asks.Dav secret methods.Put path (if keeps then body else [])) ≡ reply_in v (asks.Dav secret methods.Put path body)
put-hollow v stands p keeps secret path body files h = by_grant (grant_in v secret) h
  where
    bytes : List ℕ
    bytes = if keeps then body else []

    Changes : Reply → Type 0
    Changes reply = changes_in v (asks.Dav secret methods.Put path body) reply ≡ true

    method : (place : Place) → Changes (method_reply v methods.Put place path body) → method_reply (hollow_view v stands p) methods.Put place path bytes ≡ method_reply v methods.Put place path body
    method place k =
        let less : Option Which = limit_of (map (hollow p) v.nodes) (record { place = place; standing = File bytes }) in
        ap (λ o. put_reply o (stands (parent_of place)) less) (files.0 place)
        ∙ ap (λ o. put_reply (hollowed (p place) (v.stands place)) o less) (files.0 (parent_of place))
        ∙ put-same v secret path body (v.stands place) (v.stands (parent_of place)) (p place) (p (parent_of place)) (limit_of v.nodes (record { place = place; standing = File body })) less
        (λ none. limit-hollow keeps p v.nodes place (File body) files.1 none) k

    by_grant : (grant : Option Grant) → Changes (dav_reply v grant methods.Put path body) → dav_reply (hollow_view v stands p) grant methods.Put path bytes ≡ dav_reply v grant methods.Put path body
    by_grant None k = refl
    by_grant (Some grant) k = by_right (permits grant.rights methods.Put) k
      where
        by_right : (b : Bool) → Changes (if b then method_reply v methods.Put (below grant.root path) path body else refused NotPermitted)
            → (if b then method_reply (hollow_view v stands p) methods.Put (below grant.root path) path bytes else refused NotPermitted) ≡ (if b then method_reply v methods.Put (below grant.root path) path body else refused NotPermitted)
        by_right true g = method (below grant.root path) g
        by_right false g = refl

-- ---- MKCOL

mkcol-same : (v : View) (secret : List ℕ) (path : Segments) (body : List ℕ) (here at_parent : Option Standing) (b c has_body : Bool) (limit less : Option Which) → (limit ≡ None → less ≡ None)
    → changes_in v (asks.Dav secret methods.Mkcol path body) (mkcol_reply here at_parent has_body limit) ≡ true → mkcol_reply (hollowed b here) (hollowed c at_parent) has_body less ≡ mkcol_reply here at_parent has_body limit
mkcol-same v secret path body (Some standing) at_parent b c has_body limit less fits h = refl
mkcol-same v secret path body None None b c has_body limit less fits h = refl
mkcol-same v secret path body None (Some (File bytes)) b c has_body limit less fits h = refl
mkcol-same v secret path body None (Some Collection) b c true limit less fits h = refl
mkcol-same v secret path body None (Some Collection) b c false None less fits h = rw (fits refl) refl
mkcol-same v secret path body None (Some Collection) b c false (Some which) less fits h = absurd (cc)

mkcol-hollow : (v : View) (stands : Place → Option Standing) (p : Place → Bool) (secret : List ℕ) (path : Segments) (body : List ℕ) → Hollowed v stands p
    → changes_in v (asks.Dav secret methods.Mkcol path body) (reply_in v (asks.Dav secret methods.Mkcol path body)) ≡ true
    → reply_in (hollow_view v stands p) (asks.Dav secret methods.Mkcol path body) ≡ reply_in v (asks.Dav secret methods.Mkcol path body)
mkcol-hollow v stands p secret path body files h = by_grant (grant_in v secret) h
  where
    Changes : Reply → Type 0
    Changes reply = changes_in v (asks.Dav secret methods.Mkcol path body) reply ≡ true

    method : (place : Place) → Changes (method_reply v methods.Mkcol place path body) → method_reply (hollow_view v stands p) methods.Mkcol place path body ≡ method_reply v methods.Mkcol place path body
    method place k =
        let less : Option Which = limit_of (map (hollow p) v.nodes) (record { place = place; standing = Collection }) in
        ap (λ o. mkcol_reply o (stands (parent_of place)) (has_bytes body) less) (files.0 place)
        ∙ ap (λ o. mkcol_reply (hollowed (p place) (v.stands place)) o (has_bytes body) less) (files.0 (parent_of place))
        ∙ mkcol-same v secret path body (v.stands place) (v.stands (parent_of place)) (p place) (p (parent_of place)) (has_bytes body) (limit_of v.nodes (record { place = place; standing = Collection })) less
        (λ none. limit-hollow true p v.nodes place Collection files.1 none) k

    by_grant : (grant : Option Grant) → Changes (dav_reply v grant methods.Mkcol path body) → dav_reply (hollow_view v stands p) grant methods.Mkcol path body ≡ dav_reply v grant methods.Mkcol path body
    by_grant None k = refl
    by_grant (Some grant) k = by_right (permits grant.rights methods.Mkcol) k
      where
        by_right : (b : Bool) → Changes (if b then method_reply v methods.Mkcol (below grant.root path) path body else refused NotPermitted)
            → (if b then method_reply (hollow_view v stands p) methods.Mkcol (below grant.root path) path body else refused NotPermitted) ≡ (if b then method_reply v methods.Mkcol (below grant.root path) path body else refused NotPermitted)
        by_right true g = method (below grant.root path) g
        by_right false g = refl

-- ---- DELETE

delete-same : (b : Bool) (here : Option Standing) → delete_reply (hollowed b here) ≡ delete_reply here
delete-same b None = refl
delete-same b (Some standing) = refl

delete-hollow : (v : View) (stands : Place → Option Standing) (p : Place → Bool) (secret : List ℕ) (path : Segments) (body : List ℕ) → Hollowed v stands p
    → reply_in (hollow_view v stands p) (asks.Dav secret methods.Delete path body) ≡ reply_in v (asks.Dav secret methods.Delete path body)
delete-hollow v stands p secret path body files = by_grant (grant_in v secret)
  where
    method : (place : Place) → method_reply (hollow_view v stands p) methods.Delete place path body ≡ method_reply v methods.Delete place path body
    method place = ap (λ reply. if is_root path then refused RootStays else reply) (ap delete_reply (files.0 place) ∙ delete-same (p place) (v.stands place))

    by_grant : (grant : Option Grant) → dav_reply (hollow_view v stands p) grant methods.Delete path body ≡ dav_reply v grant methods.Delete path body
    by_grant None = refl
    by_grant (Some grant) = ap (λ reply. if permits grant.rights methods.Delete then reply else refused NotPermitted) (method (below grant.root path))

-- ---- COPY and MOVE

abbrev carried_to : Bool → Option Standing → Option Standing → Bool → Option Which → Reply
carried_to overlaps at_parent here overwrite limit =
    if overlaps then refused SamePlace
    else (if not (is_collection at_parent) then refused ParentMissing
    else (if is_some here && not overwrite then refused Occupied
    else unless_limited limit (put_done here)))

carried-same : (v : View) (ask : Ask) (overlaps : Bool) (at_parent here : Option Standing) (b c overwrite : Bool) (limit less : Option Which) → (limit ≡ None → less ≡ None)
    → ((which : Which) → changes_in v ask (limited which) ≡ true → ⊥)
    → changes_in v ask (carried_to overlaps at_parent here overwrite limit) ≡ true → carried_to overlaps (hollowed b at_parent) (hollowed c here) overwrite less ≡ carried_to overlaps at_parent here overwrite limit
carried-same v ask true at_parent here b c overwrite limit less fits never h = refl
carried-same v ask false None here b c overwrite limit less fits never h = refl
carried-same v ask false (Some (File bytes)) here b c overwrite limit less fits never h = refl
carried-same v ask false (Some Collection) None b c overwrite None less fits never h = rw (fits refl) refl
carried-same v ask false (Some Collection) None b c overwrite (Some which) less fits never h = absurd (never which h)
carried-same v ask false (Some Collection) (Some standing) b c false limit less fits never h = refl
carried-same v ask false (Some Collection) (Some standing) b c true None less fits never h = rw (fits refl) refl
carried-same v ask false (Some Collection) (Some standing) b c true (Some which) less fits never h = absurd (never which h)

carry-reply_hollow : (v : View) (stands : Place → Option Standing) (p : Place → Bool) (secret : List ℕ) (from to : Segments) (moving overwrite : Bool) → Hollowed v stands p
    → changes_in v (asks.Carry secret from to moving overwrite) (reply_in v (asks.Carry secret from to moving overwrite)) ≡ true
    → reply_in (hollow_view v stands p) (asks.Carry secret from to moving overwrite) ≡ reply_in v (asks.Carry secret from to moving overwrite)
carry-reply_hollow v stands p secret from to moving overwrite files h = by_grant (grant_in v secret) h
  where
    w : View
    w = hollow_view v stands p

    Changes : Reply → Type 0
    Changes reply = changes_in v (asks.Carry secret from to moving overwrite) reply ≡ true

    never : (which : Which) → Changes (limited which) → ⊥
    never which k = cc

    carried : (a z : Place) (o : Option Standing) → Changes (carried_reply v a z moving overwrite o) → carried_reply w a z moving overwrite (hollowed (p a) o) ≡ carried_reply v a z moving overwrite o
    carried a z None k = refl
    carried a z (Some standing) k =
        let less : Option Which = limit_of_carry (map (hollow p) v.nodes) a z moving (hollow_standing (p a) standing) in
        ap (λ x. carried_to (overlap a z) x (stands z) overwrite less) (files.0 (parent_of z))
        ∙ ap (λ x. carried_to (overlap a z) (hollowed (p (parent_of z)) (v.stands (parent_of z))) x overwrite less) (files.0 z)
        ∙ carried-same v (asks.Carry secret from to moving overwrite) (overlap a z) (v.stands (parent_of z)) (v.stands z) (p (parent_of z)) (p z) overwrite (limit_of_carry v.nodes a z moving standing) less
        (λ none. carry-hollow (p a) p v.nodes a z moving standing files.1 none) never k

    from_place : (a z : Place) → Changes (carried_reply v a z moving overwrite (v.stands a)) → carried_reply w a z moving overwrite (stands a) ≡ carried_reply v a z moving overwrite (v.stands a)
    from_place a z k = ap (λ o. carried_reply w a z moving overwrite o) (files.0 a) ∙ carried a z (v.stands a) k

    by_grant : (grant : Option Grant) → Changes (carry_reply v grant from to moving overwrite) → carry_reply w grant from to moving overwrite ≡ carry_reply v grant from to moving overwrite
    by_grant None k = refl
    by_grant (Some grant) k = by_tests (permits_carry grant.rights moving) (carries_root from to moving) k
      where
        a : Place
        a = below grant.root from

        z : Place
        z = below grant.root to

        by_tests : (b c : Bool) → Changes (if not b then refused NotPermitted else (if c then refused RootStays else carried_reply v a z moving overwrite (v.stands a)))
            → (if not b then refused NotPermitted else (if c then refused RootStays else carried_reply w a z moving overwrite (stands a)))
            ≡ (if not b then refused NotPermitted else (if c then refused RootStays else carried_reply v a z moving overwrite (v.stands a)))
        by_tests false c g = refl
        by_tests true true g = refl
        by_tests true false g = from_place a z g

-- ---- a new share

share-hollow : (v : View) (stands : Place → Option Standing) (p : Place → Bool) (key : List ℕ) (path : Segments) (with : Address) (perms : Rights) (fresh : List ℕ) → Hollowed v stands p
    → reply_in (hollow_view v stands p) (asks.Local key (commands.Share path with perms fresh)) ≡ reply_in v (asks.Local key (commands.Share path with perms fresh))
share-hollow v stands p key path with perms fresh files = by_user (user_of_key v.users key)
  where
    by_user : (user : Option ℕ) → local_reply (hollow_view v stands p) user (commands.Share path with perms fresh) ≡ local_reply v user (commands.Share path with perms fresh)
    by_user None = refl
    by_user (Some user) =
        let place : Place = record { user = user; path = path } in
        let own : Bool = same_text with.host v.host in
        let used : Bool = is_used v.users v.shares (hex fresh) in
        ap (λ o. share_reply own o (length v.shares) used) (files.0 place)
        ∙ by_standing own used (v.stands place)
      where
        by_standing : (own used : Bool) (o : Option Standing) → share_reply own (hollowed (p (record { user = user; path = path })) o) (length v.shares) used ≡ share_reply own o (length v.shares) used
        by_standing own used None = refl
        by_standing own used (Some standing) = refl

-- ---- commands and notices

abbrev is_share : Cmd → Bool
is_share (commands.Share path with perms fresh) = true
is_share _ = false

local-files : (v : View) (stands : Place → Option Standing) (ns : List Node) (user : Option ℕ) (cmd : Cmd) → is_share cmd ≡ false → local_reply (with_files v stands ns) user cmd ≡ local_reply v user cmd
local-files v stands ns None cmd other = refl
local-files v stands ns (Some user) (commands.Share path with perms fresh) other = absurd (cc)
local-files v stands ns (Some user) (commands.Unshare id) other = refl
local-files v stands ns (Some user) (commands.Limit id perms) other = refl
local-files v stands ns (Some user) (commands.Expire id end) other = refl
local-files v stands ns (Some user) (commands.Accept number) other = refl
local-files v stands ns (Some user) (commands.Decline number) other = refl
local-files v stands ns (Some user) (commands.Reshare number with perms) other = refl
local-files v stands ns (Some user) (commands.Undo request) other = refl
local-files v stands ns (Some user) commands.List other = refl

accepted-files : (v : View) (stands : Place → Option Standing) (ns : List Node) (found : Option (ℕ × Share)) (owner with : Option Address) (perms : Option Rights) → accepted_reply (with_files v stands ns) found owner with perms ≡ accepted_reply v found owner with perms
accepted-files v stands ns None owner with perms = refl
accepted-files v stands ns (Some (i, share)) owner with perms = refl

request-files : (v : View) (stands : Place → Option Standing) (ns : List Node) (found : Option (ℕ × Share)) (with : Address) (sender_id : List ℕ) (asked : Option Rights) (secret : List ℕ) → request_reply (with_files v stands ns) found with sender_id asked secret ≡ request_reply v found with sender_id asked secret
request-files v stands ns None with sender_id asked secret = refl
request-files v stands ns (Some (i, share)) with sender_id asked secret = refl

notice-files : (v : View) (stands : Place → Option Standing) (ns : List Node) (notice : Notice) (fresh : List ℕ) → notice_reply (with_files v stands ns) notice fresh ≡ notice_reply v notice fresh
notice-files v stands ns (notices.Accepted id secret owner with perms) fresh = accepted-files v stands ns (share_with v id secret) owner with perms
notice-files v stands ns (notices.Declined id secret) fresh = refl
notice-files v stands ns (notices.Unshared id secret) fresh = refl
notice-files v stands ns (notices.ReshareRequest id secret with sender_id asked) fresh = request-files v stands ns (share_with v id secret) with sender_id asked (hex fresh)
notice-files v stands ns (notices.ReshareUndo id secret) fresh = refl
notice-files v stands ns (notices.Changed id secret serial perms) fresh = refl

-- ---- all asks

never-changes : (b : Bool) → b ≡ false → b ≡ true → ⊥
never-changes true h k = cc
never-changes false h k = cc

-- what changes something is answered the same where some files are hollow
as_is-hollow : (v : View) (stands : Place → Option Standing) (p : Place → Bool) (ask : Ask) → Hollowed v stands p
    → changes_in v ask (reply_in v ask) ≡ true → reply_in (hollow_view v stands p) ask ≡ reply_in v ask
as_is-hollow v stands p (asks.AddUser name fresh) files h = refl
as_is-hollow v stands p (asks.Local key (commands.Share path with perms fresh)) files h = share-hollow v stands p key path with perms fresh files
as_is-hollow v stands p (asks.Local key (commands.Unshare id)) files h = local-files v stands (map (hollow p) v.nodes) (user_of_key v.users key) (commands.Unshare id) refl
as_is-hollow v stands p (asks.Local key (commands.Limit id perms)) files h = local-files v stands (map (hollow p) v.nodes) (user_of_key v.users key) (commands.Limit id perms) refl
as_is-hollow v stands p (asks.Local key (commands.Expire id end)) files h = local-files v stands (map (hollow p) v.nodes) (user_of_key v.users key) (commands.Expire id end) refl
as_is-hollow v stands p (asks.Local key (commands.Accept number)) files h = local-files v stands (map (hollow p) v.nodes) (user_of_key v.users key) (commands.Accept number) refl
as_is-hollow v stands p (asks.Local key (commands.Decline number)) files h = local-files v stands (map (hollow p) v.nodes) (user_of_key v.users key) (commands.Decline number) refl
as_is-hollow v stands p (asks.Local key (commands.Reshare number with perms)) files h = local-files v stands (map (hollow p) v.nodes) (user_of_key v.users key) (commands.Reshare number with perms) refl
as_is-hollow v stands p (asks.Local key (commands.Undo request)) files h = local-files v stands (map (hollow p) v.nodes) (user_of_key v.users key) (commands.Undo request) refl
as_is-hollow v stands p (asks.Local key commands.List) files h = local-files v stands (map (hollow p) v.nodes) (user_of_key v.users key) commands.List refl
as_is-hollow v stands p (asks.Offer offer) files h = refl
as_is-hollow v stands p (asks.Notice notice fresh) files h = notice-files v stands (map (hollow p) v.nodes) notice fresh
as_is-hollow v stands p (asks.Dav secret methods.Put path body) files h = put-hollow v stands p true secret path body files h
as_is-hollow v stands p (asks.Dav secret methods.Mkcol path body) files h = mkcol-hollow v stands p secret path body files h
as_is-hollow v stands p (asks.Dav secret methods.Delete path body) files h = delete-hollow v stands p secret path body files
as_is-hollow v stands p (asks.Dav secret methods.Get path body) files h = absurd (never-changes _ (reads v secret methods.Get path body (reply_in v (asks.Dav secret methods.Get path body)) refl) h)
as_is-hollow v stands p (asks.Dav secret methods.Head path body) files h = absurd (never-changes _ (reads v secret methods.Head path body (reply_in v (asks.Dav secret methods.Head path body)) refl) h)
as_is-hollow v stands p (asks.Dav secret methods.List0 path body) files h = absurd (never-changes _ (reads v secret methods.List0 path body (reply_in v (asks.Dav secret methods.List0 path body)) refl) h)
as_is-hollow v stands p (asks.Dav secret methods.List1 path body) files h = absurd (never-changes _ (reads v secret methods.List1 path body (reply_in v (asks.Dav secret methods.List1 path body)) refl) h)
as_is-hollow v stands p asks.Due files h = refl
as_is-hollow v stands p (asks.Settle number status id) files h = refl
as_is-hollow v stands p (asks.Tick clock) files h = refl
as_is-hollow v stands p (asks.Carry secret from to moving overwrite) files h = carry-reply_hollow v stands p secret from to moving overwrite files h

without-hollow : (v : View) (stands : Place → Option Standing) (p : Place → Bool) (ask : Ask) → Hollowed v stands p
    → changes_in v ask (reply_in v ask) ≡ true → reply_in (hollow_view v stands p) (without_body ask) ≡ reply_in v ask
without-hollow v stands p (asks.Dav secret methods.Put path body) files h = put-hollow v stands p false secret path body files h
without-hollow v stands p ask files h = as_is-hollow v stands p ask files h

-- the same of an ask without its body
pub reply-hollow : (v : View) (stands : Place → Option Standing) (p : Place → Bool) (keeps : Bool) (ask : Ask) → Hollowed v stands p
    → changes_in v ask (reply_in v ask) ≡ true → reply_in (hollow_view v stands p) (kept_ask keeps ask) ≡ reply_in v ask
reply-hollow v stands p true ask files h = as_is-hollow v stands p ask files h
reply-hollow v stands p false ask files h = without-hollow v stands p ask files h

-- what is a change is one where files are others
pub changes-files : (v : View) (stands : Place → Option Standing) (ns : List Node) (ask : Ask) (reply : Reply) → changes_in (with_files v stands ns) ask reply ≡ changes_in v ask reply
changes-files v stands ns ask reply = refl
