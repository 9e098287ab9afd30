-- Servers whose files stand alike give the same replies.
use Rattle.std.proofs.Common.{◌≡◌, ℕ, List, [], ◌++◌, map, Bool, true, false, refl, sym, ap, ◌∙◌}
use Rattle.std.specs.Prelude.{Option, Some, None, ◌&&◌, ◌||◌, not, is_some, if◌then◌else◌}
use Rattle.ocm_texts.specs.Hex.{hex}
use Rattle.ocm_path.specs.Paths.{Segments, is_root}
use Rattle.ocm_types.specs.declared.addresses.Address.{Address}
use Rattle.ocm_types.specs.declared.rights.Rights.{Rights}
use Rattle.ocm_types.specs.declared.letters.Notice.{Notice}
use Rattle.ocm_types.specs.declared.letters.Notice.TheVariants as notices
use Rattle.ocm_types.specs.declared.phases.Which.{Which}
use Rattle.ocm_entry.specs.declared.asks.Ask.{Ask}
use Rattle.ocm_entry.specs.declared.asks.Ask.TheVariants as asks
use Rattle.ocm_entry.specs.declared.asks.Cmd.{Cmd}
use Rattle.ocm_entry.specs.declared.asks.Cmd.TheVariants as commands
use Rattle.ocm_entry.specs.declared.asks.Method.{Method}
use Rattle.ocm_entry.specs.declared.asks.Method.TheVariants as methods
use Rattle.ocm_entry.specs.declared.replies.Reply.{Reply}
use Rattle.ocm_entry.specs.declared.refusals.Why.TheVariants.{NotPermitted, RootStays, ParentMissing, SamePlace, Occupied}
use Rattle.ocm_entry.specs.declared.rows.Place.{Place}
use Rattle.ocm_entry.specs.declared.rows.Node.{Node}
use Rattle.ocm_entry.specs.declared.rows.Grant.{Grant}
use Rattle.ocm_entry.specs.declared.rows.Share.{Share}
use Rattle.ocm_entry.specs.declared.rows.Standing.{Standing}
use Rattle.ocm_entry.specs.declared.rows.Standing.TheVariants.{Collection, File}
use Rattle.ocm_rules.specs.Users.{user_of_key}
use Rattle.ocm_rules.specs.Holders.{permits, permits_carry}
use Rattle.ocm_rules.specs.Files.{below, children, parent_of, overlap, limit_of, limit_of_carry, rest_below}
use Rattle.ocm_rules.specs.Views.{View, grant_in}
use Rattle.ocm_rules.specs.Answers.{refused, unless_limited, is_collection, put_done, put_reply, mkcol_reply, item, items_in, list_reply, method_reply, dav_reply, carried_reply, carries_root, carry_reply, local_reply, share_with, accepted_reply, request_reply, notice_reply, has_bytes, reply_in}
use Rattle.ocm_rules.specs.History.{changes_in}
use Rattle.ocm_law_alike.proofs.Taken.{StandAlike}
use Rattle.ocm_law_alike.proofs.Names.{children-alike}
use Rattle.ocm_law_alike.proofs.Rootless.{longer-root}
use Rattle.ocm_law_alike.proofs.Limits.{carry-alike, limit-alike}

-- a view with nodes in another order
abbrev pub with_order : View → List Node → View
with_order v ns = record v { nodes = ns }

-- at each root a collection stands
abbrev pub HasRoots : View → Type 0
HasRoots v = (place : Place) → is_root place.path ≡ true → v.stands place ≡ Some Collection

-- ---- the methods

put-order : (v : View) (ns : List Node) (place : Place) (path : Segments) (body : List ℕ) → HasRoots v → StandAlike ns v.nodes
    → method_reply (with_order v ns) methods.Put place path body ≡ method_reply v methods.Put place path body
put-order v ns place path body roots h = by_root (is_root place.path) refl
  where
    by_root : (b : Bool) → is_root place.path ≡ b → put_reply (v.stands place) (v.stands (parent_of place)) (limit_of ns (record { place = place; standing = File body }))
        ≡ put_reply (v.stands place) (v.stands (parent_of place)) (limit_of v.nodes (record { place = place; standing = File body }))
    by_root true e = rw (roots place e) refl
    by_root false e = ap (λ limit. put_reply (v.stands place) (v.stands (parent_of place)) limit) (limit-alike ns v.nodes (record { place = place; standing = File body }) e h)

mkcol-order : (v : View) (ns : List Node) (place : Place) (path : Segments) (body : List ℕ) → HasRoots v → StandAlike ns v.nodes
    → method_reply (with_order v ns) methods.Mkcol place path body ≡ method_reply v methods.Mkcol place path body
mkcol-order v ns place path body roots h = by_root (is_root place.path) refl
  where
    by_root : (b : Bool) → is_root place.path ≡ b → mkcol_reply (v.stands place) (v.stands (parent_of place)) (has_bytes body) (limit_of ns (record { place = place; standing = Collection }))
        ≡ mkcol_reply (v.stands place) (v.stands (parent_of place)) (has_bytes body) (limit_of v.nodes (record { place = place; standing = Collection }))
    by_root true e = rw (roots place e) refl
    by_root false e = ap (λ limit. mkcol_reply (v.stands place) (v.stands (parent_of place)) (has_bytes body) limit) (limit-alike ns v.nodes (record { place = place; standing = Collection }) e h)

list-order : (v : View) (ns : List Node) (place : Place) (path : Segments) (body : List ℕ) → StandAlike ns v.nodes
    → method_reply (with_order v ns) methods.List1 place path body ≡ method_reply v methods.List1 place path body
list-order v ns place path body h =
    ap (λ (found : List Node). list_reply (map (λ (n : Node). item (path ++ rest_below place n.place) n.standing) found) path (v.stands place)) (children-alike place ns v.nodes h)

method-order : (v : View) (ns : List Node) (method : Method) (place : Place) (path : Segments) (body : List ℕ) → HasRoots v → StandAlike ns v.nodes
    → method_reply (with_order v ns) method place path body ≡ method_reply v method place path body
method-order v ns methods.Get place path body roots h = refl
method-order v ns methods.Head place path body roots h = refl
method-order v ns methods.List0 place path body roots h = refl
method-order v ns methods.List1 place path body roots h = list-order v ns place path body h
method-order v ns methods.Put place path body roots h = put-order v ns place path body roots h
method-order v ns methods.Mkcol place path body roots h = mkcol-order v ns place path body roots h
method-order v ns methods.Delete place path body roots h = refl

dav-order : (v : View) (ns : List Node) (grant : Option Grant) (method : Method) (path : Segments) (body : List ℕ) → HasRoots v → StandAlike ns v.nodes
    → dav_reply (with_order v ns) grant method path body ≡ dav_reply v grant method path body
dav-order v ns None method path body roots h = refl
dav-order v ns (Some grant) method path body roots h =
    ap (λ reply. if permits grant.rights method then reply else refused NotPermitted) (method-order v ns method (below grant.root path) path body roots h)

-- ---- COPY and MOVE

carried-order : (v : View) (ns : List Node) (from to : Place) (moving overwrite : Bool) (o : Option Standing) → is_root to.path ≡ false → StandAlike ns v.nodes
    → carried_reply (with_order v ns) from to moving overwrite o ≡ carried_reply v from to moving overwrite o
carried-order v ns from to moving overwrite None off h = refl
carried-order v ns from to moving overwrite (Some standing) off h =
    ap (λ limit. if overlap from to then refused SamePlace
    else (if not (is_collection (v.stands (parent_of to))) then refused ParentMissing
    else (if is_some (v.stands to) && not overwrite then refused Occupied
    else unless_limited limit (put_done (v.stands to))))) (carry-alike ns v.nodes from to moving standing off h)

carry-order : (v : View) (ns : List Node) (grant : Option Grant) (from to : Segments) (moving overwrite : Bool) → StandAlike ns v.nodes
    → carry_reply (with_order v ns) grant from to moving overwrite ≡ carry_reply v grant from to moving overwrite
carry-order v ns None from to moving overwrite h = refl
carry-order v ns (Some grant) from to moving overwrite h = by_root (is_root to) refl
  where
    a : Place
    a = below grant.root from

    z : Place
    z = below grant.root to

    by_root : (b : Bool) → is_root to ≡ b
        → (if not (permits_carry grant.rights moving) then refused NotPermitted else (if b || (moving && is_root from) then refused RootStays else carried_reply (with_order v ns) a z moving overwrite (v.stands a)))
        ≡ (if not (permits_carry grant.rights moving) then refused NotPermitted else (if b || (moving && is_root from) then refused RootStays else carried_reply v a z moving overwrite (v.stands a)))
    by_root true e = refl
    by_root false e =
        ap (λ reply. if not (permits_carry grant.rights moving) then refused NotPermitted else (if moving && is_root from then refused RootStays else reply))
        (carried-order v ns a z moving overwrite (v.stands a) (longer-root grant.root.path to e) h)

-- ---- commands and notices

local-order : (v : View) (ns : List Node) (user : Option ℕ) (cmd : Cmd) → local_reply (with_order v ns) user cmd ≡ local_reply v user cmd
local-order v ns None cmd = refl
local-order v ns (Some user) (commands.Share path with perms fresh) = refl
local-order v ns (Some user) (commands.Unshare id) = refl
local-order v ns (Some user) (commands.Limit id perms) = refl
local-order v ns (Some user) (commands.Expire id end) = refl
local-order v ns (Some user) (commands.Accept number) = refl
local-order v ns (Some user) (commands.Decline number) = refl
local-order v ns (Some user) (commands.Reshare number with perms) = refl
local-order v ns (Some user) (commands.Undo request) = refl
local-order v ns (Some user) commands.List = refl

accepted-order : (v : View) (ns : List Node) (found : Option (ℕ × Share)) (owner with : Option Address) (perms : Option Rights) → accepted_reply (with_order v ns) found owner with perms ≡ accepted_reply v found owner with perms
accepted-order v ns None owner with perms = refl
accepted-order v ns (Some (i, share)) owner with perms = refl

request-order : (v : View) (ns : List Node) (found : Option (ℕ × Share)) (with : Address) (sender_id : List ℕ) (asked : Option Rights) (secret : List ℕ) → request_reply (with_order v ns) found with sender_id asked secret ≡ request_reply v found with sender_id asked secret
request-order v ns None with sender_id asked secret = refl
request-order v ns (Some (i, share)) with sender_id asked secret = refl

notice-order : (v : View) (ns : List Node) (notice : Notice) (fresh : List ℕ) → notice_reply (with_order v ns) notice fresh ≡ notice_reply v notice fresh
notice-order v ns (notices.Accepted id secret owner with perms) fresh = accepted-order v ns (share_with v id secret) owner with perms
notice-order v ns (notices.Declined id secret) fresh = refl
notice-order v ns (notices.Unshared id secret) fresh = refl
notice-order v ns (notices.ReshareRequest id secret with sender_id asked) fresh = request-order v ns (share_with v id secret) with sender_id asked (hex fresh)
notice-order v ns (notices.ReshareUndo id secret) fresh = refl
notice-order v ns (notices.Changed id secret serial perms) fresh = refl

-- ---- all asks

-- no reply depends on the order of nodes
pub reply-order : (v : View) (ns : List Node) (ask : Ask) → HasRoots v → StandAlike ns v.nodes → reply_in (with_order v ns) ask ≡ reply_in v ask
reply-order v ns (asks.AddUser name fresh) roots h = refl
reply-order v ns (asks.Local key cmd) roots h = local-order v ns (user_of_key v.users key) cmd
reply-order v ns (asks.Offer offer) roots h = refl
reply-order v ns (asks.Notice notice fresh) roots h = notice-order v ns notice fresh
reply-order v ns (asks.Dav secret method path body) roots h = dav-order v ns (grant_in v secret) method path body roots h
reply-order v ns asks.Due roots h = refl
reply-order v ns (asks.Settle number status id) roots h = refl
reply-order v ns (asks.Tick clock) roots h = refl
reply-order v ns (asks.Carry secret from to moving overwrite) roots h = carry-order v ns (grant_in v secret) from to moving overwrite h

-- nor does what changes something
pub changes-order : (v : View) (ns : List Node) (ask : Ask) (reply : Reply) → changes_in (with_order v ns) ask reply ≡ changes_in v ask reply
changes-order v ns ask reply = refl
