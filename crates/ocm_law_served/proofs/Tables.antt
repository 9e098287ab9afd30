-- What the rules answer to a request for files, and that no method's table says who may not ask.
use Rattle.std.proofs.Common.{◌≡◌, ℕ, List, [], Bool, true, false, refl}
use Rattle.std.specs.Prelude.{Option, Some, None, is_some, not, ◌&&◌, if◌then◌else◌}
use Rattle.ocm_path.specs.Paths.{Segments, is_root}
use Rattle.ocm_types.specs.declared.phases.Which.{Which}
use Rattle.ocm_entry.specs.declared.asks.Method.{Method}
use Rattle.ocm_entry.specs.declared.asks.Method.TheVariants as methods
use Rattle.ocm_entry.specs.declared.listings.DavItem.{DavItem}
use Rattle.ocm_entry.specs.declared.refusals.Why.{Why}
use Rattle.ocm_entry.specs.declared.refusals.Why.TheVariants as whys
use Rattle.ocm_entry.specs.declared.replies.Reply.{Reply}
use Rattle.ocm_entry.specs.declared.replies.Reply.TheVariants as replies
use Rattle.ocm_entry.specs.declared.rows.Grant.{Grant}
use Rattle.ocm_entry.specs.declared.rows.Place.{Place}
use Rattle.ocm_entry.specs.declared.rows.Standing.{Standing}
use Rattle.ocm_entry.specs.declared.rows.Standing.TheVariants.{Collection, File}
use Rattle.ocm_rules.specs.Files.{below, overlap, parent_of, limit_of, limit_of_carry}
use Rattle.ocm_rules.specs.Holders.{permits_carry}
use Rattle.ocm_rules.specs.Views.{View, grant_in}
use Rattle.ocm_rules.specs.Answers.{refused, is_collection, get_reply, put_done, unless_limited, put_reply, mkcol_reply, delete_reply, items_in, list_reply, has_bytes, method_reply, dav_reply, carried_reply, carries_root, carry_reply, reply_in}
use Rattle.ocm_rules.specs.History.{changes_in}
use Rattle.ocm_law_served.specs.Requests.{FileRequest, Dav, Carry, ask_with, suffices, table_reply}

-- ---- the reply by what is granted

-- the reply to a request, where this is granted
abbrev pub granted_reply : View → FileRequest → Option Grant → Reply
granted_reply v request None = refused whys.Unauthorized
granted_reply v request (Some grant) = if suffices request grant.rights then table_reply v grant.root request else refused whys.NotPermitted

pub replied-by_grant : (v : View) (secret : List ℕ) (request : FileRequest) → reply_in v (ask_with secret request) ≡ granted_reply v request (grant_in v secret)
replied-by_grant v secret (Dav method path body) = by_grant (grant_in v secret)
  where
    by_grant : (o : Option Grant) → dav_reply v o method path body ≡ granted_reply v (Dav method path body) o
    by_grant None = refl
    by_grant (Some grant) = refl
replied-by_grant v secret (Carry from to moving overwrite) = by_grant (grant_in v secret)
  where
    turned : (b : Bool) (x y : Reply) → (if not b then x else y) ≡ (if b then y else x)
    turned true x y = refl
    turned false x y = refl

    by_grant : (o : Option Grant) → carry_reply v o from to moving overwrite ≡ granted_reply v (Carry from to moving overwrite) o
    by_grant None = refl
    by_grant (Some grant) = turned (permits_carry grant.rights moving) (refused whys.NotPermitted) (table_reply v grant.root (Carry from to moving overwrite))

-- a refusal changes nothing
pub refused-changes : (v : View) (secret : List ℕ) (request : FileRequest) (why : Why) → changes_in v (ask_with secret request) (refused why) ≡ false
refused-changes v secret (Dav method path body) why = refl
refused-changes v secret (Carry from to moving overwrite) why = refl

-- ---- replies of tables

-- whether a reply says that the request's secret is not enough
abbrev pub denies : Reply → Bool
denies (replies.Refused whys.Unauthorized) = true
denies (replies.Refused whys.NotPermitted) = true
denies _ = false

-- a reply says something else
record IsOther (reply : Reply) : Type 0 where
  pub is : denies reply ≡ false

by_test : (b : Bool) {x y : Reply} → IsOther x → IsOther y → IsOther (if b then x else y)
by_test true hx hy = hx
by_test false hx hy = hy

unlimited : (limit : Option Which) {reply : Reply} → IsOther reply → IsOther (unless_limited limit reply)
unlimited None h = h
unlimited (Some which) h = record { is = refl }

get-other : (here : Option Standing) → IsOther (get_reply here)
get-other None = record { is = refl }
get-other (Some Collection) = record { is = refl }
get-other (Some (File body)) = record { is = refl }

put_done-other : (here : Option Standing) → IsOther (put_done here)
put_done-other None = record { is = refl }
put_done-other (Some standing) = record { is = refl }

put-other : (here at_parent : Option Standing) (limit : Option Which) → IsOther (put_reply here at_parent limit)
put-other here at_parent limit =
    by_test (is_collection here) (record { is = refl })
    (by_test (not (is_collection at_parent)) (record { is = refl })
    (unlimited limit (put_done-other here)))

mkcol-other : (here at_parent : Option Standing) (has_body : Bool) (limit : Option Which) → IsOther (mkcol_reply here at_parent has_body limit)
mkcol-other here at_parent has_body limit =
    by_test (is_some here) (record { is = refl })
    (by_test (not (is_collection at_parent)) (record { is = refl })
    (by_test has_body (record { is = refl })
    (unlimited limit (record { is = refl }))))

delete-other : (here : Option Standing) → IsOther (delete_reply here)
delete-other None = record { is = refl }
delete-other (Some standing) = record { is = refl }

list-other : (inside : List DavItem) (path : Segments) (here : Option Standing) → IsOther (list_reply inside path here)
list-other inside path None = record { is = refl }
list-other inside path (Some standing) = record { is = refl }

carried-other : (v : View) (from to : Place) (moving overwrite : Bool) (here : Option Standing) → IsOther (carried_reply v from to moving overwrite here)
carried-other v from to moving overwrite None = record { is = refl }
carried-other v from to moving overwrite (Some standing) =
    by_test (overlap from to) (record { is = refl })
    (by_test (not (is_collection (v.stands (parent_of to)))) (record { is = refl })
    (by_test (is_some (v.stands to) && not overwrite) (record { is = refl })
    (unlimited (limit_of_carry v.nodes from to moving standing) (put_done-other (v.stands to)))))

method-other : (v : View) (method : Method) (place : Place) (path : Segments) (body : List ℕ) → IsOther (method_reply v method place path body)
method-other v methods.Get place path body = get-other (v.stands place)
method-other v methods.Head place path body = get-other (v.stands place)
method-other v methods.List0 place path body = list-other [] path (v.stands place)
method-other v methods.List1 place path body = list-other (items_in v.nodes place path) path (v.stands place)
method-other v methods.Put place path body = put-other (v.stands place) (v.stands (parent_of place)) (limit_of v.nodes (record { place = place; standing = File body }))
method-other v methods.Mkcol place path body = mkcol-other (v.stands place) (v.stands (parent_of place)) (has_bytes body) (limit_of v.nodes (record { place = place; standing = Collection }))
method-other v methods.Delete place path body = by_test (is_root path) (record { is = refl }) (delete-other (v.stands place))

table-other : (v : View) (root : Place) (request : FileRequest) → IsOther (table_reply v root request)
table-other v root (Dav method path body) = method-other v method (below root path) path body
table-other v root (Carry from to moving overwrite) =
    by_test (carries_root from to moving) (record { is = refl })
    (carried-other v (below root from) (below root to) moving overwrite (v.stands (below root from)))

-- no table says that the request's secret is not enough
pub table-denies : (v : View) (root : Place) (request : FileRequest) → denies (table_reply v root request) ≡ false
table-denies v root request = let other = table-other v root request in other.is
