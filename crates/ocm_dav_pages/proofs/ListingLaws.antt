-- A listing is written without a float, and a request's members stand in order.
use Rattle.std.proofs.Common.{◌≡◌, ℕ, false, List, [], ◌∷◌, codes, Option, Some, None, refl}
use Rattle.std.specs.List.{flat_map}
use Rattle.serde_json.specs.Data.{Data, Members, member, put}
use Rattle.serde_json.specs.View.{items_of}
use Rattle.serde_json.specs.Written.{has_float, items_have_float, members_have_float}
use Rattle.ocm_types.specs.declared.addresses.Address.{Address}
use Rattle.ocm_types.specs.declared.phases.RequestPhase.{RequestPhase}
use Rattle.ocm_types.specs.declared.phases.RequestPhase.TheVariants as states
use Rattle.ocm_types.specs.declared.rights.Rights.{Rights}
use Rattle.ocm_entry.specs.declared.listings.Line.{Line}
use Rattle.ocm_entry.specs.declared.listings.Line.TheVariants as lines
use Rattle.ocm_records.specs.Written.{perms_data, member_if, put_if, data_if}
use Rattle.ocm_records.proofs.WrittenLaws.{perms_no_float}
use Rattle.ocm_dav_pages.specs.declared.listings.Part.{Part}
use Rattle.ocm_dav_pages.specs.declared.listings.Part.TheVariants.{Received, Requests, Shares}
use Rattle.ocm_dav_pages.specs.Listings.{child_data, request_data, later_members, line_data, part_data, listing_data}

-- members that are added from the last key to the first stand in order
pub request_in_order : (child perms : Option Data) (n : Data) (received : ℕ) (with : Address) (state : RequestPhase)
    → put_if (codes "child") child (put (codes "number") n (put_if (codes "permissions") perms (later_members received with state)))
    ≡ member_if (codes "child") child (member (codes "number") n (member_if (codes "permissions") perms (later_members received with state)))
request_in_order None None n received with state = refl
request_in_order None (Some p) n received with state = refl
request_in_order (Some c) None n received with state = refl
request_in_order (Some c) (Some p) n received with state = refl

-- a member that may be absent has no float where its value has none
child_no_float : (state : RequestPhase) (ms : Members) → members_have_float ms ≡ false → members_have_float (member_if (codes "child") (child_data state) ms) ≡ false
child_no_float states.Asked ms e = e
child_no_float (states.Granted child) ms e = e
child_no_float states.Refused ms e = e
child_no_float states.Undone ms e = e

asked_no_float : (perms : Option Rights) (ms : Members) → members_have_float ms ≡ false → members_have_float (member_if (codes "permissions") (data_if perms_data perms) ms) ≡ false
asked_no_float None ms e = e
asked_no_float (Some rights) ms e = rw (perms_no_float rights) e

request_no_float : (n received : ℕ) (with : Address) (perms : Option Rights) (state : RequestPhase) → has_float (request_data n received with perms state) ≡ false
request_no_float n received with perms state = child_no_float state _ (asked_no_float perms (later_members received with state) refl)

-- each list is written without a float
items_no_float : (part : Part) (listed : List Line) → items_have_float (items_of (flat_map (line_data part) listed)) ≡ false
unfolding line_data
items_no_float part [] = refl
items_no_float Received (lines.Received n offer phase ∷ rest) = rw (perms_no_float offer.perms) (items_no_float Received rest)
items_no_float Received (lines.Request n received with perms state ∷ rest) = items_no_float Received rest
items_no_float Received (lines.Share n path with perms live ∷ rest) = items_no_float Received rest
items_no_float Requests (lines.Received n offer phase ∷ rest) = items_no_float Requests rest
items_no_float Requests (lines.Request n received with perms state ∷ rest) = rw (request_no_float n received with perms state) (items_no_float Requests rest)
items_no_float Requests (lines.Share n path with perms live ∷ rest) = items_no_float Requests rest
items_no_float Shares (lines.Received n offer phase ∷ rest) = items_no_float Shares rest
items_no_float Shares (lines.Request n received with perms state ∷ rest) = items_no_float Shares rest
items_no_float Shares (lines.Share n path with perms live ∷ rest) = rw (perms_no_float perms) (items_no_float Shares rest)

part_no_float : (part : Part) (listed : List Line) → has_float (part_data part listed) ≡ false
unfolding part_data
part_no_float part listed = items_no_float part listed

pub listing_no_float : (listed : List Line) → has_float (listing_data listed) ≡ false
listing_no_float listed = rw (part_no_float Received listed, part_no_float Requests listed, part_no_float Shares listed) refl
