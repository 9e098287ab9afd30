-- The further lines of a reply in a transcript: what a user lists, and what stands in a collection.
use Rattle.std.specs.Prelude.{ℕ, List, [], ◌∷◌, ◌++◌, Bool, true, false, if◌then◌else◌, Option, Some, None, codes}
use Rattle.std.specs.Fmt.{decimal}
use Rattle.ocm_path.specs.Escapes.{escape}
use Rattle.ocm_path.specs.Paths.{Segments, is_root, joined_escaped, path_escaped}
use Rattle.ocm_types.specs.declared.addresses.Address.{Address}
use Rattle.ocm_types.specs.declared.phases.Phase.{Phase}
use Rattle.ocm_types.specs.declared.phases.RequestPhase.{RequestPhase}
use Rattle.ocm_types.specs.declared.phases.RequestPhase.TheVariants as states
use Rattle.ocm_types.specs.declared.rights.Rights.{Rights}
use Rattle.ocm_types.specs.Phases.{phase_word}
use Rattle.ocm_types.specs.Rights.{perms_text}
use Rattle.ocm_entry.specs.declared.listings.DavItem.{DavItem}
use Rattle.ocm_entry.specs.declared.listings.Line.{Line}
use Rattle.ocm_entry.specs.declared.listings.Line.TheVariants.{Share, Received, Request}

-- texts with one space between each two
abbrev pub spaced : List ℕ → List ℕ → List ℕ
spaced text rest = text ++ 32 ∷ rest

-- an address, its user's name escaped
abbrev pub address_text : Address → List ℕ
address_text address = escape address.user ++ 64 ∷ address.host

-- what stands in a collection, or the collection itself: its path below the holder's root, with one `/` behind a collection's
abbrev pub href : Segments → Option ℕ → List ℕ
href path (Some size) = codes "/dav" ++ path_escaped path
href path None = if is_root path then codes "/dav/" else codes "/dav" ++ joined_escaped path ++ codes "/"

-- the `/` behind the path of a collection that is not the root
abbrev pub href_end : Option ℕ → List ℕ
href_end (Some size) = []
href_end None = codes "/"

-- how many bytes a file has, or that it is a collection
abbrev pub size_text : Option ℕ → List ℕ
size_text (Some size) = codes "f " ++ decimal size
size_text None = codes "c"

-- the line of what stands at a path
abbrev pub item_text : DavItem → List ℕ
item_text item = spaced (href item.path item.size) (size_text item.size)

-- whether a share is live
abbrev pub live_text : Bool → List ℕ
live_text true = codes "live"
live_text false = codes "closed"

-- the state of a request, with the child that was granted
abbrev pub state_text : RequestPhase → List ℕ
state_text states.Asked = codes "asked"
state_text (states.Granted child) = codes "granted:" ++ escape child
state_text states.Refused = codes "refused"
state_text states.Undone = codes "undone"

-- the permissions that are asked for, if any
abbrev pub asked_text : Option Rights → List ℕ
asked_text (Some perms) = perms_text perms
asked_text None = codes "-"

-- a line of what a user lists
abbrev pub listing_text : Line → List ℕ
listing_text (Share id path with perms live) =
    spaced (codes "share") (spaced (decimal id) (spaced (path_escaped path) (spaced (address_text with) (spaced (perms_text perms) (live_text live)))))
listing_text (Received number offer phase) =
    spaced (codes "received") (spaced (decimal number) (spaced (address_text offer.owner) (spaced (escape offer.id) (spaced (perms_text offer.perms) (spaced (phase_word phase) (escape offer.name))))))
listing_text (Request number received with perms state) =
    spaced (codes "request") (spaced (decimal number) (spaced (decimal received) (spaced (address_text with) (spaced (asked_text perms) (state_text state)))))
