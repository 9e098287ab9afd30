-- The routes of a server: what a request wants, by its target.
use Rattle.std.specs.Prelude.{ℕ, Bool, true, ◌||◌, List, [], codes, bytes_eq, if◌then◌else◌, Option, Some, None}
use Rattle.ocm_entry.specs.declared.refusals.Why.TheVariants as reasons
use Rattle.ocm_http_heads.specs.declared.fields.Field.{Field}
use Rattle.ocm_http_heads.specs.declared.fields.Head.{Head}
use Rattle.ocm_http_heads.specs.declared.fields.Head.TheVariants as heads
use Rattle.ocm_http.specs.declared.messages.Message.{Message}
use Rattle.ocm_davmore.specs.Destinations.{begins_with_slash, before_query, below_dav}
use Rattle.ocm_dav_pages.specs.declared.shapes.Allow.TheVariants.{Discovery, Post, Dav}
use Rattle.ocm_dav_pages.specs.declared.shapes.Shape.{Shape}
use Rattle.ocm_dav_pages.specs.Pages.{discovery_page}
use Rattle.ocm_dav.specs.declared.configs.Config.{Config}
use Rattle.ocm_dav.specs.declared.wants.Wanted.{Wanted}
use Rattle.ocm_dav.specs.declared.wants.Wanted.TheVariants as wanted
use Rattle.ocm_dav.specs.Shapes.{shape_of}
use Rattle.ocm_dav.specs.Refusals.{refused, bad_request}
use Rattle.ocm_dav.specs.Posts.{shares_wanted, notifications_wanted, local_wanted}
use Rattle.ocm_dav.specs.Files.{files_wanted}

-- the paths of the discovery document (Open Cloud Mesh API 1.1)
abbrev pub is_discovery : List ℕ → Bool
is_discovery path =
    bytes_eq path (codes "/.well-known/ocm")
    || bytes_eq path (codes "/ocm-provider")
    || bytes_eq path (codes "/ocm-provider/")

-- the paths to which shares are posted
abbrev pub is_shares : List ℕ → Bool
is_shares path = bytes_eq path (codes "/ocm/shares") || bytes_eq path (codes "/ocm/shares/")

-- the paths to which notifications are posted
abbrev pub is_notifications : List ℕ → Bool
is_notifications path = bytes_eq path (codes "/ocm/notifications") || bytes_eq path (codes "/ocm/notifications/")

-- whether a method only reads (RFC 9110 sections 9.3.1 and 9.3.2)
abbrev pub reads : List ℕ → Bool
reads method = bytes_eq method (codes "GET") || bytes_eq method (codes "HEAD")

-- what a request for the discovery document wants
abbrev pub discovery_wanted : List ℕ → List ℕ → Shape → Wanted
discovery_wanted host method shape =
    if reads method then wanted.Page (discovery_page host shape) else refused reasons.NotAllowed shape

-- what a request wants at what follows `/dav`, where its path is there; else nothing is found
abbrev pub below_wanted : Config → List ℕ → Bool → List Field → List ℕ → Option (List ℕ) → Wanted
below_wanted config method closing fields body (Some rest) =
    files_wanted config.host method rest fields body (shape_of method closing Dav)
below_wanted config method closing fields body None = refused reasons.NotFound (shape_of method closing Dav)

-- what a request wants at a path of no other route
abbrev pub at_path : Config → List ℕ → List ℕ → Bool → List Field → List ℕ → Wanted
at_path config method path closing fields body = below_wanted config method closing fields body (below_dav path)

-- what a request wants, by the path of its target
abbrev pub path_wanted : Config → List ℕ → List ℕ → Bool → List Field → List ℕ → List ℕ → Wanted
path_wanted config method path closing fields body fresh =
    if is_discovery path then discovery_wanted config.host method (shape_of method closing Discovery)
    else if is_shares path then shares_wanted method body (shape_of method closing Post)
    else if is_notifications path then notifications_wanted method body fresh (shape_of method closing Post)
    else if bytes_eq path (codes "/local")
    then local_wanted config.host config.admin method fields body fresh (shape_of method closing Post)
    else at_path config method path closing fields body

-- what a request wants, by its target, which is a path up to its first `?` (RFC 9112 section 3.2.1)
abbrev pub target_wanted : Config → List ℕ → List ℕ → Bool → List Field → List ℕ → List ℕ → Wanted
target_wanted config method target closing fields body fresh =
    if begins_with_slash target then path_wanted config method (before_query target) closing fields body fresh
    else bad_request (codes "bad target") (shape_of method closing Dav)

-- what a head wants with a body; one of a reply has no target
abbrev pub head_wanted : Config → List ℕ → List ℕ → Head → Wanted
head_wanted config body fresh (heads.Request method target closing fields) =
    target_wanted config method target closing fields body fresh
head_wanted config body fresh (heads.Reply status fields) = bad_request (codes "bad target") (shape_of [] true Dav)

-- what a message wants of a server, with these drawn bytes
abbrev pub wanted_of : Config → Message → List ℕ → Wanted
wanted_of config message fresh = head_wanted config message.body fresh message.head
