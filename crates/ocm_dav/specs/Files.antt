-- What requests at `/dav` want (RFC 4918): the refusals in their order, else an ask for files.
use Rattle.std.specs.Prelude.{ℕ, true, false, List, [], codes, Option, Some, None, Result, Ok, Err}
use Rattle.ocm_path.specs.Paths.{Segments, path_of}
use Rattle.ocm_path.specs.declared.faults.PathFault.{PathFault}
use Rattle.ocm_entry.specs.declared.asks.Ask.TheVariants as asks
use Rattle.ocm_entry.specs.declared.asks.Method.{Method}
use Rattle.ocm_entry.specs.declared.asks.Method.TheVariants as methods
use Rattle.ocm_entry.specs.declared.refusals.Why.TheVariants as reasons
use Rattle.ocm_http_heads.specs.declared.fields.Field.{Field}
use Rattle.ocm_dav_pages.specs.declared.shapes.Shape.{Shape}
use Rattle.ocm_dav.specs.declared.depths.Depth.{Depth}
use Rattle.ocm_dav.specs.declared.depths.Depth.TheVariants.{Zero, One, Infinity}
use Rattle.ocm_dav.specs.declared.verbs.Verb.{Verb}
use Rattle.ocm_dav.specs.declared.verbs.Verb.TheVariants.{Get, Head, Put, Delete, Mkcol, Propfind, Copy, Move}
use Rattle.ocm_dav.specs.declared.wants.Wanted.{Wanted}
use Rattle.ocm_dav.specs.declared.wants.Wanted.TheVariants as wanted
use Rattle.ocm_dav.specs.Fields.{first_value}
use Rattle.ocm_dav.specs.Credentials.{credentials_of}
use Rattle.ocm_dav.specs.Depths.{depth_of}
use Rattle.ocm_dav.specs.Verbs.{verb_of}
use Rattle.ocm_dav.specs.Shapes.{with_range}
use Rattle.ocm_dav.specs.Refusals.{refused, bad_request, bad_path, not_finite}
use Rattle.ocm_dav.specs.Carries.{carried}

-- the depth that the first `depth` field tells
abbrev pub depth : List Field → Option Depth
depth fields = depth_of (first_value (codes "depth") fields)

-- an ask for what stands at a path
abbrev pub at_path : Method → Segments → List ℕ → List ℕ → Shape → Wanted
at_path method path secret body shape = wanted.Ask (asks.Dav secret method path body) shape

-- what a PROPFIND of a depth wants
abbrev pub listed : Segments → List ℕ → Shape → Option Depth → Wanted
listed path secret shape (Some Zero) = at_path methods.List0 path secret [] shape
listed path secret shape (Some One) = at_path methods.List1 path secret [] shape
listed path secret shape (Some Infinity) = not_finite shape
listed path secret shape None = bad_request (codes "bad depth") shape

-- what a PUT wants, unless it has a `content-range` field: what it sends is then a part of a file (RFC 9110 section 14.5)
abbrev pub stored : List ℕ → Shape → Segments → List ℕ → Option (List ℕ) → Wanted
stored body shape path secret None = at_path methods.Put path secret body shape
stored body shape path secret (Some part) = bad_request (codes "no partial put") shape

-- what the holder of a secret wants at a path: a range is for GET alone, a body for PUT and MKCOL
abbrev pub held : List ℕ → List Field → List ℕ → Shape → Segments → List ℕ → Verb → Wanted
held host fields body shape path secret Get = at_path methods.Get path secret [] (with_range fields shape)
held host fields body shape path secret Head = at_path methods.Head path secret [] shape
held host fields body shape path secret Put = stored body shape path secret (first_value (codes "content-range") fields)
held host fields body shape path secret Delete = at_path methods.Delete path secret [] shape
held host fields body shape path secret Mkcol = at_path methods.Mkcol path secret body shape
held host fields body shape path secret Propfind = listed path secret shape (depth fields)
held host fields body shape path secret Copy = carried host fields shape false path secret
held host fields body shape path secret Move = carried host fields shape true path secret

-- third, the credentials
abbrev pub granted : List ℕ → List Field → List ℕ → Shape → Verb → Segments → Option (List ℕ) → Wanted
granted host fields body shape verb path None = refused reasons.Unauthorized shape
granted host fields body shape verb path (Some secret) = held host fields body shape path secret verb

-- what is wanted by the credentials that the fields give
abbrev pub by_credentials : List ℕ → List Field → List ℕ → Shape → Verb → Segments → Wanted
by_credentials host fields body shape verb path = granted host fields body shape verb path (credentials_of fields)

-- second, the path
abbrev pub located : List ℕ → List Field → List ℕ → Shape → Verb → Result Segments PathFault → Wanted
located host fields body shape verb (Err fault) = bad_path fault shape
located host fields body shape verb (Ok path) = by_credentials host fields body shape verb path

-- what is wanted at what follows `/dav`
abbrev pub at_rest : List ℕ → List Field → List ℕ → Shape → Verb → List ℕ → Wanted
at_rest host fields body shape verb rest = located host fields body shape verb (path_of rest)

-- first, the method
abbrev pub allowed : List ℕ → List Field → List ℕ → Shape → List ℕ → Option Verb → Wanted
allowed host fields body shape rest None = refused reasons.NotAllowed shape
allowed host fields body shape rest (Some verb) = at_rest host fields body shape verb rest

-- what a request by a method wants of the server of this host at what follows `/dav`
abbrev pub files_wanted : List ℕ → List ℕ → List ℕ → List Field → List ℕ → Shape → Wanted
files_wanted host method rest fields body shape = allowed host fields body shape rest (verb_of method)
