-- What COPY and MOVE want (RFC 4918 sections 9.8 and 9.9): the refusals in their order, else a carry.
use Rattle.std.specs.Prelude.{ℕ, Bool, List, codes, Option, Some, None, Result, Ok, Err}
use Rattle.ocm_path.specs.Paths.{Segments}
use Rattle.ocm_entry.specs.declared.asks.Ask.TheVariants as asks
use Rattle.ocm_http_heads.specs.declared.fields.Field.{Field}
use Rattle.ocm_davmore.specs.Destinations.{destination_of}
use Rattle.ocm_davmore.specs.declared.faults.DestinationFault.{DestinationFault}
use Rattle.ocm_davmore.specs.declared.faults.DestinationFault.TheVariants.{OtherServer, BadPath, NoMemory}
use Rattle.ocm_dav_pages.specs.declared.shapes.Shape.{Shape}
use Rattle.ocm_dav.specs.declared.depths.Depth.{Depth}
use Rattle.ocm_dav.specs.declared.depths.Depth.TheVariants.{Zero, One, Infinity}
use Rattle.ocm_dav.specs.declared.wants.Wanted.{Wanted}
use Rattle.ocm_dav.specs.declared.wants.Wanted.TheVariants as wanted
use Rattle.ocm_dav.specs.Fields.{first_value}
use Rattle.ocm_dav.specs.Depths.{depth_of, overwrite_of}
use Rattle.ocm_dav.specs.Refusals.{bad_request, bad_path, other_server}

-- the value of the first `destination` field
abbrev pub destination : List Field → Option (List ℕ)
destination fields = first_value (codes "destination") fields

-- whether the first `overwrite` field allows to overwrite, if it says so
abbrev pub overwrite : List Field → Option Bool
overwrite fields = overwrite_of (first_value (codes "overwrite") fields)

-- fourth, whether what stands there may be overwritten
abbrev pub overwriting : Shape → Bool → Segments → List ℕ → Segments → Option Bool → Wanted
overwriting shape moving from secret to None = bad_request (codes "bad overwrite") shape
overwriting shape moving from secret to (Some allowed) = wanted.Ask (asks.Carry secret from to moving allowed) shape

-- third, the path that the destination names; no reading of a destination gives the last case
abbrev pub placed : List Field → Shape → Bool → Segments → List ℕ → Result Segments DestinationFault → Wanted
placed fields shape moving from secret (Ok to) = overwriting shape moving from secret to (overwrite fields)
placed fields shape moving from secret (Err OtherServer) = other_server shape
placed fields shape moving from secret (Err (BadPath fault)) = bad_path fault shape
placed fields shape moving from secret (Err NoMemory) = bad_request (codes "no memory") shape

-- second, the destination
abbrev pub sent : List ℕ → List Field → Shape → Bool → Segments → List ℕ → Option (List ℕ) → Wanted
sent host fields shape moving from secret None = bad_request (codes "no destination") shape
sent host fields shape moving from secret (Some value) = placed fields shape moving from secret (destination_of host value)

-- first, the depth: all that lies below the path, or nothing
abbrev pub at_depth : List ℕ → List Field → Shape → Bool → Segments → List ℕ → Option Depth → Wanted
at_depth host fields shape moving from secret (Some Infinity) = sent host fields shape moving from secret (destination fields)
at_depth host fields shape moving from secret (Some Zero) = bad_request (codes "bad depth") shape
at_depth host fields shape moving from secret (Some One) = bad_request (codes "bad depth") shape
at_depth host fields shape moving from secret None = bad_request (codes "bad depth") shape

-- what the holder of a secret wants by COPY at a path of the server of this host, or by MOVE where it is moving
abbrev pub carried : List ℕ → List Field → Shape → Bool → Segments → List ℕ → Wanted
carried host fields shape moving from secret =
    at_depth host fields shape moving from secret (depth_of (first_value (codes "depth") fields))
