-- Where a server takes letters, by its discovery document (Open Cloud Mesh API 1.1).
use Rattle.std.specs.Prelude.{ℕ, Bool, ◌&&◌, ◌||◌, ◌==◌, if◌then◌else◌, List, ◌++◌, codes, decimal, bytes_eq, Option, Some, None, option_map, option_and_then, Result, Ok, Err}
use Rattle.std.specs.List.{list_all}
use Rattle.url.specs.Parser.{Parsed, parse_url}
use Rattle.url.specs.Parts.{Parts, nonempty_host}
use Rattle.url.specs.Host as urls
use Rattle.ocm_types.specs.Hosts.{host_of, without_end}
use Rattle.ocm_types.specs.declared.address_faults.AddressFault.{AddressFault}
use Rattle.ocm_path.specs.Escapes.{is_unreserved}
use Rattle.ocm_records.specs.Documents as documents
use Rattle.ocm_records.specs.Rows.{record_of}
use Rattle.ocm_records.specs.declared.values.Discovery.{Discovery}
use Rattle.ocm_records.specs.declared.faults.RecordFault.{RecordFault}
use Rattle.ocm_pump.specs.declared.sites.Site.{Site}

-- a byte of a path: an ASCII letter, a digit, or one of `-._~%/`
abbrev pub is_path_byte : ℕ → Bool
is_path_byte b = is_unreserved b || b == 37 || b == 47

abbrev pub is_plain : List ℕ → Bool
is_plain path = list_all is_path_byte path

-- a path without one `/` at its end
abbrev pub without_slash : List ℕ → List ℕ
without_slash path = without_end (codes "/") path

-- a host's name and, where an address has one, its port
abbrev pub authority : List ℕ → Option ℕ → List ℕ
authority name None = name
authority name (Some port) = name ++ codes ":" ++ decimal port

-- a host, where it was read
abbrev pub host_if : Result (List ℕ) AddressFault → Option (List ℕ)
host_if (Ok host) = Some host
host_if (Err fault) = None

-- the host that an address names, as a host is read
abbrev pub host_in : Parts → Option (List ℕ)
host_in address =
    option_and_then (λ name. host_if (host_of (authority (urls.host_text name) address.port))) (nonempty_host address)

-- an address by `http`, whose path is plain
abbrev pub is_taken : Parts → Bool
is_taken address = bytes_eq address.scheme (codes "http") && is_plain address.path

-- the site at an address, with a path of WebDAV
abbrev pub site_on : List ℕ → Parts → Option Site
site_on webdav address =
    if is_taken address
    then option_map (λ host. record { host = host; path = without_slash address.path; webdav = without_slash webdav }) (host_in address)
    else None

-- the site at an endPoint, as `url` reads it
abbrev pub site_at : List ℕ → Parsed Parts → Option Site
site_at webdav (Ok address) = site_on webdav address
site_at webdav (Err fault) = None

-- the site of an endPoint and the path of WebDAV, which is plain
abbrev pub site_with : List ℕ → List ℕ → Option Site
site_with end_point webdav = if is_plain webdav then site_at webdav (parse_url None end_point) else None

-- the site of a usable document: it is enabled and has a path of WebDAV
abbrev pub site_of : Discovery → Option Site
site_of document = if document.enabled then option_and_then (site_with document.end_point) document.webdav else None

abbrev pub site_if : Result Discovery RecordFault → Option Site
site_if (Ok document) = site_of document
site_if (Err fault) = None

-- the site of the usable document that bytes are
abbrev pub site_read : List ℕ → Option Site
site_read bytes = site_if (record_of documents.discovery bytes)
