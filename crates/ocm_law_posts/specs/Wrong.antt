-- Letters, hosts and messages that the laws leave out, and for each of which a law would be false. They serve the
-- counterexamples alone.
use Rattle.std.specs.Prelude.{ℕ, List, [], ◌∷◌, ◌++◌, length, map, codes, true, false, Some, None}
use Rattle.std.specs.declared.net.ipv4_addr.Ipv4Addr.{Ipv4Addr}
use Rattle.ocm_types.specs.declared.letters.Letter.{Letter}
use Rattle.ocm_types.specs.declared.letters.Notice.{Notice}
use Rattle.ocm_types.specs.declared.letters.Notice.TheVariants.{Changed}
use Rattle.ocm_http_heads.specs.declared.fields.Head.TheVariants.{Request}
use Rattle.ocm_http.specs.ReadBack.{lower, request_fields}
use Rattle.ocm_http.specs.declared.messages.Message.{Message}
use Rattle.ocm_records.specs.declared.values.Discovery.{Discovery}
use Rattle.ocm_pump.specs.Delivery.{letter_bytes, letter_end}
use Rattle.ocm_pump.specs.declared.sites.Site.{Site}
use Rattle.ocm_rules.specs.Cases.{first_secret, to_read}

-- a change that is not counted from 1
abbrev pub uncounted : Notice
uncounted = Changed (codes "1") first_secret 0 to_read

-- a letter posted to a site's path, without what stands behind that for its sort
abbrev pub posted_without_end : Letter → Message
posted_without_end letter = record { head = Request (codes "POST") (codes "/ocm") true []; body = letter_bytes letter }

-- the message of a post, as one behind which the connection stays open
abbrev pub open_message : Site → Letter → Message
open_message site letter = record {
  head = Request (codes "POST") (site.path ++ letter_end letter) false (map lower (request_fields site.host (codes "POST") None (length (letter_bytes letter))));
  body = letter_bytes letter;
}

-- a host whose name is a number, and the address as which other servers read it
abbrev pub number_host : List ℕ
number_host = codes "1"

abbrev pub first_address : Ipv4Addr
first_address = record { octets = 0 ∷ 0 ∷ 0 ∷ 1 ∷ [] }

-- a document with another path behind the host, and its site
abbrev pub document_with_path : Discovery
document_with_path = record { enabled = true; version = codes "1.1.0"; end_point = codes "http://a.example/ocm/2"; webdav = Some (codes "/dav/") }

abbrev pub site_with_path : Site
site_with_path = record { host = codes "a.example"; path = codes "/ocm/2"; webdav = codes "/dav" }
