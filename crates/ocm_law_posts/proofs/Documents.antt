-- The discovery document of a server of this program leads to that server.
use Rattle.std.proofs.Common.{◌≡◌, ℕ, ◌≤◌, true, false, cond, not, List, [], ◌∷◌, ◌++◌, length, Option, Some, None, option_map, Ok, IsUtf8, IsTrue, codes, decimal, refl, sym, ap, ◌∙◌, subst, arith, length-append, append_assoc, append-nil, lit≤}
use Rattle.std.specs.Prelude.{◌<◌, unwrap_or, option_and_then}
use Rattle.std.proofs.lemmas.Str.{IsUtf8-append}
use Rattle.json.proofs.Printed.Utf8.{IsUtf8-are_ascii}
use Rattle.serde_json.specs.Data.{boolean}
use Rattle.serde_json.specs.Read.{of_json}
use Rattle.serde_json.specs.Written.{compact_text, outline}
use Rattle.url.specs.declared.host.Host.{Host}
use Rattle.url.specs.declared.host.Host.TheVariants.{Domain, Ipv4, Ipv6}
use Rattle.url.specs.Host as urls
use Rattle.url.specs.Parser.{and_then, parse_url}
use Rattle.url.specs.Parts.{nonempty_host}
use Rattle.url.proofs.InputLemmas.{is_empty_nonempty}
use Rattle.ocm_types.specs.Hosts.{is_host, host_of}
use Rattle.ocm_types.proofs.HostReading.{host_of-same}
use Rattle.ocm_records.specs.Documents.{discovery}
use Rattle.ocm_records.specs.Rows.{record_of}
use Rattle.ocm_records.specs.Written.{discovery_data, files_data}
use Rattle.ocm_records.proofs.DocumentsBack.{discovery_back}
use Rattle.ocm_dav_pages.specs.Pages.{document_of}
use Rattle.ocm_dav_pages.proofs.DocumentLaws.{document_is_discovery}
use Rattle.ocm_pump.specs.Sites.{authority, host_if, host_in, site_at, site_if, site_of}
use Rattle.ocm_law_posts.specs.Names.{StandsInUrls}
use Rattle.ocm_law_posts.specs.Documents.{own_site, DocumentsLeadHome}
use Rattle.ocm_law_posts.specs.Posts.{end_point}
use Rattle.ocm_law_posts.proofs.EndPoints.{HostParts, host-parts, address_at, end_point-read, name-some}
use Rattle.ocm_law_posts.proofs.Fitting.{Fits, host-short, host-utf8, string-fits, literal-fits, object-fits, array-fits, nothing-fits, member-fits, item-fits, no_items-fit, roomy}
use Rattle.ocm_law_posts.proofs.Written.{Carried, carried}

-- ---- the document's text

true-fits : Fits (boolean true) 5
true-fits = record { spelled = tt; few = lit≤ tt }

files-fit : Fits (files_data (codes "/dav/")) 1000
files-fit =
    roomy 1000 (lit≤ tt)
    (object-fits
    (member-fits (codes "name") refl (literal-fits (codes "file") refl)
    (member-fits (codes "protocols") refl (object-fits (member-fits (codes "webdav") refl (literal-fits (codes "/dav/") refl) nothing-fits))
    (member-fits (codes "shareTypes") refl (array-fits (item-fits (literal-fits (codes "user") refl) no_items-fit)) nothing-fits))))

end_point-utf8 : (host : List ℕ) → HostParts host → IsUtf8 (end_point host)
end_point-utf8 host p =
    IsUtf8-append (codes "http://" ++ host) (codes "/ocm") (IsUtf8-append (codes "http://") host (IsUtf8-are_ascii (codes "http://") refl) (host-utf8 host p)) (IsUtf8-are_ascii (codes "/ocm") refl)

end_point-short : (host : List ℕ) → HostParts host → length (end_point host) ≤ 300
end_point-short host p = simp length-append (omega (arith, host-short host p))

document-fits : (host : List ℕ) → HostParts host → Fits (discovery_data (document_of host)) 65536
document-fits host p =
    roomy 65536 (lit≤ tt)
    (object-fits
    (member-fits (codes "apiVersion") refl (literal-fits (codes "1.1.0") refl)
    (member-fits (codes "enabled") refl true-fits
    (member-fits (codes "endPoint") refl (string-fits 300 (end_point-utf8 host p) (end_point-short host p))
    (member-fits (codes "resourceTypes") refl (array-fits (item-fits files-fit no_items-fit)) nothing-fits)))))

document-same : (host : List ℕ) → of_json (outline (discovery_data (document_of host))) ≡ Some (discovery_data (document_of host))
document-same host = refl

abbrev pub document_text : List ℕ → List ℕ
document_text host = compact_text (discovery_data (document_of host))

document-carried : (host : List ℕ) → HostParts host → Carried (discovery_data (document_of host))
document-carried host p = carried (discovery_data (document_of host)) (document-fits host p) (document-same host)

pub document-short : (host : List ℕ) → HostParts host → length (document_text host) ≤ 65536
document-short host p = (document-carried host p).short

document-back : (host : List ℕ) → IsTrue (is_host host) → HostParts host → record_of discovery (document_text host) ≡ Ok (document_of host)
document-back host is p = discovery_back (document_text host) (discovery_data (document_of host)) (document_of host) refl (document-carried host p).back (document_is_discovery host is)

-- ---- its site

some-host : (h : Host (List ℕ)) (name : List ℕ) → urls.host_text h ≡ name → 0 < length name → urls.is_empty_host h ≡ false
some-host (Domain domain) name same some = is_empty_nonempty domain (omega (arith, ap length same, some))
some-host (Ipv4 address) name same some = refl
some-host (Ipv6 address) name same some = refl

own-authority : (port : Option ℕ) (name host : List ℕ) → host ≡ name ++ unwrap_or (option_map (λ n. 58 ∷ decimal n) port) [] → authority name port ≡ host
own-authority None name host spelled = sym (spelled ∙ append-nil name)
own-authority (Some n) name host spelled = append_assoc name (58 ∷ []) (decimal n) ∙ sym spelled

pub own-host : (host : List ℕ) (p : HostParts host) (h : Host (List ℕ)) → is_host host ≡ true → urls.host_text h ≡ p.name → host_in (address_at p.port h) ≡ Some host
own-host host p h is same =
    let some : nonempty_host (address_at p.port h) ≡ Some h = ap (λ b. cond (not b) (Some h) None) (some-host h p.name same (name-some p.name p.is_name)) in
    let named : authority (urls.host_text h) p.port ≡ host = ap (λ n. authority n p.port) same ∙ own-authority p.port p.name host p.spelled in
    ap (option_and_then (λ name. host_if (host_of (authority (urls.host_text name) p.port)))) some ∙ ap host_if (ap host_of named ∙ host_of-same host is)

own-site : (host : List ℕ) (p : HostParts host) → is_host host ≡ true → StandsInUrls p.name → site_of (document_of host) ≡ Some (own_site host)
own-site host p is stands =
    let read : parse_url None (end_point host) ≡ Ok (address_at p.port stands.host) = end_point-read host p ∙ ap (λ r. and_then r (λ h. Ok (address_at p.port h))) stands.read in
    ap (site_at (codes "/dav/")) read ∙ ap (option_map (λ h. record (own_site host) { host = h })) (own-host host p stands.host is stands.same)

pub document-home : DocumentsLeadHome
document-home host is stands =
    let p = host-parts host is in
    ap site_if (document-back host is p) ∙ own-site host p is (subst StandsInUrls p.first stands)
