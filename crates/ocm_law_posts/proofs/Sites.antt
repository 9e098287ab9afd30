-- The site of a document with the endPoint of a host of this program.
use Rattle.std.proofs.Common.{◌≡◌, ℕ, Bool, true, false, cond, List, Option, Some, None, option_map, option_and_then, Result, Ok, Err, IsTrue, refl, sym, ap, ◌∙◌, subst}
use Rattle.url.specs.declared.host.Host.{Host}
use Rattle.url.specs.Host as urls
use Rattle.url.specs.Parser.{Parsed, and_then, parse_url}
use Rattle.url.specs.Parts.{Parts, nonempty_host}
use Rattle.ocm_types.specs.Hosts.{is_host, host_of}
use Rattle.ocm_types.specs.declared.address_faults.AddressFault.{AddressFault}
use Rattle.ocm_types.proofs.HostReading.{host_of-canonical}
use Rattle.ocm_pump.specs.Sites.{authority, host_if, host_in, site_at, site_of, site_with}
use Rattle.ocm_pump.specs.declared.sites.Site.{Site}
use Rattle.ocm_records.specs.declared.values.Discovery.{Discovery}
use Rattle.ocm_law_posts.specs.Names.{StandsInUrls}
use Rattle.ocm_law_posts.specs.Posts.{IsOurs, EndPointsAreOurs, PostsGoThere, end_point}
use Rattle.ocm_law_posts.proofs.Documents.{own-host}
use Rattle.ocm_law_posts.proofs.EndPoints.{HostParts, host-parts, address_at, end_point-read}

-- ---- values that are there

map-some : {A B : Type 0} (f : A → B) (o : Option A) (y : B) → option_map f o ≡ Some y → (x : A) × (o ≡ Some x) × (f x ≡ y)
map-some f None y e = absurd cc
map-some f (Some x) y e = (x, refl, cc)

then-some : {A B : Type 0} (f : A → Option B) (o : Option A) (y : B) → option_and_then f o ≡ Some y → (x : A) × (o ≡ Some x) × (f x ≡ Some y)
then-some f None y e = absurd cc
then-some f (Some x) y e = (x, refl, e)

if-some : {A : Type 0} (b : Bool) (o : Option A) (y : A) → cond b o None ≡ Some y → (b ≡ true) × (o ≡ Some y)
if-some true o y e = (refl, e)
if-some false o y e = absurd cc

read-host : (r : Result (List ℕ) AddressFault) (host : List ℕ) → host_if r ≡ Some host → r ≡ Ok host
read-host (Ok x) host e = cc
read-host (Err fault) host e = absurd cc

-- ---- a site

host-canonical : (address : Parts) (host : List ℕ) → host_in address ≡ Some host → is_host host ≡ true
host-canonical address host e =
    let a = then-some (λ name. host_if (host_of (authority (urls.host_text name) address.port))) (nonempty_host address) host e in
    host_of-canonical (authority (urls.host_text a.0) address.port) host (read-host (host_of (authority (urls.host_text a.0) address.port)) host a.2)

site-ours : (webdav : List ℕ) (r : Parsed (Host (List ℕ))) (port : Option ℕ) (site : Site) → site_at webdav (and_then r (λ h. Ok (address_at port h))) ≡ Some site → IsOurs site
site-ours webdav (Err fault) port site e = absurd cc
site-ours webdav (Ok h) port site e =
    let a = map-some _ (host_in (address_at port h)) site e in
    record { host = subst (λ (s : Site). IsTrue (is_host s.host)) a.2 (host-canonical (address_at port h) a.0 a.1); path = ap (λ (s : Site). s.path) (sym a.2) }

-- the endPoint of a host is read as an address with that host's name and port
site-read : (target : List ℕ) (document : Discovery) (site : Site) (p : HostParts target) → document.end_point ≡ end_point target → site_of document ≡ Some site
    → (webdav : List ℕ) × (site_at webdav (and_then (urls.parse_special_host p.name) (λ h. Ok (address_at p.port h))) ≡ Some site)
site-read target document site p point e =
    let enabled = if-some document.enabled (option_and_then (site_with document.end_point) document.webdav) site e in
    let webdav = then-some (site_with document.end_point) document.webdav site enabled.1 in
    let plain = if-some _ (site_at webdav.0 (parse_url None document.end_point)) site webdav.2 in
    let read = ap (parse_url None) point ∙ end_point-read target p in
    (webdav.0, ap (site_at webdav.0) (sym read) ∙ plain.1)

pub end_points-ours : EndPointsAreOurs
end_points-ours target document site is point e =
    let p = host-parts target is in
    let at = site-read target document site p point e in
    site-ours at.0 (urls.parse_special_host p.name) p.port site at.1

-- it is that host, where its name is taken as it stands
pub posts-there : PostsGoThere
posts-there target document site is stands point e =
    let p = host-parts target is in
    let at = site-read target document site p point e in
    let s : StandsInUrls p.name = subst StandsInUrls p.first stands in
    let read : site_at at.0 (Ok (address_at p.port s.host)) ≡ Some site = ap (λ r. site_at at.0 (and_then r (λ h. Ok (address_at p.port h)))) (sym s.read) ∙ at.1 in
    let a = map-some _ (host_in (address_at p.port s.host)) site read in
    let own : a.0 ≡ target = let both : Some a.0 ≡ Some target = sym a.1 ∙ own-host target p s.host is s.same in cc in
    ap (λ (x : Site). x.host) (sym a.2) ∙ own
