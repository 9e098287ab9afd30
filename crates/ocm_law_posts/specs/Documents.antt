-- The discovery document of a server of this program leads to that server.
use Rattle.std.specs.Prelude.{◌≡◌, ℕ, List, [], codes, Some, Ok, IsTrue}
use Rattle.serde_json.specs.Written.{compact_text}
use Rattle.ocm_types.specs.Hosts.{is_host}
use Rattle.ocm_records.specs.Written.{discovery_data}
use Rattle.ocm_http.specs.declared.messages.Message.{Message}
use Rattle.ocm_dav_pages.specs.Pages.{document_of}
use Rattle.ocm_dav_pages.specs.declared.shapes.Page.{Page}
use Rattle.ocm_dav.specs.Routes.{wanted_of}
use Rattle.ocm_dav.specs.declared.configs.Config.{Config}
use Rattle.ocm_dav.specs.declared.wants.Wanted.TheVariants as wanted
use Rattle.ocm_pump.specs.Delivery.{document_request, first_place, site_in}
use Rattle.ocm_pump.specs.Replies.{IsReply}
use Rattle.ocm_pump.specs.Sites.{site_read}
use Rattle.ocm_pump.specs.declared.sites.Site.{Site}
use Rattle.ocm_http.specs.Frames.{Given}
use Rattle.ocm_law_posts.specs.Names.{StandsInUrls, name_of}
use Rattle.ocm_law_posts.specs.Posts.{IsRequestOf}

-- where a server of this program takes letters, and files
abbrev pub own_site : List ℕ → Site
own_site host = record { host = host; path = codes "/ocm"; webdav = codes "/dav" }

-- the text of a server's own document is usable, and leads to the server
abbrev pub DocumentsLeadHome : Type 0
DocumentsLeadHome =
    (host : List ℕ) → IsTrue (is_host host) → StandsInUrls (name_of host)
    → site_read (compact_text (discovery_data (document_of host))) ≡ Some (own_site host)

-- ---- the search for a site

-- Bytes are one request, which a server answers with a page at once; the page is one reply, and by that a search for a
-- site ends here.
pub record FindsSite (config : Config) (bytes fresh : List ℕ) (site : Site) : Type 0 where
  pub message : Message
  pub read : IsRequestOf bytes message
  pub page : Page
  pub wanted : wanted_of config message fresh ≡ wanted.Page page
  pub reply : Message
  pub replied : IsReply page.bytes (Given reply [])
  pub found : site_in (Ok reply) ≡ Ok (Some site)

-- who asks a server of this program for its document, at the first place, finds where it takes letters
abbrev pub DocumentsAreFound : Type 0
DocumentsAreFound =
    (config : Config) (fresh : List ℕ) → IsTrue (is_host config.host) → StandsInUrls (name_of config.host)
    → FindsSite config (document_request config.host first_place) fresh (own_site config.host)
