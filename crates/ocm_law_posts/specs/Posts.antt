-- A letter that is posted is delivered: the bytes of the post are one message, which asks what the letter says.
use Rattle.std.specs.Prelude.{◌≡◌, ℕ, ◌≤◌, true, List, [], ◌∷◌, ◌++◌, length, codes, None, Some, Ok, IsTrue}
use Rattle.ocm_limits.specs.Limits.{most_body_bytes, most_json_bytes}
use Rattle.ocm_types.specs.Hosts.{is_host}
use Rattle.ocm_types.specs.declared.letters.Letter.{Letter}
use Rattle.ocm_types.specs.declared.letters.Letter.TheVariants as letters
use Rattle.ocm_entry.specs.declared.asks.Ask.{Ask}
use Rattle.ocm_http_heads.specs.declared.fields.Field.{Field}
use Rattle.ocm_http_heads.specs.declared.fields.Head.TheVariants.{Request}
use Rattle.ocm_http.specs.Frames.{Frames, Over}
use Rattle.ocm_http.specs.ReadBack.{ReadsAs, request_message}
use Rattle.ocm_http.specs.declared.messages.Kind.TheVariants.{Requests}
use Rattle.ocm_http.specs.declared.messages.Message.{Message}
use Rattle.ocm_records.specs.Rows.{record_of}
use Rattle.ocm_records.specs.Offers.{offer}
use Rattle.ocm_records.specs.Notices.{notice}
use Rattle.ocm_records.specs.declared.values.Discovery.{Discovery}
use Rattle.ocm_dav_pages.specs.declared.shapes.Allow.TheVariants.{Post}
use Rattle.ocm_dav_pages.specs.declared.shapes.Shape.{Shape}
use Rattle.ocm_dav.specs.Routes.{wanted_of}
use Rattle.ocm_dav.specs.Shapes.{shape_of}
use Rattle.ocm_dav.specs.declared.configs.Config.{Config}
use Rattle.ocm_dav.specs.declared.wants.Wanted.TheVariants as wanted
use Rattle.ocm_pump.specs.Delivery.{letter_bytes, letter_end, post_request}
use Rattle.ocm_pump.specs.Sites.{site_of}
use Rattle.ocm_pump.specs.declared.sites.Site.{Site}
use Rattle.ocm_entry.specs.Deliveries.{letter_ask}
use Rattle.ocm_law_posts.specs.Letters.{IsLetter}
use Rattle.ocm_law_posts.specs.Names.{StandsInUrls, name_of}

-- ---- the body

-- bytes are read as this letter, by its table
abbrev pub ReadsLetter : Letter → List ℕ → Type 0
ReadsLetter (letters.Offer o) bytes = record_of offer bytes ≡ Ok o
ReadsLetter (letters.Notice n) bytes = record_of notice bytes ≡ Ok n

-- the record of a letter has at most 65,536 bytes, and is read as that letter
abbrev pub LettersAreReadBack : Type 0
LettersAreReadBack = (letter : Letter) → IsLetter letter → (length (letter_bytes letter) ≤ most_json_bytes) × ReadsLetter letter (letter_bytes letter)

-- ---- the message

-- bytes are this request and nothing else, as a server reads them: at each place of a connection's stream, whether it
-- ends with them or not
abbrev pub IsRequestOf : List ℕ → Message → Type 0
IsRequestOf bytes message = ReadsAs Requests most_body_bytes bytes message

-- the message that a post to a site is
abbrev pub post_message : Site → Letter → Message
post_message site letter = request_message site.host (codes "POST") (site.path ++ letter_end letter) None (letter_bytes letter)

-- where a server of this program takes letters: at a host, with this path
pub record IsOurs (site : Site) : Type 0 where
  pub host : IsTrue (is_host site.host)
  pub path : site.path ≡ codes "/ocm"

-- a post to a server of this program spells one message
abbrev pub PostsAreMessages : Type 0
PostsAreMessages = (site : Site) (letter : Letter) → IsOurs site → IsLetter letter → IsRequestOf (post_request site letter) (post_message site letter)

-- ---- what is asked

-- how a POST is answered behind which its connection closes
abbrev pub post_shape : Shape
post_shape = shape_of (codes "POST") true Post

-- a message asks a server this, with these drawn bytes, and is answered as such a POST is
abbrev pub Asks : Config → Message → List ℕ → Ask → Type 0
Asks config message fresh ask = wanted_of config message fresh ≡ wanted.Ask ask post_shape

-- a letter in a POST, which closes, to where letters of its sort are taken
abbrev pub letter_message : Letter → List Field → Message
letter_message letter fields = record { head = Request (codes "POST") (codes "/ocm" ++ letter_end letter) true fields; body = letter_bytes letter }

-- such a message asks what its letter says
abbrev pub RoutesAreLetters : Type 0
RoutesAreLetters =
    (config : Config) (letter : Letter) (fields : List Field) (fresh : List ℕ) → IsLetter letter
    → Asks config (letter_message letter fields) fresh (letter_ask letter fresh)

-- ---- where letters are taken

-- a document with the endPoint of a host of this program, where it is usable, leads there
abbrev pub end_point : List ℕ → List ℕ
end_point host = codes "http://" ++ host ++ codes "/ocm"

abbrev pub EndPointsAreOurs : Type 0
EndPointsAreOurs =
    (target : List ℕ) (document : Discovery) (site : Site) → IsTrue (is_host target)
    → document.end_point ≡ end_point target → site_of document ≡ Some site → IsOurs site

-- ---- all of it

-- Bytes are one message, which asks a server this. They are it wherever they stand in a connection's stream, and as a
-- stream of their own they are that message alone, and the end.
pub record AreAsk (config : Config) (bytes fresh : List ℕ) (ask : Ask) : Type 0 where
  pub message : Message
  pub read : IsRequestOf bytes message
  pub alone : Frames Requests most_body_bytes 0 bytes true (message ∷ []) Over
  pub asks : Asks config message fresh ask

-- A letter is posted to the site of a usable document with the endPoint of a host of this program: the bytes are one
-- message, which asks the server what the letter says.
abbrev pub PostsAreDeliveries : Type 0
PostsAreDeliveries =
    (target : List ℕ) (document : Discovery) (site : Site) (letter : Letter) (config : Config) (fresh : List ℕ)
    → IsTrue (is_host target) → document.end_point ≡ end_point target → site_of document ≡ Some site → IsLetter letter
    → AreAsk config (post_request site letter) fresh (letter_ask letter fresh)

-- Such a site is at the host of that endPoint, where the URL Standard takes the host's name as it stands.
abbrev pub PostsGoThere : Type 0
PostsGoThere =
    (target : List ℕ) (document : Discovery) (site : Site)
    → IsTrue (is_host target) → StandsInUrls (name_of target) → document.end_point ≡ end_point target → site_of document ≡ Some site → site.host ≡ target
