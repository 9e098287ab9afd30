-- The fields of a page's head (RFC 9110).
use Rattle.std.specs.Prelude.{ℕ, ◌==◌, List, [], ◌∷◌, ◌++◌, codes, if◌then◌else◌}
use Rattle.std.specs.Fmt.{decimal}
use Rattle.ocm_http_heads.specs.declared.fields.Field.{Field}
use Rattle.ocm_dav_pages.specs.declared.shapes.Allow.{Allow}
use Rattle.ocm_dav_pages.specs.declared.shapes.Allow.TheVariants.{Discovery, Post, Dav}

abbrev pub field : List ℕ → List ℕ → Field
field name value = record { name = name; value = value }

-- the type of a body (RFC 9110 section 8.3)
abbrev pub content_type : List ℕ → Field
content_type kind = field (codes "Content-Type") kind

-- that a body is the bytes from a first to a last place of a file of so many (RFC 9110 section 14.4)
abbrev pub content_range : ℕ → ℕ → ℕ → Field
content_range first last size = field (codes "Content-Range") (codes "bytes " ++ decimal first ++ codes "-" ++ decimal last ++ codes "/" ++ decimal size)

-- that a file of so many bytes has none of those that are asked for
abbrev pub no_range : ℕ → Field
no_range size = field (codes "Content-Range") (codes "bytes */" ++ decimal size)

-- how a client is to say who it is (RFC 9110 section 11.6.1, RFC 7617 section 2)
unfoldable pub challenge : Field
challenge = field (codes "WWW-Authenticate") (codes "Basic realm=\"ocm\"")

-- the methods that a target takes
abbrev pub methods : Allow → List ℕ
methods Discovery = codes "GET, HEAD"
methods Post = codes "POST"
methods Dav = codes "GET, HEAD, PUT, DELETE, MKCOL, PROPFIND, COPY, MOVE"

-- the methods that are allowed in place of the one that was asked for (RFC 9110 section 10.2.1)
unfoldable pub allowed : Allow → Field
allowed allow = field (codes "Allow") (methods allow)

-- the fields that a status asks for
abbrev pub status_fields : ℕ → Allow → List Field
status_fields status allow =
    if status == 401 then challenge ∷ []
    else if status == 405 then allowed allow ∷ []
    else []
