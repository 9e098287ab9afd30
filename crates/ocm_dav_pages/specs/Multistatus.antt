-- What stands at a path and in it, as XML (RFC 4918 sections 9.1, 14 and 15).
use Rattle.std.specs.Prelude.{ℕ, List, [], ◌∷◌, ◌++◌, ◌&&◌, is_some, if◌then◌else◌, codes, Option, Some, None}
use Rattle.std.specs.Fmt.{decimal}
use Rattle.std.specs.List.{flat_map}
use Rattle.ocm_path.specs.Paths.{Segments, is_root, joined_escaped, path_escaped}
use Rattle.ocm_entry.specs.declared.listings.DavItem.{DavItem}

-- a document's first line
abbrev pub declaration : List ℕ
declaration = codes "<?xml version=\"1.0\" encoding=\"utf-8\"?>" ++ 10 ∷ []

-- the `/` behind a collection, which the root's path has already
abbrev pub end_slash : Segments → Option ℕ → List ℕ
end_slash path (Some size) = []
end_slash path None = if is_root path then [] else codes "/"

-- where a resource is found: `/dav` and its escaped path below the holder's root, with one `/` behind a collection's
abbrev pub href : Segments → Option ℕ → List ℕ
href path size = codes "/dav" ++ path_escaped path ++ end_slash path size

-- the properties of a file of so many bytes, or of a collection (RFC 4918 sections 15.4 and 15.9)
abbrev pub properties : Option ℕ → List ℕ
properties (Some size) = codes "<D:resourcetype/><D:getcontentlength>" ++ decimal size ++ codes "</D:getcontentlength>"
properties None = codes "<D:resourcetype><D:collection/></D:resourcetype>"

-- what is told of a resource
unfoldable pub response : DavItem → List ℕ
response item =
    codes "<D:response><D:href>" ++ href item.path item.size
    ++ codes "</D:href><D:propstat><D:prop>" ++ properties item.size
    ++ codes "</D:prop><D:status>HTTP/1.1 200 OK</D:status></D:propstat></D:response>"

-- what stands behind the path of a resource: the `/` of a collection, and its properties
unfoldable pub behind : Option ℕ → List ℕ
behind (Some size) =
    codes "</D:href><D:propstat><D:prop><D:resourcetype/><D:getcontentlength>" ++ decimal size
    ++ codes "</D:getcontentlength></D:prop><D:status>HTTP/1.1 200 OK</D:status></D:propstat></D:response>"
behind None = codes "/</D:href><D:propstat><D:prop><D:resourcetype><D:collection/></D:resourcetype></D:prop><D:status>HTTP/1.1 200 OK</D:status></D:propstat></D:response>"

-- the `/` of a root that is a file
abbrev pub root_slash : Segments → Option ℕ → List ℕ
root_slash path size = if is_root path && is_some size then codes "/" else []

-- what is told of a resource in the collection at a path, up to its name
abbrev pub front : Segments → List ℕ
front path = codes "<D:response><D:href>/dav" ++ joined_escaped path ++ codes "/"

abbrev pub multistatus : List DavItem → List ℕ
multistatus items = declaration ++ codes "<D:multistatus xmlns:D=\"DAV:\">" ++ flat_map response items ++ codes "</D:multistatus>"

-- that no list without a finite depth is given (RFC 4918 section 9.1)
abbrev pub finite_depth : List ℕ
finite_depth = declaration ++ codes "<D:error xmlns:D=\"DAV:\"><D:propfind-finite-depth/></D:error>"
