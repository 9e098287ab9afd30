-- What is told of a resource, as it is written: what comes before a name, the name, and what stands behind.
use Rattle.std.proofs.Common.{◌≡◌, ◌≢◌, ℕ, List, [], ◌∷◌, ◌++◌, refl, sym, ap, ◌∙◌, append_assoc, length, length-append, arith}
use Rattle.std.specs.Prelude.{Bool, true, false, ◌&&◌, ◌==◌, is_some, if◌then◌else◌, codes, Option, Some, None}
use Rattle.std.specs.Fmt.{decimal}
use Rattle.ocm_path.specs.Escapes.{escape}
use Rattle.ocm_path.specs.Paths.{Segments, is_root, joined_escaped, path_escaped}
use Rattle.ocm_path.proofs.Joining.{is_root-cons, is_root-named, joined_escaped-named}
use Rattle.ocm_dav_pages.specs.Multistatus.{response, behind, root_slash, front, properties, end_slash}

-- ---- lists behind one another

pub added-three : (old a b c : List ℕ) → old ++ a ++ b ++ c ≡ old ++ (a ++ b ++ c)
added-three old a b c = simp append_assoc

pub added-four : (old a b c d : List ℕ) → old ++ a ++ b ++ c ++ d ≡ old ++ (a ++ b ++ c ++ d)
added-four old a b c d = simp append_assoc

whole-parted : (o d p s b q e : List ℕ) → o ++ (d ++ p ++ s) ++ b ++ q ++ e ≡ o ++ d ++ p ++ s ++ (b ++ (q ++ e))
whole-parted o d p s b q e = simp append_assoc

file-parted : (b r d c e : List ℕ) → b ++ (r ++ d ++ c ++ e) ≡ b ++ r ++ d ++ (c ++ e)
file-parted b r d c e = simp append_assoc

name-parted : (c j s n b : List ℕ) → c ++ (j ++ s ++ n) ++ b ≡ c ++ j ++ s ++ n ++ b
name-parted c j s n b = simp append_assoc

-- ---- what stands behind a path

after : Option ℕ → List ℕ
after size = codes "</D:href><D:propstat><D:prop>" ++ (properties size ++ codes "</D:prop><D:status>HTTP/1.1 200 OK</D:status></D:propstat></D:response>")

file-behind : (n : ℕ) → after (Some n) ≡ behind (Some n)
unfolding after behind
file-behind n =
    file-parted (codes "</D:href><D:propstat><D:prop>") (codes "<D:resourcetype/><D:getcontentlength>") (decimal n) (codes "</D:getcontentlength>") (codes "</D:prop><D:status>HTTP/1.1 200 OK</D:status></D:propstat></D:response>")

collection-behind : codes "/" ++ after None ≡ behind None
unfolding after behind
collection-behind = refl

-- a response by its path and the `/` behind it
parted : (path : Segments) (size : Option ℕ) (p slash : List ℕ) → path_escaped path ≡ p → end_slash path size ≡ slash →
    response (record { path = path; size = size }) ≡ codes "<D:response><D:href>/dav" ++ p ++ slash ++ after size
unfolding response after
parted path size p slash e f =
    rw (e, f)
    (whole-parted (codes "<D:response><D:href>") (codes "/dav") p slash (codes "</D:href><D:propstat><D:prop>") (properties size) (codes "</D:prop><D:status>HTTP/1.1 200 OK</D:status></D:propstat></D:response>"))

-- a response of a path that is not the root
below_root : (path : Segments) (size : Option ℕ) → is_root path ≡ false → response (record { path = path; size = size }) ≡ codes "<D:response><D:href>/dav" ++ joined_escaped path ++ behind size
below_root path (Some n) e =
    parted path (Some n) (joined_escaped path) [] (rw e refl) refl ∙ (append_assoc (codes "<D:response><D:href>/dav" ++ joined_escaped path) [] (after (Some n)) ∙ ap (λ t. codes "<D:response><D:href>/dav" ++ joined_escaped path ++ t) (file-behind n))
below_root path None e =
    parted path None (joined_escaped path) (codes "/") (rw e refl) (rw e refl) ∙ (append_assoc (codes "<D:response><D:href>/dav" ++ joined_escaped path) (codes "/") (after None) ∙ ap (λ t. codes "<D:response><D:href>/dav" ++ joined_escaped path ++ t) collection-behind)

-- a response of the root
at_root : (size : Option ℕ) → response (record { path = []; size = size }) ≡ codes "<D:response><D:href>/dav" ++ root_slash [] size ++ behind size
at_root (Some n) = parted [] (Some n) (codes "/") [] refl refl ∙ ap (λ t. codes "<D:response><D:href>/dav/" ++ t) (file-behind n)
at_root None = parted [] None (codes "/") [] refl refl ∙ ap (λ t. codes "<D:response><D:href>/dav" ++ t) collection-behind

-- what is told of a resource at a path
pub there_response : (path : Segments) (size : Option ℕ) →
    codes "<D:response><D:href>/dav" ++ joined_escaped path ++ root_slash path size ++ behind size ≡ response (record { path = path; size = size })
there_response [] size = sym (at_root size)
there_response (s ∷ rest) size =
    let path : Segments = s ∷ rest in
    let below : is_root path ≡ false = is_root-cons s rest in
    let none : root_slash path size ≡ [] = rw below refl in
    rw none (append_assoc (codes "<D:response><D:href>/dav" ++ joined_escaped path) [] (behind size) ∙ sym (below_root path size below))

-- what is told of a resource with a name in a collection
pub named_response : (path : Segments) (name : List ℕ) (size : Option ℕ) → front path ++ escape name ++ behind size ≡ response (record { path = path ++ name ∷ []; size = size })
named_response path name size =
    let there : response (record { path = path ++ name ∷ []; size = size }) ≡ codes "<D:response><D:href>/dav" ++ (joined_escaped path ++ codes "/" ++ escape name) ++ behind size =
    below_root (path ++ name ∷ []) size (is_root-named path name) ∙ ap (λ t. codes "<D:response><D:href>/dav" ++ t ++ behind size) (joined_escaped-named path name) in
    sym (there ∙ name-parted (codes "<D:response><D:href>/dav") (joined_escaped path) (codes "/") (escape name) (behind size))
