-- The path at the server of what lies in a collection.
use Rattle.std.proofs.Common.{◌≡◌, ℕ, List, [], ◌∷◌, ◌++◌, refl, sym, ap, ◌∙◌, append_assoc}
use Rattle.std.specs.Prelude.{codes, Option, Some, None}
use Rattle.std.proofs.lemmas.List.{append-nil}
use Rattle.ocm_path.specs.Escapes.{escape}
use Rattle.ocm_path.specs.Paths.{Segments, joined_escaped}
use Rattle.ocm_path.proofs.Joining.{is_root-named, joined_escaped-named}
use Rattle.ocm_transcript.specs.Items.{href, href_end}

file-parted : (d j s n : List ℕ) → d ++ j ++ s ++ n ++ [] ≡ d ++ (j ++ s ++ n)
file-parted d j s n = append-nil (d ++ j ++ s ++ n) ∙ simp append_assoc

collection-parted : (d j s n : List ℕ) → d ++ j ++ s ++ n ++ s ≡ d ++ (j ++ s ++ n) ++ s
collection-parted d j s n = simp append_assoc

-- lists behind one another
pub added-five : (old a b c d e : List ℕ) → old ++ a ++ b ++ c ++ d ++ e ≡ old ++ (a ++ b ++ c ++ d ++ e)
added-five old a b c d e = simp append_assoc

-- the path at the server of a resource with a name in a collection
pub named-href : (path : Segments) (name : List ℕ) (size : Option ℕ) → codes "/dav" ++ joined_escaped path ++ codes "/" ++ escape name ++ href_end size ≡ href (path ++ name ∷ []) size
named-href path name (Some size) =
    file-parted (codes "/dav") (joined_escaped path) (codes "/") (escape name)
    ∙ rw (is_root-named path name) (ap (λ t. codes "/dav" ++ t) (sym (joined_escaped-named path name)))
named-href path name None =
    collection-parted (codes "/dav") (joined_escaped path) (codes "/") (escape name)
    ∙ rw (is_root-named path name) (ap (λ t. codes "/dav" ++ t ++ codes "/") (sym (joined_escaped-named path name)))
