use Rattle.std.proofs.Common.{◌≡◌, ℕ, List, ◌∷◌, ◌++◌, ◌∙◌, ap, sym, append_assoc, string_bytes}
use Rattle.std.specs.Prelude.{map, codes}
use Rattle.std.specs.List.{flat_map}
use Rattle.ocm_entry.specs.declared.listings.DavItem.{DavItem}
use Rattle.ocm_entry.specs.Listings.{item_in, told_path, told_size}
use Rattle.ocm_dav_pages.specs.Multistatus.{declaration, response, multistatus}
use Rattle.ocm_dav_pages.proofs.multistatus.add_items.Goals as goal

document-parted : (old d m r f e : List ℕ) → old ++ (d ++ m) ++ r ++ f ++ e ≡ old ++ (d ++ m ++ (r ++ f) ++ e)
document-parted old d m r f e = simp append_assoc

-- a document is what comes before its first item, that item, the others and the end
document : (old : List ℕ) (items : List DavItem) (item : DavItem) (others : List DavItem) → items ≡ item ∷ others
    → old ++ (declaration ++ codes "<D:multistatus xmlns:D=\"DAV:\">") ++ response item ++ flat_map response others ++ codes "</D:multistatus>" ≡ old ++ multistatus items
document old items item others is =
    document-parted old declaration (codes "<D:multistatus xmlns:D=\"DAV:\">") (response item) (flat_map response others) (codes "</D:multistatus>")
    ∙ ap (λ all. old ++ multistatus all) (sym is)

pub returns : goal.returns
returns c =
    let items = c.args.items.now in
    rw (c.in_ok-push_str-2.ensures.bytes, c.in_ok-add_children.ensures, c.in_ok-add_response.ensures, c.in_ok-push_str.ensures.bytes, c.path.ensures, c.size.ensures, c.path-2.ensures)
    (document (string_bytes c.args.text.now) items (record { path = told_path items; size = told_size items }) (map (item_in (told_path items)) c.inside.result.now) c.inside.ensures)
