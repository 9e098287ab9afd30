use Rattle.std.proofs.Common.{◌≡◌, ◌∙◌, ◌++◌, Bool, take, get_or, sym, ap, arith}
use Rattle.std.specs.Prelude.{map, filter}
use Rattle.std.proofs.Math.Seq.{take-length}
use Rattle.std.proofs.lemmas.Bool.Decides.{nat_tests}
use Rattle.ocm_entry.specs.declared.listings.DavChild.{DavChild}
use Rattle.ocm_entry.specs.declared.rows.Node.{Node}
use Rattle.ocm_tree.specs.Listing.{child_of, lies_in, listed}
use Rattle.ocm_tree.specs.Tables.{somes}
use Rattle.ocm_tree.proofs.SlotLists.{listed-more}
use Rattle.ocm_tree.proofs.SlotTags.{listed-elsewhere}
use Rattle.ocm_tree.proofs.listing.unsorted_children.Goals as goal

pub push_where-requires : goal.push_where-requires
push_where-requires c = λ e.
    listed-elsewhere child_of c.args.place.now c.args.slots.now c.args.tags.now c.loop-index.index c.index-slots-index.result c.requires.same c.requires.tagged (omega arith) c.index-slots-index.is
    (λ same. let tag : get_or c.args.tags.now c.loop-index.index 0 ≡ c.tag_of-wanted.result = same ∙ sym c.tag_of-wanted.ensures in grind (arith, nat_tests, e, tag))

pub loop-index-preserved : goal.loop-index-preserved
loop-index-preserved c =
    let f : Node → DavChild = child_of in
    let p : Node → Bool = lies_in c.args.place.now in
    let slots = c.args.slots.now in
    let i = c.loop-index.index in
    let d = c.index-slots-index.result in
    c.in_ok-push_where.ensures
    ∙ (ap (λ l. l ++ listed f p d) c.loop-index.invariant
    ∙ (ap (λ s. map f (filter p (somes (take i slots))) ++ listed f p s) c.index-slots-index.is ∙ sym (listed-more f p slots i d (omega arith))))

pub returns : goal.returns
returns c =
    let all : take c.loop-index.index c.args.slots.now ≡ c.args.slots.now = ap (λ n. take n c.args.slots.now) (omega arith) ∙ take-length c.args.slots.now in
    c.loop-index.invariant ∙ ap (λ ss. map child_of (filter (lies_in c.args.place.now) (somes ss))) all
