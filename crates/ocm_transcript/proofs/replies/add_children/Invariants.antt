use Rattle.std.proofs.Common.{◌≡◌, ◌++◌, take}
use Rattle.std.specs.Prelude.{map}
use Rattle.std.specs.List.{flat_map}
use Rattle.ocm_entry.specs.Listings.{item_in}
use Rattle.ocm_transcript.specs.Items.{item_text}
use Rattle.ocm_transcript.specs.Texts.{further_line}
use Rattle.ocm_transcript.proofs.replies.add_children.Given as goal

abbrev pub invariant-loop-child : goal.invariant-loop-child
invariant-loop-child l = l.text ≡ l.initial.text ++ flat_map further_line (map item_text (map (item_in l.path) (take l.child-index l.inside)))
