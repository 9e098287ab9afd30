use Rattle.std.proofs.Common.{◌≡◌, ◌++◌, take}
use Rattle.std.specs.Prelude.{map}
use Rattle.std.specs.List.{flat_map}
use Rattle.ocm_transcript.specs.Items.{listing_text}
use Rattle.ocm_transcript.specs.Texts.{further_line}
use Rattle.ocm_transcript.proofs.replies.add_listing.Given as goal

abbrev pub invariant-loop-line : goal.invariant-loop-line
invariant-loop-line l = l.text ≡ l.initial.text ++ flat_map further_line (map listing_text (take l.line-index l.lines))
