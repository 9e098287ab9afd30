use Rattle.std.proofs.Common.{◌≡◌, ◌++◌, take, string_bytes}
use Rattle.std.specs.Prelude.{map}
use Rattle.std.specs.List.{flat_map}
use Rattle.ocm_entry.specs.Listings.{item_in}
use Rattle.ocm_dav_pages.specs.Multistatus.{response, front}
use Rattle.ocm_dav_pages.proofs.multistatus.add_children.Given as goal

abbrev pub invariant-loop-child : goal.invariant-loop-child
invariant-loop-child l = string_bytes l.text ≡ string_bytes l.initial.text ++ flat_map response (map (item_in l.path) (take l.child-index l.inside))
