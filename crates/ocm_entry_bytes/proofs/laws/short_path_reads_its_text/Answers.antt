use Rattle.std.proofs.Common.{length}
use Rattle.std.specs.List.{list_all}
use Rattle.std.proofs.lemmas.Bool.{and_parts, leb-true}
use Rattle.ocm_path.specs.Paths.{is_segment, path_text}
use Rattle.ocm_entry_bytes.proofs.PathText.{path_with_text-again}
use Rattle.ocm_entry_bytes.proofs.laws.short_path_reads_its_text.Goals as goal

pub returns : goal.returns
returns c =
    let sound = and_parts (list_all is_segment c.args.path.now) _ c.segments-segments.ensures.sound in
    path_with_text-again c.args.path.now sound.0 (leb-true (length (path_text c.args.path.now)) 1024 c.requires)
