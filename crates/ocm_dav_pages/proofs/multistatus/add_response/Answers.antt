use Rattle.std.proofs.Common.{◌∙◌, ◌++◌, ap, string_bytes}
use Rattle.std.specs.Prelude.{codes}
use Rattle.ocm_path.specs.Paths.{joined_escaped}
use Rattle.ocm_dav_pages.specs.Multistatus.{root_slash, behind}
use Rattle.ocm_dav_pages.proofs.Responses.{added-four, there_response}
use Rattle.ocm_dav_pages.proofs.multistatus.add_response.Goals as goal

pub returns : goal.returns
returns c =
    let old = string_bytes c.args.text.now in
    let path = c.args.path.now in
    rw (c.in_ok-add_behind.ensures, c.in_ok-add_root.ensures, c.in_ok-push_str-2.ensures.bytes, c.as_str.ensures.value, c.in_ok-front.ensures, c.in_ok-push_str.ensures.bytes)
    (added-four old (codes "<D:response><D:href>/dav") (joined_escaped path) (root_slash path c.args.size) (behind c.args.size) ∙ ap (λ t. old ++ t) (there_response path c.args.size))
