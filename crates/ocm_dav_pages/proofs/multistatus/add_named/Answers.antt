use Rattle.std.proofs.Common.{◌∙◌, ◌++◌, ap, string_bytes}
use Rattle.ocm_path.specs.Escapes.{escape}
use Rattle.ocm_dav_pages.specs.Multistatus.{front, behind}
use Rattle.ocm_dav_pages.proofs.Responses.{added-three, named_response}
use Rattle.ocm_dav_pages.proofs.multistatus.add_named.Goals as goal

pub returns : goal.returns
returns c =
    let old = string_bytes c.args.text.now in
    rw (c.in_ok-add_behind.ensures, c.in_ok-add_escaped.ensures.ok, c.in_ok-push_str.ensures.bytes, c.requires)
    (added-three old (front c.args.path.now) (escape c.args.name.now) (behind c.args.size) ∙ ap (λ t. old ++ t) (named_response c.args.path.now c.args.name.now c.args.size))
