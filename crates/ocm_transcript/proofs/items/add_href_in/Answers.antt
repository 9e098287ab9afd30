use Rattle.std.proofs.Common.{◌∙◌, ◌++◌, ap}
use Rattle.std.specs.Prelude.{codes}
use Rattle.ocm_path.specs.Escapes.{escape}
use Rattle.ocm_path.specs.Paths.{joined_escaped}
use Rattle.ocm_transcript.specs.Items.{href_end}
use Rattle.ocm_transcript.proofs.Hrefs.{added-five, named-href}
use Rattle.ocm_transcript.proofs.items.add_href_in.Goals as goal

pub returns : goal.returns
returns c =
    let old = c.args.text.now in
    let path = c.args.path.now in
    let name = c.args.name.now in
    rw (c.in_ok-add_end.ensures, c.in_ok-add_escaped.ensures, c.in_ok-add-3.ensures.ok, c.in_ok-add-2.ensures.ok, c.as_bytes.ensures.value, c.in_ok-front.ensures, c.in_ok-add.ensures.ok)
    (added-five old (codes "/dav") (joined_escaped path) (codes "/") (escape name) (href_end c.args.size) ∙ ap (λ t. old ++ t) (named-href path name c.args.size))
