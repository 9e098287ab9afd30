use Rattle.std.proofs.Common.{refl, ◌∙◌}
use Rattle.ocm_rules_reference.proofs.files.passed_by.Goals as goal

pub returns : goal.returns
returns c = c.first_passed.ensures ∙ rw (c.size_of-size.ensures, c.passes_all_files.ensures, c.in_ok-children.ensures.count, c.in_ok-parent.ensures) refl
