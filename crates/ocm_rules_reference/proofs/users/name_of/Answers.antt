use Rattle.std.proofs.Common.{Option, ap, ◌∙◌}
use Rattle.std.specs.Prelude.{is_some}
use Rattle.ocm_entry.specs.declared.rows.User.{User}
use Rattle.ocm_rules.specs.Users.{has_key}
use Rattle.ocm_rules.proofs.Searches.{number_of-found}
use Rattle.ocm_rules_reference.proofs.Lists.{there_lent}
use Rattle.ocm_rules_reference.proofs.users.name_of.Goals as goal

pub unwrap-requires : goal.unwrap-requires
unwrap-requires c =
    let found = number_of-found (has_key c.args.key.now) c.args.users.now c.args.number c.requires in
    there_lent c.row_at.result ∙ ap (λ (o : Option User). is_some o) (c.row_at.ensures ∙ found.1)
