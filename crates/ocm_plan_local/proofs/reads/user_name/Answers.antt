use Rattle.std.proofs.Common.{◌≡◌, Option, Some, None, refl, sym, ap, ◌∙◌, is_some, Bor, option_copied}
use Rattle.ocm_entry.specs.declared.rows.User.{User}
use Rattle.ocm_tables.proofs.Numbering.{IfSome-account}
use Rattle.ocm_plan_local.proofs.reads.user_name.Goals as goal

copied-there : (o : Option (Bor User)) → is_some o ≡ is_some (option_copied o)
copied-there None = refl
copied-there (Some user) = refl

pub unwrap-requires : goal.unwrap-requires
unwrap-requires c =
    copied-there c.user.result ∙ (ap (λ (o : Option User). is_some o) c.user.ensures ∙ IfSome-account c.args.tables.now.state.users c.args.key.now (Some c.args.user) (sym c.requires))
