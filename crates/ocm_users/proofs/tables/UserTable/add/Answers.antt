use Rattle.std.proofs.Common.{◌∙◌, sym, ap, arith}
use Rattle.std.proofs.lemmas.Grind.{common_steps}
use Rattle.ocm_entry.specs.declared.rows.User.{User}
use Rattle.ocm_users.proofs.Numbering.{indexed-push, member-push}
use Rattle.ocm_users.proofs.tables.UserTable.add.Goals as goal

pub invariant_of-self : goal.invariant_of-self
invariant_of-self c =
    let items = rw c.unwrap.ensures at c.push.ensures.items in
    let numbered = rw c.unwrap-before.ensures at c.insert-numbered.ensures.updates in
    let named = rw c.unwrap-is_new.ensures at c.insert-named.ensures.updates in
    let user = c.parts-user.ensures.user in
    let key = c.parts-user.ensures.key ∙ ap (λ (u : User). u.key) (sym user) in
    let name = c.parts-user.ensures.name ∙ ap (λ (u : User). u.name) (sym user) in
    let fresh = rw (← c.self.view_is, ← c.parts-user.ensures.key) at c.requires.key in
    rw items (record {
      few = grind (arith, common_steps);
      keys = λ s. numbered.0 s ∙ indexed-push (λ (u : User). u.key) c.self.inside.rows.items _ _ s _ _ key (grind (arith, common_steps)) (c.self.invariant.keys s) fresh;
      taken = λ s. named.0 s ∙ member-push (λ (u : User). u.name) c.self.inside.rows.items _ _ s _ name (c.self.invariant.taken s);
    })
