use Rattle.std.proofs.Common.{sym}
use Rattle.std.specs.Prelude.{option_copied}
use Rattle.ocm_tables.specs.Changes.{entries_after, file_act}
use Rattle.ocm_tables.proofs.Counted.{others-standing, own-number, next-standing}
use Rattle.ocm_tables.proofs.tables.Tables.standing_by.Goals as goal

pub returns-in-Some-clause-earlier : goal.returns-in-Some-clause-earlier
returns-in-Some-clause-earlier c =
    λ other. absurd (other (own-number (file_act c.args.change.now) c.args.number (entries_after c.args.self.now.entries c.args.change.now) c.in-Some.standing.now (sym c.in-Some.ensures)).0)

pub returns-in-Some-clause-any : goal.returns-in-Some-clause-any
returns-in-Some-clause-any c =
    let change = c.args.change.now in
    let own = own-number (file_act change) c.args.number (entries_after c.self.inside.entries change) c.in-Some.standing.now (sym (rw (← c.self.view_is) at c.in-Some.ensures)) in
    rw (← c.self.view_is) (λ few. next-standing change c.args.number c.self.inside.entries c.in-Some.standing.now c.self.inside.files.nodes c.self.inside.files.origins c.self.invariant.made few own.0 own.1)

pub returns-in-None-clause-earlier : goal.returns-in-None-clause-earlier
returns-in-None-clause-earlier c =
    let change = c.args.change.now in
    rw (← c.self.view_is)
    (λ other. others-standing (file_act change) c.self.inside.files.nodes c.self.inside.files.origins c.args.number (entries_after c.self.inside.entries change) (option_copied c.standing_by.result)
    (λ later apart. rw c.file_change.ensures at (c.standing_by.ensures later apart)) (sym (rw (← c.self.view_is) at c.in-None.ensures)))

pub returns-in-None-clause-any : goal.returns-in-None-clause-any
returns-in-None-clause-any c =
    let change = c.args.change.now in
    rw (← c.self.view_is)
    (λ few. others-standing (file_act change) c.self.inside.files.nodes c.self.inside.files.origins c.args.number (entries_after c.self.inside.entries change) (option_copied c.standing_by.result)
    (λ later apart. rw c.file_change.ensures at (c.standing_by.ensures later apart)) (sym (rw (← c.self.view_is) at c.in-None.ensures)))
