use Rattle.std.proofs.Common.{◌<◌, ◌^◌, arith}
use Rattle.ocm_tables.specs.Changes.{entries_after}
use Rattle.ocm_tables.proofs.Counted.{counts-up, made-later}
use Rattle.ocm_tables.proofs.tables.Tables.count.Goals as goal

pub invariant_of-self : goal.invariant_of-self
invariant_of-self c =
    let fits : c.self.inside.entries < 2 ^ 64 = omega arith in
    rw (c.entries_after-self-inside.ensures, ← c.self.view_is) (record {
      each_told = c.self.invariant.each_told;
      owned = c.self.invariant.owned;
      made = made-later c.self.inside.entries (entries_after c.self.inside.entries c.args.change.now) c.self.inside.files.origins (counts-up c.self.inside.entries c.args.change.now fits) c.self.invariant.made;
    })
