use Rattle.std.proofs.Common.{◌<◌, ◌≤◌, ◌++◌, arith}
use Rattle.ocm_history.proofs.Memories.{change-would}
use Rattle.ocm_journal.specs.Journals.{area_of, form_of}
use Rattle.ocm_store.proofs.Exits.{acts-full}
use Rattle.ocm_store.proofs.Room.{counted-fits, counted-full}
use Rattle.ocm_store.proofs.stores.Store.measure.Goals as goal

pub returns-then-saturating_add-area-clause-full : goal.returns-then-saturating_add-area-clause-full
returns-then-saturating_add-area-clause-full G c = λ ask drafted.
    let store = c.args.self.now in
    let form = form_of store.journal in
    let over : area_of store.journal < c.saturating_add.result = omega (arith, c.if-saturating_add-area.true, c.area-area.ensures) in
    acts-full G.D.Disk G.met.D.Disk.only_now store ask c.requires.goes (λ k h s. change-would store.history (h ++ k) ask c.args.planned form c.args.draft (drafted.change (h ++ k) s.stands.memory))
    (λ k h s. let it = drafted.change (h ++ k) s.stands.memory in
    counted-full store.history (h ++ k) ask c.args.planned form c.args.draft it (area_of store.journal) c.size_with-size.result c.rest_size.result c.saturating_add.result store.journal.area_size.1
    (λ beyond. c.size_with-size.ensures.exact (h ++ k) ask form it (omega (arith, beyond, c.area-area.ensures))) c.rest_size.ensures c.saturating_add.ensures over)

pub returns-clause-ready : goal.returns-clause-ready
returns-clause-ready G c = λ ask drafted.
    let store = c.args.self.now in
    let form = form_of store.journal in
    let below : c.saturating_add.result ≤ area_of store.journal = omega (arith, c.if-saturating_add-area.false, c.area-area.ensures) in
    record {
      drafted = drafted;
      fits = λ g m. let it = drafted.change g m in
          counted-fits store.history g ask c.args.planned form c.args.draft it (area_of store.journal) c.size_with-size.result c.rest_size.result c.saturating_add.result store.journal.area_size.1
          (c.size_with-size.ensures.bound g ask form it) c.rest_size.ensures c.saturating_add.ensures below;
      bound = λ g m. c.size_with-size.ensures.bound g ask form (drafted.change g m);
    }
