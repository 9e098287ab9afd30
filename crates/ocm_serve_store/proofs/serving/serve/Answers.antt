use Rattle.std.proofs.Common.{◌⊎◌, ℕ, List, sym, ap, subst, ◌∙◌, inl}
use Rattle.ocm_dav.specs.declared.configs.Config.{Config}
use Rattle.ocm_disk.specs.Disk.{LeavesOnly}
use Rattle.ocm_disk.proofs.Moments.{started}
use Rattle.ocm_entry.specs.declared.entries.Entry.{Entry}
use Rattle.ocm_journal.specs.Openings.{StaysAsItOpens}
use Rattle.ocm_serve_store.specs.Runs.{HasServed, IsCounted, IsDiskFault, IsSaid}
use Rattle.ocm_server.specs.declared.served.Served.{Served}
use Rattle.ocm_serve_store.proofs.Told.{based, loaded-counted, loaded-said, loaded-sound, opened_same, refused-counted, refused-said, run-keeps, run-leaves, run-since, sound-told, unserved}
use Rattle.ocm_store.specs.Opening as stores
use Rattle.ocm_store.specs.Opening.{IsOfArea, loading}
use Rattle.ocm_store.specs.Stores.{area_of, disk_of}
use Rattle.ocm_serve_store.proofs.serving.serve.Goals as goal

pub serve_store-requires-clause-store : goal.serve_store-requires-clause-store
serve_store-requires-clause-store g c κs within = let o = c.in-Ok-load.ensures.opened in let names = c.in-Ok.ensures in
    (o.0, opened_same g.D.Disk 536870656 c.in-Ok.host c.in-Ok.config.host c.args.disk c.of-before.result.value (disk_of c.in-Ok-load.store) o.0 (names.1 ∙ sym (ap (λ (k : Config). k.host) names.0)) (sym c.of-before.ensures) o.3, o.1, o.2)

pub returns-in-Ok-load-clause-served : goal.returns-in-Ok-load-clause-served
returns-in-Ok-load-clause-served g c = λ calls own has.
    let names = c.in-Ok.ensures in
    let d = g.D.Disk in
    let laws = g.met.D.Disk g.world.𝓛 g.world.𝓜 g.world.𝓡 ((λ s x. x), (λ x. x), (λ x. x), λ x. x) in
    let run = based d _ _ _ _ _ _ _ _
    (λ (k : List Entry) opens. opened_same d 536870656 c.in-Ok.config.host c.args.plan.now.host c.of-before.result.value c.args.disk (disk_of c.in-Ok-load.store) k (ap (λ (n : Config). n.host) names.0) c.of-before.ensures opens)
    (c.serve_store.ensures.served calls own has) in
    record {
      config = c.in-Ok.config;
      config_is = names.0;
      store = c.in-Ok-load.store;
      host_is = c.in-Ok-load.ensures.host ∙ names.1;
      area_is = λ tells faithful. subst (λ (h : List ℕ). IsOfArea h 536870656 (area_of c.in-Ok-load.store) (d.seen c.args.disk)) names.1 (c.in-Ok-load.ensures.area tells faithful);
      served = run;
      all_own = run.service.all_own;
      any_moment = λ tells faithful. run-leaves d laws.only_now c.args.plan.now.host 536870656 _ _ _ c.args.disk _ _ _ _ run tells
          (subst (λ (h : List ℕ). LeavesOnly d.moment d.left_since c.args.disk (disk_of c.in-Ok-load.store) (λ x. d.may_leave c.args.disk x ⊎ StaysAsItOpens h 536870656 (d.seen c.args.disk) x)) names.1 (c.in-Ok-load.ensures.moments_ok tells faithful));
      kept = λ done later is. run-keeps d laws.only_now _ _ _ _ _ _ _ run done later is;
      since = λ tells. run-since d laws.only_now _ _ _ _ _ _ _ run tells;
    }

pub returns-in-Ok-load-clause-said : goal.returns-in-Ok-load-clause-said
returns-in-Ok-load-clause-said g c = λ tells faithful. loaded-said _ c.serve_store.result.0 c.serve_store.ensures.loaded

pub returns-in-Ok-load-clause-counted : goal.returns-in-Ok-load-clause-counted
returns-in-Ok-load-clause-counted g c = loaded-counted _ _ c.serve_store.result.0 c.serve_store.ensures.loaded

pub returns-in-Ok-load-clause-unfailing : goal.returns-in-Ok-load-clause-unfailing
returns-in-Ok-load-clause-unfailing g c = λ passes. loaded-sound c.serve_store.result.0 c.serve_store.ensures.loaded

pub returns-clause-served : goal.returns-clause-served
returns-clause-served g c = λ calls own has. absurd (unserved c.in-Err.fault calls own (subst (λ (r : Served). HasServed r calls own) c.refused.ensures has))

pub returns-in-Ok-load-clause-kept : goal.returns-in-Ok-load-clause-kept
returns-in-Ok-load-clause-kept g c = λ tells faithful unserved. let names = c.in-Ok.ensures in
    subst (λ (h : List ℕ). StaysAsItOpens h 536870656 (g.D.Disk.seen c.args.disk) (g.D.Disk.seen c.serve_store.result.1)) names.1
    (subst (λ (seen : List ℕ). StaysAsItOpens c.in-Ok.host 536870656 (g.D.Disk.seen c.args.disk) seen) (sym (ap g.D.Disk.seen (c.serve_store.ensures.kept unserved))) (c.in-Ok-load.ensures.same_ok tells (subst g.D.Disk.faithful (c.serve_store.ensures.kept unserved) faithful)))

pub returns-clause-kept : goal.returns-clause-kept
returns-clause-kept g c = λ tells faithful unserved. let names = c.in-Ok.ensures in
    subst (λ (h : List ℕ). StaysAsItOpens h 536870656 (g.D.Disk.seen c.args.disk) (g.D.Disk.seen c.in-Err.disk)) names.1 (c.in-Err.ensures.same_err tells faithful)

pub returns-clause-said : goal.returns-clause-said
returns-clause-said g c = λ tells faithful. let says : (host : List ℕ) → _ = λ host. loading host 536870656 (g.D.Disk.seen c.args.disk) in
    subst (λ (r : Served). IsSaid (says c.args.plan.now.host) r) (sym c.refused.ensures)
    (refused-said _ c.in-Err.fault (subst (λ (h : List ℕ). stores.IsSaidBy (says h) c.in-Err.fault) c.in-Ok.ensures.1 (c.in-Err.ensures.says tells faithful)))

pub returns-clause-counted : goal.returns-clause-counted
returns-clause-counted g c =
    subst (λ (r : Served). IsCounted (g.D.Disk.count c.args.disk) (g.D.Disk.count c.in-Err.disk) r) (sym c.refused.ensures) (refused-counted _ _ c.in-Err.fault c.in-Err.ensures.cause)

pub returns-clause-unfailing : goal.returns-clause-unfailing
returns-clause-unfailing g c = λ passes is. sound-told c.in-Err.fault (c.in-Err.ensures.unfailing passes) (subst (λ (r : Served). IsDiskFault r) c.refused.ensures is)

pub returns-in-Ok-load-clause-unserved : goal.returns-in-Ok-load-clause-unserved
returns-in-Ok-load-clause-unserved g c = λ tells faithful unserved.
    let names = c.in-Ok.ensures in
    let d = g.D.Disk in
    subst (λ (h : List ℕ). LeavesOnly d.moment d.left_since c.args.disk c.serve_store.result.1 (λ x. d.may_leave c.args.disk x ⊎ StaysAsItOpens h 536870656 (d.seen c.args.disk) x)) names.1
    (subst (λ back. LeavesOnly d.moment d.left_since c.args.disk back (λ x. d.may_leave c.args.disk x ⊎ StaysAsItOpens c.in-Ok.host 536870656 (d.seen c.args.disk) x)) (sym (c.serve_store.ensures.kept unserved)) (c.in-Ok-load.ensures.moments_ok tells (subst g.D.Disk.faithful (c.serve_store.ensures.kept unserved) faithful)))

pub returns-clause-unserved : goal.returns-clause-unserved
returns-clause-unserved g c = λ tells faithful unserved.
    let d = g.D.Disk in
    subst (λ (h : List ℕ). LeavesOnly d.moment d.left_since c.args.disk c.in-Err.disk (λ x. d.may_leave c.args.disk x ⊎ StaysAsItOpens h 536870656 (d.seen c.args.disk) x)) c.in-Ok.ensures.1 (c.in-Err.ensures.moments_err tells faithful)

pub returns-in_default-clause-unserved : goal.returns-in_default-clause-unserved
returns-in_default-clause-unserved g c = λ tells faithful unserved.
    let d = g.D.Disk in
    let laws = g.met.D.Disk g.world.𝓛 g.world.𝓜 g.world.𝓡 ((λ s x. x), (λ x. x), (λ x. x), λ x. x) in
    started d.moment d.left_since c.args.disk (λ x. d.may_leave c.args.disk x ⊎ StaysAsItOpens c.args.plan.now.host 536870656 (d.seen c.args.disk) x) (λ x left. inl (laws.only_now c.args.disk x left))
