use Rattle.std.proofs.Common.{◌≡◌, refl, sym, ◌∙◌, subst, ℕ, List, [], Option}
use Rattle.ocm_disk.specs.Fuse.{CanBurn}
use Rattle.ocm_disk.specs.contracts.memory.MemDiskDisk.TheImpl.{ghosts}
use Rattle.ocm_journal.specs.LiveAreas.{BeginsWith, LiveArea}
use Rattle.ocm_law_sessions.specs.Sessions.{IsSession}
use Rattle.ocm_store.specs.Growing.{HasLiveArea}
use Rattle.ocm_store.specs.Opening.{OpensTo}
use Rattle.ocm_store.specs.Stores.{area_of, disk_of, terms_of}
use Rattle.ocm_store.specs.declared.terms.Terms.{Terms}
use Rattle.ocm_script_run.specs.Servers.{area}
use Rattle.ocm_script_run.proofs.Acting.{sound-loaded}
use Rattle.ocm_world.proofs.Loading.{loaded-area, wants-memory}
use Rattle.ocm_world.proofs.nodes.load.Goals as goal

pub returns-in-Ok-load : goal.returns-in-Ok-load
returns-in-Ok-load c =
    let bytes = c.args.disk.images.seen in
    let own = c.in-Ok.ensures.1 in
    let host = c.in-Ok-load.ensures.host ∙ own in
    let opened = c.in-Ok-load.ensures.opened in
    let sized = loaded-area c.args.host.now c.in-Ok.label bytes (area_of c.in-Ok-load.store) own c.requires.own (c.in-Ok-load.ensures.area tt tt) in
    let terms : terms_of c.in-Ok-load.store ≡ record { host = c.args.host.now; area = area } = λ i. record { host = host i; area = sized i } in
    record {
      host = c.in-Ok.ensures.0;
      clock = refl;
      terms = terms;
      opened = opened.0;
      opens = subst (λ (h : List ℕ). OpensTo h area opened.0 bytes) own (opened.3 tt tt).1;
      stands = opened.1;
      legal = subst (λ (t : Terms). IsSession t.host t.area opened.0 []) terms opened.2;
      sound = sound-loaded c.args.disk (disk_of c.in-Ok-load.store) c.requires.sound c.in-Ok-load.ensures.count c.in-Ok-load.ensures.passes;
      live = subst (λ (h : List ℕ). (live : LiveArea) → BeginsWith h area bytes live → HasLiveArea ghosts h live c.in-Ok-load.store) own (c.in-Ok-load.ensures.begins tt tt);
    }

pub no_memory-requires : goal.no_memory-requires
no_memory-requires c =
    wants-memory c.args.host.now c.in-Ok.label c.args.disk.images.seen c.in-Err.fault c.in-Ok.ensures.1 c.requires.own (c.in-Err.ensures.says tt tt)
    (c.in-Err.ensures.unfailing (λ n. let P : Option ℕ → Type 0 = λ f. CanBurn f n in subst P (sym c.requires.sound.fuse) tt))
