-- Servers that are loaded from their disks, and what is read of them.
use Rattle.std.proofs.Common.{◌≡◌, inl, inr, ℕ, List, [], ◌++◌, Bool, true, false, Option, Some, None, refl, sym, ◌∙◌, ap, subst, rules, Result, Ok}
use Rattle.std.specs.Prelude.{option_map}
use Rattle.ocm_disk.specs.Memory.{DiskState, ImagesState, left_by, settled}
use Rattle.ocm_disk.specs.Past.{Leaves}
use Rattle.ocm_disk.specs.contracts.memory.MemDiskDisk.TheImpl.{ghosts}
use Rattle.ocm_disk.specs.declared.crashes.Crash.{Crash}
use Rattle.ocm_disk.specs.declared.crashes.Crash.TheVariants.{Old, New, Torn}
use Rattle.ocm_entry.specs.declared.asks.Ask.{Ask}
use Rattle.ocm_entry.specs.declared.entries.Entry.{Entry}
use Rattle.ocm_journal_image.specs.declared.blanks.Blank.TheVariants.{Empty}
use Rattle.ocm_journal_image.specs.Blank.{IsBlank}
use Rattle.ocm_journal_image.specs.Layout.{IsImage}
use Rattle.ocm_journal.specs.Journals.{selects_first}
use Rattle.ocm_journal.specs.LiveAreas.{BeginsWith, IsImageLive, LiveArea}
use Rattle.ocm_journal.proofs.LiveAreas.{live_is_selected}
use Rattle.ocm_rules.specs.History.{IsLegal, kept}
use Rattle.ocm_rules.specs.Lean.{count, lean}
use Rattle.ocm_rules.specs.Messages.{as_sent, out}
use Rattle.ocm_rules.specs.Numbers.{at_number}
use Rattle.ocm_rules.specs.Shares.{moment}
use Rattle.ocm_rules.specs.Views.{View}
use Rattle.ocm_law_lean.proofs.Thin.{count-same}
use Rattle.ocm_law_sessions.specs.Crashes.{faulted}
use Rattle.ocm_law_sessions.specs.Sessions.{fault_in}
use Rattle.ocm_law_sessions.proofs.Replying.{lean-heard, view-same}
use Rattle.ocm_store.specs.Opening.{IsNoDiskFault, IsOfArea, IsSaidBy, OpensTo, loading}
use Rattle.ocm_store.specs.declared.load_faults.LoadFault.{LoadFault}
use Rattle.ocm_store.specs.declared.load_faults.LoadFault.TheVariants.{DiskFault, NoMemory, NotJournal, OtherHost}
use Rattle.ocm_store.specs.Growing.{HasLiveArea, OpensLive}
use Rattle.ocm_store.specs.Stores.{IsWritten, LeavesNext, Stands, area_of, disk_of, host_of, terms_of}
use Rattle.ocm_store.specs.declared.stores.Store.{Store}
use Rattle.ocm_store.specs.declared.terms.Terms.{Terms}
use Rattle.ocm_store.proofs.Journaling.{live-opens}
use Rattle.ocm_store.proofs.Opens.{areas-same, opens-loaded, opens-once}
use Rattle.ocm_journal_image.proofs.OneImage.{blank_is_none}
use Rattle.ocm_world.specs.declared.nodes.RunningServer.{RunningServer}
use Rattle.ocm_script_run.specs.Servers.{Server, area, history, is_kept, kept_by_crash, live_left, message_of, new_live, new_server, restart}
use Rattle.ocm_script_run.specs.Running.{IsSound}
use Rattle.ocm_world.specs.Running.{IsDiskOf, IsLoaded, IsOf}
use Rattle.ocm_script_run.proofs.Acting.{alike-after}

-- what a server opened to with its calls has the lean list of its history
pub alike-history : (node : RunningServer) (server : Server) (is : IsOf node server) → lean server.host (server.calls ++ is.opened) ≡ lean server.host (history server)
alike-history node server is = alike-after server.host server.calls is.opened server.base is.alike

-- a store and its server have the same host
pub same-host : (node : RunningServer) (server : Server) → IsOf node server → host_of node.store ≡ server.host
same-host node server is = ap (λ (t : Terms). t.host) is.terms

-- the areas of a store that was loaded
pub loaded-area : (host own bytes : List ℕ) (size : ℕ) → own ≡ host → IsDiskOf host bytes → IsOfArea own area size bytes → size ≡ area
loaded-area host own bytes size same (inl blank) (inl (empty, is)) = is
loaded-area host own bytes size same (inl blank) (inr image) = absurd (blank_is_none bytes own own area size image.0 image.1 (subst (λ h. IsBlank h area bytes) (sym same) blank) image.2)
loaded-area host own bytes size same (inr (k, image)) (inl (empty, is)) = absurd (blank_is_none bytes own host area area image.0 image.1 empty image.2)
loaded-area host own bytes size same (inr (k, image)) (inr is) = areas-same own size area is.0 image.0 is.1 image.1 bytes is.2 (subst (λ h. IsImage h area image.0 image.1 bytes) (sym same) image.2)

-- what a server's own disk opens to
own_list : (host bytes : List ℕ) → IsDiskOf host bytes → (k : List Entry) × OpensTo host area k bytes
own_list host bytes (inl blank) = ([], inl (blank, refl))
own_list host bytes (inr (k, image)) = (k, inr (area, image))

one_fault : (says : Result (List Entry) LoadFault) (k : List Entry) (fault : LoadFault) → says ≡ Ok k → IsSaidBy says fault → IsNoDiskFault fault → fault ≡ NoMemory
one_fault says k (NotJournal place) is said passed = absurd (cc)
one_fault says k (OtherHost label) is said passed = absurd (cc)
one_fault says k (DiskFault count) is said passed = absurd passed
one_fault says k NoMemory is said passed = refl

-- it is loaded, where there is memory and it does not fail
pub wants-memory : (host own bytes : List ℕ) (fault : LoadFault) → own ≡ host → IsDiskOf host bytes → IsSaidBy (loading own area bytes) fault → IsNoDiskFault fault → fault ≡ NoMemory
wants-memory host own bytes fault same is said passed =
    let list = own_list host bytes is in
    one_fault (loading own area bytes) list.0 fault (ap (λ h. loading h area bytes) same ∙ opens-loaded host area list.0 bytes list.1) said passed

-- ---- what a crash leaves

left_leaves : (mode : Crash) (images : ImagesState) → Leaves images (left_by mode images)
left_leaves Old images = inr (inl refl)
left_leaves New images = inl refl
left_leaves Torn images = inr (inr refl)

-- of a disk of which a crash leaves what it reads
pub crash-live : (store : Store DiskState ghosts) (host : List ℕ) (g : List Entry) (live : LiveArea) (mode : Crash) → area_of store ≡ area → HasLiveArea ghosts host live store → IsWritten ghosts host g store.journal
    → OpensLive host area g live (left_by mode (disk_of store).images)
crash-live store host g live mode size has written =
    let bytes : List ℕ = left_by mode (disk_of store).images in
    let same : bytes ≡ ghosts.seen (disk_of store) = has.holds.durable bytes (left_leaves mode (disk_of store).images) in
    let selected : selects_first host (ghosts.seen (disk_of store)) ≡ live.first = sym (live_is_selected ghosts host live.records store.journal has.holds) ∙ has.first in
    let image : IsImageLive host area live (ghosts.seen (disk_of store)) =
    (subst (λ (z : ℕ × ℕ). IsImage host z.0 z.1 live.records (ghosts.seen (disk_of store))) (λ i. (size i, has.form i)) has.holds.image, selected) in
    subst (OpensLive host area g live) (sym same) (image, (written.list, live-opens ghosts host g store.journal live has written, written.same))

-- of a store that did not fail
pub crash-stands : (store : Store DiskState ghosts) (host : List ℕ) (k h : List Entry) (live : LiveArea) (mode : Crash) → terms_of store ≡ record { host = host; area = area } → fault_in h ≡ None
    → HasLiveArea ghosts host live store → Stands ghosts store k h → OpensLive host area (h ++ k) live (left_by mode (disk_of store).images)
crash-stands store host k h live mode terms fine has stands =
    let own : host_of store ≡ host = ap (λ (t : Terms). t.host) terms in
    crash-live store host (h ++ k) live mode (ap (λ (t : Terms). t.area) terms) has (subst (λ x. IsWritten ghosts x (h ++ k) store.journal) own (stands.written tt (sym stands.fault ∙ fine)))

-- ---- a new server

blank_disk : (host : List ℕ) → IsBlank host area []
blank_disk host = search rules

pub new-of : (node : RunningServer) (host : List ℕ) → IsLoaded [] host 0 node → IsOf node (new_server host)
new-of node host loaded =
    let has = loaded.live new_live (inr (Empty, refl, refl)) in
    record {
      host = loaded.host;
      clock = loaded.clock;
      terms = loaded.terms;
      opened = loaded.opened;
      stands = loaded.stands;
      legal = loaded.legal;
      alike = ap (λ k. lean host k) (opens-once host area loaded.opened [] [] loaded.opens (inl (blank_disk host, refl)));
      sound = λ _. loaded.sound;
      live = λ _. has;
      uncut = λ _. refl;
      crash = λ mode. crash-stands node.store host loaded.opened [] new_live mode loaded.terms refl has loaded.stands;
    }

-- ---- a crash

-- what a crash keeps of lists with the same lean list has the same
pub kept-alike : (keeps : Bool) (host : List ℕ) (faulted : Option Ask) (g other : List Entry) → lean host g ≡ lean host other → lean host (kept_by_crash keeps host faulted g) ≡ lean host (kept_by_crash keeps host faulted other)
kept-alike true host (Some ask) g other same = lean-heard host g other ask same
kept-alike true host None g other same = same
kept-alike false host faulted g other same = same

-- what a crash leaves of a server's disk
left-by : (node : RunningServer) (server : Server) (mode : Crash) (is : IsOf node server)
    → LeavesNext (record { host = server.host; area = area }) is.opened server.calls None (left_by mode (disk_of node.store).images)
left-by node server mode is =
    subst (λ (t : Terms). LeavesNext t is.opened server.calls None (left_by mode (disk_of node.store).images)) is.terms
    (is.stands.leaves tt (left_by mode (disk_of node.store).images) (left_leaves mode (disk_of node.store).images))

-- what a crash leaves of a server, loaded again
pub crashed-of : (node after : RunningServer) (server : Server) (mode : Crash) (disk : DiskState) (limit : ℕ) → IsOf node server
    → disk ≡ settled (left_by mode (disk_of node.store).images) limit → IsLoaded disk.images.seen node.host node.clock after
    → IsOf after (restart mode server)
crashed-of node after server mode disk limit is left loaded =
    let bytes : List ℕ = left_by mode (disk_of node.store).images in
    let keeps : Bool = is_kept mode server.cut in
    let live : LiveArea = live_left keeps server.cut server.live in
    let there = is.crash mode in
    let pair : List ℕ → List ℕ → List ℕ × List ℕ = λ a b. (a, b) in
    let own : pair node.host disk.images.seen ≡ pair server.host bytes = λ i. (is.host i, ap (λ (d : DiskState). d.images.seen) left i) in
    let opens : OpensTo server.host area loaded.opened bytes = subst (λ (z : List ℕ × List ℕ). OpensTo z.0 area loaded.opened z.1) own loaded.opens in
    let begins = subst (λ (z : List ℕ × List ℕ). (l : LiveArea) → BeginsWith z.0 area z.1 l → HasLiveArea ghosts z.0 l after.store) own loaded.live in
    let has : HasLiveArea ghosts server.host live after.store = begins live (inl (area, there.0)) in
    let one : there.1.0 ≡ loaded.opened = opens-once server.host area there.1.0 loaded.opened bytes (inr (area, (live.form, live.records, there.0.0, there.1.1))) opens in
    let terms : terms_of after.store ≡ record { host = server.host; area = area } = loaded.terms ∙ ap (λ h. let t : Terms = record { host = h; area = area } in t) is.host in
    record {
      host = loaded.host ∙ is.host;
      clock = loaded.clock ∙ is.clock;
      terms = terms;
      opened = loaded.opened;
      stands = loaded.stands;
      legal = subst (λ h. IsLegal h loaded.opened) is.host loaded.legal;
      alike = ap (λ k. lean server.host k) (sym one) ∙ there.1.2 ∙ kept-alike keeps server.host (faulted server.calls) (server.calls ++ is.opened) (history server) (alike-history node server is);
      sound = λ _. loaded.sound;
      live = λ _. has;
      uncut = λ _. refl;
      crash = λ m. crash-stands after.store server.host loaded.opened [] live m terms refl has loaded.stands;
    }

-- what a crash leaves of a server's disk is a disk of its own
pub crashed-own : (node : RunningServer) (server : Server) (mode : Crash) (disk : DiskState) (limit : ℕ) → IsOf node server
    → disk ≡ settled (left_by mode (disk_of node.store).images) limit → IsDiskOf node.host disk.images.seen
crashed-own node server mode disk limit is left =
    let leaves = left-by node server mode is in
    subst (λ (z : List ℕ × List ℕ). IsDiskOf z.0 z.1) (λ i. (sym is.host i, ap (λ (d : DiskState). d.images.seen) (sym left) i)) (inr (leaves.0, leaves.1))

pub crashed-sound : (mode : Crash) (images : ImagesState) (disk : DiskState) (limit : ℕ) → disk ≡ settled (left_by mode images) limit → IsSound disk None
crashed-sound mode images disk limit left = subst (λ (d : DiskState). IsSound d None) (sym left) (record { fuse = refl; faults = refl })

-- a disk without bytes
pub new-own : (host : List ℕ) (disk : DiskState) (limit : ℕ) → disk ≡ settled [] limit → IsDiskOf host disk.images.seen
new-own host disk limit is = subst (λ (d : DiskState). IsDiskOf host d.images.seen) (sym is) (inl (blank_disk host))

pub new-sound : (disk : DiskState) (limit : ℕ) → disk ≡ settled [] limit → IsSound disk None
new-sound disk limit is = subst (λ (d : DiskState). IsSound d None) (sym is) (record { fuse = refl; faults = refl })

-- ---- a fuse

-- with another fuse
pub fused-of : (node : RunningServer) (server : Server) (new : Store DiskState ghosts) (calls : ℕ) → IsOf node server
    → disk_of new ≡ record (disk_of node.store) { fuse = Some calls } → terms_of new ≡ terms_of node.store
    → ((k h : List Entry) → Stands ghosts node.store k h → Stands ghosts new k h) → ((host : List ℕ) (live : LiveArea) → HasLiveArea ghosts host live node.store → HasLiveArea ghosts host live new)
    → IsOf (record node { store = new }) (record server { fuse = Some calls })
fused-of node server new calls is disk terms stands live = record {
  host = is.host;
  clock = is.clock;
  terms = terms ∙ is.terms;
  opened = is.opened;
  stands = stands is.opened server.calls is.stands;
  legal = is.legal;
  alike = is.alike;
  sound = λ none. subst (λ (d : DiskState). IsSound d (Some calls)) (sym disk) (record { fuse = refl; faults = (is.sound none).faults });
  live = λ none. live server.host server.live (is.live none);
  uncut = is.uncut;
  crash = λ mode.
      subst (λ (images : ImagesState). OpensLive server.host area (kept_by_crash (is_kept mode server.cut) server.host (faulted server.calls) (server.calls ++ is.opened)) (live_left (is_kept mode server.cut) server.cut server.live) (left_by mode images))
      (sym (ap (λ (d : DiskState). d.images) disk)) (is.crash mode);
}

pub clocked-of : (node : RunningServer) (server : Server) (clock : ℕ) → IsOf node server → IsOf (record node { clock = clock }) (record server { clock = clock })
clocked-of node server clock is = record {
  host = is.host;
  clock = refl;
  terms = is.terms;
  opened = is.opened;
  stands = is.stands;
  legal = is.legal;
  alike = is.alike;
  sound = is.sound;
  live = is.live;
  uncut = is.uncut;
  crash = is.crash;
}

-- ---- what is read

pub message-same : (node : RunningServer) (server : Server) (number : ℕ) (is : IsOf node server)
    → option_map (λ message. as_sent (number, message)) (at_number (out (host_of node.store) (kept (host_of node.store) (server.calls ++ is.opened))) number) ≡ message_of server number
message-same node server number is =
    ap (λ h. option_map (λ message. as_sent (number, message)) (at_number (out h (kept h (server.calls ++ is.opened))) number)) (same-host node server is)
    ∙ ap (λ (v : View). option_map (λ message. as_sent (number, message)) (at_number v.messages number))
    (view-same server.host (server.calls ++ is.opened) (history server) (alike-history node server is))

pub count-of : (node : RunningServer) (server : Server) (is : IsOf node server) → count (host_of node.store) (server.calls ++ is.opened) ≡ count server.host (history server)
count-of node server is =
    ap (λ h. count h (server.calls ++ is.opened)) (same-host node server is) ∙ count-same server.host (server.calls ++ is.opened) (history server) (alike-history node server is)

pub moment-of : (node : RunningServer) (server : Server) (is : IsOf node server) → moment (kept (host_of node.store) (server.calls ++ is.opened)) ≡ moment (kept server.host (history server))
moment-of node server is =
    ap (λ h. moment (kept h (server.calls ++ is.opened))) (same-host node server is)
    ∙ ap (λ (v : View). v.moment) (view-same server.host (server.calls ++ is.opened) (history server) (alike-history node server is))
