-- What one call of a store does, in the terms of its server.
use Rattle.std.proofs.Common.{◌≡◌, ◌⊎◌, ℕ, ◌+◌, ◌<◌, ◌≤◌, List, ◌∷◌, ◌++◌, Bool, true, false, Option, Some, None, refl, sym, ◌∙◌, ap, subst, arith}
use Rattle.std.specs.Prelude.{◌&&◌, not}
use Rattle.std.specs.Option.{option_or}
use Rattle.ocm_base.specs.Outside.{raised}
use Rattle.ocm_disk.specs.Fuse.{CanBurn}
use Rattle.ocm_disk.specs.Memory.{DiskState}
use Rattle.ocm_disk.specs.contracts.memory.MemDiskDisk.TheImpl.{ghosts}
use Rattle.ocm_disk.specs.declared.crashes.Crash.{Crash}
use Rattle.ocm_entry.specs.declared.asks.Ask.{Ask}
use Rattle.ocm_entry.specs.declared.entries.Entry.{Entry}
use Rattle.ocm_entry.specs.declared.replies.Reply.{Reply}
use Rattle.ocm_entry.specs.declared.replies.Reply.TheVariants.{DiskFault}
use Rattle.ocm_entry.specs.Fitting.{Fits}
use Rattle.ocm_journal.specs.AfterFaults.{AfterFault}
use Rattle.ocm_rules.specs.History.{is_failure}
use Rattle.ocm_law_sessions.specs.Crashes.{faulted}
use Rattle.ocm_law_sessions.specs.Sessions.{IsReplyAfter, IsSession, count_of, fault_in, heard, would_change}
use Rattle.ocm_law_sessions.proofs.Replying.{reply-same, would_change-same}
use Rattle.ocm_store.specs.declared.stores.Store.{Store}
use Rattle.ocm_store.specs.declared.terms.Terms.{Terms}
use Rattle.ocm_store.specs.Acts.{Grows, Spends, SpendsNone, StandsLegally}
use Rattle.ocm_store.specs.Fitting.{session-fits}
use Rattle.ocm_store.specs.Growing as stores
use Rattle.ocm_store.specs.Growing.{HasLiveArea, OpensLive}
use Rattle.ocm_store.specs.Stores.{IsLegalUnder, Stands, disk_of, host_of, terms_of}
use Rattle.ocm_world.specs.declared.nodes.RunningServer.{RunningServer}
use Rattle.ocm_script_run.specs.Servers.{Server, area, cut_after, cut_of, history, live_after, reply_of, server_after, with_call}
use Rattle.ocm_world.specs.Running.{IsOf}
use Rattle.ocm_script_run.proofs.Acting.{Tells, no_fault-before, replies, sound-after}
use Rattle.ocm_world.proofs.Growing.{Keeps, crash-faulted, crash-stopped, fault-reply, few_left, live-alike, makes-nothing}
use Rattle.ocm_world.proofs.Loading.{alike-history, crash-stands, same-host}

abbrev pub MemStore : Type 0
MemStore = Store DiskState ghosts

-- what the contract of a store's call says
pub record Called (old new : MemStore) (ask : Ask) (reply : Reply) : Type 0 where
  pub terms : terms_of new ≡ terms_of old
  pub stands : (k h : List Entry) → Stands ghosts old k h → IsLegalUnder (terms_of old) k h → Stands ghosts new k (record { ask = ask; reply = reply } ∷ h)
  pub legal : (k h : List Entry) → Stands ghosts old k h → IsLegalUnder (terms_of old) k h → IsLegalUnder (terms_of old) k (record { ask = ask; reply = reply } ∷ h)
  pub cause : (count : ℕ) → reply ≡ DiskFault count → (count ≡ ghosts.count (disk_of new)) × (ghosts.count (disk_of new) ≡ raised (ghosts.count (disk_of old)))
  pub no_cause : count_of reply ≡ None → ghosts.count (disk_of new) ≡ ghosts.count (disk_of old)
  pub idle : (k h : List Entry) → StandsLegally ghosts old k h → would_change (host_of old) (h ++ k) ask ≡ false → disk_of new ≡ disk_of old
  pub made : (k h : List Entry) → StandsLegally ghosts old k h → would_change (host_of old) (h ++ k) ask ≡ true → is_failure reply ≡ false → Spends ghosts 4 (disk_of old) (disk_of new)
  pub not_made : is_failure reply ≡ true → count_of reply ≡ None → SpendsNone ghosts (disk_of old) (disk_of new)
  pub fewer : (k h : List Entry) (left : ℕ) → StandsLegally ghosts old k h → would_change (host_of old) (h ++ k) ask ≡ true → left < 4 → ghosts.burnt (disk_of old) left → is_failure reply ≡ true
  pub passes : (left : ℕ) → ghosts.passes (disk_of old) (left + 4) → count_of reply ≡ None
  pub journal : Grows ghosts old new ask reply

-- the calls so far, as the store's terms have them
law : (node : RunningServer) (server : Server) (is : IsOf node server) → IsLegalUnder (terms_of node.store) is.opened server.calls
law node server is = subst (λ (t : Terms). IsLegalUnder t is.opened server.calls) (sym is.terms) is.legal

here : (node : RunningServer) (server : Server) (is : IsOf node server) → StandsLegally ghosts node.store is.opened server.calls
here node server is = record { stands = is.stands; legal = law node server is }

-- and with the call
pub law-after : (node : RunningServer) (server : Server) (new : MemStore) (ask : Ask) (reply : Reply) (is : IsOf node server) → Called node.store new ask reply
    → IsSession server.host area is.opened (record { ask = ask; reply = reply } ∷ server.calls)
law-after node server new ask reply is called =
    subst (λ (t : Terms). IsLegalUnder t is.opened (record { ask = ask; reply = reply } ∷ server.calls)) is.terms (called.legal is.opened server.calls is.stands (law node server is))

pub call-fits : (node : RunningServer) (server : Server) (new : MemStore) (ask : Ask) (reply : Reply) → IsOf node server → Called node.store new ask reply → Fits ask reply
call-fits node server new ask reply is called = session-fits server.host area is.opened server.calls ask reply (law-after node server new ask reply is called)

tells-of : (node : RunningServer) (server : Server) (new : MemStore) (ask : Ask) (reply : Reply) (is : IsOf node server) → Called node.store new ask reply
    → Tells server (server.calls ++ is.opened) ask reply (disk_of node.store) (disk_of new)
tells-of node server new ask reply is called =
    let there = here node server is in
    let host = same-host node server is in
    record {
      cause = called.cause;
      no_cause = called.no_cause;
      idle = λ e. called.idle is.opened server.calls there (ap (λ h. would_change h (server.calls ++ is.opened) ask) host ∙ e);
      made = λ e good. called.made is.opened server.calls there (ap (λ h. would_change h (server.calls ++ is.opened) ask) host ∙ e) good;
      not_made = λ failed told left.
          let s = called.not_made failed told left in
          (λ burnt. s.0 (burnt ∙ ap Some (zero_more left)), λ passes. s.1 (subst (CanBurn (disk_of node.store).fuse) (zero_more left) passes));
      fewer = λ left e lt burnt. called.fewer is.opened server.calls left there (ap (λ h. would_change h (server.calls ++ is.opened) ask) host ∙ e) lt burnt;
      passes = λ passes. called.passes 0 passes;
    }
  where
    zero_more : (n : ℕ) → n + 0 ≡ n
    zero_more n = omega arith

-- ---- the live area

-- the live area of its journal, as the store has it
own-live : (node : RunningServer) (server : Server) (is : IsOf node server) → fault_in server.calls ≡ None → HasLiveArea ghosts (host_of node.store) server.live node.store
own-live node server is fine = subst (λ h. HasLiveArea ghosts h server.live node.store) (sym (same-host node server is)) (is.live fine)

-- after a call that told no fault
live-called : (node : RunningServer) (server : Server) (new : MemStore) (ask : Ask) (reply : Reply) (is : IsOf node server) → Called node.store new ask reply → fault_in server.calls ≡ None → count_of reply ≡ None
    → HasLiveArea ghosts server.host (with_call server ask reply).live new
live-called node server new ask reply is called fine told =
    let g : List Entry = server.calls ++ is.opened in
    let alike = alike-history node server is in
    let raw = called.journal.live tt is.opened server.calls server.live (here node server is) (own-live node server is fine) told in
    let own = subst (λ (t : Terms). HasLiveArea ghosts t.host (stores.live_after (would_change t.host g ask && not (is_failure reply)) t.host t.area g ask server.live) new) is.terms raw in
    let makes : Bool = would_change server.host g ask && not (is_failure reply) in
    subst (λ l. HasLiveArea ghosts server.host l new)
    (live-alike makes server.host g (history server) ask server.live alike ∙ ap (λ b. live_after (b && not (is_failure reply)) server.host (history server) ask server.live) (would_change-same server.host g (history server) ask alike))
    own

-- what stands on the disk after one that told a fault
fault-called : (node : RunningServer) (server : Server) (new : MemStore) (ask : Ask) (count left : ℕ) (is : IsOf node server) → Called node.store new ask (DiskFault count) → fault_in server.calls ≡ None → server.fuse ≡ Some left
    → AfterFault ghosts left (stores.switches_to_second server.host area (server.calls ++ is.opened) ask server.live) (OpensLive server.host area (server.calls ++ is.opened) server.live)
    (OpensLive server.host area (heard server.host (server.calls ++ is.opened) ask ∷ (server.calls ++ is.opened)) (stores.grown_by server.host area (server.calls ++ is.opened) ask server.live)) (disk_of new)
fault-called node server new ask count left is called fine fuse =
    let g : List Entry = server.calls ++ is.opened in
    let burnt : (disk_of node.store).fuse ≡ Some left = (is.sound fine).fuse ∙ fuse in
    let enough : left ≤ left = omega arith in
    let passes : CanBurn (disk_of node.store).fuse left = let P : Option ℕ → Type 0 = λ f. CanBurn f left in subst P (sym burnt) enough in
    let raw = called.journal.after_fault tt is.opened server.calls server.live count left (here node server is) (own-live node server is fine) refl passes burnt in
    subst (λ (t : Terms). AfterFault ghosts left (stores.switches_to_second t.host t.area g ask server.live) (OpensLive t.host t.area g server.live)
    (OpensLive t.host t.area (heard t.host g ask ∷ g) (stores.grown_by t.host t.area g ask server.live)) (disk_of new)) is.terms raw

-- a disk that fails in a call has a fuse, by which less than four calls are left
short-called : (node : RunningServer) (server : Server) (new : MemStore) (ask : Ask) (count : ℕ) (is : IsOf node server) → Called node.store new ask (DiskFault count) → fault_in server.calls ≡ None
    → (left : ℕ) × (server.fuse ≡ Some left) × ((left ≤ 2) ⊎ (left ≡ 3))
short-called node server new ask count is called fine = by_fuse server.fuse refl
  where
    never : CanBurn server.fuse 4 → ⊥
    never can =
        let P : Option ℕ → Type 0 = λ f. CanBurn f 4 in
        let wrong : Some count ≡ None = called.passes 0 (subst P (sym (is.sound fine).fuse) can) in cc

    by_fuse : (o : Option ℕ) → server.fuse ≡ o → (left : ℕ) × (server.fuse ≡ Some left) × ((left ≤ 2) ⊎ (left ≡ 3))
    by_fuse None at = absurd (never (let P : Option ℕ → Type 0 = λ f. CanBurn f 4 in subst P (sym at) tt))
    by_fuse (Some left) at = (left, at, few_left left (λ four. never (let P : Option ℕ → Type 0 = λ f. CanBurn f 4 in subst P (sym at) four)))

-- what a crash leaves after a call
crash-called : (node : RunningServer) (server : Server) (new : MemStore) (ask : Ask) (reply : Reply) (is : IsOf node server) → Called node.store new ask reply
    → IsReplyAfter server.host area (fault_in server.calls) (server.calls ++ is.opened) ask reply → (mode : Crash)
    → Keeps server is.opened ask reply mode (cut_after (count_of reply) server ask) (faulted (record { ask = ask; reply = reply } ∷ server.calls)) (with_call server ask reply).live (disk_of new).images
crash-called node server new ask reply is called told mode = by_fault (fault_in server.calls) refl
  where
    g : List Entry
    g = server.calls ++ is.opened

    e : Entry
    e = record { ask = ask; reply = reply }

    After : Reply → Type 0
    After r = Keeps server is.opened ask r mode (cut_after (count_of r) server ask) (faulted (record { ask = ask; reply = r } ∷ server.calls)) (with_call server ask r).live (disk_of new).images

    failed : (count : ℕ) → fault_in server.calls ≡ None → reply ≡ DiskFault count → After (DiskFault count)
    failed count fine is_fault =
        let called_so = subst (λ r. Called node.store new ask r) is_fault called in
        let short = short-called node server new ask count is called_so fine in
        let nothing : (would_change server.host (history server) ask && not (is_failure (DiskFault count))) ≡ false = makes-nothing (would_change server.host (history server) ask) (DiskFault count) refl in
        subst (λ l. Keeps server is.opened ask (DiskFault count) mode (Some (cut_of server ask)) (Some ask) l (disk_of new).images)
        (sym (ap (λ b. live_after b server.host (history server) ask server.live) nothing))
        (crash-faulted server is.opened ask mode count short.0 (disk_of new) short.1 short.2 (alike-history node server is) (fault-called node server new ask count short.0 is called_so fine short.1))

    whole : fault_in server.calls ≡ None → count_of reply ≡ None → After reply
    whole fine none =
        let still : fault_in (e ∷ server.calls) ≡ None = ap (λ o. option_or o (fault_in server.calls)) none ∙ fine in
        let uncut : cut_after (count_of reply) server ask ≡ None = ap (λ o. cut_after o server ask) none ∙ is.uncut fine in
        subst (λ cut. Keeps server is.opened ask reply mode cut (faulted (e ∷ server.calls)) (with_call server ask reply).live (disk_of new).images) (sym uncut)
        (crash-stands new server.host is.opened (e ∷ server.calls) (with_call server ask reply).live mode (called.terms ∙ is.terms) still (live-called node server new ask reply is called fine none)
        (called.stands is.opened server.calls is.stands (law node server is)))

    by_count : (o : Option ℕ) → count_of reply ≡ o → fault_in server.calls ≡ None → After reply
    by_count None none fine = whole fine none
    by_count (Some count) some fine = let is_fault = fault-reply reply count some in subst After (sym is_fault) (failed count fine is_fault)

    by_fault : (o : Option ℕ) → fault_in server.calls ≡ o → After reply
    by_fault None fine = by_count (count_of reply) refl fine
    by_fault (Some count) had =
        let P : Option ℕ → Type 0 = λ o. IsReplyAfter server.host area o g ask reply in
        let same = called.journal.stopped count (sym is.stands.fault ∙ had) in
        crash-stopped server is.opened ask reply mode count (disk_of node.store).images (disk_of new).images (subst P had told) (alike-history node server is) (sym (ap (λ (d : DiskState). d.images) same)) (is.crash mode)

-- the store after a call stands for the server after it
pub called-of : (node : RunningServer) (server : Server) (new : MemStore) (ask : Ask) (reply : Reply) → IsOf node server → Called node.store new ask reply
    → (wanting : Bool) × (reply ≡ reply_of wanting server ask) × IsOf (record node { store = new }) (server_after wanting server ask)
called-of node server new ask reply is called =
    let g : List Entry = server.calls ++ is.opened in
    let alike = alike-history node server is in
    let lawful = law-after node server new ask reply is called in
    let tells = tells-of node server new ask reply is called in
    let same = would_change-same server.host g (history server) ask alike in
    let told = replies server g ask reply (disk_of node.store) (disk_of new) (would_change server.host (history server) ask) refl same tells is.sound area
    (reply-same server.host area (fault_in server.calls) g (history server) ask reply alike lawful.0) refl in
    let after : IsOf (record node { store = new }) (with_call server ask reply) = record {
      host = is.host;
      clock = is.clock;
      terms = called.terms ∙ is.terms;
      opened = is.opened;
      stands = called.stands is.opened server.calls is.stands (law node server is);
      legal = lawful;
      alike = is.alike;
      sound = λ none.
          let before = no_fault-before (record { ask = ask; reply = reply }) server.calls none in
          sound-after server g ask reply (disk_of node.store) (disk_of new) (would_change server.host (history server) ask) (is_failure reply) refl same refl tells (is.sound before.1) before.0;
      live = λ none. (let before = no_fault-before (record { ask = ask; reply = reply }) server.calls none in live-called node server new ask reply is called before.1 before.0);
      uncut = λ none. (let before = no_fault-before (record { ask = ask; reply = reply }) server.calls none in ap (λ o. cut_after o server ask) before.0 ∙ is.uncut before.1);
      crash = λ mode. crash-called node server new ask reply is called lawful.0 mode;
    } in
    (told.0, told.1, subst (λ (r : Reply). IsOf (record node { store = new }) (with_call server ask r)) told.1 after)
