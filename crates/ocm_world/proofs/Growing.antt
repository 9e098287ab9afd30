-- The live area of a server's journal after a call, and what a crash then leaves of its disk.
use Rattle.std.proofs.Common.{◌≡◌, ◌⊎◌, ◌==◌, ◌≤◌, inl, inr, ℕ, List, ◌∷◌, ◌++◌, Bool, true, false, Option, Some, refl, sym, ◌∙◌, ap, subst, arith}
use Rattle.std.specs.Prelude.{◌&&◌, ◌<◌, nat_le, not, option_map, unwrap_or}
use Rattle.std.specs.Option.{option_or}
use Rattle.std.proofs.lemmas.Bool.Decides.{nat_tests}
use Rattle.ocm_disk.specs.Memory.{DiskState, ImagesState, left_by}
use Rattle.ocm_disk.specs.contracts.memory.MemDiskDisk.TheImpl.{ghosts}
use Rattle.ocm_disk.specs.declared.crashes.Crash.{Crash}
use Rattle.ocm_disk.specs.declared.crashes.Crash.TheVariants.{Old, New, Torn}
use Rattle.ocm_entry.specs.declared.asks.Ask.{Ask}
use Rattle.ocm_entry.specs.declared.entries.Entry.{Entry}
use Rattle.ocm_entry.specs.declared.replies.Reply.{Reply}
use Rattle.ocm_entry.specs.declared.replies.Reply.TheVariants as replies
use Rattle.ocm_journal.specs.AfterFaults.{AfterFault}
use Rattle.ocm_journal.specs.LiveAreas.{LiveArea, goes_to_second, grown}
use Rattle.ocm_rules.specs.History.{answer, is_failure, kept}
use Rattle.ocm_rules.specs.Lean.{lean, leaned}
use Rattle.ocm_rules.proofs.Kept.{kept-kept}
use Rattle.ocm_law_sessions.specs.Crashes.{faulted}
use Rattle.ocm_law_sessions.specs.Sessions.{IsReplyAfter, IsToldReply, count_of, fits, heard, would_change}
use Rattle.ocm_law_sessions.specs.Written.{record_of, records_of}
use Rattle.ocm_law_sessions.proofs.Appending.{record-same}
use Rattle.ocm_law_sessions.proofs.Replying.{heard-same, lean-failure, lean-heard, stopped-idle, would_change-same}
use Rattle.ocm_store.specs.Growing as stores
use Rattle.ocm_store.specs.Growing.{OpensLive}
use Rattle.ocm_store.proofs.Journaling.{after-map}
use Rattle.ocm_script_run.specs.Servers.{CutShort, Server, area, cut_after, cut_of, grown_by, history, is_kept, keeps, kept_by_crash, live_after, live_left}
use Rattle.ocm_world.proofs.Loading.{kept-alike}

-- ---- histories with the same lean list

-- the record of an entry
record-alike : (host : List ℕ) (form : ℕ) (g other : List Entry) (e : Entry) → lean host g ≡ lean host other → record_of form (kept host g) e ≡ record_of form (kept host other) e
record-alike host form g other e same = record-same host form (kept host g) other e (kept-kept host g) (ap (λ l. leaned host l) (kept-kept host g) ∙ same)

new-alike : (host : List ℕ) (form : ℕ) (g other : List Entry) (ask : Ask) → lean host g ≡ lean host other → record_of form (kept host g) (heard host g ask) ≡ record_of form (kept host other) (heard host other ask)
new-alike host form g other ask same = record-alike host form g other (heard host g ask) same ∙ ap (λ e. record_of form (kept host other) e) (heard-same host g other ask same)

grown-alike : (host : List ℕ) (g other : List Entry) (ask : Ask) (live : LiveArea) → lean host g ≡ lean host other → stores.grown_by host area g ask live ≡ grown_by host other ask live
grown-alike host g other ask live same =
    ap (λ r. grown area live r (records_of (lean host (heard host g ask ∷ g)))) (new-alike host live.form g other ask same)
    ∙ ap (λ l. grown area live (record_of live.form (kept host other) (heard host other ask)) (records_of l)) (lean-heard host g other ask same)

pub live-alike : (b : Bool) (host : List ℕ) (g other : List Entry) (ask : Ask) (live : LiveArea) → lean host g ≡ lean host other → stores.live_after b host area g ask live ≡ live_after b host other ask live
live-alike true host g other ask live same = grown-alike host g other ask live same
live-alike false host g other ask live same = refl

-- what opens to the lean list of one history opens to that of the other
opens-alike : (host : List ℕ) (g other : List Entry) (live : LiveArea) (c : List ℕ) → lean host g ≡ lean host other → OpensLive host area g live c → OpensLive host area other live c
opens-alike host g other live c same opens = (opens.0, (opens.1.0, opens.1.1, opens.1.2 ∙ same))

-- ---- calls that make nothing

pub makes-nothing : (b : Bool) (reply : Reply) → is_failure reply ≡ true → (b && not (is_failure reply)) ≡ false
makes-nothing true reply failed = ap not failed
makes-nothing false reply failed = refl

-- after a fault nothing is made
stopped-nothing : (host : List ℕ) (count : ℕ) (g : List Entry) (ask : Ask) (reply : Reply) → IsReplyAfter host area (Some count) g ask reply → (would_change host g ask && not (is_failure reply)) ≡ false
stopped-nothing host count g ask reply (inl wanting) = makes-nothing (would_change host g ask) reply (ap is_failure wanting)
stopped-nothing host count g ask reply (inr told) = by_test (would_change host g ask) told
  where
    by_test : (b : Bool) → IsToldReply b (Some count) (fits host area g ask) (answer host g ask) reply → (b && not (is_failure reply)) ≡ false
    by_test true stopped = ap not (ap is_failure stopped)
    by_test false answered = refl

-- ---- the disk failed

pub fault-reply : (reply : Reply) (count : ℕ) → count_of reply ≡ Some count → reply ≡ replies.DiskFault count
fault-reply (replies.DiskFault n) count is = ap replies.DiskFault (ap (λ o. unwrap_or o 0) is)
fault-reply reply count is = absurd (cc)

-- so few calls were left
pub few_left : (left : ℕ) → (4 ≤ left → ⊥) → (left ≤ 2) ⊎ (left ≡ 3)
few_left left fewer = by_test (nat_le left 2) refl
  where
    by_test : (b : Bool) → nat_le left 2 ≡ b → (left ≤ 2) ⊎ (left ≡ 3)
    by_test true is = inl (grind (arith, nat_tests, is))
    by_test false is = (let more : 2 < left = grind (arith, nat_tests, is) in inr (omega (arith, fewer, more)))

-- what a crash then leaves
pub after-crash : (now : DiskState) (left : ℕ) (second : Bool) (P : Bool → List ℕ → Type 0) (live : LiveArea) (mode : Crash) → (left ≤ 2) ⊎ (left ≡ 3) → AfterFault ghosts left second (P false) (P true) now
    → P (keeps mode (record { passed = left; to_second = second; live = live })) (left_by mode now.images)
after-crash now left second P live Old (inl few) a = (a.few few).1
after-crash now left second P live Old (inr three) a = (a.three three).1
after-crash now left second P live New (inl few) a = let no : (left == 3) ≡ false = grind (arith, nat_tests, few) in subst (λ b. P b now.images.seen) (sym no) (a.few few).0
after-crash now left second P live New (inr three) a = let yes : (left == 3) ≡ true = grind (arith, nat_tests, three) in subst (λ b. P b now.images.seen) (sym yes) (a.three three).0
after-crash now left second P live Torn (inl few) a = let no : (left == 3) ≡ false = grind (arith, nat_tests, few) in subst (λ b. P (b && second) now.images.torn) (sym no) (a.few few).2
after-crash now left second P live Torn (inr three) a = let yes : (left == 3) ≡ true = grind (arith, nat_tests, three) in subst (λ b. P (b && second) now.images.torn) (sym yes) (by_second second refl)
  where
    by_second : (b : Bool) → second ≡ b → P b now.images.torn
    by_second true is = a.three_torn_after three is
    by_second false is = a.three_torn_before three is

-- ---- what a crash leaves after a call

-- the bytes that a crash of this mode leaves are what it keeps of a server after a call
abbrev pub Keeps : Server → List Entry → Ask → Reply → Crash → Option CutShort → Option Ask → LiveArea → ImagesState → Type 0
Keeps server opened ask reply mode cut asked live images =
    OpensLive server.host area (kept_by_crash (is_kept mode cut) server.host asked (record { ask = ask; reply = reply } ∷ (server.calls ++ opened))) (live_left (is_kept mode cut) cut live) (left_by mode images)

-- of a server whose disk failed before
pub crash-stopped : (server : Server) (opened : List Entry) (ask : Ask) (reply : Reply) (mode : Crash) (count : ℕ) (old new : ImagesState) → IsReplyAfter server.host area (Some count) (server.calls ++ opened) ask reply
    → lean server.host (server.calls ++ opened) ≡ lean server.host (history server) → old ≡ new
    → OpensLive server.host area (kept_by_crash (is_kept mode server.cut) server.host (faulted server.calls) (server.calls ++ opened)) (live_left (is_kept mode server.cut) server.cut server.live) (left_by mode old)
    → Keeps server opened ask reply mode (cut_after (count_of reply) server ask) (faulted (record { ask = ask; reply = reply } ∷ server.calls))
    (live_after (would_change server.host (history server) ask && not (is_failure reply)) server.host (history server) ask server.live) new
crash-stopped server opened ask reply mode count old new told alike images before =
    let g : List Entry = server.calls ++ opened in
    let e : Entry = record { ask = ask; reply = reply } in
    let idle = stopped-idle server.host area count g e told in
    let later : faulted (e ∷ server.calls) ≡ faulted server.calls = ap (λ o. option_or (option_map (λ (n : ℕ). ask) o) (faulted server.calls)) idle.0 in
    let nothing = ap (λ b. b && not (is_failure reply)) (sym (would_change-same server.host g (history server) ask alike)) ∙ stopped-nothing server.host count g ask reply told in
    let live = ap (λ b. live_after b server.host (history server) ask server.live) nothing in
    let here : Keeps server opened ask reply mode server.cut (faulted server.calls) server.live old =
    opens-alike server.host (kept_by_crash (is_kept mode server.cut) server.host (faulted server.calls) g) (kept_by_crash (is_kept mode server.cut) server.host (faulted server.calls) (e ∷ g))
    (live_left (is_kept mode server.cut) server.cut server.live) (left_by mode old)
    (kept-alike (is_kept mode server.cut) server.host (faulted server.calls) g (e ∷ g) (sym (ap (λ l. leaned server.host l) idle.1))) before in
    subst (λ (z : Option ℕ × Option Ask × LiveArea × ImagesState). Keeps server opened ask reply mode (cut_after z.0 server ask) z.1 z.2 z.3) (λ i. (sym idle.0 i, sym later i, sym live i, images i)) here

-- of one whose disk failed in the call
pub crash-faulted : (server : Server) (opened : List Entry) (ask : Ask) (mode : Crash) (count left : ℕ) (now : DiskState) → server.fuse ≡ Some left → (left ≤ 2) ⊎ (left ≡ 3)
    → lean server.host (server.calls ++ opened) ≡ lean server.host (history server)
    → AfterFault ghosts left (stores.switches_to_second server.host area (server.calls ++ opened) ask server.live) (OpensLive server.host area (server.calls ++ opened) server.live)
    (OpensLive server.host area (heard server.host (server.calls ++ opened) ask ∷ (server.calls ++ opened)) (stores.grown_by server.host area (server.calls ++ opened) ask server.live)) now
    → Keeps server opened ask (replies.DiskFault count) mode (Some (cut_of server ask)) (Some ask) server.live now.images
crash-faulted server opened ask mode count left now fuse few alike after =
    let g : List Entry = server.calls ++ opened in
    let e : Entry = record { ask = ask; reply = replies.DiskFault count } in
    let same : lean server.host g ≡ lean server.host (e ∷ g) = sym (lean-failure server.host g e refl) in
    let cut : CutShort = cut_of server ask in
    let P : Bool → List ℕ → Type 0 = λ b c. OpensLive server.host area (kept_by_crash b server.host (Some ask) (e ∷ g)) (live_left b (Some cut) server.live) c in
    let with_it : (c : List ℕ) → OpensLive server.host area (heard server.host g ask ∷ g) (stores.grown_by server.host area g ask server.live) c → P true c = λ c opens.
    subst (λ l. OpensLive server.host area (heard server.host (e ∷ g) ask ∷ (e ∷ g)) l c) (grown-alike server.host g (history server) ask server.live alike)
    (opens-alike server.host (heard server.host g ask ∷ g) (heard server.host (e ∷ g) ask ∷ (e ∷ g)) (stores.grown_by server.host area g ask server.live) c (lean-heard server.host g (e ∷ g) ask same) opens) in
    let second = ap (goes_to_second area server.live) (new-alike server.host server.live.form g (history server) ask alike) in
    let told = after-map ghosts left (stores.switches_to_second server.host area g ask server.live) cut.to_second _ (P false) _ (P true) now second
    (λ c opens. opens-alike server.host g (e ∷ g) server.live c same opens) with_it after in
    subst (λ n. P (keeps mode (record { passed = n; to_second = cut.to_second; live = cut.live })) (left_by mode now.images)) (sym (ap (λ o. unwrap_or o 0) fuse))
    (after-crash now left cut.to_second P cut.live mode few told)
