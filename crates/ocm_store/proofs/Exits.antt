-- What a call does, by each way on which it ends.
use Rattle.std.proofs.Common.{◌≡◌, inl, inr, ℕ, ◌+◌, ◌<◌, ◌≤◌, ◌==◌, List, ◌∷◌, ◌++◌, Bool, true, false, refl, sym, ap, ◌∙◌, subst, arith, Option, Some, None}
use Rattle.std.specs.Prelude.{◌&&◌, IfSome, not}
use Rattle.std.specs.Option.{option_or}
use Rattle.ocm_base.specs.Outside.{raised}
use Rattle.ocm_core.proofs.Standing.{reply-after}
use Rattle.ocm_disk.specs.Disk.{LeavesOnly}
use Rattle.ocm_disk.specs.declared.disk.Disk.{Ghosts}
use Rattle.ocm_entry.specs.declared.asks.Ask.{Ask}
use Rattle.ocm_entry.specs.declared.entries.Entry.{Entry}
use Rattle.ocm_entry.specs.declared.replies.Reply.{Reply}
use Rattle.ocm_entry.specs.declared.replies.Reply.TheVariants as replies
use Rattle.ocm_history.specs.declared.histories.History.{History}
use Rattle.ocm_history.specs.Changes.{told}
use Rattle.ocm_history.specs.Histories.{IsOf, SameMemory, home_of}
use Rattle.ocm_history.proofs.Memories.{failed-of, same-of, told-heard, unchanged-of, would-plan}
use Rattle.ocm_journal.specs.AfterFaults.{AfterFault}
use Rattle.ocm_journal.specs.declared.journal.Journal.{Journal}
use Rattle.ocm_journal.specs.Journals as journals
use Rattle.ocm_journal.specs.Journals.{StandsFor}
use Rattle.ocm_journal.specs.LiveAreas.{LiveArea}
use Rattle.ocm_journal.proofs.Moving.{joined, weaker}
use Rattle.ocm_law_sessions.specs.Readings.{opened}
use Rattle.ocm_law_sessions.specs.Sessions.{IsChangeReply, IsReply, IsToldReply, count_of, fault_in, fits, heard, would_change}
use Rattle.ocm_law_sessions.proofs.Entries.{answered-legal}
use Rattle.ocm_law_sessions.proofs.Opening.{opened-answered}
use Rattle.ocm_law_sessions.proofs.Replying.{answer-counts, kept-failure, kept-unchanged, lean-failure}
use Rattle.ocm_law_sessions.proofs.Surviving.{next-changed, next-faulted, next-idle, next-in_flight}
use Rattle.ocm_plan.specs.Plans.{Plan, Plans}
use Rattle.ocm_rules.specs.History.{answer, is_failure, kept}
use Rattle.ocm_rules.specs.Lean.{lean, leaned}
use Rattle.ocm_rules.specs.State.{State, view_in}
use Rattle.ocm_rules.proofs.Lists.{not_both}
use Rattle.ocm_tables.specs.Changes.{is_kept}
use Rattle.ocm_store.specs.declared.stores.Store.{Store}
use Rattle.ocm_store.specs.declared.terms.Terms.{Terms}
use Rattle.ocm_store.specs.declared.write_faults.WriteFault.{WriteFault}
use Rattle.ocm_store.specs.declared.write_faults.WriteFault.TheVariants as write_faults
use Rattle.ocm_store.specs.Acts.{Acts, Grows, IsWithOrWithout, Spends, SpendsNone, StandsLegally}
use Rattle.ocm_store.specs.Faults.{HasCount, IsNoDiskFault, count_told, reply_told}
use Rattle.ocm_store.specs.Growing.{HasLiveArea, OpensLive, grown_by, live_after, switches_to_second}
use Rattle.ocm_store.specs.Stores.{IsLegalUnder, IsWritten, LeavesNext, Stands, area_of, disk_of, fault_of, host_of, terms_of}

-- what a crash leaves before a call it leaves after one that changed nothing
leaves-idle : (terms : Terms) (k h : List Entry) (e : Entry) (c : List ℕ) → count_of e.reply ≡ None → kept terms.host (e ∷ (h ++ k)) ≡ kept terms.host (h ++ k) → LeavesNext terms k h None c → LeavesNext terms k (e ∷ h) None c
leaves-idle terms k h e c counts same left = (left.0, left.1, next-idle terms.host k h e left.0 counts same left.2)

-- and within it
pub leaves-in_flight : (terms : Terms) (k h : List Entry) (ask : Ask) (c : List ℕ) → LeavesNext terms k h None c → LeavesNext terms k h (Some ask) c
leaves-in_flight terms k h ask c left = (left.0, left.1, next-in_flight terms.host k h ask left.0 left.2)

-- with a change or without it, bytes open to what may follow while it is in flight
either-next : (terms : Terms) (k h : List Entry) (ask : Ask) (c : List ℕ) → fault_in h ≡ None → would_change terms.host (h ++ k) ask ≡ true → IsWithOrWithout terms.host terms.area (h ++ k) ask c → LeavesNext terms k h (Some ask) c
either-next terms k h ask c fault changes (next, image, legal, inl without) = (next, image, (legal, inl without))
either-next terms k h ask c fault changes (next, image, legal, inr with_it) = (next, image, next-changed terms.host k h ask next fault changes legal with_it)

-- a reply that tells no count tells no fault of the disk
no_fault : (reply : Reply) (n : ℕ) → count_of reply ≡ None → reply ≡ replies.DiskFault n → ⊥
no_fault reply n counts is = let some : Some n ≡ None = sym (ap count_of is) ∙ counts in cc

-- the terms of this host, with areas of this size
abbrev terms-with : List ℕ → ℕ → Terms
terms-with host size = record { host = host; area = size }

same-home : (old new : History) → SameMemory old new → home_of new ≡ home_of old
same-home old new same = ap (λ (st : State). st.host) same.lists

module _ {D : Type 0} (disk : Ghosts D) where
  -- an ask would change something, for whatever calls the store stands
  abbrev Changes : Store D disk → Ask → Type 0
  Changes store ask = (k h : List Entry) → StandsLegally disk store k h → would_change (host_of store) (h ++ k) ask ≡ true

  -- ... and this may be the reply
  abbrev MayReply : Store D disk → Ask → Reply → Type 0
  MayReply store ask reply = (k h : List Entry) → StandsLegally disk store k h → IsReply (host_of store) (area_of store) k h ask reply

  -- a crash within a call leaves the history with a change or without it
  abbrev LeavesEither : Store D disk → Store D disk → Ask → Type 0
  LeavesEither old new ask = disk.tells → (g : List Entry) → IsOf old.history g → IsWritten disk (host_of old) g old.journal
      → LeavesOnly disk.moment disk.left_since (disk_of old) (disk_of new) (IsWithOrWithout (host_of old) (area_of old) g ask)

  -- the journal goes on to stand for what it stood for
  abbrev StandsOn : Store D disk → Store D disk → Type 0
  StandsOn old new = disk.tells → (label : List ℕ) (records : List (List ℕ)) → StandsFor disk label records old.journal → StandsFor disk label records new.journal

  -- a crash within a call leaves what it left before
  abbrev LeavesAsBefore : Store D disk → Store D disk → Type 0
  LeavesAsBefore old new = disk.tells → LeavesOnly disk.moment disk.left_since (disk_of old) (disk_of new) (disk.may_leave (disk_of old))

  -- ---- what a written journal leaves

  written-opens : (host : List ℕ) (k h : List Entry) (journal : Journal D disk) → IsWritten disk host (h ++ k) journal → LeavesNext (terms-with host (journals.area_of journal)) k h None (disk.seen (journals.disk_of journal))
  written-opens host k h journal w =
      (w.list, (journal.form, w.records, w.holds.image, w.opens), (answered-legal host w.list (opened-answered host journal.form w.records w.list w.opens), inl w.same))

  written-leaves : (host : List ℕ) (k h : List Entry) (journal : Journal D disk) → IsWritten disk host (h ++ k) journal → (c : List ℕ) → disk.may_leave (journals.disk_of journal) c → LeavesNext (terms-with host (journals.area_of journal)) k h None c
  written-leaves host k h journal w c left = subst (LeavesNext (terms-with host (journals.area_of journal)) k h None) (sym (w.holds.durable c left)) (written-opens host k h journal w)

  -- the same journal for a history with the same lean list
  written-same : (host : List ℕ) (g other : List Entry) (old new : Journal D disk) → lean host g ≡ lean host other → journals.form_of new ≡ journals.form_of old
      → ((label : List ℕ) (records : List (List ℕ)) → StandsFor disk label records old → StandsFor disk label records new) → IsWritten disk host g old → IsWritten disk host other new
  written-same host g other old new same form holds w = record {
    records = w.records;
    list = w.list;
    holds = holds host w.records w.holds;
    opens = ap (λ f. opened host f w.records) form ∙ w.opens;
    same = w.same ∙ same;
    spelled = w.spelled;
  }

  -- a journal that has an ask with its answer has what is told, where that is planned
  pub written-told : (history : History) (g : List Entry) (ask : Ask) (plan : Plan) (reply : Reply) (journal : Journal D disk) → IsOf history g → Plans history.core.state ask plan → reply ≡ plan.reply
      → IsWritten disk (home_of history) (heard (home_of history) g ask ∷ g) journal → IsWritten disk (home_of history) (told ask reply ∷ g) journal
  written-told history g ask plan reply journal memory plans is written =
      let own : Reply → Entry = λ r. told ask r in
      subst (λ e. IsWritten disk (home_of history) (e ∷ g) journal) (sym (ap own is ∙ told-heard history.core.state g ask plan memory.lists plans)) written

  -- ---- what a store stands for after a call

  pub same-terms : (old new : Store D disk) → host_of new ≡ host_of old → area_of new ≡ area_of old → terms_of new ≡ terms_of old
  same-terms old new home area = ap (λ host. terms-with host (area_of new)) home ∙ ap (terms-with (host_of old)) area

  -- that is not stopped: what its memory and its journal have
  stands-written : (store : Store D disk) (host : List ℕ) (k h : List Entry) → fault_in h ≡ None → fault_of store ≡ None → host_of store ≡ host → IsOf store.history (h ++ k)
      → (disk.tells → IsWritten disk host (h ++ k) store.journal) → Stands disk store k h
  stands-written store host k h fine goes home memory written = record {
    memory = memory;
    fault = fine ∙ sym goes;
    counted = none-counted (fault_of store) goes;
    written = λ tells so. subst (λ it. IsWritten disk it (h ++ k) store.journal) (sym home) (written tells);
    reads = λ tells. subst (λ it. LeavesNext (terms-with it (area_of store)) k h None (disk.seen (disk_of store))) (sym home) (written-opens host k h store.journal (written tells));
    leaves = λ tells c left. subst (λ it. LeavesNext (terms-with it (area_of store)) k h None c) (sym home) (written-leaves host k h store.journal (written tells) c left);
  }
    where
      none-counted : (o : Option ℕ) → o ≡ None → IfSome o (λ n. (n ≡ disk.count (disk_of store)) × (0 < n))
      none-counted None is = tt
      none-counted (Some n) is = absurd (cc)

  -- ---- what a crash leaves within a call

  -- that takes memory alone
  room-leaves : (old new : Store D disk) (ask : Ask) (k h : List Entry) → StandsLegally disk old k h → disk.tells → LeavesAsBefore old new
      → LeavesOnly disk.moment disk.left_since (disk_of old) (disk_of new) (LeavesNext (terms_of old) k h (Some ask))
  room-leaves old new ask k h s tells leaves = weaker disk.moment disk.left_since (disk_of old) (disk_of new) (disk.may_leave (disk_of old)) (LeavesNext (terms_of old) k h (Some ask)) (leaves tells)
      (λ c left. leaves-in_flight (terms_of old) k h ask c (s.stands.leaves tells c left))

  -- that writes
  change-leaves : (old new : Store D disk) (ask : Ask) (k h : List Entry) → StandsLegally disk old k h → disk.tells → fault_of old ≡ None → Changes old ask → LeavesEither old new ask
      → LeavesOnly disk.moment disk.left_since (disk_of old) (disk_of new) (LeavesNext (terms_of old) k h (Some ask))
  change-leaves old new ask k h s tells goes changing leaves = weaker disk.moment disk.left_since (disk_of old) (disk_of new) (IsWithOrWithout (host_of old) (area_of old) (h ++ k) ask) (LeavesNext (terms_of old) k h (Some ask))
      (leaves tells (h ++ k) s.stands.memory (s.stands.written tells goes))
      (λ c either. either-next (terms_of old) k h ask c (s.stands.fault ∙ goes) (changing k h s) either)

  -- ---- the live area

  -- what does not change the journal's live area keeps it
  abbrev StillLive : Store D disk → Store D disk → Type 0
  StillLive old new = disk.tells → (host : List ℕ) (live : LiveArea) → HasLiveArea disk host live old → HasLiveArea disk host live new

  shape-still : (old new : Store D disk) → journals.SameShape old.journal new.journal → StandsOn old new → StillLive old new
  shape-still old new shape holds = λ tells host live h. record { first = ap (λ s. s == 512) shape.2 ∙ h.first; form = shape.1 ∙ h.form; holds = holds tells host live.records h.holds }

  -- a call that makes nothing
  grows-unmade : (old new : Store D disk) (ask : Ask) (reply : Reply) → count_of reply ≡ None → StillLive old new
      → ((k h : List Entry) → StandsLegally disk old k h → (would_change (host_of old) (h ++ k) ask && not (is_failure reply)) ≡ false)
      → ((count : ℕ) → fault_of old ≡ Some count → disk_of new ≡ disk_of old) → Grows disk old new ask reply
  grows-unmade old new ask reply counts still none stopped = record {
    live = λ tells k h live s has told. subst (λ b. HasLiveArea disk (host_of old) (live_after b (host_of old) (area_of old) (h ++ k) ask live) new) (sym (none k h s)) (still tells (host_of old) live has);
    after_fault = λ tells k h live count left s has is pass burnt. absurd (no_fault reply count counts is);
    stopped = stopped;
  }

  -- a call of a store that is not stopped
  not-stopped : (old new : Store D disk) → fault_of old ≡ None → (count : ℕ) → fault_of old ≡ Some count → disk_of new ≡ disk_of old
  not-stopped old new goes count is = absurd (let wrong : None ≡ Some count = sym goes ∙ is in cc)

  -- a failure makes nothing
  fails-none : (b : Bool) (reply : Reply) → is_failure reply ≡ true → (b && not (is_failure reply)) ≡ false
  fails-none true reply failed = ap not failed
  fails-none false reply failed = refl

  grows-made : (old new : Store D disk) (ask : Ask) (reply : Reply) → count_of reply ≡ None → is_failure reply ≡ false → fault_of old ≡ None → Changes old ask
      → (disk.tells → (k h : List Entry) (live : LiveArea) → StandsLegally disk old k h → HasLiveArea disk (host_of old) live old → HasLiveArea disk (host_of old) (grown_by (host_of old) (area_of old) (h ++ k) ask live) new)
      → Grows disk old new ask reply
  grows-made old new ask reply counts done goes changing grown = record {
    live = λ tells k h live s has told.
        subst (λ (z : Bool × Bool). HasLiveArea disk (host_of old) (live_after (z.0 && not z.1) (host_of old) (area_of old) (h ++ k) ask live) new) (λ i. (sym (changing k h s) i, sym done i)) (grown tells k h live s has);
    after_fault = λ tells k h live count left s has is pass burnt. absurd (no_fault reply count counts is);
    stopped = not-stopped old new goes;
  }

  -- what stands on the disk after a call that told a fault
  abbrev AfterCall : Store D disk → Store D disk → Ask → Type 0
  AfterCall old new ask = disk.tells → (k h : List Entry) (live : LiveArea) (left : ℕ) → StandsLegally disk old k h → HasLiveArea disk (host_of old) live old → disk.passes (disk_of old) left → disk.burnt (disk_of old) left
      → AfterFault disk left (switches_to_second (host_of old) (area_of old) (h ++ k) ask live) (OpensLive (host_of old) (area_of old) (h ++ k) live)
      (OpensLive (host_of old) (area_of old) (heard (host_of old) (h ++ k) ask ∷ (h ++ k)) (grown_by (host_of old) (area_of old) (h ++ k) ask live)) (disk_of new)

  grows-faulted : (old new : Store D disk) (ask : Ask) (count : ℕ) → fault_of old ≡ None → AfterCall old new ask → Grows disk old new ask (replies.DiskFault count)
  grows-faulted old new ask count goes after = record {
    live = λ tells k h live s has told. absurd (no_fault (replies.DiskFault count) count told refl);
    after_fault = λ tells k h live n left s has is pass burnt. after tells k h live left s has pass burnt;
    stopped = not-stopped old new goes;
  }

  -- ---- a change that is not made, though the disk did not fail

  acts-unmade : (old new : Store D disk) (ask : Ask) (reply : Reply) → count_of reply ≡ None → is_failure reply ≡ true → fault_of old ≡ None → fault_of new ≡ None
      → SameMemory old.history new.history → area_of new ≡ area_of old
      → ((k h : List Entry) → StandsLegally disk old k h → disk.tells → IsWritten disk (host_of old) (h ++ k) new.journal)
      → ((k h : List Entry) → StandsLegally disk old k h → disk.tells → LeavesOnly disk.moment disk.left_since (disk_of old) (disk_of new) (LeavesNext (terms_of old) k h (Some ask)))
      → disk.count (disk_of new) ≡ disk.count (disk_of old) → SpendsNone disk (disk_of old) (disk_of new) → Changes old ask → MayReply old ask reply → StillLive old new → Acts disk old new ask reply
  acts-unmade old new ask reply counts failed goes goes_on same area written leaves count spends changing legal still = record {
    terms = same-terms old new (same-home old.history new.history same) area;
    stands = λ k h s.
        stands-written new (host_of old) k (told ask reply ∷ h) (ap (λ o. option_or o (fault_in h)) counts ∙ s.stands.fault ∙ goes) goes_on (same-home old.history new.history same)
        (failed-of new.history (h ++ k) ask reply (same-of old.history new.history (h ++ k) same s.stands.memory) failed)
        (λ tells. written-same (host_of old) (h ++ k) (told ask reply ∷ (h ++ k)) new.journal new.journal (sym (lean-failure (host_of old) (h ++ k) (told ask reply) failed)) refl (λ label records holds. holds) (written k h s tells));
    legal = λ k h s. (legal k h s, s.legal);
    cause = λ n is. absurd (no_fault reply n counts is);
    no_cause = λ none. count;
    any_moment = λ tells k h s. leaves k h s tells;
    idle = λ k h s idle. absurd (not_both _ (changing k h s) idle);
    made = λ k h s changes made. absurd (not_both _ failed made);
    not_made = λ f none. spends;
    fewer = λ k h left s changes few burnt. failed;
    passes = λ left pass. counts;
    journal = grows-unmade old new ask reply counts still (λ k h s. fails-none (would_change (host_of old) (h ++ k) ask) reply failed) (not-stopped old new goes);
  }

  -- since there was no memory, or it does not fit
  pub acts-room : (old new : Store D disk) (ask : Ask) (reply : Reply) → count_of reply ≡ None → is_failure reply ≡ true → fault_of old ≡ None → fault_of new ≡ None
      → SameMemory old.history new.history → journals.SameShape old.journal new.journal → StandsOn old new → LeavesAsBefore old new
      → disk.count (disk_of new) ≡ disk.count (disk_of old) → SpendsNone disk (disk_of old) (disk_of new) → Changes old ask → MayReply old ask reply → Acts disk old new ask reply
  acts-room old new ask reply counts failed goes goes_on same shape holds leaves count spends changing legal =
      acts-unmade old new ask reply counts failed goes goes_on same shape.0
      (λ k h s tells. written-same (host_of old) (h ++ k) (h ++ k) old.journal new.journal refl shape.1 (holds tells) (s.stands.written tells goes))
      (λ k h s tells. room-leaves old new ask k h s tells leaves) count spends changing legal (shape-still old new shape holds)

  -- ---- a change that is made

  pub acts-made : (old new : Store D disk) (ask : Ask) (reply : Reply) → count_of reply ≡ None → is_failure reply ≡ false → fault_of old ≡ None → fault_of new ≡ None
      → host_of new ≡ host_of old → area_of new ≡ area_of old
      → ((g : List Entry) → IsOf old.history g → IsOf new.history (told ask reply ∷ g))
      → (disk.tells → (g : List Entry) → IsOf old.history g → IsWritten disk (host_of old) g old.journal → IsWritten disk (host_of old) (told ask reply ∷ g) new.journal)
      → LeavesEither old new ask → disk.count (disk_of new) ≡ disk.count (disk_of old) → Spends disk 4 (disk_of old) (disk_of new)
      → ((left : ℕ) → left < 4 → disk.burnt (disk_of old) left → ⊥) → Changes old ask → MayReply old ask reply
      → (disk.tells → (k h : List Entry) (live : LiveArea) → StandsLegally disk old k h → HasLiveArea disk (host_of old) live old → HasLiveArea disk (host_of old) (grown_by (host_of old) (area_of old) (h ++ k) ask live) new)
      → Acts disk old new ask reply
  acts-made old new ask reply counts done goes goes_on home area memory written leaves count spends enough changing legal grown = record {
    terms = same-terms old new home area;
    stands = λ k h s.
        stands-written new (host_of old) k (told ask reply ∷ h) (ap (λ o. option_or o (fault_in h)) counts ∙ s.stands.fault ∙ goes) goes_on home (memory (h ++ k) s.stands.memory)
        (λ tells. written tells (h ++ k) s.stands.memory (s.stands.written tells goes));
    legal = λ k h s. (legal k h s, s.legal);
    cause = λ n is. absurd (no_fault reply n counts is);
    no_cause = λ none. count;
    any_moment = λ tells k h s. change-leaves old new ask k h s tells goes changing leaves;
    idle = λ k h s idle. absurd (not_both _ (changing k h s) idle);
    made = λ k h s changes made. spends;
    not_made = λ f none. absurd (not_both _ f done);
    fewer = λ k h left s changes few burnt. absurd (enough left few burnt);
    passes = λ left pass. counts;
    journal = grows-made old new ask reply counts done goes changing grown;
  }

  -- ---- a change in which the disk failed

  acts-faulted : ((d : D) (t : ℕ) (c : List ℕ) → t ≤ disk.moment d → disk.may_leave d c → disk.left_since d t c) → ((d : D) → disk.may_leave d (disk.seen d))
      → (old new : Store D disk) (ask : Ask) (count : ℕ) → fault_of old ≡ None → fault_of new ≡ Some count → SameMemory old.history new.history → area_of new ≡ area_of old → LeavesEither old new ask
      → count ≡ disk.count (disk_of new) → disk.count (disk_of new) ≡ raised (disk.count (disk_of old)) → ((left : ℕ) → disk.passes (disk_of old) (left + 4) → ⊥)
      → Changes old ask → MayReply old ask (replies.DiskFault count) → AfterCall old new ask → Acts disk old new ask (replies.DiskFault count)
  acts-faulted counts_now reads_own old new ask count goes stopped same area leaves told_count rose enough changing legal after = record {
    terms = own;
    stands = λ k h s. record {
      memory = failed-of new.history (h ++ k) ask (replies.DiskFault count) (same-of old.history new.history (h ++ k) same s.stands.memory) refl;
      fault = sym stopped;
      counted = subst (λ o. IfSome o (λ n. (n ≡ disk.count (disk_of new)) × (0 < n))) (sym stopped) (told_count, above _ _ told_count rose);
      written = λ tells so. absurd (cc);
      reads = λ tells. left_now k h s tells (disk.seen (disk_of new)) (reads_own (disk_of new));
      leaves = λ tells c left. left_now k h s tells c left;
    };
    legal = λ k h s. (legal k h s, s.legal);
    cause = λ n is. (let same_count : count ≡ n = cc in (sym same_count ∙ told_count, rose));
    no_cause = λ none. absurd (cc);
    any_moment = λ tells k h s. change-leaves old new ask k h s tells goes changing leaves;
    idle = λ k h s idle. absurd (not_both _ (changing k h s) idle);
    made = λ k h s changes made. absurd (cc);
    not_made = λ f none. absurd (cc);
    fewer = λ k h left s changes few burnt. refl;
    passes = λ left pass. absurd (enough left pass);
    journal = grows-faulted old new ask count goes after;
  }
    where
      home : host_of new ≡ host_of old
      home = same-home old.history new.history same

      own : terms_of new ≡ terms_of old
      own = same-terms old new home area

      above : (before now : ℕ) → count ≡ now → now ≡ raised before → 0 < count
      above before now is more = omega arith

      left_now : (k h : List Entry) → StandsLegally disk old k h → disk.tells → (c : List ℕ) → disk.may_leave (disk_of new) c → LeavesNext (terms_of new) k (told ask (replies.DiskFault count) ∷ h) None c
      left_now k h s tells c left =
          let within = change-leaves old new ask k h s tells goes changing leaves in
          let here = within.each c (counts_now (disk_of new) (disk.moment (disk_of old)) c within.later left) in
          subst (λ t. LeavesNext t k (told ask (replies.DiskFault count) ∷ h) None c) (sym own) (here.0, here.1, next-faulted (host_of old) k h ask count here.0 (s.stands.fault ∙ goes) here.2)

  -- ---- a change that was not written

  -- a fault of the disk
  abbrev Breaks : WriteFault → Type 0
  Breaks fault = (n : ℕ) × (fault ≡ write_faults.DiskFault n)

  pub acts-failed : ((d : D) (t : ℕ) (c : List ℕ) → t ≤ disk.moment d → disk.may_leave d c → disk.left_since d t c) → ((d : D) → disk.may_leave d (disk.seen d))
      → (old new : Store D disk) (ask : Ask) (fault : WriteFault) (reply : Reply) → reply ≡ reply_told fault → fault_of old ≡ None → fault_of new ≡ count_told fault
      → SameMemory old.history new.history → area_of new ≡ area_of old
      → (disk.tells → (g : List Entry) → IsOf old.history g → IsWritten disk (host_of old) g old.journal → IsNoDiskFault fault → IsWritten disk (host_of old) g new.journal)
      → LeavesEither old new ask → HasCount (disk.count (disk_of old)) (disk.count (disk_of new)) fault → (IsNoDiskFault fault → SpendsNone disk (disk_of old) (disk_of new))
      → ((left : ℕ) → disk.passes (disk_of old) (left + 4) → IsNoDiskFault fault) → Changes old ask
      → ((k h : List Entry) → StandsLegally disk old k h → IsReply (host_of old) (area_of old) k h ask (reply_told fault)) → (IsNoDiskFault fault → StillLive old new) → (Breaks fault → AfterCall old new ask) → Acts disk old new ask reply
  acts-failed counts_now reads_own old new ask fault reply is goes told_it same area unwritten leaves count spends enough changing legal still after = subst (λ r. Acts disk old new ask r) (sym is) (by_fault fault told_it unwritten count spends enough legal still after)
    where
      by_fault : (f : WriteFault) → fault_of new ≡ count_told f
          → (disk.tells → (g : List Entry) → IsOf old.history g → IsWritten disk (host_of old) g old.journal → IsNoDiskFault f → IsWritten disk (host_of old) g new.journal)
          → HasCount (disk.count (disk_of old)) (disk.count (disk_of new)) f → (IsNoDiskFault f → SpendsNone disk (disk_of old) (disk_of new))
          → ((left : ℕ) → disk.passes (disk_of old) (left + 4) → IsNoDiskFault f) → MayReply old ask (reply_told f) → (IsNoDiskFault f → StillLive old new) → (Breaks f → AfterCall old new ask) → Acts disk old new ask (reply_told f)
      by_fault (write_faults.DiskFault n) stopped kept_on rose none few may live_on broken = acts-faulted counts_now reads_own old new ask n goes stopped same area leaves rose.0 rose.1 few changing may (broken (n, refl))
      by_fault write_faults.Full fine kept_on stays none few may live_on broken =
          acts-unmade old new ask replies.JournalFull refl refl goes fine same area (λ k h s tells. kept_on tells (h ++ k) s.stands.memory (s.stands.written tells goes) tt)
          (λ k h s tells. change-leaves old new ask k h s tells goes changing leaves) stays (none tt) changing may (live_on tt)
      by_fault write_faults.NoMemory fine kept_on stays none few may live_on broken =
          acts-unmade old new ask replies.NoMemory refl refl goes fine same area (λ k h s tells. kept_on tells (h ++ k) s.stands.memory (s.stands.written tells goes) tt)
          (λ k h s tells. change-leaves old new ask k h s tells goes changing leaves) stays (none tt) changing may (live_on tt)

  -- ---- what may be told of a change

  -- where the disk did not fail before
  pub told-change : (store : Store D disk) (k h : List Entry) (ask : Ask) (reply : Reply) (room : Bool) → would_change (host_of store) (h ++ k) ask ≡ true → fault_in h ≡ None → fits (host_of store) (area_of store) (h ++ k) ask ≡ room
      → IsChangeReply None room (answer (host_of store) (h ++ k) ask) reply → IsReply (host_of store) (area_of store) k h ask reply
  told-change store k h ask reply room changes fault test is =
      let answered = answer (host_of store) (h ++ k) ask in
      let P : Bool → Type 0 = λ b. IsToldReply b (fault_in h) (fits (host_of store) (area_of store) (h ++ k) ask) answered reply in
      let Q : Option ℕ → Type 0 = λ o. IsToldReply true o (fits (host_of store) (area_of store) (h ++ k) ask) answered reply in
      let R : Bool → Type 0 = λ b. IsToldReply true None b answered reply in
      inr (subst P (sym changes) (subst Q (sym fault) (subst R (sym test) is)))

  -- where it fits and was not written
  pub told-failed : (store : Store D disk) (k h : List Entry) (ask : Ask) (fault : WriteFault) → would_change (host_of store) (h ++ k) ask ≡ true → fault_in h ≡ None → fits (host_of store) (area_of store) (h ++ k) ask ≡ true
      → (fault ≡ write_faults.Full → ⊥) → IsReply (host_of store) (area_of store) k h ask (reply_told fault)
  told-failed store k h ask write_faults.Full changes fine room never = absurd (never refl)
  told-failed store k h ask (write_faults.DiskFault n) changes fine room never = told-change store k h ask (replies.DiskFault n) true changes fine room (inr (n, refl))
  told-failed store k h ask write_faults.NoMemory changes fine room never = inl refl

  -- ---- after memory was taken

  -- what a call does once memory was taken for it, it does with that
  pub acts-prepared : (old middle new : Store D disk) (ask : Ask) (reply : Reply) → fault_of old ≡ None → fault_of middle ≡ None → SameMemory old.history middle.history
      → journals.SameShape old.journal middle.journal → StandsOn old middle → LeavesAsBefore old middle → disk.count (disk_of middle) ≡ disk.count (disk_of old) → SpendsNone disk (disk_of old) (disk_of middle)
      → Changes old ask → Acts disk middle new ask reply → Acts disk old new ask reply
  acts-prepared old middle new ask reply goes goes_on same shape holds leaves count spends changing acts = record {
    terms = acts.terms ∙ own;
    stands = λ k h s. acts.stands k h (after k h s);
    legal = λ k h s. subst (λ t. IsLegalUnder t k (told ask reply ∷ h)) own (acts.legal k h (after k h s));
    cause = λ n is. (let cause = acts.cause n is in (cause.0, cause.1 ∙ ap raised count));
    no_cause = λ none. acts.no_cause none ∙ count;
    any_moment = λ tells k h s.
        joined disk.moment disk.left_since (disk_of old) (disk_of middle) (disk_of new) (LeavesNext (terms_of old) k h (Some ask)) (room-leaves old middle ask k h s tells leaves)
        (subst (λ t. LeavesOnly disk.moment disk.left_since (disk_of middle) (disk_of new) (LeavesNext t k h (Some ask))) own (acts.any_moment tells k h (after k h s)));
    idle = λ k h s idle. absurd (not_both _ (changing k h s) idle);
    made = λ k h s changes made. (λ left. (let four = acts.made k h (after k h s) (same_would k h ∙ changes) made left in
        (λ burnt. four.0 ((spends (left + 4)).0 burnt), λ pass. four.1 ((spends (left + 4)).1 pass))));
    not_made = λ failed none. (λ left. (let no = acts.not_made failed none left in (λ burnt. no.0 ((spends left).0 burnt), λ pass. no.1 ((spends left).1 pass))));
    fewer = λ k h left s changes few burnt. acts.fewer k h left (after k h s) (same_would k h ∙ changes) few ((spends left).0 burnt);
    passes = λ left pass. acts.passes left ((spends (left + 4)).1 pass);
    journal = record {
      live = λ tells k h live s has told.
          subst (λ (t : Terms). HasLiveArea disk t.host (live_after (would_change t.host (h ++ k) ask && not (is_failure reply)) t.host t.area (h ++ k) ask live) new) own
          (acts.journal.live tells k h live (after k h s) (live_on tells live has) told);
      after_fault = λ tells k h live count left s has is pass burnt.
          subst (λ (t : Terms). AfterFault disk left (switches_to_second t.host t.area (h ++ k) ask live) (OpensLive t.host t.area (h ++ k) live)
          (OpensLive t.host t.area (heard t.host (h ++ k) ask ∷ (h ++ k)) (grown_by t.host t.area (h ++ k) ask live)) (disk_of new)) own
          (acts.journal.after_fault tells k h live count left (after k h s) (live_on tells live has) is ((spends left).1 pass) ((spends left).0 burnt));
      stopped = not-stopped old new goes;
    };
  }
    where
      home : host_of middle ≡ host_of old
      home = same-home old.history middle.history same

      own : terms_of middle ≡ terms_of old
      own = same-terms old middle home shape.0

      live_on : disk.tells → (live : LiveArea) → HasLiveArea disk (host_of old) live old → HasLiveArea disk (host_of middle) live middle
      live_on tells live has = subst (λ host. HasLiveArea disk host live middle) (sym home) (shape-still old middle shape holds tells (host_of old) live has)

      same_would : (k h : List Entry) → would_change (host_of middle) (h ++ k) ask ≡ would_change (host_of old) (h ++ k) ask
      same_would k h = ap (λ host. would_change host (h ++ k) ask) home

      after : (k h : List Entry) → StandsLegally disk old k h → StandsLegally disk middle k h
      after k h s = record {
        stands = stands-written middle (host_of old) k h (s.stands.fault ∙ goes) goes_on home (same-of old.history middle.history (h ++ k) same s.stands.memory)
            (λ tells. written-same (host_of old) (h ++ k) (h ++ k) old.journal middle.journal refl shape.1 (holds tells) (s.stands.written tells goes));
        legal = subst (λ t. IsLegalUnder t k h) (sym own) s.legal;
      }

-- ---- a call that leaves the store as it is

module _ {D : Type 0} (disk : Ghosts D) (only_now : (d : D) (c : List ℕ) → disk.left_since d (disk.moment d) c → disk.may_leave d c) where
  -- nothing was done with the disk
  pub still_leaves : (d : D) (P : List ℕ → Type 0) → ((c : List ℕ) → disk.may_leave d c → P c) → LeavesOnly disk.moment disk.left_since d d P
  still_leaves d P here = record {
    later = omega arith;
    each = λ c left. here c (only_now d c left);
    before = λ t c le left. inl left;
  }

  acts-same : (store : Store D disk) (ask : Ask) (reply : Reply) → count_of reply ≡ None
      → ((g : List Entry) → IsOf store.history g → IsOf store.history (told ask reply ∷ g))
      → ((g : List Entry) → IsOf store.history g → kept (host_of store) (told ask reply ∷ g) ≡ kept (host_of store) g)
      → MayReply disk store ask reply
      → ((k h : List Entry) → StandsLegally disk store k h → would_change (host_of store) (h ++ k) ask ≡ true → is_failure reply ≡ true)
      → Acts disk store store ask reply
  acts-same store ask reply counts memory same legal failing = record {
    terms = refl;
    stands = λ k h s. record {
      memory = memory (h ++ k) s.stands.memory;
      fault = ap (λ o. option_or o (fault_in h)) counts ∙ s.stands.fault;
      counted = s.stands.counted;
      written = λ tells goes.
          written-same disk (host_of store) (h ++ k) (told ask reply ∷ (h ++ k)) store.journal store.journal (ap (leaned (host_of store)) (sym (same (h ++ k) s.stands.memory))) refl (λ label records holds. holds)
          (s.stands.written tells goes);
      reads = λ tells. leaves-idle (terms_of store) k h (told ask reply) _ counts (same (h ++ k) s.stands.memory) (s.stands.reads tells);
      leaves = λ tells c left. leaves-idle (terms_of store) k h (told ask reply) c counts (same (h ++ k) s.stands.memory) (s.stands.leaves tells c left);
    };
    legal = λ k h s. (legal k h s, s.legal);
    cause = λ n is. absurd (no_fault reply n counts is);
    no_cause = λ none. refl;
    any_moment = λ tells k h s. still_leaves (disk_of store) (LeavesNext (terms_of store) k h (Some ask)) (λ c left. leaves-in_flight (terms_of store) k h ask c (s.stands.leaves tells c left));
    idle = λ k h s idle. refl;
    made = λ k h s changes made. absurd (not_both _ (failing k h s changes) made);
    not_made = λ failed none left. (λ b. b, λ p. p);
    fewer = λ k h left s changes few burnt. failing k h s changes;
    passes = λ left pass. counts;
    journal = grows-unmade disk store store ask reply counts (λ tells host live has. has) (λ k h s. unmade (would_change (host_of store) (h ++ k) ask) (failing k h s)) (λ count is. refl);
  }
    where
      unmade : (b : Bool) → (b ≡ true → is_failure reply ≡ true) → (b && not (is_failure reply)) ≡ false
      unmade true failed = ap not (failed refl)
      unmade false failed = refl

  -- an answer that changes nothing
  pub acts-idle : (store : Store D disk) (ask : Ask) (plan : Plan) → Plans store.history.core.state ask plan → is_kept plan.change ≡ false → Acts disk store store ask plan.reply
  acts-idle store ask plan plans unchanged =
      acts-same store ask plan.reply (answer-counts (view_in store.history.core.state) ask plan.reply plans.reply)
      (λ g m. unchanged-of store.history g ask plan m plans unchanged)
      (λ g m. ap (λ e. kept (host_of store) (e ∷ g)) (told-heard store.history.core.state g ask plan m.lists plans) ∙ kept-unchanged (host_of store) g ask (would g m))
      (λ k h s. inr (let P : Bool → Type 0 = λ b. IsToldReply b (fault_in h) (fits (host_of store) (area_of store) (h ++ k) ask) (answer (host_of store) (h ++ k) ask) plan.reply in
      subst P (sym (would (h ++ k) s.stands.memory)) (plans.reply ∙ reply-after store.history.core.state (h ++ k) ask s.stands.memory.lists)))
      (λ k h s changes. absurd (not_both _ changes (would (h ++ k) s.stands.memory)))
    where
      would : (g : List Entry) → IsOf store.history g → would_change (host_of store) g ask ≡ false
      would g m = would-plan store.history.core.state g ask plan m.lists plans ∙ unchanged

  -- a reply that tells that the server could not do it
  acts-unable : (store : Store D disk) (ask : Ask) (reply : Reply) → count_of reply ≡ None → is_failure reply ≡ true → MayReply disk store ask reply → Acts disk store store ask reply
  acts-unable store ask reply counts failed legal =
      acts-same store ask reply counts (λ g m. failed-of store.history g ask reply m failed) (λ g m. kept-failure (host_of store) g (told ask reply) failed) legal (λ k h s changes. failed)

  -- no memory for an answer
  pub acts-wanting : (store : Store D disk) (ask : Ask) → Acts disk store store ask replies.NoMemory
  acts-wanting store ask = acts-unable store ask replies.NoMemory refl refl (λ k h s. inl refl)

  -- a change after the disk failed
  pub acts-stopped : (store : Store D disk) (ask : Ask) (count : ℕ) → fault_of store ≡ Some count → Changes disk store ask → Acts disk store store ask (replies.Stopped count)
  acts-stopped store ask count stopped changing = acts-unable store ask (replies.Stopped count) refl refl (λ k h s.
      let room = fits (host_of store) (area_of store) (h ++ k) ask in
      let answered = answer (host_of store) (h ++ k) ask in
      let P : Bool → Type 0 = λ b. IsToldReply b (fault_in h) room answered (replies.Stopped count) in
      let Q : Option ℕ → Type 0 = λ o. IsToldReply true o room answered (replies.Stopped count) in
      inr (subst P (sym (changing k h s)) (subst Q (sym (s.stands.fault ∙ stopped)) refl)))

  -- a change that does not fit
  pub acts-full : (store : Store D disk) (ask : Ask) → fault_of store ≡ None → Changes disk store ask → ((k h : List Entry) → StandsLegally disk store k h → fits (host_of store) (area_of store) (h ++ k) ask ≡ false)
      → Acts disk store store ask replies.JournalFull
  acts-full store ask goes changing full = acts-unable store ask replies.JournalFull refl refl
      (λ k h s. told-change disk store k h ask replies.JournalFull false (changing k h s) (s.stands.fault ∙ goes) (full k h s) refl)
