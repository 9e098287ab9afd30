-- What a call does once its record was appended to the journal.
use Rattle.std.proofs.Common.{◌≡◌, inl, ℕ, ◌≤◌, List, ◌∷◌, ◌++◌, true, false, ap, ◌∙◌, None}
use Rattle.std.specs.Prelude.{Err, Ok}
use Rattle.ocm_core.proofs.Standing.{reply-after}
use Rattle.ocm_disk.specs.declared.disk.Disk.{Ghosts}
use Rattle.ocm_entry.specs.declared.asks.Ask.{Ask}
use Rattle.ocm_entry.specs.declared.entries.Entry.{Entry}
use Rattle.ocm_entry.specs.declared.replies.Reply.{Reply}
use Rattle.ocm_history_records.specs.Kept.{IsBound}
use Rattle.ocm_history.specs.Changes.{IsChange, told}
use Rattle.ocm_history.specs.Histories.{IsOf, SameMemory}
use Rattle.ocm_history.proofs.Memories.{change-would}
use Rattle.ocm_journal.specs.Journals.{form_of}
use Rattle.ocm_law_sessions.specs.Sessions.{heard}
use Rattle.ocm_law_sessions.specs.Written.{asks_size}
use Rattle.ocm_law_sessions.proofs.Faultless.{answers-given}
use Rattle.ocm_law_sessions.proofs.Replying.{answer-counts}
use Rattle.ocm_rules.specs.History.{is_failure}
use Rattle.ocm_rules.specs.Lean.{lean}
use Rattle.ocm_rules.specs.State.{view_in}
use Rattle.ocm_store.specs.declared.ready.ReadyChange.{ReadyChange}
use Rattle.ocm_store.specs.declared.stores.Store.{Store}
use Rattle.ocm_store.specs.declared.write_faults.WriteFault.{WriteFault}
use Rattle.ocm_store.specs.Acts.{Acts}
use Rattle.ocm_store.specs.Appends.{Writes}
use Rattle.ocm_store.specs.Faults.{count_told, reply_told, stops}
use Rattle.ocm_store.specs.Ready.{IsPrepared, IsReady}
use Rattle.ocm_store.specs.Stores.{fault_of, host_of}
use Rattle.ocm_store.proofs.Exits.{acts-failed, acts-made, acts-prepared, told-change, told-failed, written-told}

module _ {D : Type 0} (disk : Ghosts D) where
  -- what a call does from a store with all memory for it, it does from the one before
  pub prepared-acts : (old middle new : Store D disk) (ask : Ask) (reply : Reply) → IsPrepared disk old middle ask → Acts disk middle new ask reply → Acts disk old new ask reply
  prepared-acts old middle new ask reply p acts = acts-prepared disk old middle new ask reply p.goes p.goes_on p.same p.shape p.journal p.any_moment p.count p.spends p.changing acts

  -- a change that was written is made
  pub settled-made : (old new : Store D disk) (ask : Ask) (change : ReadyChange) (reply : Reply) → fault_of old ≡ None → fault_of new ≡ None → IsReady disk old ask change
      → Writes disk old.history change.planned change.draft old.journal new.journal (Ok tt) → reply ≡ change.planned.reply → host_of new ≡ host_of old
      → ((g : List Entry) (form : ℕ) → IsChange old.history g ask change.planned form change.draft → IsBound change.size (asks_size (lean (host_of old) (heard (host_of old) g ask ∷ g))) → IsOf new.history (told ask reply ∷ g))
      → Acts disk old new ask reply
  settled-made old new ask change reply goes goes_on ready w is home memory =
      let form = form_of old.journal in
      let plan = change.planned in
      let drafted = ready.drafted.change in
      let plans = ready.drafted.plans in
      acts-made disk old new ask reply
      (answer-counts (view_in old.history.core.state) ask reply (is ∙ plans.reply))
      (ap is_failure (is ∙ plans.reply) ∙ answers-given (view_in old.history.core.state) ask)
      goes goes_on home w.area
      (λ g m. memory g form (drafted g m) (ready.bound g m))
      (λ tells g m there. written-told disk old.history g ask plan reply new.journal m plans is (w.written tells g ask (drafted g m) there))
      (λ tells g m there. w.any_moment tells g ask (drafted g m) there)
      w.count w.made
      (λ left few burnt. let wrong : false ≡ true = w.fewer left few burnt in cc)
      (λ k h s. change-would old.history (h ++ k) ask plan form change.draft (drafted (h ++ k) s.stands.memory))
      (λ k h s. told-change disk old k h ask reply true (change-would old.history (h ++ k) ask plan form change.draft (drafted (h ++ k) s.stands.memory)) (s.stands.fault ∙ goes) (ready.fits (h ++ k) s.stands.memory)
      (inl (is ∙ plans.reply ∙ reply-after old.history.core.state (h ++ k) ask s.stands.memory.lists)))
      (λ tells k h live s has. w.live tells (h ++ k) ask live (drafted (h ++ k) s.stands.memory) has)

  -- and one that was not is not
  pub settled-failed : ((d : D) (t : ℕ) (c : List ℕ) → t ≤ disk.moment d → disk.may_leave d c → disk.left_since d t c) → ((d : D) → disk.may_leave d (disk.seen d))
      → (old new : Store D disk) (ask : Ask) (change : ReadyChange) (fault : WriteFault) (reply : Reply) → reply ≡ reply_told fault → fault_of old ≡ None → fault_of new ≡ count_told fault
      → SameMemory old.history new.history → IsReady disk old ask change → Writes disk old.history change.planned change.draft old.journal new.journal (Err fault) → Acts disk old new ask reply
  settled-failed counts_now reads_own old new ask change fault reply is goes told_it same ready w =
      let form = form_of old.journal in
      let plan = change.planned in
      let drafted = ready.drafted.change in
      acts-failed disk counts_now reads_own old new ask fault reply is goes told_it same w.area
      (λ tells g m there none. w.unwritten tells g there none)
      (λ tells g m there. w.any_moment tells g ask (drafted g m) there)
      w.fault w.not_made w.passes
      (λ k h s. change-would old.history (h ++ k) ask plan form change.draft (drafted (h ++ k) s.stands.memory))
      (λ k h s. told-failed disk old k h ask fault (change-would old.history (h ++ k) ask plan form change.draft (drafted (h ++ k) s.stands.memory)) (s.stands.fault ∙ goes) (ready.fits (h ++ k) s.stands.memory)
      (λ full. w.not_full (h ++ k) ask (drafted (h ++ k) s.stands.memory) (ready.fits (h ++ k) s.stands.memory) (ap Err full)))
      (λ none tells host live has. w.still tells host live has none)
      (λ broken tells k h live left s has pass burnt.
      w.after_fault tells (h ++ k) ask live left (drafted (h ++ k) s.stands.memory) (s.stands.written tells goes) has (w.stopped ∙ ap (λ f. stops (Err f)) broken.1) pass burnt)
