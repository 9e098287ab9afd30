-- What is answered by what stands for a server, in the server's terms, and what becomes of its disk.
use Rattle.std.proofs.Common.{◌≡◌, ◌⊎◌, inl, inr, ℕ, ◌+◌, ◌-◌, ◌<◌, List, [], ◌∷◌, ◌++◌, Bool, true, false, Option, Some, None, refl, sym, ◌∙◌, ap, subst, arith}
use Rattle.std.specs.Prelude.{not, ◌&&◌}
use Rattle.std.specs.Option.{option_or}
use Rattle.std.proofs.lemmas.Bool.Decides.{nat_tests}
use Rattle.ocm_base.specs.Outside.{raised}
use Rattle.ocm_disk.specs.Fuse.{CanBurn}
use Rattle.ocm_disk.specs.Memory.{DiskState}
use Rattle.ocm_entry.specs.declared.asks.Ask.{Ask}
use Rattle.ocm_entry.specs.declared.entries.Entry.{Entry}
use Rattle.ocm_entry.specs.declared.replies.Reply.{Reply}
use Rattle.ocm_entry.specs.declared.replies.Reply.TheVariants.{NoMemory, DiskFault}
use Rattle.ocm_rules.specs.History.{answer, is_failure, kept}
use Rattle.ocm_rules.specs.Lean.{lean}
use Rattle.ocm_rules.specs.Messages.{view_of}
use Rattle.ocm_law_lean.proofs.Answered.{lean-goes_on}
use Rattle.ocm_law_sessions.specs.Sessions.{IsChangeReply, IsToldReply, count_of, fault_in, fits, would_change}
use Rattle.ocm_law_sessions.proofs.Faultless.{answers-given}
use Rattle.ocm_script_run.specs.Servers.{Server, change_reply, fuse_after, history, is_short, reply_of, told_reply}
use Rattle.ocm_script_run.specs.Running.{IsSound}

-- ---- fuses

-- so many device calls were made of two disks in memory, the later behind the earlier
abbrev pub Burns : ℕ → DiskState → DiskState → Type 0
Burns calls old new = (left : ℕ) → (old.fuse ≡ Some (left + calls) → new.fuse ≡ Some left) × (CanBurn old.fuse (left + calls) → CanBurn new.fuse left)

never_burns : (fuse : Option ℕ) → ((n : ℕ) → CanBurn fuse n) → fuse ≡ None
never_burns None h = refl
never_burns (Some left) h = let le = h (left + 1) in absurd (omega (arith, le))

-- without a fuse there is none afterwards
still_none : (calls : ℕ) (old new : DiskState) → old.fuse ≡ None → Burns calls old new → new.fuse ≡ None
still_none calls old new none burns =
    never_burns new.fuse (λ n. (burns n).1 (let P : Option ℕ → Type 0 = λ f. CanBurn f (n + calls) in subst P (sym none) tt))

less_again : (left : ℕ) → (left < 4 → ⊥) → left ≡ (left - 4) + 4
less_again left enough = omega (arith, enough)

-- after a change that was made
burnt_four : (fuse : Option ℕ) (old new : DiskState) → old.fuse ≡ fuse → Burns 4 old new → ((left : ℕ) → left < 4 → old.fuse ≡ Some left → ⊥) → new.fuse ≡ fuse_after true fuse
burnt_four None old new is burns enough = still_none 4 old new is burns
burnt_four (Some left) old new is burns enough = (burns (left - 4)).0 (is ∙ ap Some (less_again left (λ lt. enough left lt is)))

add_none : (n : ℕ) → n + 0 ≡ n
add_none n = omega arith

-- after a call that made none
burnt_none : (fuse : Option ℕ) (old new : DiskState) → old.fuse ≡ fuse → Burns 0 old new → new.fuse ≡ fuse
burnt_none None old new is burns = still_none 0 old new is burns
burnt_none (Some left) old new is burns = (burns left).0 (is ∙ ap Some (sym (add_none left)))

-- ---- replies

-- what a call of a store tells besides that its reply is one of its session
pub record Tells (server : Server) (g : List Entry) (ask : Ask) (reply : Reply) (old new : DiskState) : Type 0 where
  pub cause : (count : ℕ) → reply ≡ DiskFault count → (count ≡ new.faults) × (new.faults ≡ raised old.faults)
  pub no_cause : count_of reply ≡ None → new.faults ≡ old.faults
  pub idle : would_change server.host g ask ≡ false → new ≡ old
  pub made : would_change server.host g ask ≡ true → is_failure reply ≡ false → Burns 4 old new
  pub not_made : is_failure reply ≡ true → count_of reply ≡ None → Burns 0 old new
  pub fewer : (left : ℕ) → would_change server.host g ask ≡ true → left < 4 → old.fuse ≡ Some left → is_failure reply ≡ true
  pub passes : CanBurn old.fuse 4 → count_of reply ≡ None

short_fuse : (fuse : Option ℕ) → is_short fuse ≡ true → (left : ℕ) × (fuse ≡ Some left) × (left < 4)
short_fuse None short = absurd (let e : false ≡ true = short in cc)
short_fuse (Some left) short = (left, refl, grind (arith, nat_tests, short))

long_fuse : (fuse : Option ℕ) → is_short fuse ≡ false → CanBurn fuse 4
long_fuse None short = tt
long_fuse (Some left) short = grind (arith, nat_tests, short)

no_fault : {X : Type 0} (count : ℕ) → count_of (DiskFault count) ≡ None → X
no_fault count e = absurd (let f : Some count ≡ None = e in cc)

one_raised : raised 0 ≡ 1
one_raised = refl

-- a change that fits, where the disk did not fail before
fitting_reply : (server : Server) (g : List Entry) (ask : Ask) (answered reply : Reply) (old new : DiskState) (short : Bool) → is_short server.fuse ≡ short
    → Tells server g ask reply old new → IsSound old server.fuse → would_change server.host g ask ≡ true → is_failure answered ≡ false
    → (reply ≡ answered) ⊎ ((count : ℕ) × (reply ≡ DiskFault count)) → reply ≡ change_reply None true short answered
fitting_reply server g ask answered reply old new true is tells sound changes good (inl told) =
    let s = short_fuse server.fuse is in
    let failed : is_failure reply ≡ true = tells.fewer s.0 changes s.2 (sound.fuse ∙ s.1) in
    absurd (let e : false ≡ true = sym good ∙ sym (ap is_failure told) ∙ failed in cc)
fitting_reply server g ask answered reply old new true is tells sound changes good (inr told) =
    let cause = tells.cause told.0 told.1 in
    told.1 ∙ ap DiskFault (cause.0 ∙ cause.1 ∙ ap raised sound.faults ∙ one_raised)
fitting_reply server g ask answered reply old new false is tells sound changes good (inl told) = told
fitting_reply server g ask answered reply old new false is tells sound changes good (inr told) =
    let passes = let P : Option ℕ → Type 0 = λ f. CanBurn f 4 in tells.passes (subst P (sym sound.fuse) (long_fuse server.fuse is)) in
    no_fault told.0 (sym (ap count_of told.1) ∙ passes)

changed_reply : (server : Server) (g : List Entry) (ask : Ask) (answered reply : Reply) (old new : DiskState) (fault : Option ℕ) (room : Bool)
    → Tells server g ask reply old new → (fault ≡ None → IsSound old server.fuse) → would_change server.host g ask ≡ true → is_failure answered ≡ false
    → IsChangeReply fault room answered reply → reply ≡ change_reply fault room (is_short server.fuse) answered
changed_reply server g ask answered reply old new (Some count) room tells sound changes good told = told
changed_reply server g ask answered reply old new None true tells sound changes good told =
    fitting_reply server g ask answered reply old new (is_short server.fuse) refl tells (sound refl) changes good told
changed_reply server g ask answered reply old new None false tells sound changes good told = told

-- the reply of a store is that of its server, for some answer to whether memory was wanting
pub replies : (server : Server) (g : List Entry) (ask : Ask) (reply : Reply) (old new : DiskState) (changes : Bool) → would_change server.host (history server) ask ≡ changes → would_change server.host g ask ≡ changes
    → Tells server g ask reply old new → (fault_in server.calls ≡ None → IsSound old server.fuse)
    → (area : ℕ) → (reply ≡ NoMemory) ⊎ IsToldReply changes (fault_in server.calls) (fits server.host area (history server) ask) (answer server.host (history server) ask) reply
    → area ≡ 33554176 → (wanting : Bool) × (reply ≡ reply_of wanting server ask)
replies server g ask reply old new changes is same tells sound area (inl wanting) e = (true, wanting)
replies server g ask reply old new true is same tells sound area (inr told) e =
    let good = answers-given (view_of server.host (kept server.host (history server))) ask in
    let told_here : IsChangeReply (fault_in server.calls) (fits server.host 33554176 (history server) ask) (answer server.host (history server) ask) reply =
    subst (λ a. IsChangeReply (fault_in server.calls) (fits server.host a (history server) ask) (answer server.host (history server) ask) reply) e told in (
      false,
      changed_reply server g ask (answer server.host (history server) ask) reply old new (fault_in server.calls) (fits server.host 33554176 (history server) ask) tells sound same good told_here
          ∙ sym (ap (λ b. told_reply b server ask) is),
    )
replies server g ask reply old new false is same tells sound area (inr told) e = (false, told ∙ sym (ap (λ b. told_reply b server ask) is))

-- ---- disks

-- the disk after a call that told no fault
pub sound-after : (server : Server) (g : List Entry) (ask : Ask) (reply : Reply) (old new : DiskState) (changes failed : Bool) → would_change server.host (history server) ask ≡ changes → would_change server.host g ask ≡ changes
    → is_failure reply ≡ failed → Tells server g ask reply old new → IsSound old server.fuse → count_of reply ≡ None
    → IsSound new (fuse_after (would_change server.host (history server) ask && not (is_failure reply)) server.fuse)
sound-after server g ask reply old new false failed is same fails tells sound told =
    let P : Bool → Type 0 = λ b. IsSound new (fuse_after (b && not (is_failure reply)) server.fuse) in
    subst P (sym is) (subst (λ (d : DiskState). IsSound d server.fuse) (sym (tells.idle same)) sound)
sound-after server g ask reply old new true true is same fails tells sound told =
    let P : Bool × Bool → Type 0 = λ b. IsSound new (fuse_after (b.0 && not b.1) server.fuse) in
    subst P (λ i. (sym is i, sym fails i)) (record { fuse = burnt_none server.fuse old new sound.fuse (tells.not_made fails told); faults = tells.no_cause told ∙ sound.faults })
sound-after server g ask reply old new true false is same fails tells sound told =
    let P : Bool × Bool → Type 0 = λ b. IsSound new (fuse_after (b.0 && not b.1) server.fuse) in
    subst P (λ i. (sym is i, sym fails i))
    (record {
      fuse = burnt_four server.fuse old new sound.fuse (tells.made same fails) (λ left lt here. absurd (let e : false ≡ true = sym fails ∙ tells.fewer left same lt here in cc));
      faults = tells.no_cause told ∙ sound.faults;
    })

-- no fault was told, and none before
pub no_fault-before : (e : Entry) (calls : List Entry) → fault_in (e ∷ calls) ≡ None → (count_of e.reply ≡ None) × (fault_in calls ≡ None)
no_fault-before e calls none = first_none (count_of e.reply) (fault_in calls) none
  where
    first_none : (first rest : Option ℕ) → option_or first rest ≡ None → (first ≡ None) × (rest ≡ None)
    first_none None rest h = (refl, h)
    first_none (Some count) rest h = absurd (let f : Some count ≡ None = h in cc)

-- ---- lean lists

-- with the same calls behind them, lists with the same lean list have the same
pub alike-after : (host : List ℕ) (calls k other : List Entry) → lean host k ≡ lean host other → lean host (calls ++ k) ≡ lean host (calls ++ other)
alike-after host [] k other same = same
alike-after host (e ∷ calls) k other same = lean-goes_on host e (calls ++ k) (calls ++ other) (alike-after host calls k other same)

-- a disk without a fuse and a fault that was loaded
pub sound-loaded : (old new : DiskState) → IsSound old None → new.faults ≡ old.faults → (((n : ℕ) → CanBurn old.fuse n) → (n : ℕ) → CanBurn new.fuse n) → IsSound new None
sound-loaded old new sound same passes = record {
  fuse = never_burns new.fuse (passes (λ n. let P : Option ℕ → Type 0 = λ f. CanBurn f n in subst P (sym sound.fuse) tt));
  faults = same ∙ sound.faults;
}
