-- What was taken in one session changes nothing in a later one.
use Rattle.std.proofs.Common.{◌≡◌, ℕ, List, [], ◌∷◌, ◌++◌, Bool, true, false, refl, sym, ap, ◌∙◌, Option}
use Rattle.std.specs.Prelude.{◌⊎◌, ◌||◌, ◌&&◌, not, if◌then◌else◌}
use Rattle.std.specs.List.{list_any}
use mathlib.Core.Logic.{inl, inr}
use Rattle.ocm_types.specs.declared.addresses.Address.{Address}
use Rattle.ocm_types.specs.declared.letters.Notice.TheVariants as notices
use Rattle.ocm_types.specs.declared.rights.Rights.{Rights}
use Rattle.ocm_entry.specs.declared.asks.Ask.{Ask}
use Rattle.ocm_entry.specs.declared.asks.Ask.TheVariants as asks
use Rattle.ocm_entry.specs.declared.entries.Entry.{Entry}
use Rattle.ocm_entry.specs.declared.replies.Reply.{Reply}
use Rattle.ocm_entry.specs.declared.replies.Reply.TheVariants as replies
use Rattle.ocm_rules.specs.Lean.{lean}
use Rattle.ocm_rules.specs.History.{answer, is_failure, kept}
use Rattle.ocm_rules.specs.Messages.{view_of}
use Rattle.ocm_rules.specs.Numbers.{numbers}
use Rattle.ocm_rules.specs.Offers.{offers}
use Rattle.ocm_law_lean.proofs.Answered.{answer-same, lean-goes_on}
use Rattle.ocm_law_repeats.specs.Repeats.{entry_of, is_behind, is_child, is_for_records, is_removable, is_repeat, was_answered, with_removed, with_told}
use Rattle.ocm_law_repeats.proofs.Alone.{changed-alone, unshared-alone}
use Rattle.ocm_law_repeats.proofs.Children.{same-child}
use Rattle.ocm_law_repeats.proofs.Offers.{settled-once}
use Rattle.ocm_law_repeats.proofs.Removed.{unshared-changes}
use Rattle.ocm_law_repeats.proofs.Repeated.{repeat-once}
use Rattle.ocm_law_repeats.proofs.Told.{changed-changes}
use Rattle.ocm_law_sessions.specs.Sessions.{IsReply, IsToldReply, fault_in, fits, would_change}
use Rattle.ocm_law_sessions.proofs.Replying.{heard-same, kept-given, reply-given, view-same, would_change-same}
use Rattle.ocm_law_openings.specs.Openings.{Follow, IsOneHistory, Period, history_in, was_taken_in}
use Rattle.ocm_law_openings.proofs.OneHistory.{Since, Stands, some-passes}

-- what passes a test among older entries does so among all
pub any-behind : {X : Type 0} (p : X → Bool) (xs ys : List X) → list_any p ys ≡ true → list_any p (xs ++ ys) ≡ true
any-behind p [] ys h = h
any-behind p (x ∷ xs) ys h = rw (any-behind p xs ys h) (last (p x))
  where
    last : (b : Bool) → (b || true) ≡ true
    last true = refl
    last false = refl

-- ---- from a history on

-- a repeat of what was taken in a history changes nothing after one that goes on from it
pub repeat-since : (host : List ℕ) (from now : List Entry) (ask : Ask) → Since host from now → is_repeat from ask ≡ true → is_for_records ask ≡ false → would_change host now ask ≡ false
repeat-since host from now ask since taken other =
    would_change-same host now (since.more ++ from) ask (sym since.stands.same)
    ∙ repeat-once host (since.more ++ from) ask since.stands.legal (any-behind _ since.more from taken) other

settled-since : (host : List ℕ) (from now : List Entry) (number status other_status : ℕ) (id other_id : Option (List ℕ)) → Since host from now → is_repeat from (asks.Settle number status id) ≡ true → would_change host now (asks.Settle number other_status other_id) ≡ false
settled-since host from now number status other_status id other_id since taken =
    would_change-same host now (since.more ++ from) (asks.Settle number other_status other_id) (sym since.stands.same)
    ∙ settled-once host (since.more ++ from) number status other_status id other_id since.stands.legal (any-behind _ since.more from taken)

child-since : (host : List ℕ) (from now : List Entry) (id secret : List ℕ) (with : Address) (sender_id : List ℕ) (asked : Option Rights) (fresh : List ℕ) (n : ℕ) → Since host from now
    → was_answered (is_child n) from (asks.Notice (notices.ReshareRequest id secret with sender_id asked) fresh) ≡ true → answer host now (asks.Notice (notices.ReshareRequest id secret with sender_id asked) fresh) ≡ replies.Child n
child-since host from now id secret with sender_id asked fresh n since taken =
    answer-same host now (since.more ++ from) (asks.Notice (notices.ReshareRequest id secret with sender_id asked) fresh) (sym since.stands.same)
    ∙ same-child host (since.more ++ from) id secret with sender_id asked fresh n since.stands.legal (any-behind _ since.more from taken)

-- ---- through openings

pub taken-once : (host : List ℕ) (p : Period) (older : List Period) (ask : Ask) → Follow host (p ∷ older) → was_taken_in (p ∷ older) ask ≡ true → is_for_records ask ≡ false → would_change host (history_in p) ask ≡ false
taken-once host p older ask follow taken other =
    let found = some-passes host (λ (q : Period). is_repeat (history_in q) ask) p older follow taken in
    repeat-since host (history_in found.session) (history_in p) ask found.since found.passes other

pub message-once : (host : List ℕ) (p : Period) (older : List Period) (number status other_status : ℕ) (id other_id : Option (List ℕ)) → Follow host (p ∷ older) → was_taken_in (p ∷ older) (asks.Settle number status id) ≡ true → would_change host (history_in p) (asks.Settle number other_status other_id) ≡ false
message-once host p older number status other_status id other_id follow taken =
    let found = some-passes host (λ (q : Period). is_repeat (history_in q) (asks.Settle number status id)) p older follow taken in
    settled-since host (history_in found.session) (history_in p) number status other_status id other_id found.since found.passes

pub child-again : (host : List ℕ) (p : Period) (older : List Period) (id secret : List ℕ) (with : Address) (sender_id : List ℕ) (asked : Option Rights) (fresh : List ℕ) (n : ℕ) → Follow host (p ∷ older)
    → list_any (λ (q : Period). was_answered (is_child n) (history_in q) (asks.Notice (notices.ReshareRequest id secret with sender_id asked) fresh)) (p ∷ older) ≡ true
    → answer host (history_in p) (asks.Notice (notices.ReshareRequest id secret with sender_id asked) fresh) ≡ replies.Child n
child-again host p older id secret with sender_id asked fresh n follow taken =
    let found = some-passes host (λ (q : Period). was_answered (is_child n) (history_in q) (asks.Notice (notices.ReshareRequest id secret with sender_id asked) fresh)) p older follow taken in
    child-since host (history_in found.session) (history_in p) id secret with sender_id asked fresh n found.since found.passes

-- ---- what a call without a change leaves

-- the replies to what would change nothing
unchanged-told : (change : Bool) (fault : Option ℕ) (room : Bool) (answered reply : Reply) → change ≡ false → IsToldReply change fault room answered reply → reply ≡ answered
unchanged-told true fault room answered reply h told = absurd (cc)
unchanged-told false fault room answered reply h told = told

pub unchanged-reply : (host : List ℕ) (area : ℕ) (k h : List Entry) (ask : Ask) (reply : Reply) → would_change host (h ++ k) ask ≡ false → IsReply host area k h ask reply → (reply ≡ answer host (h ++ k) ask) ⊎ (reply ≡ replies.NoMemory)
unchanged-reply host area k h ask reply same (inl wanting) = inr wanting
unchanged-reply host area k h ask reply same (inr told) = inl (unchanged-told (would_change host (h ++ k) ask) (fault_in h) (fits host area (h ++ k) ask) (answer host (h ++ k) ask) reply same told)

pub unchanged-kept : (host : List ℕ) (area : ℕ) (k h : List Entry) (ask : Ask) (reply : Reply) → would_change host (h ++ k) ask ≡ false → IsReply host area k h ask reply → kept host (record { ask = ask; reply = reply } ∷ (h ++ k)) ≡ kept host (h ++ k)
unchanged-kept host area k h ask reply same told =
    let e : Entry = record { ask = ask; reply = reply } in
    kept-given host (h ++ k) e (reply-given host area (fault_in h) (h ++ k) ask reply told)
    ∙ ap (λ b. if not (is_failure reply) && b then e ∷ kept host (h ++ k) else kept host (h ++ k)) same
    ∙ none (not (is_failure reply))
  where
    none : (b : Bool) → (if b && false then (let e : Entry = record { ask = ask; reply = reply } in e) ∷ kept host (h ++ k) else kept host (h ++ k)) ≡ kept host (h ++ k)
    none true = refl
    none false = refl

-- ---- notices that are for all records

one-stands : (host : List ℕ) (p : Period) (older : List Period) (g : List Entry) → IsOneHistory host p older g → Stands host g (history_in p)
one-stands host p older g one = record { legal = one.legal; same = one.same }

-- what is read of a history with an ask and its answer
view-entry : (host : List ℕ) (g now : List Entry) (ask : Ask) → Stands host g now → view_of host (kept host (entry_of host now ask ∷ now)) ≡ view_of host (kept host (entry_of host g ask ∷ g))
view-entry host g now ask stands =
    let same : lean host (entry_of host now ask ∷ now) ≡ lean host (entry_of host g ask ∷ g) =
    lean-goes_on host (entry_of host now ask) now g (sym stands.same) ∙ ap (λ e. lean host (e ∷ g)) (heard-same host now g ask (sym stands.same)) in
    view-same host (entry_of host now ask ∷ now) (entry_of host g ask ∷ g) same

pub unshared-changes-later : (host : List ℕ) (p : Period) (older : List Period) (g : List Entry) (id secret fresh : List ℕ) → IsOneHistory host p older g
    → would_change host (history_in p) (asks.Notice (notices.Unshared id secret) fresh) ≡ list_any (is_removable host g id secret fresh) (numbers (offers (kept host g)))
unshared-changes-later host p older g id secret fresh one =
    would_change-same host (history_in p) g (asks.Notice (notices.Unshared id secret) fresh) (sym one.same) ∙ unshared-changes host g id secret fresh one.legal

pub unshared-alone-later : (host : List ℕ) (p : Period) (older : List Period) (g : List Entry) (id secret fresh : List ℕ) → IsOneHistory host p older g
    → view_of host (kept host (entry_of host (history_in p) (asks.Notice (notices.Unshared id secret) fresh) ∷ history_in p)) ≡ with_removed (view_of host (kept host (history_in p))) (is_removable host g id secret fresh)
unshared-alone-later host p older g id secret fresh one =
    view-entry host g (history_in p) (asks.Notice (notices.Unshared id secret) fresh) (one-stands host p older g one)
    ∙ unshared-alone host g id secret fresh one.legal
    ∙ ap (λ v. with_removed v (is_removable host g id secret fresh)) (view-same host g (history_in p) one.same)

pub changed-changes-later : (host : List ℕ) (p : Period) (older : List Period) (g : List Entry) (id secret : List ℕ) (serial : ℕ) (perms : Rights) (fresh : List ℕ) → IsOneHistory host p older g
    → would_change host (history_in p) (asks.Notice (notices.Changed id secret serial perms) fresh) ≡ list_any (is_behind host g id secret serial perms fresh) (numbers (offers (kept host g)))
changed-changes-later host p older g id secret serial perms fresh one =
    would_change-same host (history_in p) g (asks.Notice (notices.Changed id secret serial perms) fresh) (sym one.same) ∙ changed-changes host g id secret serial perms fresh one.legal

pub changed-alone-later : (host : List ℕ) (p : Period) (older : List Period) (g : List Entry) (id secret : List ℕ) (serial : ℕ) (perms : Rights) (fresh : List ℕ) → IsOneHistory host p older g
    → view_of host (kept host (entry_of host (history_in p) (asks.Notice (notices.Changed id secret serial perms) fresh) ∷ history_in p)) ≡ with_told (view_of host (kept host (history_in p))) (is_behind host g id secret serial perms fresh) (record { serial = serial; perms = perms })
changed-alone-later host p older g id secret serial perms fresh one =
    view-entry host g (history_in p) (asks.Notice (notices.Changed id secret serial perms) fresh) (one-stands host p older g one)
    ∙ changed-alone host g id secret serial perms fresh one.legal
    ∙ ap (λ v. with_told v (is_behind host g id secret serial perms fresh) (record { serial = serial; perms = perms })) (view-same host g (history_in p) one.same)
