use Rattle.std.proofs.Common.{◌≡◌, ℕ, ◌≤◌, List, ◌∷◌, length, Bool, true, false, refl, sym, ◌∙◌, subst, arith}
use Rattle.std.specs.Prelude.{Option, Some, None, if◌then◌else◌, is_some, option_map, option_and_then}
use Rattle.std.specs.Option.{option_map_or}
use Rattle.std.proofs.lemmas.Bool.{eq-eqb}
use Rattle.ocm_types.specs.declared.letters.Notice.{Notice}
use Rattle.ocm_types.specs.declared.letters.Notice.TheVariants as notices
use Rattle.ocm_entry.specs.declared.asks.Ask.{Ask}
use Rattle.ocm_entry.specs.declared.asks.Ask.TheVariants as asks
use Rattle.ocm_entry.specs.declared.replies.Reply.{Reply}
use Rattle.ocm_entry.specs.declared.replies.Reply.TheVariants as replies
use Rattle.ocm_entry.specs.declared.entries.Entry.{Entry}
use Rattle.ocm_entry.specs.declared.rows.Share.{Share}
use Rattle.ocm_rules.specs.Numbers.{at_number, is_number}
use Rattle.ocm_rules.specs.Users.{users}
use Rattle.ocm_rules.specs.Shares.{named, closed_by, goes_on, made, share_by, effective_among, perms_among, is_live, is_live_among, has_secret}
use Rattle.ocm_rules.specs.Views.{View, is_live_in}
use Rattle.ocm_rules.specs.Messages.{view_of}
use Rattle.ocm_rules.specs.Answers.{noticed_if, share_with, numbered_share, is_child_of, parent_row}
use Rattle.ocm_rules.specs.History.{kept, changes, changes_in, notice_changes, is_live_named, answer_kept, IsLegal}
use Rattle.ocm_law_repeats.specs.Repeats.{is_repeat, same_ask, was_taken, would_change}
use Rattle.ocm_law_repeats.proofs.Tests.{not_both, not_true}
use Rattle.ocm_law_repeats.proofs.Same.{same_ask-notice}
use Rattle.ocm_law_repeats.proofs.Once.{once}
use Rattle.ocm_law_grants.proofs.Links.{within-at_number, live-goes_on, is_live_among-added, is_live_among-weaker}
use Rattle.ocm_law_grants.proofs.Ends.{goes_on-step}
use Rattle.ocm_law_grants.proofs.Revoked.{made-grows}

-- ---- shares stay, and do not live again

-- the share that an entry makes
abbrev pub new_share : List ℕ → List Entry → Ask → Option Share
new_share host k ask = share_by host (users k) (made host k) (effective_among (made host k) (perms_among (made host k) k)) ask

-- a share that is there is live after a kept entry only where it was live before
is_live-step : (host : List ℕ) (e : Entry) (k : List Entry) (i : ℕ) → e.reply ≡ answer_kept host k e.ask → changes host k e ≡ true → i ≤ length (made host k) → is_live host (e ∷ k) i ≡ true → is_live host k i ≡ true
is_live-step host e k i given changed there live =
    let P : Bool → Type 0 = λ b. b ≡ true in
    let same : is_live_among (made host k) (goes_on (e ∷ k)) i ≡ true = subst P (is_live_among-added (made host k) (new_share host k e.ask) (goes_on (e ∷ k)) i there) live in
    is_live_among-weaker (made host k) (goes_on k) (goes_on (e ∷ k)) (λ j h. goes_on-step host k e.ask e.reply j given changed h) i same

-- an id names a share that is there and is not live
abbrev IsEnded : List ℕ → List ℕ → List Entry → Type 0
IsEnded host id k = (i : ℕ) × (named id ≡ Some i) × (i ≤ length (made host k)) × (is_live host k i ≡ false)

ended-stays : (host id : List ℕ) (e : Entry) (k : List Entry) → e.reply ≡ answer_kept host k e.ask → changes host k e ≡ true → IsEnded host id k → IsEnded host id (e ∷ k)
ended-stays host id e k given changed h =
    let grown = made-grows host e k in
    let within = h.2 in
    (h.0, h.1, omega arith, not_true (is_live host (e ∷ k) h.0) (λ live. not_both (is_live host k h.0) (is_live-step host e k h.0 given changed h.2 live) h.3))

-- ---- what a notice closes that was taken

-- a share that was closed does not go on
closed-ended : (k : List Entry) (e : Entry) (i : ℕ) → is_number i (closed_by e.ask) ≡ true → goes_on (e ∷ k) i ≡ false
closed-ended k e i h = rw h refl

-- a closing ask of a share that is there, which changes something where the share is live, leaves the share not live
module _ (host id : List ℕ) (ask : Ask) (closes : closed_by ask ≡ named id)
    (there : (k : List Entry) (reply : Reply) → was_taken reply ≡ true → reply ≡ answer_kept host k ask → (i : ℕ) × (named id ≡ Some i) × (is_some (at_number (made host k) i) ≡ true))
    (unchanged : (k : List Entry) (reply : Reply) → was_taken reply ≡ true → reply ≡ answer_kept host k ask → changes_in (view_of host k) ask reply ≡ is_live_named (view_of host k) id) where
  closing-begins : (reply : Reply) (k : List Entry) → was_taken reply ≡ true → reply ≡ answer_kept host k ask → (b : Bool) → changes_in (view_of host k) ask reply ≡ b → IsEnded host id (if b then record { ask = ask; reply = reply } ∷ k else k)
  closing-begins reply k taken given true h =
      let e : Entry = record { ask = ask; reply = reply } in
      let share = there k reply taken given in
      let within = within-at_number (made host k) share.0 share.2 in
      let grown = made-grows host e k in
      let high = within.1 in
      let number : is_number share.0 (closed_by ask) ≡ true = rw (closes, share.1, eq-eqb share.0 share.0 refl) refl in
      let ended = closed-ended k e share.0 number in
      (share.0, share.1, omega arith, not_true (is_live host (e ∷ k) share.0) (λ live. not_both (goes_on (e ∷ k) share.0) (live-goes_on (made host (e ∷ k)) (goes_on (e ∷ k)) share.0 live) ended))
  closing-begins reply k taken given false h =
      let share = there k reply taken given in
      let within = within-at_number (made host k) share.0 share.2 in
      let P : Option ℕ → Type 0 = λ o. option_map_or (is_live_in (view_of host k)) o false ≡ false in
      let none : P (named id) = sym (unchanged k reply taken given) ∙ h in
      (share.0, share.1, within.1, subst P share.1 none)

-- ---- Declined and ReshareUndo

pub noticed-taken : (b : Bool) (reply : Reply) → was_taken reply ≡ true → reply ≡ noticed_if b → (b ≡ true) × (reply ≡ replies.Noticed)
noticed-taken true reply h k = (refl, k)
noticed-taken false reply h k = let P : Reply → Type 0 = λ r. was_taken r ≡ true in let never = subst P k h in absurd (cc)

-- a share that an id names with its secret is there
share_with-there : (v : View) (secret : List ℕ) (number : Option ℕ) → is_some (option_and_then (λ (found : ℕ × Share). if has_secret secret found.1 then Some found else None) (option_and_then (numbered_share v) number)) ≡ true → (i : ℕ) × (number ≡ Some i) × (is_some (at_number v.shares i) ≡ true)
share_with-there v secret None h = absurd (cc)
share_with-there v secret (Some i) h = by_share (at_number v.shares i) refl h
  where
    by_share : (share : Option Share) → at_number v.shares i ≡ share → is_some (option_and_then (λ (found : ℕ × Share). if has_secret secret found.1 then Some found else None) (option_map (λ share. (i, share)) share)) ≡ true → (j : ℕ) × (Some i ≡ Some j) × (is_some (at_number v.shares j) ≡ true)
    by_share None is h = absurd (cc)
    by_share (Some share) is h = (i, refl, rw is refl)

-- a share that an id names, whose parent has a secret, is there
child-there : (v : View) (secret : List ℕ) (number : Option ℕ) → option_map_or (has_secret secret) (option_and_then (parent_row v) (option_and_then (at_number v.shares) number)) false ≡ true → (i : ℕ) × (number ≡ Some i) × (is_some (at_number v.shares i) ≡ true)
child-there v secret None h = absurd (cc)
child-there v secret (Some i) h = by_share (at_number v.shares i) refl h
  where
    by_share : (share : Option Share) → at_number v.shares i ≡ share → option_map_or (has_secret secret) (option_and_then (parent_row v) share) false ≡ true → (j : ℕ) × (Some i ≡ Some j) × (is_some (at_number v.shares j) ≡ true)
    by_share None is h = absurd (cc)
    by_share (Some share) is h = (i, refl, rw is refl)

-- a notice that ends the share that its id names
abbrev IsClosing : Notice → List ℕ → Type 0
IsClosing notice id = (v : View) (reply : Reply) → is_live_named v id ≡ false → notice_changes v notice reply ≡ false

declined-closing : (id secret : List ℕ) → IsClosing (notices.Declined id secret) id
declined-closing id secret v replies.Noticed h = h
declined-closing id secret v _ h = refl

undo-closing : (id secret : List ℕ) → IsClosing (notices.ReshareUndo id secret) id
undo-closing id secret v replies.Noticed h = h
undo-closing id secret v _ h = refl

ended-named : (host id : List ℕ) (k : List Entry) → IsEnded host id k → is_live_named (view_of host k) id ≡ false
ended-named host id k h =
    let P : Option ℕ → Type 0 = λ o. option_map_or (is_live_in (view_of host k)) o false ≡ false in
    subst P (sym h.1) h.3

declined-begins : (host id secret fresh : List ℕ) (e : Entry) (k : List Entry) → same_ask e.ask (asks.Notice (notices.Declined id secret) fresh) ≡ true → was_taken e.reply ≡ true → e.reply ≡ answer_kept host k e.ask → (b : Bool) → changes host k e ≡ b → IsEnded host id (if b then e ∷ k else k)
declined-begins host id secret fresh e k same taken given b h =
    let asked = same_ask-notice e.ask (notices.Declined id secret) fresh same in
    let ask : Ask = asks.Notice (notices.Declined id secret) asked.0 in
    let P : Ask → Type 0 = λ a. IsEnded host id (if b then record { ask = a; reply = e.reply } ∷ k else k) in
    let there = λ (k : List Entry) (reply : Reply) (t : was_taken reply ≡ true) (g : reply ≡ answer_kept host k ask). share_with-there (view_of host k) secret (named id) (noticed-taken (is_some (share_with (view_of host k) id secret)) reply t g).0 in
    let R : List Entry → Reply → Type 0 = λ k r. changes_in (view_of host k) ask r ≡ is_live_named (view_of host k) id in
    let unchanged = λ (k : List Entry) (reply : Reply) (t : was_taken reply ≡ true) (g : reply ≡ answer_kept host k ask). subst (R k) (sym (noticed-taken (is_some (share_with (view_of host k) id secret)) reply t g).1) refl in
    let G : Ask → Type 0 = λ a. e.reply ≡ answer_kept host k a in
    let H : Ask → Type 0 = λ a. changes_in (view_of host k) a e.reply ≡ b in
    subst P (sym asked.1) (closing-begins host id ask refl there unchanged e.reply k taken (subst G asked.1 given) b (subst H asked.1 h))

undo-begins : (host id secret fresh : List ℕ) (e : Entry) (k : List Entry) → same_ask e.ask (asks.Notice (notices.ReshareUndo id secret) fresh) ≡ true → was_taken e.reply ≡ true → e.reply ≡ answer_kept host k e.ask → (b : Bool) → changes host k e ≡ b → IsEnded host id (if b then e ∷ k else k)
undo-begins host id secret fresh e k same taken given b h =
    let asked = same_ask-notice e.ask (notices.ReshareUndo id secret) fresh same in
    let ask : Ask = asks.Notice (notices.ReshareUndo id secret) asked.0 in
    let P : Ask → Type 0 = λ a. IsEnded host id (if b then record { ask = a; reply = e.reply } ∷ k else k) in
    let there = λ (k : List Entry) (reply : Reply) (t : was_taken reply ≡ true) (g : reply ≡ answer_kept host k ask). child-there (view_of host k) secret (named id) (noticed-taken (is_child_of (view_of host k) id secret) reply t g).0 in
    let R : List Entry → Reply → Type 0 = λ k r. changes_in (view_of host k) ask r ≡ is_live_named (view_of host k) id in
    let unchanged = λ (k : List Entry) (reply : Reply) (t : was_taken reply ≡ true) (g : reply ≡ answer_kept host k ask). subst (R k) (sym (noticed-taken (is_child_of (view_of host k) id secret) reply t g).1) refl in
    let G : Ask → Type 0 = λ a. e.reply ≡ answer_kept host k a in
    let H : Ask → Type 0 = λ a. changes_in (view_of host k) a e.reply ≡ b in
    subst P (sym asked.1) (closing-begins host id ask refl there unchanged e.reply k taken (subst G asked.1 given) b (subst H asked.1 h))

pub declined-once : (host : List ℕ) (g : List Entry) (id secret fresh : List ℕ) → IsLegal host g → is_repeat g (asks.Notice (notices.Declined id secret) fresh) ≡ true → would_change host g (asks.Notice (notices.Declined id secret) fresh) ≡ false
declined-once host g id secret fresh legal repeated =
    let ended = once host (asks.Notice (notices.Declined id secret) fresh) (IsEnded host id) (declined-begins host id secret fresh) (ended-stays host id) g legal repeated in
    declined-closing id secret (view_of host (kept host g)) _ (ended-named host id (kept host g) ended)

pub undo-once : (host : List ℕ) (g : List Entry) (id secret fresh : List ℕ) → IsLegal host g → is_repeat g (asks.Notice (notices.ReshareUndo id secret) fresh) ≡ true → would_change host g (asks.Notice (notices.ReshareUndo id secret) fresh) ≡ false
undo-once host g id secret fresh legal repeated =
    let ended = once host (asks.Notice (notices.ReshareUndo id secret) fresh) (IsEnded host id) (undo-begins host id secret fresh) (ended-stays host id) g legal repeated in
    undo-closing id secret (view_of host (kept host g)) _ (ended-named host id (kept host g) ended)
