use Rattle.std.proofs.Common.{◌≡◌, ℕ, ◌≤◌, List, [], ◌∷◌, ◌++◌, length, Bool, true, false, refl, sym, ◌∙◌, subst, arith, le_trans}
use Rattle.std.specs.Prelude.{Option, Some, None, nat_lt, ◌&&◌, not, if◌then◌else◌}
use Rattle.std.specs.Option.{option_map_or}
use Rattle.std.proofs.lemmas.Bool.{eq-eqb, le-leb, ltb-false}
use Rattle.std.proofs.lemmas.List.{length-append}
use Rattle.ocm_types.specs.declared.letters.Notice.TheVariants as notices
use Rattle.ocm_entry.specs.declared.asks.Ask.{Ask}
use Rattle.ocm_entry.specs.declared.asks.Ask.TheVariants as asks
use Rattle.ocm_entry.specs.declared.asks.Cmd.TheVariants as commands
use Rattle.ocm_entry.specs.declared.replies.Reply.{Reply}
use Rattle.ocm_entry.specs.declared.replies.Reply.TheVariants as replies
use Rattle.ocm_entry.specs.declared.entries.Entry.{Entry}
use Rattle.ocm_rules.specs.Numbers.{added, is_number}
use Rattle.ocm_rules.specs.Shares.{moment, closed_by, is_closed, until, is_over, goes_on, made, share_by, effective_among, perms_among, is_live, is_live_among, named}
use Rattle.ocm_rules.specs.Users.{users}
use Rattle.ocm_rules.specs.Messages.{view_of}
use Rattle.ocm_rules.specs.Views.{is_live_in}
use Rattle.ocm_rules.specs.History.{changes, changes_in, kept, IsAnswered, IsLegal, is_live_named}
use Rattle.ocm_rules.proofs.Kept.{kept-answered}
use Rattle.ocm_law_grants.specs.Revocation.{is_at_or_below}
use Rattle.ocm_law_grants.proofs.Links.{is_live_among-added, is_live_among-weaker, links-go_on, links-live}
use Rattle.ocm_law_grants.proofs.Ends.{goes_on-step}

-- what is not true is false
pub not_true : (b : Bool) → (b ≡ true → ⊥) → b ≡ false
not_true true h = absurd (h refl)
not_true false h = refl

-- what is false is not true
pub false_true : (b : Bool) → b ≡ false → b ≡ true → ⊥
false_true true h k = cc
false_true false h k = cc

-- a share that is there is live after a kept entry only where it was live before
is_live-step : (host : List ℕ) (e : Entry) (before : List Entry) (i : ℕ) → IsAnswered host (e ∷ before) → i ≤ length (made host before) → is_live host (e ∷ before) i ≡ true → is_live host before i ≡ true
is_live-step host e before i answered there live =
    let P : Bool → Type 0 = λ b. b ≡ true in
    let same : is_live_among (made host before) (goes_on (e ∷ before)) i ≡ true = subst P (is_live_among-added (made host before) _ (goes_on (e ∷ before)) i there) live in
    is_live_among-weaker (made host before) (goes_on before) (goes_on (e ∷ before)) (λ j h. goes_on-step host before e.ask e.reply j answered.0 answered.1 h) i same

-- a list with one more, or with none, is no shorter
pub length-added : {X : Type 0} (xs : List X) (o : Option X) → length xs ≤ length (added xs o)
length-added xs None = omega arith
length-added xs (Some x) = let l = length-append xs (x ∷ []) in omega arith

-- an entry takes no share away
pub made-grows : (host : List ℕ) (e : Entry) (before : List Entry) → length (made host before) ≤ length (made host (e ∷ before))
made-grows host e before = length-added (made host before) (share_by host (users before) (made host before) (effective_among (made host before) (perms_among (made host before) before)) e.ask)

-- shares stay
pub made-later : (host : List ℕ) (later g : List Entry) → length (made host (kept host g)) ≤ length (made host (kept host (later ++ g)))
made-later host [] g = omega arith
made-later host (e ∷ later) g = cases (made-later host later g) (changes host (kept host (later ++ g)) e)
  where
    cases : length (made host (kept host g)) ≤ length (made host (kept host (later ++ g))) → (b : Bool) → length (made host (kept host g)) ≤ length (made host (if b then e ∷ kept host (later ++ g) else kept host (later ++ g)))
    cases older true = le_trans older (made-grows host e (kept host (later ++ g)))
    cases older false = older

-- a share that is not live stays so
pub ended-stays : (host : List ℕ) (later g : List Entry) (i : ℕ) → IsLegal host (later ++ g) → i ≤ length (made host (kept host g)) → is_live host (kept host g) i ≡ false → is_live host (kept host (later ++ g)) i ≡ false
ended-stays host [] g i legal there ended = ended
ended-stays host (e ∷ later) g i legal there ended = cases (ended-stays host later g i legal.1 there ended) (changes host (kept host (later ++ g)) e) refl (kept-answered host (e ∷ (later ++ g)) legal)
  where
    now : List Entry
    now = kept host (later ++ g)

    cases : is_live host now i ≡ false → (b : Bool) → changes host now e ≡ b → IsAnswered host (if b then e ∷ now else now) → is_live host (if b then e ∷ now else now) i ≡ false
    cases older true h answered =
        let grown = made-later host later g in
        not_true _ (λ live. false_true _ older (is_live-step host e now i answered (omega arith) live))
    cases older false h answered = older

-- ---- what ends with a share

-- what lies at or below a share that does not go on is not live
pub below-ended : (host : List ℕ) (g : List Entry) (above i : ℕ) → goes_on g above ≡ false → is_at_or_below host g above i ≡ true → is_live host g i ≡ false
below-ended host g above i ended below = not_true _ (λ live. false_true _ ended (links-go_on (made host g) (goes_on g) above i live below))

-- what lies at or below a share that is not live is not live
pub below-not_live : (host : List ℕ) (g : List Entry) (above i : ℕ) → is_live host g above ≡ false → is_at_or_below host g above i ≡ true → is_live host g i ≡ false
below-not_live host g above i ended below = not_true _ (λ live. false_true _ ended (links-live (made host g) (goes_on g) above i live below))

-- a closed share does not go on
closed-ended : (before : List Entry) (ask : Ask) (reply : Reply) (i : ℕ) → is_number i (closed_by ask) ≡ true → goes_on (record { ask = ask; reply = reply } ∷ before) i ≡ false
closed-ended before ask reply i h = rw h refl

-- after the owner has ended a share, it and all below it are not live
pub unshared-ended : (host : List ℕ) (before : List Entry) (key : List ℕ) (id i : ℕ) → is_at_or_below host (kept host (record { ask = asks.Local key (commands.Unshare id); reply = replies.Done } ∷ before)) id i ≡ true → is_live host (kept host (record { ask = asks.Local key (commands.Unshare id); reply = replies.Done } ∷ before)) i ≡ false
unshared-ended host before key id i below =
    below-ended host (record { ask = asks.Local key (commands.Unshare id); reply = replies.Done } ∷ kept host before) id i (closed-ended (kept host before) (asks.Local key (commands.Unshare id)) replies.Done id (eq-eqb id id refl)) below

-- a notice that closes a share, and was taken, leaves it and all below it not live
closing-notice : (host : List ℕ) (before : List Entry) (ask : Ask) (id i : ℕ) → closed_by ask ≡ Some id → changes_in (view_of host (kept host before)) ask replies.Noticed ≡ is_live host (kept host before) id → is_at_or_below host (kept host (record { ask = ask; reply = replies.Noticed } ∷ before)) id i ≡ true → is_live host (kept host (record { ask = ask; reply = replies.Noticed } ∷ before)) i ≡ false
closing-notice host before ask id i closes live below = cases (changes host now entry) refl below
  where
    now : List Entry
    now = kept host before

    entry : Entry
    entry = record { ask = ask; reply = replies.Noticed }

    cases : (b : Bool) → changes host now entry ≡ b → is_at_or_below host (if b then entry ∷ now else now) id i ≡ true → is_live host (if b then entry ∷ now else now) i ≡ false
    cases true h under = below-ended host (entry ∷ now) id i (closed-ended now ask replies.Noticed id (rw closes (eq-eqb id id refl))) under
    cases false h under = below-not_live host now id i (sym live ∙ h) under

-- after a guest has declined a share, it and all below it are not live
pub declined-ended : (host : List ℕ) (before : List Entry) (id secret fresh : List ℕ) (number i : ℕ) → named id ≡ Some number → is_at_or_below host (kept host (record { ask = asks.Notice (notices.Declined id secret) fresh; reply = replies.Noticed } ∷ before)) number i ≡ true → is_live host (kept host (record { ask = asks.Notice (notices.Declined id secret) fresh; reply = replies.Noticed } ∷ before)) i ≡ false
declined-ended host before id secret fresh number i names below =
    let P : Option ℕ → Type 0 = λ o. option_map_or (is_live_in (view_of host (kept host before))) o false ≡ is_live host (kept host before) number in
    let live : is_live_named (view_of host (kept host before)) id ≡ is_live host (kept host before) number = subst P (sym names) refl in
    closing-notice host before (asks.Notice (notices.Declined id secret) fresh) number i names live below

-- after a guest has undone a share further on, it and all below it are not live
pub undone-ended : (host : List ℕ) (before : List Entry) (id secret fresh : List ℕ) (number i : ℕ) → named id ≡ Some number → is_at_or_below host (kept host (record { ask = asks.Notice (notices.ReshareUndo id secret) fresh; reply = replies.Noticed } ∷ before)) number i ≡ true → is_live host (kept host (record { ask = asks.Notice (notices.ReshareUndo id secret) fresh; reply = replies.Noticed } ∷ before)) i ≡ false
undone-ended host before id secret fresh number i names below =
    let P : Option ℕ → Type 0 = λ o. option_map_or (is_live_in (view_of host (kept host before))) o false ≡ is_live host (kept host before) number in
    let live : is_live_named (view_of host (kept host before)) id ≡ is_live host (kept host before) number = subst P (sym names) refl in
    closing-notice host before (asks.Notice (notices.ReshareUndo id secret) fresh) number i names live below

-- a share whose end has come does not go on
over-ended : (g : List Entry) (i end : ℕ) → until g i ≡ Some end → end ≤ moment g → goes_on g i ≡ false
over-ended g i end is le =
    let over : is_over g i ≡ true = rw is (le-leb end (moment g) le) in
    rw over (last (is_closed g i))
  where
    last : (b : Bool) → (not b && not true) ≡ false
    last true = refl
    last false = refl

-- after the owner has given a share an end that is not ahead, it and all below it are not live
pub expired-ended : (host : List ℕ) (before : List Entry) (key : List ℕ) (id end i : ℕ) → end ≤ moment (kept host before) → is_at_or_below host (kept host (record { ask = asks.Local key (commands.Expire id end); reply = replies.Done } ∷ before)) id i ≡ true → is_live host (kept host (record { ask = asks.Local key (commands.Expire id end); reply = replies.Done } ∷ before)) i ≡ false
expired-ended host before key id end i le below =
    let entry : Entry = record { ask = asks.Local key (commands.Expire id end); reply = replies.Done } in
    let given : until (entry ∷ kept host before) id ≡ Some end = rw (eq-eqb id id refl) refl in
    below-ended host (entry ∷ kept host before) id i (over-ended (entry ∷ kept host before) id end given le) below

-- after a tick, a share whose end is not ahead of it, and all below it, are not live
pub ticked-ended : (host : List ℕ) (before : List Entry) (clock id end i : ℕ) → until (kept host before) id ≡ Some end → end ≤ clock → is_at_or_below host (kept host (record { ask = asks.Tick clock; reply = replies.Done } ∷ before)) id i ≡ true → is_live host (kept host (record { ask = asks.Tick clock; reply = replies.Done } ∷ before)) i ≡ false
ticked-ended host before clock id end i has le below = cases (nat_lt (moment now) clock) refl below
  where
    now : List Entry
    now = kept host before

    entry : Entry
    entry = record { ask = asks.Tick clock; reply = replies.Done }

    cases : (b : Bool) → nat_lt (moment now) clock ≡ b → is_at_or_below host (if b then entry ∷ now else now) id i ≡ true → is_live host (if b then entry ∷ now else now) i ≡ false
    cases true h under = below-ended host (entry ∷ now) id i (over-ended (entry ∷ now) id end has le) under
    cases false h under =
        let late = ltb-false (moment now) clock h in
        below-ended host now id i (over-ended now id end has (omega arith)) under
