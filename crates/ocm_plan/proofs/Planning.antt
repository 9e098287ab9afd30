use Rattle.std.proofs.Common.{◌≡◌, ℕ, ◌+◌, ◌<◌, nat_lt, List, [], Bool, true, false, refl, sym, ap, ◌∙◌, arith, append-nil, if◌then◌else◌}
use Rattle.std.proofs.lemmas.Bool.{ltb-false}
use Rattle.ocm_entry.specs.declared.asks.Ask.{Ask}
use Rattle.ocm_entry.specs.declared.refusals.Why.{Why}
use Rattle.ocm_entry.specs.declared.replies.Reply.{Reply}
use Rattle.ocm_entry.specs.declared.replies.Reply.TheVariants.{Refused}
use Rattle.ocm_rules.specs.declared.rows.Message.{Message}
use Rattle.ocm_rules.specs.declared.rows.SentRow.{SentRow}
use Rattle.ocm_rules.specs.Answers.{reply_in}
use Rattle.ocm_rules.specs.History.{changes_in}
use Rattle.ocm_rules.specs.State.{State, step, view_in}
use Rattle.ocm_tables.specs.declared.changes.TableChange.{TableChange}
use Rattle.ocm_tables.specs.declared.changes.TableChange.TheVariants as changes
use Rattle.ocm_tables.specs.Changes.{Fits, changed, file_act, is_kept, with_sent}
use Rattle.ocm_rules_steps.proofs.Refusals.{refused-entry}
use Rattle.ocm_plan.specs.Plans.{Plans, act_in}

-- where nothing is sent the messages stay
pub none-sent : (st : State) → with_sent st [] ≡ st
none-sent st = ap (λ (sent : List SentRow). let r : State = record st { sent = sent } in r) (append-nil st.sent)

none-changed : (st : State) (ask : Ask) (reply : Reply) (b : Bool) → b ≡ false → (if b then step st ask reply else st) ≡ st
none-changed st ask reply b e = rw e refl

-- the plan of a reply that changes nothing
pub Plans-only : (st : State) (ask : Ask) (reply : Reply) → reply ≡ reply_in (view_in st) ask → changes_in (view_in st) ask reply ≡ false
    → Plans st ask (record { reply = reply; change = changes.Nothing; sent = [] })
Plans-only st ask reply answered nothing = record {
  reply = answered;
  change = none-sent st ∙ sym (none-changed st ask reply (changes_in (view_in st) ask reply) nothing);
  kept = sym nothing;
  fits = tt;
  files = λ kept. absurd (let never = kept in cc);
}

-- the plan of a refusal
pub Plans-refused : (st : State) (ask : Ask) (why : Why) → Refused why ≡ reply_in (view_in st) ask → Plans st ask (record { reply = Refused why; change = changes.Nothing; sent = [] })
Plans-refused st ask why answered = Plans-only st ask (Refused why) answered (refused-entry (view_in st) ask why)

made-changed : (st : State) (ask : Ask) (reply : Reply) (b : Bool) → b ≡ true → step st ask reply ≡ (if b then step st ask reply else st)
made-changed st ask reply b e = rw e refl

-- the plan of a reply that makes a change
pub Plans-made : (st : State) (ask : Ask) (reply : Reply) (change : TableChange) (messages : List Message) → reply ≡ reply_in (view_in st) ask → changes_in (view_in st) ask reply ≡ true → is_kept change ≡ true
    → changed st change messages ≡ step st ask reply → Fits st change → file_act change ≡ act_in (view_in st) ask
    → Plans st ask (record { reply = reply; change = change; sent = messages })
Plans-made st ask reply change messages answered changing kept makes fits acts = record {
  reply = answered;
  change = makes ∙ made-changed st ask reply (changes_in (view_in st) ask reply) changing;
  kept = kept ∙ sym changing;
  fits = fits;
  files = λ _. acts;
}

-- where one more does not pass the limit there are fewer
pub not_full : (most count : ℕ) → nat_lt most (count + 1) ≡ false → count < most
not_full most count e = omega (arith, ltb-false most (count + 1) e)
