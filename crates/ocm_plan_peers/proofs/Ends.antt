use Rattle.std.proofs.Common.{◌≡◌, ℕ, List, Some, sym, ap, ◌∙◌}
use Rattle.ocm_types.specs.declared.letters.Notice.TheVariants as notices
use Rattle.ocm_entry.specs.declared.asks.Ask.TheVariants.{Notice}
use Rattle.ocm_entry.specs.declared.replies.Reply.TheVariants.{Noticed}
use Rattle.ocm_rules.specs.declared.rows.Message.{Message}
use Rattle.ocm_rules.specs.Shares.{named}
use Rattle.ocm_rules.specs.Views.{cut_by}
use Rattle.ocm_rules.specs.Messages.{at_end, without}
use Rattle.ocm_rules.specs.State.{State, step, view_in}
use Rattle.ocm_tables.specs.declared.changes.TableChange.TheVariants as changes
use Rattle.ocm_tables.specs.Changes.{changed}
use Rattle.ocm_rules_steps.proofs.NoticeSteps.{declined-step, undone-step}

-- a declined share ends, and the guests of the others that end by it are told
pub declined-makes : (st : State) (id secret fresh : List ℕ) (n : ℕ) (sent : List Message) → named id ≡ Some n → sent ≡ at_end (view_in st) (without n (cut_by (view_in st) n))
    → changed st (changes.Close n) sent ≡ step st (Notice (notices.Declined id secret) fresh) Noticed
declined-makes st id secret fresh n sent is_named e = ap (λ (messages : List Message). changed st (changes.Close n) messages) e ∙ sym (declined-step st id secret fresh Noticed n is_named)

-- a share that was taken back ends, and the guests of all that end by it are told
pub undone-makes : (st : State) (id secret fresh : List ℕ) (n : ℕ) (sent : List Message) → named id ≡ Some n → sent ≡ at_end (view_in st) (cut_by (view_in st) n)
    → changed st (changes.Close n) sent ≡ step st (Notice (notices.ReshareUndo id secret) fresh) Noticed
undone-makes st id secret fresh n sent is_named e = ap (λ (messages : List Message). changed st (changes.Close n) messages) e ∙ sym (undone-step st id secret fresh Noticed n is_named)
