use Rattle.std.specs.Prelude.{◌≡◌, List, Option, true}
use Rattle.ocm_entry.specs.declared.asks.Ask.{Ask}
use Rattle.ocm_entry.specs.declared.replies.Reply.{Reply}
use Rattle.ocm_rules.specs.declared.rows.Message.{Message}
use Rattle.ocm_rules.specs.Answers.{reply_in}
use Rattle.ocm_rules.specs.Files.{Act, act_by}
use Rattle.ocm_rules.specs.History.{changes_in}
use Rattle.ocm_rules.specs.Holders.{root_among}
use Rattle.ocm_rules.specs.Views.{View}
use Rattle.ocm_rules.specs.State.{State, after, view_in}
use Rattle.ocm_tables.specs.declared.changes.TableChange.{TableChange}
use Rattle.ocm_tables.specs.Changes.{Fits, changed, file_act, is_kept}

-- a reply, what it changes, and the messages that are sent
pub record Plan : Type 0 where
  pub reply : Reply
  pub change : TableChange
  pub sent : List Message

-- what an ask does to files that is kept, by what is read of the history before
abbrev pub act_in : View → Ask → Option Act
act_in v ask = act_by (root_among v.users v.shares) ask

-- the plan for an ask: the reply, and the change that the reply makes
pub record Plans (st : State) (ask : Ask) (plan : Plan) : Type 0 where
  pub reply : plan.reply ≡ reply_in (view_in st) ask
  pub change : changed st plan.change plan.sent ≡ after st ask plan.reply
  pub kept : is_kept plan.change ≡ changes_in (view_in st) ask plan.reply
  pub fits : Fits st plan.change
  -- it does to files what the rules say: so the numbers of those that put what stands are those of the history
  pub files : is_kept plan.change ≡ true → file_act plan.change ≡ act_in (view_in st) ask
