-- what is read of plain entries: none of them gives a share an end at a moment, or limits one
use Rattle.std.proofs.Common.{◌≡◌, ℕ, List, [], ◌∷◌, Option, None, refl, sym, ap, ◌∙◌, true≢false}
use Rattle.std.specs.Prelude.{not, IsTrue, unwrap_or}
use Rattle.std.specs.Option.{option_or}
use Rattle.std.proofs.Math.Bool.{and-true}
use Rattle.ocm_types.specs.declared.rights.Rights.{Rights}
use Rattle.ocm_entry.specs.declared.asks.Ask.{Ask}
use Rattle.ocm_entry.specs.declared.asks.Ask.TheVariants as asks
use Rattle.ocm_entry.specs.declared.asks.Cmd.{Cmd}
use Rattle.ocm_entry.specs.declared.asks.Cmd.TheVariants as commands
use Rattle.ocm_entry.specs.declared.entries.Entry.{Entry}
use Rattle.ocm_entry.specs.declared.rows.Share.{Share}
use Rattle.ocm_rules.specs.Numbers.{latest}
use Rattle.ocm_rules.specs.Shares.{effective_among, end_by, goes_on, granted_to, is_closed, limit_by, links, permitted, perms_among}
use Rattle.ocm_rules_reference.specs.Histories.{ArePlain, is_plain}

no_end : (i : ℕ) (key : List ℕ) (cmd : Cmd) → IsTrue (is_plain (asks.Local key cmd)) → end_by i (asks.Local key cmd) ≡ None
no_end i key (commands.Expire id end) h = absurd (true≢false (sym h))
no_end i key (commands.Share path with perms fresh) h = refl
no_end i key (commands.Unshare id) h = refl
no_end i key (commands.Limit id perms) h = refl
no_end i key (commands.Accept number) h = refl
no_end i key (commands.Decline number) h = refl
no_end i key (commands.Reshare number with perms) h = refl
no_end i key (commands.Undo request) h = refl
no_end i key commands.List h = refl

-- no plain ask ends a share at a moment
end_by-plain : (i : ℕ) (ask : Ask) → IsTrue (is_plain ask) → end_by i ask ≡ None
end_by-plain i (asks.Local key cmd) h = no_end i key cmd h
end_by-plain i (asks.AddUser name fresh) h = refl
end_by-plain i (asks.Offer offer) h = refl
end_by-plain i (asks.Notice notice fresh) h = refl
end_by-plain i (asks.Dav secret method path body) h = refl
end_by-plain i asks.Due h = refl
end_by-plain i (asks.Settle number status id) h = refl
end_by-plain i (asks.Tick clock) h = refl
end_by-plain i (asks.Carry secret from to moving overwrite) h = refl

no_limit : (i : ℕ) (key : List ℕ) (cmd : Cmd) → IsTrue (is_plain (asks.Local key cmd)) → limit_by i (asks.Local key cmd) ≡ None
no_limit i key (commands.Limit id perms) h = absurd (true≢false (sym h))
no_limit i key (commands.Share path with perms fresh) h = refl
no_limit i key (commands.Unshare id) h = refl
no_limit i key (commands.Expire id end) h = refl
no_limit i key (commands.Accept number) h = refl
no_limit i key (commands.Decline number) h = refl
no_limit i key (commands.Reshare number with perms) h = refl
no_limit i key (commands.Undo request) h = refl
no_limit i key commands.List h = refl

-- no plain ask limits a share
limit_by-plain : (i : ℕ) (ask : Ask) → IsTrue (is_plain ask) → limit_by i ask ≡ None
limit_by-plain i (asks.Local key cmd) h = no_limit i key cmd h
limit_by-plain i (asks.AddUser name fresh) h = refl
limit_by-plain i (asks.Offer offer) h = refl
limit_by-plain i (asks.Notice notice fresh) h = refl
limit_by-plain i (asks.Dav secret method path body) h = refl
limit_by-plain i asks.Due h = refl
limit_by-plain i (asks.Settle number status id) h = refl
limit_by-plain i (asks.Tick clock) h = refl
limit_by-plain i (asks.Carry secret from to moving overwrite) h = refl

-- what none of plain entries tells is not told
latest-plain : {Y : Type 0} (tells : Ask → Option Y) → ((ask : Ask) → IsTrue (is_plain ask) → tells ask ≡ None) → (g : List Entry) → ArePlain g → latest (λ (e : Entry). tells e.ask) g ≡ None
latest-plain tells none [] all = refl
latest-plain tells none (e ∷ before) all = ap (λ o. option_or o (latest (λ (e : Entry). tells e.ask) before)) (none e.ask all.0) ∙ latest-plain tells none before all.1

-- a link goes on unless it was closed
pub goes_on_unless_closed : (g : List Entry) (i : ℕ) → ArePlain g → goes_on g i ≡ not (is_closed g i)
goes_on_unless_closed g i all = rw (latest-plain (end_by i) (end_by-plain i) g all) (and-true (not (is_closed g i)))

-- the permissions of a share are those that were granted
perms_as_granted : (shares : List Share) (g : List Entry) (i : ℕ) → ArePlain g → perms_among shares g i ≡ granted_to shares i
perms_as_granted shares g i all = ap (λ o. unwrap_or o (granted_to shares i)) (latest-plain (limit_by i) (limit_by-plain i) g all)

permitted-same : (perms granted : ℕ → Rights) → ((i : ℕ) → perms i ≡ granted i) → (ids : List ℕ) → permitted perms ids ≡ permitted granted ids
permitted-same perms granted same [] = refl
permitted-same perms granted same (i ∷ above) = rw (same i, permitted-same perms granted same above) refl

-- what a share lets its guest do is what was granted to it and to those above it
pub effective_as_granted : (shares : List Share) (g : List Entry) (i : ℕ) → ArePlain g → effective_among shares (perms_among shares g) i ≡ permitted (granted_to shares) (links shares i)
effective_as_granted shares g i all = permitted-same (perms_among shares g) (granted_to shares) (λ j. perms_as_granted shares g j all) (links shares i)
