-- Worked asks that send as many messages as are counted.
use Rattle.std.specs.Prelude.{◌≡◌, ℕ, List, [], ◌∷◌, ◌++◌, length, codes, Some}
use Rattle.ocm_types.specs.Rights.{all_rights}
use Rattle.ocm_entry.specs.declared.asks.Ask.{Ask}
use Rattle.ocm_entry.specs.declared.asks.Ask.TheVariants.{Offer, Settle}
use Rattle.ocm_entry.specs.declared.asks.Cmd.TheVariants.{Accept, Decline, Limit, Undo, Unshare}
use Rattle.ocm_rules.specs.Cases.{add_bob, alice_commands, bob_commands, chain_at_bob, history, offer_to_bob, sharing, to_read}
use Rattle.ocm_rules.specs.History.{kept}
use Rattle.ocm_rules.specs.Messages.{out}
use Rattle.ocm_law_counts.specs.Counts.{counted_messages}

-- after these asks this many messages were sent, and as many are counted
abbrev pub AreCounted : List ℕ → List Ask → ℕ → Type 0
AreCounted host asks n = (length (out host (kept host (history host asks))) ≡ n) × (counted_messages host (kept host (history host asks)) ≡ n)

-- alice shares `/f` with bob, and ends the share
abbrev pub share_ended : List Ask
share_ended = sharing to_read ++ alice_commands (Unshare 1) ∷ []

-- alice shares `/f` with bob, and limits the share
abbrev pub share_limited : List Ask
share_limited = sharing all_rights ++ alice_commands (Limit 1 to_read) ∷ []

-- bob takes an offer, and declines it
abbrev pub offer_declined : List Ask
offer_declined = add_bob ∷ Offer offer_to_bob ∷ bob_commands (Accept 1) ∷ bob_commands (Decline 1) ∷ []

-- bob takes an offer, asks to share it further, which is granted, and takes that back
abbrev pub request_undone : List Ask
request_undone = chain_at_bob ++ Settle 2 201 (Some (codes "2")) ∷ bob_commands (Undo 1) ∷ []
