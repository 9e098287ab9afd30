-- Wrong definitions of true lines, by each of which a true line would be false. They serve the counterexamples alone.
use Rattle.std.specs.Prelude.{ℕ, List, [], ◌∷◌, ◌++◌, codes, Bool, false, Option, option_map}
use Rattle.std.specs.Option.{option_map_or}
use Rattle.ocm_entry.specs.declared.asks.Ask.{Ask}
use Rattle.ocm_entry.specs.declared.asks.Ask.TheVariants.{Tick}
use Rattle.ocm_entry.specs.declared.asks.Cmd.TheVariants.{Expire, Unshare}
use Rattle.ocm_entry.specs.declared.entries.Entry.{Entry}
use Rattle.ocm_entry.specs.declared.replies.Reply.{Reply}
use Rattle.ocm_rules.specs.Cases.{alice_commands, alice_key, first_secret, get_by, history, our_host, path_f, put_by, root_path, sharing, to_read}
use Rattle.ocm_rules.specs.History.{answer_kept}
use Rattle.ocm_access_log.specs.declared.lines.LogLine.{LogLine}
use Rattle.ocm_access_log.specs.Truth.{has_status, prefix_at}

-- whether a line has the status that its ask would have after the whole list
abbrev pub is_true_at_end : List ℕ → List Entry → LogLine → Bool
is_true_at_end host k line = has_status line.status (answer_kept host k line.ask)

-- whether a line has the status that its ask would have at its place, whatever its moment
abbrev pub is_true_by_place : List ℕ → List Entry → LogLine → Bool
is_true_by_place host k line = option_map_or (λ q. has_status line.status (answer_kept host q line.ask)) (prefix_at host line.place k) false

-- bob reads the file that alice shares with him
abbrev pub bob_reads : Ask
bob_reads = get_by first_secret root_path

-- the answer to an ask after the prefix of a list with so many entries that are no tick
abbrev pub answer_at : List ℕ → List Entry → ℕ → Ask → Option Reply
answer_at host k place ask = option_map (λ q. answer_kept host q ask) (prefix_at host place k)

-- alice shares a file with bob; then she ends the share, or puts other bytes in the place of the file's
abbrev pub shared : List Entry
shared = history our_host (sharing to_read)

abbrev pub unshared : List Entry
unshared = history our_host (sharing to_read ++ alice_commands (Unshare 1) ∷ [])

abbrev pub put_again : List Entry
put_again = history our_host (sharing to_read ++ put_by alice_key path_f (codes "ho") ∷ [])

-- alice lets the share end at a moment, and that moment comes
abbrev pub expired : List Entry
expired = history our_host (sharing to_read ++ alice_commands (Expire 1 10) ∷ Tick 10 ∷ [])
