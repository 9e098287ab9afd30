-- Histories in which a share goes on by itself, and a link above it does not.
use Rattle.std.specs.Prelude.{List, [], ◌∷◌, ◌++◌}
use Rattle.ocm_entry.specs.declared.asks.Ask.{Ask}
use Rattle.ocm_entry.specs.declared.asks.Cmd.TheVariants.{Limit, Unshare}
use Rattle.ocm_entry.specs.declared.asks.Method.TheVariants.{Get}
use Rattle.ocm_entry.specs.declared.entries.Entry.{Entry}
use Rattle.ocm_rules.specs.Cases.{alice_commands, chain, get_by, history, our_host, root_path, third_secret, to_write}
use Rattle.ocm_law_served.specs.Requests.{Dav, FileRequest}

-- alice shared a file with bob, who had it shared with carol, who had it shared with dan
abbrev pub shared_on : List Entry
shared_on = history our_host chain

-- then alice ended bob's share
abbrev pub ended_above : List Entry
ended_above = history our_host (chain ++ alice_commands (Unshare 1) ∷ [])

-- or limited it to writing
abbrev pub limited_above : List Entry
limited_above = history our_host (chain ++ alice_commands (Limit 1 to_write) ∷ [])

-- dan reads the file
abbrev pub reads : FileRequest
reads = Dav Get root_path []

abbrev pub dan_reads : Ask
dan_reads = get_by third_secret root_path
