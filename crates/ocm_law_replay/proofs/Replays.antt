-- What a replay wrote is a text of which all laws hold.
use Rattle.std.proofs.Common.{◌≡◌, ℕ, List, sym, ◌∙◌, Option, Some, None}
use Rattle.std.specs.Prelude.{IfSome}
use Rattle.ocm_base.specs.Outside.{Appends}
use Rattle.ocm_disk.specs.declared.shelf.ShelfPlace.{ShelfPlace}
use Rattle.ocm_commands_files.specs.Commands.{end_status}
use Rattle.ocm_commands_files.specs.declared.ends.End.{End}
use Rattle.ocm_commands_files.specs.declared.ends.End.TheVariants as ends
use Rattle.ocm_commands_files.specs.declared.words.Command.TheVariants.{Replay}
use Rattle.ocm_commands.specs.Commands.{Writes}
use Rattle.ocm_law_runs.proofs.Requests.{promised}
use Rattle.ocm_law_replay.specs.Replaying.{ReplaysKeep, ReplaysWell}

pub replays-keep : ReplaysKeep
replays-keep bytes text shelf given = (given.0, given.1, given.2, promised given.0 text given.1 given.3, given.4)

-- the text that was written
abbrev Wrote : List ℕ → Option (List ℕ) → Option (List ℕ) → List ShelfPlace → Type 0
Wrote bytes old new shelf = (text : List ℕ) × Appends old new text × ReplaysWell bytes text shelf

-- with the status 0 the script was done
done-wrote : (bytes : List ℕ) (end : End) (old new : Option (List ℕ)) (shelf : List ShelfPlace) → 0 ≡ end_status end → Writes Replay bytes end old new shelf → Wrote bytes old new shelf
done-wrote bytes ends.Done old new shelf zero wrote = (wrote.1, wrote.2, replays-keep bytes wrote.1 shelf wrote.3)
done-wrote bytes ends.Script old new shelf zero wrote = absurd (cc)
done-wrote bytes ends.NotJournal old new shelf zero wrote = absurd (cc)
done-wrote bytes ends.Record old new shelf zero wrote = absurd (cc)
done-wrote bytes ends.False old new shelf zero wrote = absurd (cc)
done-wrote bytes ends.Differs old new shelf zero wrote = absurd (cc)

pub command-wrote : (left : Option (List ℕ)) (status : ℕ) (old new : Option (List ℕ)) (shelf : List ShelfPlace) → status ≡ 0
    → IfSome left (λ bytes. (end : End) × (status ≡ end_status end) × Writes Replay bytes end old new shelf) → IfSome left (λ bytes. (text : List ℕ) × Appends old new text × ReplaysWell bytes text shelf)
command-wrote None status old new shelf zero wrote = wrote
command-wrote (Some bytes) status old new shelf zero (end, is, wrote) = done-wrote bytes end old new shelf (sym zero ∙ is) wrote
