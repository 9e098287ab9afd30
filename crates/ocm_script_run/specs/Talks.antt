-- A connection of a script: the server's own talk, and the lines that are printed of it.
use Rattle.std.specs.Prelude.{◌≡◌, ℕ, ◌+◌, Bool, true, false, List, [], ◌∷◌, ◌++◌, replicate, codes, if◌then◌else◌}
use Rattle.std.specs.Fmt.{decimal}
use Rattle.ocm_texts.specs.Hex.{hex}
use Rattle.ocm_types.specs.Draws.{fresh_plus}
use Rattle.ocm_entry.specs.declared.entries.Entry.{Entry}
use Rattle.ocm_dav.specs.declared.configs.Config.{Config}
use Rattle.ocm_server_connections.specs.Talk.{Shown, Talk, is_spent}
use Rattle.ocm_server_connections.specs.Talk.Talk.{silent, last, next}
use Rattle.ocm_server_connections.specs.declared.endings.Ended.{Ended}
use Rattle.ocm_server_connections.specs.declared.endings.Ended.TheVariants as endings
use Rattle.ocm_transcript.specs.Texts.{line_text}
use Rattle.ocm_script_run.specs.Servers.{Server, reply_of, with_call}

-- what the server of a script knows of itself: its host, and the administrator's key of 32 digits `f`
abbrev pub config_of : List ℕ → Config
config_of host = record { host = host; admin = hex (replicate 16 255) }

-- nothing but its bytes ends a connection of a script: it never fails, and no limit of calls is reached
abbrev pub bytes_alone : Shown
bytes_alone = record { read_rose = false; write_rose = false; spent = false }

-- ---- calls

-- the server after these calls, the newest first
abbrev pub after_calls : Server → List Entry → Server
after_calls server [] = server
after_calls server (call ∷ older) = with_call (after_calls server older) call.ask call.reply

-- these are its replies to them; memory may be wanting at each
abbrev pub Replies : Server → List Entry → Type 0
Replies server [] = Unit {0}
Replies server (call ∷ older) = Replies server older × (wanting : Bool) × (call.reply ≡ reply_of wanting (after_calls server older) call.ask)

-- ---- what each message gets

-- message k, counted from 0, gets the drawn bytes and k more; these are the values from the message of this number on
abbrev pub AreDrawn : List ℕ → ℕ → List (List ℕ) → Type 0
AreDrawn fresh number [] = Unit {0}
AreDrawn fresh number (value ∷ others) = (value ≡ fresh_plus fresh number) × AreDrawn fresh (number + 1) others

-- each gets the time that the server's last `clock` line told
abbrev pub AreTimes : ℕ → List ℕ → Type 0
AreTimes clock [] = Unit {0}
AreTimes clock (time ∷ others) = (time ≡ clock) × AreTimes clock others

-- ---- lines

-- what is written where no message comes, if anything is
abbrev pub last_pages : Ended → List ℕ → List (List ℕ)
last_pages endings.Closed written = []
last_pages endings.Cut written = []
last_pages endings.ReadFault written = []
last_pages _ written = written ∷ []

-- what is written in a talk, one page after another: that of each message, and the fixed reply with which it may end
abbrev pub pages_of : {config : Config} {shown : Shown} {number place : ℕ} {bytes : List ℕ} {ended : Bool} {drawn : List (List ℕ)} {clocks : List ℕ} {calls : List Entry} {written : List ℕ} {ending : Ended}
    → Talk config shown number place bytes ended drawn clocks calls written ending → List (List ℕ)
pages_of (silent number place bytes ended written ending stops) = last_pages ending written
pages_of (last number place bytes rest ended message fresh clock calls answer written ending is answers ends spent) = if is_spent answer then [] else written ∷ []
pages_of (next number place bytes front rest ended message fresh clock calls page drawn clocks later written ending is split answers goes_on more) = page.bytes ∷ pages_of more

-- how the end of a connection is told
abbrev pub ending_text : Ended → List ℕ
ending_text endings.Cut = codes "cut"
ending_text (endings.Bad place) = codes "bad " ++ decimal place
ending_text endings.NoMemory = codes "no memory"
ending_text _ = codes "closed"

-- the line of a page
abbrev pub raw_line : ℕ → List ℕ → List ℕ
raw_line line page = line_text line (codes "raw " ++ hex page)

-- the line of how the connection ended
abbrev pub end_line : ℕ → List ℕ → List ℕ
end_line line how = line_text line (codes "end " ++ how)

-- a line for each page, and behind them that of the ending
abbrev pub talk_lines : ℕ → List (List ℕ) → Ended → List ℕ
talk_lines line [] ending = end_line line (ending_text ending)
talk_lines line (page ∷ pages) ending = raw_line line page ++ talk_lines line pages ending

-- ---- a connection

-- What a connection says behind so many messages, from a place of its bytes on, behind which its input ends: it is a talk of the server. The server before, the server after, and the lines that are printed.
pub record IsTalk (config : Config) (line : ℕ) (fresh : List ℕ) (number place : ℕ) (bytes : List ℕ) (server after : Server) (text : List ℕ) : Type 0 where
  pub drawn : List (List ℕ)
  pub clocks : List ℕ
  pub calls : List Entry
  pub written : List ℕ
  pub ending : Ended
  pub talk : Talk config bytes_alone number place bytes true drawn clocks calls written ending
  pub are_drawn : AreDrawn fresh number drawn
  pub are_times : AreTimes server.clock clocks
  pub replies : Replies server calls
  pub is_after : after ≡ after_calls server calls
  pub is_text : text ≡ talk_lines line (pages_of talk) ending
