-- What the functions that run lines say to each other: that a line was run, whatever stands for the servers. A reader of the transcript needs none of it.
use Rattle.std.specs.Prelude.{◌≡◌, ◌⊎◌, ℕ, List, [], ◌∷◌, ◌++◌, Bool, true, false, Option, option_map, is_some, Result, Ok, Err, codes}
use Rattle.ocm_disk.specs.Memory.{DiskState}
use Rattle.ocm_path.specs.Paths.{Segments}
use Rattle.ocm_entry.specs.declared.asks.Ask.{Ask}
use Rattle.ocm_entry.specs.declared.asks.Ask.TheVariants as asks
use Rattle.ocm_entry.specs.declared.asks.Method.{Method}
use Rattle.ocm_entry.specs.declared.replies.Reply.{Reply}
use Rattle.ocm_entry.specs.declared.entries.Entry.{Entry}
use Rattle.ocm_http.specs.Written.{fixed}
use Rattle.ocm_http.specs.declared.messages.Message.{Message}
use Rattle.ocm_http.specs.declared.messages.FrameFault.{FrameFault}
use Rattle.ocm_http.specs.declared.messages.FrameFault.TheVariants as faults
use Rattle.ocm_http.specs.declared.writing.Fixed.TheVariants as fixed_replies
use Rattle.ocm_dav_pages.specs.declared.shapes.Page.{Page}
use Rattle.ocm_dav.specs.declared.wants.Wanted.{Wanted}
use Rattle.ocm_server_connections.specs.Talk.{Answers, Replied, ending_after}
use Rattle.ocm_server_connections.specs.declared.endings.Ended.TheVariants as endings
use Rattle.ocm_server_connections.specs.declared.endings.Missed.{Missed}
use Rattle.ocm_server_connections.specs.declared.endings.Missed.TheVariants as misses
use Rattle.ocm_rules.specs.History.{kept}
use Rattle.ocm_rules.specs.Lean.{count}
use Rattle.ocm_rules.specs.Shares.{moment}
use Rattle.ocm_script.specs.declared.events.Event.{Event}
use Rattle.ocm_script_run.specs.Servers.{Server, World, asked_at, history, reply_at, server_at}
use Rattle.ocm_script_run.specs.Deliveries.{Run}
use Rattle.ocm_script_run.specs.Talks.{Replies, after_calls, end_line, raw_line, talk_lines}
use Rattle.ocm_script_run.specs.Traces.{IsLogged, logged_at}

-- a disk in memory that has not failed, with a fuse or none
pub record IsSound (disk : DiskState) (left : Option ℕ) : Type 0 where
  pub fuse : disk.fuse ≡ left
  pub faults : disk.faults ≡ 0

-- how many entries a server keeps, ticks aside, and its moment
abbrev pub state_of : Server → ℕ × ℕ
state_of server = (count server.host (history server), moment (kept server.host (history server)))

-- the same of the server of this host
abbrev pub state_at : World → List ℕ → Option (ℕ × ℕ)
state_at world host = option_map state_of (server_at world host)

-- the lines where there was no memory for a page, and where the bytes at a place are refused
abbrev pub no_memory_lines : ℕ → List ℕ
no_memory_lines line = talk_lines line (fixed fixed_replies.NoMemory ∷ []) endings.NoMemory

abbrev pub bad_lines : ℕ → ℕ → List ℕ
bad_lines line place = talk_lines line (fixed fixed_replies.Bad ∷ []) (endings.Bad place)

-- the lines where bytes are no message: they are refused at a place, or the input ends inside a message
abbrev pub refused_lines : ℕ → FrameFault → List ℕ
refused_lines line (faults.BadHead place) = bad_lines line place
refused_lines line (faults.HeadTooLong place) = bad_lines line place
refused_lines line (faults.BadLength place) = bad_lines line place
refused_lines line (faults.BothLengths place) = bad_lines line place
refused_lines line (faults.BadChunk place) = bad_lines line place
refused_lines line (faults.BodyTooLong place) = bad_lines line place
refused_lines line faults.Cut = end_line line (codes "cut")
refused_lines line _ = no_memory_lines line

-- the line of a page, and behind it the line of the end where the connection ends with it
abbrev pub page_lines : ℕ → List ℕ → Bool → List ℕ
page_lines line page true = raw_line line page ++ end_line line (codes "closed")
page_lines line page false = raw_line line page

-- a message that wants this was answered by these calls with these lines, and ends the connection or not
abbrev pub Shows : Wanted → ℕ → Bool → ℕ → List Entry → List ℕ → Bool → Type 0
Shows wanted line last clock calls text is_end =
    ((page : Page) × Answers wanted clock calls (Ok page) × (is_end ≡ last) × (text ≡ page_lines line page.bytes last))
    ⊎ (Answers wanted clock calls (Err misses.NoMemory) × (is_end ≡ true) × (text ≡ no_memory_lines line))

-- whether the connection ends with a message behind so many others
abbrev pub is_last : ℕ → Message → Bool
is_last number message = is_some (ending_after number message)

module _ {S : Type 0} (stands : S → Server → Type 0) where
  -- a server made these calls, and stands so now
  abbrev pub Makes : Server → S → List Entry → Type 0
  Makes server new calls = Replies server calls × stands new (after_calls server calls)

  -- a server replied so to an ask behind a tick with this time
  abbrev pub Replying : Ask → ℕ → Server → S → Reply → Type 0
  Replying ask clock server new reply = (calls : List Entry) × Makes server new calls × Replied ask clock calls reply

  -- a message that wants this came to this
  abbrev pub Answering : Wanted → Server → S → Result Page Missed → Type 0
  Answering wanted server new answer = (calls : List Entry) × Makes server new calls × Answers wanted server.clock calls answer

  -- a message that wants this was answered with these lines
  abbrev pub Showing : Wanted → ℕ → Bool → Server → S → List ℕ → Bool → Type 0
  Showing wanted line last server new text is_end = (calls : List Entry) × Makes server new calls × Shows wanted line last server.clock calls text is_end

module _ {S : Type 0} (stand : S → World → Type 0) where
  -- an ask at the server of a host was answered so: for some answer to whether memory was wanting, the reply is that of the rules, and the servers after it stand
  abbrev pub Asks : World → S → List ℕ → Ask → Option Reply → Type 0
  Asks world new host ask reply = (wanting : Bool) × (reply ≡ reply_at wanting world host ask) × stand new (asked_at wanting world host ask)

  -- a read was asked at the server of this host, and this was logged of it
  abbrev pub LogsRead : World → S → List ℕ → Method → List ℕ → Segments → List ℕ → Type 0
  LogsRead world new host method secret path log =
      (wanting : Bool) × (log ≡ logged_at wanting world host method secret path) × stand new (asked_at wanting world host (asks.Dav secret method path []))

  -- a line was run, and this was logged of it at the server of this host
  pub record Logs (world : World) (number : ℕ) (host : List ℕ) (e : Event) (new : S) (log : List ℕ) : Type 0 where
    pub line : Run
    pub is : IsLogged world number host e line log
    pub stands : stand new line.world

  -- a line was run: for some answers to whether memory was wanting it printed this text, and the servers after it stand
  abbrev pub Runs : (List Bool → Run) → S → List ℕ → Type 0
  Runs line new text = (wanting : List Bool) × (text ≡ (line wanting).text) × stand new (line wanting).world

  -- a line of any kind was run
  pub record Ran (IsLine : Run → Type 0) (new : S) (text : List ℕ) : Type 0 where
    pub line : Run
    pub is : IsLine line
    pub printed : text ≡ line.text
    pub stands : stand new line.world
