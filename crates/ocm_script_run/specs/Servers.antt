-- The servers of a script, each with its session: what its disk opened to, and the calls since. Histories stand newest first.
use Rattle.std.specs.Prelude.{ℕ, ◌-◌, ◌==◌, List, [], ◌∷◌, ◌++◌, nat_lt, Bool, true, false, not, ◌&&◌, if◌then◌else◌, Option, Some, None, option_and_then, option_map, unwrap_or}
use Rattle.ocm_disk.specs.declared.crashes.Crash.{Crash}
use Rattle.ocm_disk.specs.declared.crashes.Crash.TheVariants.{Old, New, Torn}
use Rattle.ocm_journal.specs.LiveAreas.{LiveArea, goes_to_second, grown}
use Rattle.ocm_limits.specs.Limits.{replayed_area_bytes}
use Rattle.ocm_types.specs.declared.letters.Numbered.{Numbered}
use Rattle.ocm_entry.specs.declared.asks.Ask.{Ask}
use Rattle.ocm_entry.specs.declared.replies.Reply.{Reply}
use Rattle.ocm_entry.specs.declared.replies.Reply.TheVariants.{JournalFull, NoMemory, DiskFault, Stopped}
use Rattle.ocm_entry.specs.declared.entries.Entry.{Entry}
use Rattle.ocm_rules.specs.History.{answer, is_failure, kept}
use Rattle.ocm_rules.specs.Lean.{lean}
use Rattle.ocm_rules.specs.Messages.{as_sent, out}
use Rattle.ocm_rules.specs.Numbers.{at_number, same_text}
use Rattle.ocm_law_sessions.specs.Crashes.{faulted}
use Rattle.ocm_law_sessions.specs.Sessions.{count_of, fault_in, fits, heard, would_change}
use Rattle.ocm_law_sessions.specs.Written.{record_of, records_of}

-- a change within which a disk failed: how many of its four device calls passed, whether it was to make the second area of the journal live, and the live area that it was to make
pub record CutShort : Type 0 where
  pub passed : ℕ
  pub to_second : Bool
  pub live : LiveArea

-- a server of a script: its host; the history that its disk opened to, and the calls since; how many device calls its disk still makes, where a `fuse` line bounds them; what the last `clock` line told; the live area of its journal, as it was before its disk failed, where it did; and the change within which it failed
pub record Server : Type 0 where
  pub host : List ℕ
  pub base : List Entry
  pub calls : List Entry
  pub fuse : Option ℕ
  pub clock : ℕ
  pub live : LiveArea
  pub cut : Option CutShort

-- the whole history of a server
abbrev pub history : Server → List Entry
history server = server.calls ++ server.base

-- how many bytes each area of its journal has: half of a disk of 67,108,864 bytes behind the first 512
abbrev pub area : ℕ
area = replayed_area_bytes

-- the servers, in the order in which the script names them
abbrev pub World : Type 0
World = List Server

-- the live area of a new journal: the first, without records
abbrev pub new_live : LiveArea
new_live = record { first = true; form = 2; records = [] }

-- a server before its first call, on an empty disk
abbrev pub new_server : List ℕ → Server
new_server host = record { host = host; base = []; calls = []; fuse = None; clock = 0; live = new_live; cut = None }

-- ---- replies

-- whether a disk makes too few calls more for a change, which takes four
abbrev pub is_short : Option ℕ → Bool
is_short None = false
is_short (Some left) = nat_lt left 4

-- what a change is told: where the disk failed in this session, that the server is stopped; where it does not fit, that the journal is full; where the disk makes too few calls, that it failed; else its answer
abbrev pub change_reply : Option ℕ → Bool → Bool → Reply → Reply
change_reply (Some count) room short answered = Stopped count
change_reply None false short answered = JournalFull
change_reply None true true answered = DiskFault 1
change_reply None true false answered = answered

-- what an ask is told that would change something, and one that would not
abbrev pub told_reply : Bool → Server → Ask → Reply
told_reply true server ask =
    change_reply (fault_in server.calls) (fits server.host area (history server) ask) (is_short server.fuse) (answer server.host (history server) ask)
told_reply false server ask = answer server.host (history server) ask

-- the reply to an ask: want of memory where it was wanting, else what it is told
abbrev pub reply_of : Bool → Server → Ask → Reply
reply_of true server ask = NoMemory
reply_of false server ask = told_reply (would_change server.host (history server) ask) server ask

-- what is left of a fuse after a change that was made, and after another call
abbrev pub fuse_after : Bool → Option ℕ → Option ℕ
fuse_after true fuse = option_map (λ left. left - 4) fuse
fuse_after false fuse = fuse

-- the live area once an ask with its answer is written behind a history: its record goes behind the others where it has room, and only where it has none are the records of the whole lean list written into the other area
abbrev pub grown_by : List ℕ → List Entry → Ask → LiveArea → LiveArea
grown_by host g ask live = grown area live (record_of live.form (kept host g) (heard host g ask)) (records_of (lean host (heard host g ask ∷ g)))

-- ... and after a call that made a change, or that made none
abbrev pub live_after : Bool → List ℕ → List Entry → Ask → LiveArea → LiveArea
live_after true host g ask live = grown_by host g ask live
live_after false host g ask live = live

-- the change that an ask was to make of a server when its disk failed
abbrev pub cut_of : Server → Ask → CutShort
cut_of server ask = record {
  passed = unwrap_or server.fuse 0;
  to_second = goes_to_second area server.live (record_of server.live.form (kept server.host (history server)) (heard server.host (history server) ask));
  live = grown_by server.host (history server) ask server.live;
}

-- the change within which its disk failed, after a reply that told so, or that did not
abbrev pub cut_after : Option ℕ → Server → Ask → Option CutShort
cut_after (Some count) server ask = Some (cut_of server ask)
cut_after None server ask = server.cut

-- the server with an ask and its reply behind its calls
abbrev pub with_call : Server → Ask → Reply → Server
with_call server ask reply = record {
  host = server.host;
  base = server.base;
  calls = record { ask = ask; reply = reply } ∷ server.calls;
  fuse = fuse_after (would_change server.host (history server) ask && not (is_failure reply)) server.fuse;
  clock = server.clock;
  live = live_after (would_change server.host (history server) ask && not (is_failure reply)) server.host (history server) ask server.live;
  cut = cut_after (count_of reply) server ask;
}

-- the server after an ask
abbrev pub server_after : Bool → Server → Ask → Server
server_after wanting server ask = with_call server ask (reply_of wanting server ask)

-- ---- crashes

-- what is kept of a history by a crash: all of it, and where the disk failed at an ask in this session, that ask with its answer or not
abbrev pub kept_by_crash : Bool → List ℕ → Option Ask → List Entry → List Entry
kept_by_crash true host (Some ask) g = heard host g ask ∷ g
kept_by_crash true host None g = g
kept_by_crash false host faulted g = g

-- whether a crash keeps the ask within whose change the disk failed: where three of its calls passed and all that was written is left, or what was written since the last sync is torn and the change made the second area live, as any selector but 01 does
abbrev pub keeps : Crash → CutShort → Bool
keeps Old cut = false
keeps New cut = cut.passed == 3
keeps Torn cut = (cut.passed == 3) && cut.to_second

-- the same of a server, whose disk failed or did not
abbrev pub is_kept : Crash → Option CutShort → Bool
is_kept mode None = false
is_kept mode (Some cut) = keeps mode cut

-- the live area after a crash: that of the change within which the disk failed, where it is kept
abbrev pub live_left : Bool → Option CutShort → LiveArea → LiveArea
live_left true (Some cut) live = cut.live
live_left true None live = live
live_left false cut live = live

-- a server whose disk crashed, and that was loaded again; where its disk failed before, the ask was kept or not
abbrev pub crashed : Bool → Server → Server
crashed keeps server = record {
  host = server.host;
  base = kept_by_crash keeps server.host (faulted server.calls) (history server);
  calls = [];
  fuse = None;
  clock = server.clock;
  live = live_left keeps server.cut server.live;
  cut = None;
}

-- a server after a crash that leaves its disk so
abbrev pub restart : Crash → Server → Server
restart mode server = crashed (is_kept mode server.cut) server

-- ---- the server of a host

-- the server of this host
abbrev pub server_at : World → List ℕ → Option Server
server_at [] host = None
server_at (server ∷ others) host = if same_text server.host host then Some server else server_at others host

-- the servers after a step of the one of this host
abbrev pub step_at : (Server → Server) → World → List ℕ → World
step_at step [] host = []
step_at step (server ∷ others) host = if same_text server.host host then step server ∷ others else server ∷ step_at step others host

-- the servers after an ask at the one of this host
abbrev pub asked_at : Bool → World → List ℕ → Ask → World
asked_at wanting world host ask = step_at (λ server. server_after wanting server ask) world host

-- the reply to an ask at the server of this host, if there is one
abbrev pub reply_at : Bool → World → List ℕ → Ask → Option Reply
reply_at wanting world host ask = option_map (λ server. reply_of wanting server ask) (server_at world host)

-- the message of this number that a server sent
abbrev pub message_of : Server → ℕ → Option Numbered
message_of server number = option_map (λ message. as_sent (number, message)) (at_number (out server.host (kept server.host (history server))) number)

-- the message of this number that the server of this host sent
abbrev pub message_at : World → List ℕ → ℕ → Option Numbered
message_at world host number = option_and_then (λ server. message_of server number) (server_at world host)
