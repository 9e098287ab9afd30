-- What is written of lines of a log.
use Rattle.std.specs.Prelude.{◌≤◌, ◌<◌, ◌^◌, ℕ, List, [], IsTrue}
use Rattle.std.specs.List.{flat_map}
use Rattle.std.specs.Str.{is_utf8}
use Rattle.ocm_types.specs.Texts.{is_secret}
use Rattle.ocm_path.specs.Paths.{is_path}
use Rattle.ocm_entry.specs.declared.asks.Ask.{Ask}
use Rattle.ocm_entry.specs.declared.asks.Ask.TheVariants.{Dav}
use Rattle.ocm_access_log.specs.Lines.{log_line}
use Rattle.ocm_access_log.specs.Reads.{is_read}
use Rattle.ocm_access_log.specs.declared.lines.LogLine.{LogLine}

-- what is written of an ask that was answered at a place and a moment with a status
abbrev pub written_ask : ℕ → ℕ → ℕ → Ask → List ℕ
written_ask place moment status (Dav secret method path body) = log_line place moment method secret path status
written_ask place moment status _ = []

-- what is written of a line, with its line feed
abbrev pub written : LogLine → List ℕ
written line = written_ask line.place line.moment line.status line.ask

-- what is written of lines
abbrev pub written_log : List LogLine → List ℕ
written_log lines = flat_map written lines

-- the secret and the path of a read are such as can be read
abbrev pub HasTexts : Ask → Type 0
HasTexts (Dav secret method path body) = IsTrue (is_secret secret) × IsTrue (is_utf8 secret) × IsTrue (is_path path)
HasTexts _ = ⊥

-- A line that can be written: its numbers are below 2^64, its ask is a read, and its status has three digits.
pub record IsLoggable (line : LogLine) : Type 0 where
  pub place : line.place < 2 ^ 64
  pub moment : line.moment < 2 ^ 64
  pub reads : IsTrue (is_read line.ask)
  pub texts : HasTexts line.ask
  pub digits : (100 ≤ line.status) × (line.status ≤ 999)
