-- What is promised of one server that went through some sessions.
use Rattle.std.specs.Prelude.{◌≡◌, ℕ, List, ◌∷◌, ◌++◌, true, false, None}
use Rattle.ocm_entry.specs.declared.entries.Entry.{Entry}
use Rattle.ocm_entry.specs.declared.replies.Reply.{Reply}
use Rattle.ocm_rules.specs.History.{kept}
use Rattle.ocm_law_repeats.specs.Repeats.{is_for_records}
use Rattle.ocm_law_served.specs.Requests.{FileRequest, ask_with}
use Rattle.ocm_law_served.specs.Served.{IsAnsweredSo}
use Rattle.ocm_law_openings.specs.Openings.{IsOneHistory, Period, was_taken_in}

-- a session up to these of its calls
abbrev pub until : Period → List Entry → Period
until p before = record { area = p.area; base = p.base; calls = before; flight = None }

-- each call of these sessions that asks for files was answered as the links of its secret say
abbrev pub EachServed : List ℕ → List Period → Type 0
EachServed host ps =
    (newer older : List Period) (p : Period) (later before : List Entry) (secret : List ℕ) (request : FileRequest) (reply : Reply)
    → ps ≡ newer ++ p ∷ older → p.calls ≡ later ++ record { ask = ask_with secret request; reply = reply } ∷ before
    → IsAnsweredSo host p.area p.base before secret request reply

-- Each call of these sessions that repeats an offer, a notice or a settlement that was taken before, in the same session or
-- an earlier one, changed nothing. The two notices that are for all records with an id and a secret are told of apart.
abbrev pub RepeatsActOnce : List ℕ → List Period → Type 0
RepeatsActOnce host ps =
    (newer older : List Period) (p : Period) (later before : List Entry) (e : Entry)
    → ps ≡ newer ++ p ∷ older → p.calls ≡ later ++ e ∷ before
    → was_taken_in (until p before ∷ older) e.ask ≡ true → is_for_records e.ask ≡ false
    → kept host (e ∷ before ++ p.base) ≡ kept host (before ++ p.base)

-- A server that went through these sessions, of which the first named is the last, keeps what is promised of it.
pub record Keeps (host : List ℕ) (p : Period) (older : List Period) : Type 0 where
  -- its replies are those of one legal history that outlives every crash
  pub history : List Entry
  pub one : IsOneHistory host p older history
  -- a request for files is served exactly where every link of its secret is open and grants it
  pub served : EachServed host (p ∷ older)
  -- repeats act once
  pub once : RepeatsActOnce host (p ∷ older)
