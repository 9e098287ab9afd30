-- The lines of a script as events.
use Rattle.std.specs.Prelude.{◌≡◌, ℕ, ◌+◌, List, [], ◌∷◌, ◌++◌, length, nat_eq, nat_lt, Option, Some, None, if◌then◌else◌, Result, Ok, Err}
use Rattle.std.specs.Option.{option_map_or}
use Rattle.ocm_limits.specs.Limits.{most_line_bytes, most_lines}
use Rattle.ocm_script.specs.Lines.{lines_of}
use Rattle.ocm_script.specs.Words.{cut}
use Rattle.ocm_script.specs.Forms.{line_of}
use Rattle.ocm_script.specs.Events.{node_of}
use Rattle.ocm_script.specs.declared.events.Event.{Event}
use Rattle.ocm_script.specs.declared.events.Event.TheVariants.{Quiet}
use Rattle.ocm_script.specs.declared.faults.ScriptFault.{ScriptFault}
use Rattle.ocm_script.specs.declared.faults.ScriptFault.TheVariants as ends

-- the event of a line of no more than the most bytes: nothing happens at an empty line and at a comment
unfoldable pub short_line : List (List ℕ) → List ℕ → Option Event
short_line named [] = Some Quiet
short_line named (b ∷ bs) = if nat_eq b 35 then Some Quiet else line_of named (cut (b ∷ bs))

-- the event of a line, where lines before it named these hosts
unfoldable pub event_of : List (List ℕ) → List ℕ → Option Event
event_of named line = if nat_lt most_line_bytes (length line) then None else short_line named line

-- the hosts that are named after an event
abbrev pub named_after : List (List ℕ) → Event → List (List ℕ)
named_after named e = option_map_or (λ host. named ++ host ∷ []) (node_of e) named

-- events with others in front of them, where no line was bad
abbrev pub with_front : List Event → Result (List Event) ScriptFault → Result (List Event) ScriptFault
with_front front (Ok events) = Ok (front ++ events)
with_front front (Err e) = Err e

-- the events of lines, the first of which has this number, or the number of the first bad line
abbrev pub events_of : ℕ → List (List ℕ) → List (List ℕ) → Result (List Event) ScriptFault
events_of number named [] = Ok []
events_of number named (line ∷ lines) =
    option_map_or (λ e. with_front (e ∷ []) (events_of (number + 1) (named_after named e) lines))
    (event_of named line)
    (Err (ends.Line number))

-- the events of a script, one a line, or why it is none: too many lines, else the first bad line
abbrev pub script_of : List ℕ → Result (List Event) ScriptFault
script_of bytes = if nat_lt most_lines (length (lines_of bytes)) then Err ends.TooMany else events_of 1 [] (lines_of bytes)

-- a fault is the script's; want of memory may come at any script
abbrev pub Faults : ScriptFault → Result (List Event) ScriptFault → Type 0
Faults ends.NoMemory script = Unit {0}
Faults (ends.Line number) script = script ≡ Err (ends.Line number)
Faults ends.TooMany script = script ≡ Err ends.TooMany

-- what was answered is what the script gives, unless memory ran out
abbrev pub Reads : Result (List Event) ScriptFault → Result (List Event) ScriptFault → Type 0
Reads (Ok events) script = script ≡ Ok events
Reads (Err e) script = Faults e script
