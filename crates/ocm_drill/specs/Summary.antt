-- The summary of a run: how many events there were, how often each status came, and how much each server keeps.
use Rattle.std.specs.Prelude.{◌≡◌, ℕ, ◌+◌, ◌-◌, ◌*◌, ◌<◌, zero, suc, List, [], ◌∷◌, ◌++◌, length, take, drop, position, slice_index, nat_eq, bytes_eq, codes, Bool, false, ◌&&◌, if◌then◌else◌, Option, Some, None}
use Rattle.std.specs.Fmt.{decimal}
use Rattle.std.specs.List.{count_by, flat_map}
use Rattle.std.specs.Option.{option_map_or}
use Rattle.ocm_texts.specs.Decimal.{is_digit_byte}

-- what stands before a place, all where there is none
abbrev pub front_to : Option ℕ → List ℕ → List ℕ
front_to None bytes = bytes
front_to (Some place) bytes = take place bytes

-- what stands behind a place, nothing where there is none
abbrev pub rest_from : Option ℕ → List ℕ → List ℕ
rest_from None bytes = []
rest_from (Some place) bytes = drop (place + 1) bytes

-- the place of the first such byte
abbrev pub place_of : ℕ → List ℕ → Option ℕ
place_of byte bytes = position (λ b. nat_eq b byte) bytes

-- the first line, without its line feed
abbrev pub first_line : List ℕ → List ℕ
first_line text = front_to (place_of 10 text) text

-- the first word of a line, up to the first space
abbrev pub first_word : List ℕ → List ℕ
first_word line = front_to (place_of 32 line) line

-- what follows the first word and its space
abbrev pub next_words : List ℕ → List ℕ
next_words line = rest_from (place_of 32 line) line

-- the first word of what stands behind the line's number, or behind `at` and a host
abbrev pub status_word : List ℕ → List ℕ
status_word words = if bytes_eq (first_word words) (codes "at") then first_word (next_words (next_words words)) else first_word words

-- the number that three digits write; none of any other word
abbrev pub three_digits : List ℕ → Option ℕ
three_digits (a ∷ b ∷ c ∷ []) =
    if is_digit_byte a && is_digit_byte b && is_digit_byte c then Some ((a - 48) * 100 + (b - 48) * 10 + (c - 48)) else None
three_digits _ = None

-- the status that stands first in the first line behind its number, or behind `at` and a host
abbrev pub status_in : List ℕ → Option ℕ
status_in text = three_digits (status_word (next_words (first_line text)))

-- whether a text shows this status
abbrev pub shows : ℕ → List ℕ → Bool
shows status text = option_map_or (nat_eq status) (status_in text) false

-- how many of the texts show this status
abbrev pub times : ℕ → List (List ℕ) → ℕ
times status texts = count_by (shows status) texts

-- the counts are those of the texts: at each place below 1,000, how many of them show the status of that number
pub record AreCounts (counts : List ℕ) (texts : List (List ℕ)) : Type 0 where
  pub size : length counts ≡ 1000
  pub each : (status : ℕ) → status < 1000 → slice_index counts status ≡ times status texts

-- the line of a status that came so many times; none where it did not come
abbrev pub status_line : ℕ → ℕ → List ℕ
status_line status count = if nat_eq count 0 then [] else codes "status " ++ decimal status ++ codes " " ++ decimal count ++ codes "\n"

-- the lines of the statuses below a number, ascending
unfoldable pub lines_below : ℕ → (ℕ → ℕ) → List ℕ
lines_below zero count = []
lines_below (suc status) count = lines_below status count ++ status_line status (count status)

-- the lines of the statuses that the texts show, ascending
unfoldable pub status_lines : List (List ℕ) → List ℕ
status_lines texts = lines_below 1000 (λ status. times status texts)

-- the line of how many events there were
abbrev pub events_line : ℕ → List ℕ
events_line events = codes "events " ++ decimal events ++ codes "\n"

-- the line of how many entries the server of a host keeps
abbrev pub kept_line : List ℕ × ℕ → List ℕ
kept_line kept = codes "kept " ++ kept.0 ++ codes " " ++ decimal kept.1 ++ codes "\n"

-- the summary of so many events that printed these texts, after which the servers of these hosts keep so much
abbrev pub summary : ℕ → List (List ℕ) → List (List ℕ × ℕ) → List ℕ
summary events texts kept = events_line events ++ status_lines texts ++ flat_map kept_line kept
