-- Where a head ends: its first empty line (RFC 9112 sections 2.1 and 2.2), within so many bytes and lines.
use Rattle.std.specs.Prelude.{ℕ, ◌+◌, ◌-◌, Bool, false, not, ◌&&◌, ◌||◌, ◌==◌, List, [], ◌∷◌, if◌then◌else◌}
use Rattle.ocm_limits.specs.Limits.{most_head_bytes, most_head_lines}
use Rattle.ocm_http_heads.specs.declared.endings.Stand.{Stand}
use Rattle.ocm_http_heads.specs.declared.endings.Stand.TheVariants.{Before, InLine, AtLine, AfterReturn}
use Rattle.ocm_http_heads.specs.declared.endings.Look.{Look}
use Rattle.ocm_http_heads.specs.declared.endings.Found.{Found}
use Rattle.ocm_http_heads.specs.declared.endings.Found.TheVariants.{Whole, TooLong, Unfinished}

-- whether a byte is LF
abbrev pub is_feed : ℕ → Bool
is_feed b = b == 10

-- whether a byte leaves a look in the line where it stands
abbrev pub is_in_line : ℕ → Bool
is_in_line b = not (is_feed b)

-- whether a byte is CR or LF
abbrev pub is_blank : ℕ → Bool
is_blank b = b == 10 || b == 13

-- how many bytes at the front are CR or LF: those before a head are passed over (RFC 9112 section 2.2)
abbrev pub blanks : List ℕ → ℕ
blanks [] = 0
blanks (b ∷ bytes) = if is_blank b then 1 + blanks bytes else 0

-- whether a byte ends an empty line where it stands: LF at a line's start, or after the CR that begins a line
abbrev pub ends : Stand → ℕ → Bool
ends Before b = false
ends InLine b = false
ends AtLine b = b == 10
ends AfterReturn b = b == 10

-- where the look stands after a byte that ends nothing
abbrev pub stand_after : Stand → ℕ → Stand
stand_after Before b = if is_blank b then Before else InLine
stand_after InLine b = if b == 10 then AtLine else InLine
stand_after AtLine b = if b == 13 then AfterReturn else InLine
stand_after AfterReturn b = InLine

-- whether a byte is one more than the limits allow: of bytes, or of lines, which are counted by their LF
abbrev pub passes : Look → ℕ → Bool
passes look b = look.size == 0 || (b == 10 && look.lines == 0)

-- whether a front is of CR and LF alone, with this byte at its end
abbrev pub is_bare : Stand → ℕ → Bool
is_bare Before b = is_blank b
is_bare InLine b = false
is_bare AtLine b = false
is_bare AfterReturn b = false

-- the look after a byte
abbrev pub stepped : Look → ℕ → Look
stepped look b = record {
  stand = stand_after look.stand b;
  size = look.size - 1;
  lines = if b == 10 then look.lines - 1 else look.lines;
}

-- what is found where so many bytes were passed before
abbrev pub further : ℕ → Found → Found
further n (Whole k) = Whole (n + k)
further n (TooLong bare) = TooLong bare
further n Unfinished = Unfinished

-- what is found in the bytes: the end of the first empty line, as the number of bytes up to it; or, at an earlier
-- byte, that a limit is passed; or neither
abbrev pub found : Look → List ℕ → Found
found look [] = Unfinished
found look (b ∷ bytes) =
    if passes look b then TooLong (is_bare look.stand b)
    else if ends look.stand b then Whole 1
    else further 1 (found (stepped look b) bytes)

-- the look after bytes in which it found nothing
abbrev pub moved : Look → List ℕ → Look
moved look [] = look
moved look (b ∷ bytes) = moved (stepped look b) bytes

-- how many lines there are: a line ends with LF
abbrev pub lines : List ℕ → ℕ
lines [] = 0
lines (b ∷ bytes) = (if b == 10 then 1 else 0) + lines bytes

-- the look for the end of a head: at most 16,384 bytes and 66 lines, empty lines before it among them
abbrev pub of_head : Look
of_head = record { stand = Before; size = most_head_bytes; lines = most_head_lines }

-- the look for the end of trailers, which begin at a line: at most 8,192 bytes, and so no more lines
abbrev pub of_trailers : Look
of_trailers = record { stand = AtLine; size = 8192; lines = 8192 }
