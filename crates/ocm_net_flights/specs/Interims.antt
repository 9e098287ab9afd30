-- Interim replies, which a server may send ahead of its reply (RFC 9110 section 15.2), in the bytes that came back.
use Rattle.std.specs.Prelude.{◌≡◌, ℕ, ◌+◌, ◌≤◌, ◌<◌, nat_eq, List, [], ◌∷◌, drop, take, Bool, false, not, ◌&&◌, ◌||◌, ◌==◌, if◌then◌else◌, codes, Option, Some, None, IfSome}
use Rattle.std.specs.List.{starts_with}
use Rattle.std.specs.Char.{is_ascii_digit}
use Rattle.ocm_limits.specs.Limits.{most_head_bytes}
use Rattle.ocm_http_heads.specs.declared.endings.Found.{Found}
use Rattle.ocm_http_heads.specs.declared.endings.Found.TheVariants.{Whole, TooLong, Unfinished}
use Rattle.ocm_http_heads.specs.Endings.{of_head, found, blanks}

-- whether a byte ends the status of a status line (RFC 9112 section 4)
abbrev pub ends_status : ℕ → Bool
ends_status b = b == 32 || b == 13 || b == 10

-- whether these go on as a status line does behind the first digit of a status: with two digits, but for 01, and its end
abbrev pub goes_on : List ℕ → Bool
goes_on [] = false
goes_on (tens ∷ []) = false
goes_on (tens ∷ ones ∷ []) = false
goes_on (tens ∷ ones ∷ b ∷ bytes) =
    is_ascii_digit tens && is_ascii_digit ones && ends_status b && not (tens == 48 && ones == 49)

-- whether a head is that of an interim reply: HTTP/1.1 with a status from 100 to 199, but for 101, behind which the
-- bytes are of another protocol (RFC 9110 section 15.2.2)
abbrev pub is_interim : List ℕ → Bool
is_interim head = starts_with nat_eq head (codes "HTTP/1.1 1") && goes_on (drop 10 head)

-- how many bytes the interim reply has that ends so far, where it is one
abbrev pub interim_in : List ℕ → Found → Option ℕ
interim_in bytes (Whole n) = if is_interim (drop (blanks (take n bytes)) (take n bytes)) then Some n else None
interim_in bytes (TooLong bare) = None
interim_in bytes Unfinished = None

-- how many bytes the interim reply has that stands whole at the front of these. It is a head alone, whatever its
-- fields say of a body (RFC 9112 section 6.3)
abbrev pub interim_at : List ℕ → Option ℕ
interim_at bytes = interim_in bytes (found of_head bytes)

-- so many bytes at the front are interim replies, with no more of them in all than a head has
pub data ArePassed (bytes : List ℕ) : ℕ → Type 0 where
  none : ArePassed bytes 0
  more : (front n : ℕ) → ArePassed bytes front → interim_at (drop front bytes) ≡ Some n → front + n ≤ most_head_bytes → ArePassed bytes (front + n)

-- so many bytes at the front are all the interim replies that may be passed over
pub record IsFront (bytes : List ℕ) (front : ℕ) : Type 0 where
  pub passed : ArePassed bytes front
  pub all : IfSome (interim_at (drop front bytes)) (λ n. most_head_bytes < front + n)

-- a reply is what stands behind the interim replies in the bytes that came back
abbrev pub IsBehind : List ℕ → List ℕ → Type 0
IsBehind came reply = (front : ℕ) × IsFront came front × (reply ≡ drop front came)
