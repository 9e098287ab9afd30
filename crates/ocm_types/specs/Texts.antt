use Rattle.std.specs.Prelude.{ℕ, Bool, not, ◌&&◌, ◌||◌, if◌then◌else◌, nat_eq, nat_le, List, length, Option, Some, None}
use Rattle.std.specs.List.{list_all}

-- a control character of ASCII: 0 to 31, and 127
abbrev pub is_control : ℕ → Bool
is_control b = nat_le b 31 || nat_eq b 127

-- a byte that a text may have: no control character, and not the excluded one
abbrev pub is_allowed : Option ℕ → ℕ → Bool
is_allowed None b = not (is_control b)
is_allowed (Some x) b = not (is_control b) && not (nat_eq b x)

-- at least `low` bytes and at most `high`
abbrev pub has_length : ℕ → ℕ → List ℕ → Bool
has_length low high bytes = nat_le low (length bytes) && nat_le (length bytes) high

-- 1 to `high` bytes, each allowed
abbrev pub is_text : ℕ → Option ℕ → List ℕ → Bool
is_text high excluded bytes = has_length 1 high bytes && list_all (is_allowed excluded) bytes

-- a byte that a name may have: no control character and no `/`
abbrev pub is_name_byte : ℕ → Bool
is_name_byte b = is_allowed (Some 47) b

-- a user's name: 1 to 64 such bytes
abbrev pub is_name : List ℕ → Bool
is_name bytes = is_text 64 (Some 47) bytes

-- a share's name, the `name` of an offer: 1 to 1,024 bytes, no control character
abbrev pub is_share_name : List ℕ → Bool
is_share_name bytes = is_text 1024 None bytes

-- an owner's mark of a share, `providerId`: 1 to 255 bytes, no control character
abbrev pub is_provider_id : List ℕ → Bool
is_provider_id bytes = is_text 255 None bytes

-- a recipient's mark of a reshare request, `senderId`: 1 to 64 bytes, no control character
abbrev pub is_sender_id : List ℕ → Bool
is_sender_id bytes = is_text 64 None bytes

-- a shared secret: 1 to 255 bytes, no control character and no `:`
abbrev pub is_secret : List ℕ → Bool
is_secret bytes = is_text 255 (Some 58) bytes

-- what a text gives that is read as a name, a share's name, an identifier or a secret: itself, or nothing
abbrev pub name_of : List ℕ → Option (List ℕ)
name_of bytes = if is_name bytes then Some bytes else None

abbrev pub share_name_of : List ℕ → Option (List ℕ)
share_name_of bytes = if is_share_name bytes then Some bytes else None

abbrev pub provider_id_of : List ℕ → Option (List ℕ)
provider_id_of bytes = if is_provider_id bytes then Some bytes else None

abbrev pub sender_id_of : List ℕ → Option (List ℕ)
sender_id_of bytes = if is_sender_id bytes then Some bytes else None

abbrev pub secret_of : List ℕ → Option (List ℕ)
secret_of bytes = if is_secret bytes then Some bytes else None
