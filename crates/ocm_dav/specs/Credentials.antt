-- The secret that a request gives (RFC 9110 section 11.6.2): as the user of `Basic` (RFC 7617 section 2), or as the
-- token of `Bearer` (RFC 6750 section 2.1).
use Rattle.std.specs.Prelude.{ℕ, List, codes, if◌then◌else◌, Option, Some, None, option_and_then, Result, Ok, Err}
use Rattle.std.specs.Str.{is_utf8}
use Rattle.base64.specs.declared.decode.DecodeError.{DecodeError}
use Rattle.base64.specs.Engines.{standard}
use Rattle.base64.specs.GeneralPurpose.{decode_of}
use Rattle.ocm_http_heads.specs.declared.fields.Field.{Field}
use Rattle.ocm_types.specs.Hosts.{cut_at_first}
use Rattle.ocm_types.specs.Texts.{secret_of}
use Rattle.ocm_dav.specs.Fields.{first_value, is_word}

-- the secret that bytes are, where they are a text and it is one
abbrev pub bytes_secret : List ℕ → Option (List ℕ)
bytes_secret bytes = if is_utf8 bytes then secret_of bytes else None

-- the user of a user and a password: what stands before the first `:`, and all where there is none
abbrev pub user_of : List ℕ → List ℕ
user_of plain = (cut_at_first 58 plain).0

-- the secret of what base64 decodes: the user
abbrev pub user_secret : Result (List ℕ) DecodeError → Option (List ℕ)
user_secret (Ok plain) = bytes_secret (user_of plain)
user_secret (Err fault) = None

-- the secret that a token gives by its scheme, which may be in any case
abbrev pub scheme_secret : List ℕ → List ℕ → Option (List ℕ)
scheme_secret scheme token =
    if is_word (codes "basic") scheme then user_secret (decode_of standard token)
    else if is_word (codes "bearer") scheme then bytes_secret token
    else None

-- the secret of a scheme, with the token where there is one
abbrev pub parts_secret : List ℕ × Option (List ℕ) → Option (List ℕ)
parts_secret (scheme, None) = None
parts_secret (scheme, Some token) = scheme_secret scheme token

-- the secret of a value: its scheme ends at the first space, and all behind that is the token
abbrev pub value_secret : List ℕ → Option (List ℕ)
value_secret value = parts_secret (cut_at_first 32 value)

-- the secret that fields give, by the first `authorization` field
abbrev pub credentials_of : List Field → Option (List ℕ)
credentials_of fields = option_and_then value_secret (first_value (codes "authorization") fields)
