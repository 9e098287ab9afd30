-- The head of a request that was read ahead of its message.
use Rattle.std.specs.Prelude.{◌≡◌, ℕ, List, length, drop, Some, Ok}
use Rattle.ocm_limits.specs.Limits.{most_body_bytes}
use Rattle.ocm_http_heads.specs.Endings.{found, of_head, blanks}
use Rattle.ocm_http_heads.specs.Heads.{SaysRequest}
use Rattle.ocm_http_heads.specs.declared.endings.Found.TheVariants.{Whole}
use Rattle.ocm_http_heads.specs.declared.fields.Head.{Head}
use Rattle.ocm_http_heads.specs.declared.lengths.Length.{Length}
use Rattle.ocm_http.specs.Messages.{length_of}

-- a head, how the end of its body is known, how many CR and LF stand before it, how many bytes it has with these, and these bytes
pub record HeadState : Type 0 where
  pub head : Head
  pub body : Length
  pub skipped : ℕ
  pub size : ℕ
  pub text : List ℕ

-- it is the head of a request that these bytes are, to their end
pub record IsHeadIn (text : List ℕ) (h : HeadState) : Type 0 where
  pub ends : found of_head text ≡ Whole (length text)
  pub size : h.size ≡ length text
  pub skipped : h.skipped ≡ blanks text
  pub says : SaysRequest (drop (blanks text) text) (Some h.head)
  pub told : length_of most_body_bytes h.head ≡ Ok h.body

-- its bytes are that head
abbrev pub IsRead : HeadState → Type 0
IsRead h = IsHeadIn h.text h
