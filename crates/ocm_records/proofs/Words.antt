-- A word that is none of a list's words stands for nothing.
use Rattle.std.proofs.Common.{◌≡◌, ℕ, List, Bool, true, false, None, refl, codes, bytes_eq}
use Rattle.std.proofs.lemmas.Slice.Eq.{bytes_eq-Decides}
use Rattle.ocm_records.specs.Kinds.{meaning}
use Rattle.ocm_records.specs.Notices.{event_words}
use Rattle.ocm_records.specs.Commands.{command_words}

differ : (s w : List ℕ) (b : Bool) → bytes_eq s w ≡ b → (s ≡ w → ⊥) → b ≡ false
differ s w true e other = absurd (other ((bytes_eq-Decides s w).0 e))
differ s w false e other = refl

-- a word that is not another does not compare equal
pub other_word : (s w : List ℕ) → (s ≡ w → ⊥) → bytes_eq s w ≡ false
other_word s w other = differ s w _ refl other

pub no_event : (s : List ℕ)
    → (s ≡ codes "SHARE_ACCEPTED" → ⊥)
    → (s ≡ codes "SHARE_DECLINED" → ⊥)
    → (s ≡ codes "SHARE_UNSHARED" → ⊥)
    → (s ≡ codes "REQUEST_RESHARE" → ⊥)
    → (s ≡ codes "RESHARE_UNDO" → ⊥)
    → (s ≡ codes "RESHARE_CHANGE_PERMISSION" → ⊥)
    → meaning event_words s ≡ None
no_event s a b c d e f =
    rw (
      other_word s (codes "SHARE_ACCEPTED") a,
      other_word s (codes "SHARE_DECLINED") b,
      other_word s (codes "SHARE_UNSHARED") c,
      other_word s (codes "REQUEST_RESHARE") d,
      other_word s (codes "RESHARE_UNDO") e,
      other_word s (codes "RESHARE_CHANGE_PERMISSION") f,
    )
    refl

pub no_command : (s : List ℕ)
    → (s ≡ codes "user" → ⊥)
    → (s ≡ codes "share" → ⊥)
    → (s ≡ codes "unshare" → ⊥)
    → (s ≡ codes "limit" → ⊥)
    → (s ≡ codes "expire" → ⊥)
    → (s ≡ codes "accept" → ⊥)
    → (s ≡ codes "decline" → ⊥)
    → (s ≡ codes "reshare" → ⊥)
    → (s ≡ codes "undo" → ⊥)
    → (s ≡ codes "list" → ⊥)
    → meaning command_words s ≡ None
no_command s a b c d e f g h i j =
    rw (
      other_word s (codes "user") a,
      other_word s (codes "share") b,
      other_word s (codes "unshare") c,
      other_word s (codes "limit") d,
      other_word s (codes "expire") e,
      other_word s (codes "accept") f,
      other_word s (codes "decline") g,
      other_word s (codes "reshare") h,
      other_word s (codes "undo") i,
      other_word s (codes "list") j,
    )
    refl
