-- A method that has no name of those for files does nothing with them.
use Rattle.std.proofs.Common.{◌≡◌, ℕ, List, None, refl, codes}
use Rattle.ocm_records.proofs.Words.{other_word}
use Rattle.ocm_dav.specs.Verbs.{verb_of}

pub no_verb : (s : List ℕ)
    → (s ≡ codes "GET" → ⊥)
    → (s ≡ codes "HEAD" → ⊥)
    → (s ≡ codes "PUT" → ⊥)
    → (s ≡ codes "DELETE" → ⊥)
    → (s ≡ codes "MKCOL" → ⊥)
    → (s ≡ codes "PROPFIND" → ⊥)
    → (s ≡ codes "COPY" → ⊥)
    → (s ≡ codes "MOVE" → ⊥)
    → verb_of s ≡ None
no_verb s a b c d e f g h =
    rw (
      other_word s (codes "GET") a,
      other_word s (codes "HEAD") b,
      other_word s (codes "PUT") c,
      other_word s (codes "DELETE") d,
      other_word s (codes "MKCOL") e,
      other_word s (codes "PROPFIND") f,
      other_word s (codes "COPY") g,
      other_word s (codes "MOVE") h,
    )
    refl
