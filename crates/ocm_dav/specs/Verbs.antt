-- What the methods of requests do with files.
use Rattle.std.specs.Prelude.{ℕ, List, [], ◌∷◌, codes, Option}
use Rattle.ocm_records.specs.Kinds.{meaning}
use Rattle.ocm_dav.specs.declared.verbs.Verb.{Verb}
use Rattle.ocm_dav.specs.declared.verbs.Verb.TheVariants.{Get, Head, Put, Delete, Mkcol, Propfind, Copy, Move}

-- the names of methods, which are compared exactly (RFC 9110 section 9.1)
abbrev pub verb_words : List (List ℕ × Verb)
verb_words =
    (codes "GET", Get)
    ∷ (codes "HEAD", Head)
    ∷ (codes "PUT", Put)
    ∷ (codes "DELETE", Delete)
    ∷ (codes "MKCOL", Mkcol)
    ∷ (codes "PROPFIND", Propfind)
    ∷ (codes "COPY", Copy)
    ∷ (codes "MOVE", Move)
    ∷ []

-- what a method does with files, if it does something
abbrev pub verb_of : List ℕ → Option Verb
verb_of method = meaning verb_words method
