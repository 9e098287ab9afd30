-- The words behind the program's name.
use Rattle.std.specs.Prelude.{ℕ, Bool, false, ◌&&◌, not, List, [], ◌∷◌, codes, bytes_eq}
use Rattle.ocm_serve_options.specs.Plans.{asks_help}

-- the first word asks for a request to a server, and what follows does not ask for the words of one
abbrev pub asks_remote : List (List ℕ) → Bool
asks_remote [] = false
asks_remote (word ∷ words) = bytes_eq word (codes "dav") && not (asks_help words)
