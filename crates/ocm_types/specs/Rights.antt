use Rattle.std.specs.Prelude.{ℕ, Bool, true, false, not, ◌&&◌, ◌||◌, if◌then◌else◌, List, [], ◌∷◌, ◌++◌, find, bytes_eq, codes, Option, Some, None, option_and_then}
use Rattle.std.specs.List.{join_with_byte}
use Rattle.ocm_types.specs.declared.rights.Rights.{Rights}
use Rattle.ocm_types.specs.declared.rights.Need.{Need}
use Rattle.ocm_types.specs.declared.rights.Need.TheVariants.{Read, Write, Share}

-- to read, to write and to share
abbrev pub all_rights : Rights
all_rights = record { read = true; write = true; share = true }

-- whether a right is among them
abbrev pub has : Rights → Need → Bool
has rights Read = rights.read
has rights Write = rights.write
has rights Share = rights.share

-- the rights that are among both
abbrev pub both : Rights → Rights → Rights
both a b = record { read = a.read && b.read; write = a.write && b.write; share = a.share && b.share }

-- whether each right of the first is among the second
abbrev pub is_within : Rights → Rights → Bool
is_within a b = (not a.read || b.read) && (not a.write || b.write) && (not a.share || b.share)

-- whether they are one right at least
abbrev pub is_any : Rights → Bool
is_any rights = rights.read || rights.write || rights.share

-- rights as permissions, which are one right at least
abbrev pub perms_from : Rights → Option Rights
perms_from rights = if is_any rights then Some rights else None

-- a word, where its right is held
abbrev pub word_if : Bool → List ℕ → List (List ℕ)
word_if held word = if held then word ∷ [] else []

-- the words of the rights, in the order read, write, share
abbrev pub words_of : Rights → List (List ℕ)
words_of rights = word_if rights.read (codes "read") ++ word_if rights.write (codes "write") ++ word_if rights.share (codes "share")

-- these words, with `,` between each two
abbrev pub perms_text : Rights → List ℕ
perms_text rights = join_with_byte 44 (words_of rights)

-- the eight sets of rights
abbrev pub every_rights : List Rights
every_rights =
    record { read = true; write = true; share = true }
    ∷ record { read = true; write = true; share = false }
    ∷ record { read = true; write = false; share = true }
    ∷ record { read = true; write = false; share = false }
    ∷ record { read = false; write = true; share = true }
    ∷ record { read = false; write = true; share = false }
    ∷ record { read = false; write = false; share = true }
    ∷ record { read = false; write = false; share = false }
    ∷ []

-- the permissions that have this text
abbrev pub perms_of : List ℕ → Option Rights
perms_of text = option_and_then perms_from (find (λ rights. bytes_eq (perms_text rights) text) every_rights)
