-- The four servers of a drill, each with one user, and what its events name: keys, drawn bytes, paths and permissions.
use Rattle.std.specs.Prelude.{ℕ, ◌+◌, ◌*◌, ◌/◌, ◌%◌, ◌^◌, List, [], ◌∷◌, ◌++◌, nat_eq, codes}
use Rattle.std.specs.Fmt.{decimal}
use Rattle.std.specs.Int.{w128, to_be_bytes}
use Rattle.ocm_texts.specs.Hex.{hex}
use Rattle.ocm_path.specs.Paths.{Segments}
use Rattle.ocm_types.specs.declared.addresses.Address.{Address}
use Rattle.ocm_types.specs.declared.rights.Rights.{Rights}

-- the numbers of the servers
abbrev pub four : List ℕ
four = 0 ∷ 1 ∷ 2 ∷ 3 ∷ []

-- `n0.example` to `n3.example`
abbrev pub host : ℕ → List ℕ
host i = codes "n" ++ decimal i ++ codes ".example"

-- `u0` to `u3`
abbrev pub name : ℕ → List ℕ
name i = codes "u" ++ decimal i

-- the user of a server
abbrev pub address : ℕ → Address
address i = record { user = name i; host = host i }

-- the user of another server than i, one of three
abbrev pub other : ℕ → ℕ → Address
other i which = address ((i + 1 + which) % 4)

-- the 16 bytes of a number, the first of the greatest weight
unfoldable pub bytes_of : ℕ → List ℕ
bytes_of number = to_be_bytes w128 number

-- what the key of the user of a server is drawn from, and the key: 32 digits
abbrev pub key_bytes : ℕ → List ℕ
key_bytes i = bytes_of (i + 1)

abbrev pub key : ℕ → List ℕ
key i = hex (key_bytes i)

-- what the secrets that event j makes are drawn from, and the first of these secrets: 32 digits
abbrev pub drawn_bytes : ℕ → List ℕ
drawn_bytes j = bytes_of (2 ^ 32 + 2 ^ 16 * j)

abbrev pub secret : ℕ → List ℕ
secret j = hex (drawn_bytes j)

-- `/d`, `/d/f`, and `/f` below what is shared
abbrev pub collection : Segments
collection = codes "d" ∷ []

abbrev pub file : Segments
file = codes "d" ∷ codes "f" ∷ []

abbrev pub shared_file : Segments
shared_file = codes "f" ∷ []

-- the permissions of three bits: 1 to read, 2 to write, 4 to share
abbrev pub perms : ℕ → Rights
perms bits = record { read = nat_eq (bits % 2) 1; write = nat_eq (bits / 2 % 2) 1; share = nat_eq (bits / 4 % 2) 1 }
