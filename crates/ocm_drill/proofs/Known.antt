-- The names in a drill's events.
use Rattle.std.proofs.Common.{◌≡◌, ◌<◌, ◌+◌, ℕ, zero, suc, List, [], ◌∷◌, ◌++◌, true, take, get_or, map, refl, ap, sym, subst, ◌∙◌, codes, Ok, append_assoc, lit<, lit≤, slice_index, arith}
use Rattle.std.specs.Str.{is_utf8}
use Rattle.std.proofs.lemmas.Str.{IsUtf8-from_ascii, is_utf8-from_IsUtf8}
use Rattle.ocm_path.proofs.RoundTrip.{path_of-path_escaped}
use Rattle.std.proofs.lemmas.Fmt.{decimal_digit}
use Rattle.ocm_types.specs.declared.addresses.Address.{Address}
use Rattle.ocm_path.specs.Paths.{path_of}
use Rattle.ocm_types.specs.Addresses.{address_of, address_text}
use Rattle.ocm_types.specs.Rights.{is_any}
use Rattle.ocm_drill.specs.Federation.{address, collection, file, four, perms, shared_file}

-- the address of a user, with the digit of its number
abbrev digit_address : ℕ → Address
digit_address i = record { user = codes "u" ++ (48 + i) ∷ []; host = codes "n" ++ (48 + i) ∷ [] ++ codes ".example" }

address_is : (i : ℕ) → i < 4 → address i ≡ digit_address i
address_is i within = ap (λ digits. record { user = codes "u" ++ digits; host = codes "n" ++ digits ++ codes ".example" }) (decimal_digit i (omega (arith, within)))

-- the text of that address
pub user_spelled : (i j : ℕ) → i ≡ j → j < 4 → address_text (digit_address j) ≡ address_text (address i)
user_spelled i j same within = ap address_text (sym (address_is j within)) ∙ ap (λ k. address_text (address k)) (sym same)

-- it is read from that text
read_digits : (i : ℕ) → i < 4 → address_of (address_text (digit_address i)) ≡ Ok (digit_address i)
read_digits zero within = refl
read_digits (suc zero) within = refl
read_digits (suc (suc zero)) within = refl
read_digits (suc (suc (suc zero))) within = refl
read_digits (suc (suc (suc (suc i)))) within = absurd (omega (arith, within))

pub user_reads : (i : ℕ) → i < 4 → address_of (address_text (address i)) ≡ Ok (address i)
user_reads i within = subst (λ a. address_of (address_text a) ≡ Ok a) (sym (address_is i within)) (read_digits i within)

-- the paths are read from their texts
ascii_byte : (b i : ℕ) → b < 128 → slice_index (b ∷ []) i < 128
ascii_byte b zero below = below
ascii_byte b (suc i) below = lit< tt

is_d : is_utf8 (codes "d") ≡ true
is_d = is_utf8-from_IsUtf8 (codes "d") (IsUtf8-from_ascii (codes "d") (λ i. ascii_byte 100 i (lit< tt)))

is_f : is_utf8 (codes "f") ≡ true
is_f = is_utf8-from_IsUtf8 (codes "f") (IsUtf8-from_ascii (codes "f") (λ i. ascii_byte 102 i (lit< tt)))

pub collection_reads : path_of (codes "/d") ≡ Ok collection
collection_reads = path_of-path_escaped collection (rw is_d refl) (lit≤ tt)

pub file_reads : path_of (codes "/d/f") ≡ Ok file
file_reads = path_of-path_escaped file (rw (is_d, is_f) refl) (lit≤ tt)

pub shared_file_reads : path_of (codes "/f") ≡ Ok shared_file
shared_file_reads = path_of-path_escaped shared_file (rw is_f refl) (lit≤ tt)

-- what belongs to the first servers, with that of one more
next_of : {A : Type 0} (f : ℕ → A) (i : ℕ) → i < 4 → take i (map f four) ++ f i ∷ [] ≡ take (i + 1) (map f four)
next_of f zero within = refl
next_of f (suc zero) within = refl
next_of f (suc (suc zero)) within = refl
next_of f (suc (suc (suc zero))) within = refl
next_of f (suc (suc (suc (suc i)))) within = absurd (omega (arith, within))

pub one_more : {A : Type 0} (f : ℕ → A) (i : ℕ) (xs : List A) (x : A) → xs ≡ take i (map f four) → i < 4 → x ≡ f i → xs ++ x ∷ [] ≡ take (i + 1) (map f four)
one_more f i xs x before within is = ap (λ list. list ++ x ∷ []) before ∙ (ap (λ y. take i (map f four) ++ y ∷ []) is ∙ next_of f i within)

pub one_more_behind : {A : Type 0} (f : ℕ → A) (i : ℕ) (front xs : List A) (x : A) → xs ≡ front ++ take i (map f four) → i < 4 → x ≡ f i → xs ++ x ∷ [] ≡ front ++ take (i + 1) (map f four)
one_more_behind f i front xs x before within is =
    ap (λ list. list ++ x ∷ []) before ∙ (append_assoc front (take i (map f four)) (x ∷ []) ∙ ap (λ list. front ++ list) (one_more f i (take i (map f four)) x refl within is))

-- what belongs to one of the four servers
pub at_server : {A : Type 0} (f : ℕ → A) (i : ℕ) (d : A) → i < 4 → get_or (map f four) i d ≡ f i
at_server f zero d within = refl
at_server f (suc zero) d within = refl
at_server f (suc (suc zero)) d within = refl
at_server f (suc (suc (suc zero))) d within = refl
at_server f (suc (suc (suc (suc i)))) d within = absurd (omega (arith, within))

-- three bits, of which one is 1 at least, are permissions
pub some_right : (bits : ℕ) → 0 < bits → bits < 8 → is_any (perms bits) ≡ true
some_right zero some three = absurd (omega (arith, some))
some_right (suc zero) some three = refl
some_right (suc (suc zero)) some three = refl
some_right (suc (suc (suc zero))) some three = refl
some_right (suc (suc (suc (suc zero)))) some three = refl
some_right (suc (suc (suc (suc (suc zero))))) some three = refl
some_right (suc (suc (suc (suc (suc (suc zero)))))) some three = refl
some_right (suc (suc (suc (suc (suc (suc (suc zero))))))) some three = refl
some_right (suc (suc (suc (suc (suc (suc (suc (suc n)))))))) some three = absurd (omega (arith, three))
