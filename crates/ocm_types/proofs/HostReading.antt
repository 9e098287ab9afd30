-- A canonical host's text reads as itself, and what is read is canonical.
use Rattle.std.proofs.Common.{◌≡◌, ℕ, ◌<◌, Bool, true, false, not, cond, List, [], ◌∷◌, ◌++◌, length, map, Option, Some, None, Result, Ok, Err, refl, sym, ap, subst, ◌∙◌, arith, rules, append_assoc}
use Rattle.std.proofs.lemmas.List.{length-map}
use Rattle.std.specs.Prelude.{nat_lt, codes, is_ok, ◌&&◌}
use Rattle.std.specs.List.{list_all}
use Rattle.std.specs.Char.{to_ascii_lowercase, is_ascii_digit}
use Rattle.std.specs.Str.{bytes_eq}
use Rattle.std.specs.Str.Parse.{digits_value, ParsesUnsigned}
use Rattle.std.proofs.lemmas.Bool.{and_parts, and_from, false_from_ne_true, cond-true, not-true, lt-ltb, ltb-true, cond_both, not_from_false, true_from_ne_false}
use Rattle.std.proofs.lemmas.Bool.Decides.{nat_tests}
use Rattle.std.proofs.lemmas.Slice.Eq.{bytes_eq-Decides}
use Rattle.std.proofs.lemmas.Str.Parse.{IsNumeralModel, numerals_by_value, parse_digits}
use Rattle.ocm_types.specs.declared.address_faults.AddressFault.{AddressFault}
use Rattle.ocm_types.specs.declared.address_faults.AddressFault.TheVariants as faults
use Rattle.ocm_types.specs.Texts.{has_length}
use Rattle.ocm_types.specs.Hosts.{◌>>=◌, after_front, without_end, without_scheme, bare, cut_at_first, is_host_byte, is_written_byte, host_name_of, begins_above_zero, is_port, is_default_port, port_of, host_text, host_of, is_host_name, is_kept_port, is_host, read_as, canonical_host_of}
use Rattle.ocm_types.proofs.HostTexts.{Lacks, Lacks-from_all, Lacks-append, Lacks-between, cut_at_first-at, cut_at_first-none, host_text-cut, after_front-none, without_end-none}

-- digits are texts of ASCII digits, and write what `parse` reads
pub own : IsNumeralModel (λ ds. list_all is_ascii_digit ds ≡ true) (digits_value 10)
own = numerals_by_value _ (search rules)

-- digits that begin with one are some
pub begins_some : (digits : List ℕ) → begins_above_zero digits ≡ true → 0 < length digits
begins_some [] h = absurd cc
begins_some (d ∷ digits) h = omega arith

-- digits are read as a number of 16 bits just where they write one
pub fits_port-parse : {E : Type 0} (digits : List ℕ) (r : Result ℕ E) → ParsesUnsigned 16 10 digits r → list_all is_ascii_digit digits ≡ true → begins_above_zero digits ≡ true → is_ok r ≡ nat_lt (digits_value 10 digits) 65536
fits_port-parse {E} digits (Ok n) h all some =
    let parts = parse_digits own {E = E} 16 digits (Ok n) h all in
    sym (lt-ltb _ _ (omega (arith, parts.0.1)))
fits_port-parse {E} digits (Err e) h all some =
    let parts = parse_digits own {E = E} 16 digits (Err e) h all in
    sym (false_from_ne_true _ (λ t. parts (begins_some digits some, omega (arith, ltb-true (digits_value 10 digits) 65536 t))))

-- lower case stays
lower-same : (b : ℕ) → is_host_byte b ≡ true → to_ascii_lowercase b ≡ b
lower-same b h = grind (arith, nat_tests)

-- what is written is canonical in lower case
lower-is_host_byte : (b : ℕ) → is_written_byte b ≡ true → is_host_byte (to_ascii_lowercase b) ≡ true
lower-is_host_byte b h = grind (arith, nat_tests)

-- what is canonical may be written
written-host_byte : (b : ℕ) → is_host_byte b ≡ true → is_written_byte b ≡ true
written-host_byte b h = rw h refl

-- a canonical name stays
map-lower-same : (name : List ℕ) → list_all is_host_byte name ≡ true → map to_ascii_lowercase name ≡ name
map-lower-same [] all = refl
map-lower-same (b ∷ name) all =
    let parts = and_parts (is_host_byte b) (list_all is_host_byte name) all in
    rw (lower-same b parts.0, map-lower-same name parts.1) refl

-- a written name is canonical in lower case
map-lower-all : (name : List ℕ) → list_all is_written_byte name ≡ true → list_all is_host_byte (map to_ascii_lowercase name) ≡ true
map-lower-all [] all = refl
map-lower-all (b ∷ name) all =
    let parts = and_parts (is_written_byte b) (list_all is_written_byte name) all in
    and_from _ _ (lower-is_host_byte b parts.0) (map-lower-all name parts.1)

-- a canonical name may be written
all-written : (name : List ℕ) → list_all is_host_byte name ≡ true → list_all is_written_byte name ≡ true
all-written [] all = refl
all-written (b ∷ name) all =
    let parts = and_parts (is_host_byte b) (list_all is_host_byte name) all in
    and_from _ _ (written-host_byte b parts.0) (all-written name parts.1)

-- a canonical name reads as itself
host_name_of-same : (name : List ℕ) → is_host_name name ≡ true → host_name_of name ≡ Ok name
host_name_of-same name h =
    let parts = and_parts (has_length 1 240 name) (list_all is_host_byte name) h in
    rw (parts.0, all-written name parts.1, map-lower-same name parts.1) refl

-- the value of a test that did not fail
pub guard_ok : {A : Type 0} (b : Bool) (fault : AddressFault) (r : Result A AddressFault) (y : A) → cond b r (Err fault) ≡ Ok y → (b ≡ true) × (r ≡ Ok y)
guard_ok true fault r y e = (refl, e)
guard_ok false fault r y e = absurd cc

-- a reading without a fault
abbrev pub done : {A : Type 0} → A → Result A AddressFault
done x = Ok x

-- its value
pub ok_is : {A : Type 0} (x y : A) → done x ≡ done y → x ≡ y
ok_is x y e = cc

-- a name that is read is canonical
host_name_of-canonical : (name lower : List ℕ) → host_name_of name ≡ Ok lower → is_host_name lower ≡ true
host_name_of-canonical name lower e =
    let a = guard_ok (has_length 1 240 name) faults.HostLength (cond (list_all is_written_byte name) (Ok (map to_ascii_lowercase name)) (Err faults.HostChar)) lower e in
    let b = guard_ok (list_all is_written_byte name) faults.HostChar (Ok (map to_ascii_lowercase name)) lower a.1 in
    let same : length (map to_ascii_lowercase name) ≡ length name = length-map name to_ascii_lowercase in
    let long : has_length 1 240 (map to_ascii_lowercase name) ≡ true = rw same a.0 in
    subst (λ (n : List ℕ). is_host_name n ≡ true) (ok_is (map to_ascii_lowercase name) lower b.1) (and_from _ _ long (map-lower-all name b.0))

-- a port that is kept is read as it stands
port_of-same : (port : Option (List ℕ)) → is_kept_port port ≡ true → port_of port ≡ Ok port
port_of-same None h = refl
port_of-same (Some digits) h =
    let parts = and_parts (is_port digits) (not (is_default_port digits)) h in
    rw (parts.0, not-true _ parts.1) refl

-- what is left of a port is one that is kept
kept_is_kept : (digits : List ℕ) → is_port digits ≡ true → is_kept_port (cond (is_default_port digits) None (Some digits)) ≡ true
kept_is_kept digits h = cond_both (is_default_port digits) None (Some digits) (λ p. is_kept_port p ≡ true) (λ e. refl) (λ e. and_from _ _ h (not_from_false _ e))

-- a port that is read is one that is kept
port_of-kept : (port kept : Option (List ℕ)) → port_of port ≡ Ok kept → is_kept_port kept ≡ true
port_of-kept None kept e = subst (λ (p : Option (List ℕ)). is_kept_port p ≡ true) (ok_is None kept e) refl
port_of-kept (Some digits) kept e =
    let a = guard_ok (is_port digits) faults.Port (Ok (cond (is_default_port digits) None (Some digits))) kept e in
    subst (λ (p : Option (List ℕ)). is_kept_port p ≡ true) (ok_is (cond (is_default_port digits) None (Some digits)) kept a.1) (kept_is_kept digits a.0)

-- a name has no `:`
pub name-lacks_colon : (name : List ℕ) → is_host_name name ≡ true → Lacks 58 name
name-lacks_colon name h = Lacks-from_all 58 is_host_byte refl name (and_parts (has_length 1 240 name) (list_all is_host_byte name) h).1

-- a port is digits
pub digits_of_port : (digits : List ℕ) → is_port digits ≡ true → list_all is_ascii_digit digits ≡ true
digits_of_port digits h =
    let a = and_parts (list_all is_ascii_digit digits && begins_above_zero digits) (nat_lt (digits_value 10 digits) 65536) h in
    (and_parts (list_all is_ascii_digit digits) (begins_above_zero digits) a.0).0

-- a byte that stands in no name, in no port and is no `:` stands in no canonical text
pub host_text-lacks : (c : ℕ) → is_host_byte c ≡ false → is_ascii_digit c ≡ false → (58 ≡ c → ⊥) → (name : List ℕ) (port : Option (List ℕ)) → is_host_name name ≡ true → is_kept_port port ≡ true → Lacks c (host_text name port)
host_text-lacks c no_name no_digit no_colon name None h k = Lacks-from_all c is_host_byte no_name name (and_parts (has_length 1 240 name) (list_all is_host_byte name) h).1
host_text-lacks c no_name no_digit no_colon name (Some digits) h k =
    let port = and_parts (is_port digits) (not (is_default_port digits)) k in
    Lacks-append c name (58 ∷ digits) (Lacks-from_all c is_host_byte no_name name (and_parts (has_length 1 240 name) (list_all is_host_byte name) h).1) (no_colon, Lacks-from_all c is_ascii_digit no_digit digits (digits_of_port digits port.0))

-- the same of a canonical text as a whole
pub is_host-lacks : (c : ℕ) → is_host_byte c ≡ false → is_ascii_digit c ≡ false → (58 ≡ c → ⊥) → (text : List ℕ) → is_host text ≡ true → Lacks c text
is_host-lacks c no_name no_digit no_colon text h =
    let cut = cut_at_first 58 text in
    let parts = and_parts (is_host_name cut.0) (is_kept_port cut.1) h in
    subst (Lacks c) (host_text-cut text) (host_text-lacks c no_name no_digit no_colon cut.0 cut.1 parts.0 parts.1)

-- a front with a `/` in it stands before no such text
front_absent : (front rest text : List ℕ) → Lacks 47 text → text ≡ (front ++ 47 ∷ []) ++ rest → ⊥
front_absent front rest text lacks e = Lacks-between 47 front rest (subst (Lacks 47) (e ∙ append_assoc front (47 ∷ []) rest) lacks)

-- a text without `/` is bare
bare-same : (text : List ℕ) → Lacks 47 text → bare text ≡ text
bare-same text lacks =
    let no_http : after_front (codes "http://") text ≡ None = after_front-none (codes "http://") text (λ rest. front_absent (codes "http:/") rest text lacks) in
    let no_https : after_front (codes "https://") text ≡ None = after_front-none (codes "https://") text (λ rest. front_absent (codes "https:/") rest text lacks) in
    let no_scheme : without_scheme text ≡ text = rw (no_http, no_https) refl in
    let no_end : without_end (codes "/") text ≡ text = without_end-none (codes "/") text (λ front e. Lacks-between 47 front [] (subst (Lacks 47) e lacks)) in
    ap (without_end (codes "/")) no_scheme ∙ no_end

-- the host's text reads as itself
pub host_of-same : (text : List ℕ) → is_host text ≡ true → host_of text ≡ Ok text
host_of-same text h =
    let cut = cut_at_first 58 text in
    let parts = and_parts (is_host_name cut.0) (is_kept_port cut.1) h in
    let nothing = bare-same text (is_host-lacks 47 refl refl (λ e. omega (arith, e)) text h) in
    rw (nothing, host_name_of-same cut.0 parts.0, port_of-same cut.1 parts.1) (ap (λ (t : List ℕ). Ok t) (host_text-cut text))

-- the parts of a text that was put together
pub cut-host_text : (name : List ℕ) (port : Option (List ℕ)) → Lacks 58 name → cut_at_first 58 (host_text name port) ≡ (name, port)
cut-host_text name None lacks = cut_at_first-none 58 name lacks
cut-host_text name (Some digits) lacks = cut_at_first-at 58 name digits lacks

-- the value of a step that did not fail
pub bind_ok : {A B : Type 0} (r : Result A AddressFault) (f : A → Result B AddressFault) (y : B) → (r >>= f) ≡ Ok y → (x : A) × (r ≡ Ok x) × (f x ≡ Ok y)
bind_ok (Ok x) f y e = (x, refl, e)
bind_ok (Err fault) f y e = absurd cc

-- what is read is canonical
pub host_of-canonical : (text host : List ℕ) → host_of text ≡ Ok host → is_host host ≡ true
host_of-canonical text host e =
    let cut = cut_at_first 58 (bare text) in
    let a = bind_ok (host_name_of cut.0) (λ name. port_of cut.1 >>= λ port. Ok (host_text name port)) host e in
    let b = bind_ok (port_of cut.1) (λ port. Ok (host_text a.0 port)) host a.2 in
    let name = host_name_of-canonical cut.0 a.0 a.1 in
    let port = port_of-kept cut.1 b.0 b.1 in
    let again = cut-host_text a.0 b.0 (name-lacks_colon a.0 name) in
    let made : is_host (host_text a.0 b.0) ≡ true = rw again (and_from _ _ name port) in
    subst (λ (t : List ℕ). is_host t ≡ true) (ok_is (host_text a.0 b.0) host b.2) made

-- a canonical text is read by the strict reader
pub canonical_host_of-same : (text : List ℕ) → is_host text ≡ true → canonical_host_of text ≡ Some text
canonical_host_of-same text h =
    let same : bytes_eq text text ≡ true = (bytes_eq-Decides text text).1 refl in
    rw (host_of-same text h, same) refl

-- what was compared is the same
read_as-same : (text host : List ℕ) (r : Result (List ℕ) AddressFault) → read_as text r ≡ Some host → (host ≡ text) × (r ≡ Ok host)
read_as-same text host (Err fault) e = absurd cc
read_as-same text host (Ok read) e =
    let same : bytes_eq read text ≡ true = true_from_ne_false (bytes_eq read text) (λ f. some_is_none host (sym e ∙ rw f refl)) in
    let is : read ≡ host = some_is read host (sym (cond-true (bytes_eq read text) (Some read) None same) ∙ e) in
    (sym is ∙ (bytes_eq-Decides read text).0 same, ap (λ (t : List ℕ). Ok t) is)
  where
    some_is : (x y : List ℕ) → Some x ≡ Some y → x ≡ y
    some_is x y e = cc

    some_is_none : (x : List ℕ) → Some x ≡ None → ⊥
    some_is_none x e = cc

-- a canonical text alone is read by the strict reader, as itself
pub canonical_host_of-is : (text host : List ℕ) → canonical_host_of text ≡ Some host → (host ≡ text) × (is_host text ≡ true)
canonical_host_of-is text host e =
    let read = read_as-same text host (host_of text) e in
    (read.0, subst (λ (t : List ℕ). is_host t ≡ true) read.0 (host_of-canonical text host read.1))
