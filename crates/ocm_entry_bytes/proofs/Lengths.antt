-- How long spellings are.
use Rattle.std.proofs.Common.{ℕ, ◌+◌, ◌^◌, ◌<◌, ◌≤◌, Bool, List, ◌∷◌, ◌++◌, length, Option, Some, None, IfSome, subst, sym, arith}
use Rattle.std.proofs.lemmas.List.{length-append}
use Rattle.ocm_types.specs.declared.addresses.Address.{Address}
use Rattle.ocm_types.specs.declared.rights.Rights.{Rights}
use Rattle.ocm_types.specs.declared.letters.Offer.{Offer}
use Rattle.ocm_types.specs.declared.letters.Notice.{Notice}
use Rattle.ocm_types.specs.declared.letters.Notice.TheVariants as notices
use Rattle.ocm_types.specs.Addresses.{address_text}
use Rattle.ocm_entry.specs.declared.asks.Ask.{Ask}
use Rattle.ocm_entry.specs.declared.asks.Ask.TheVariants as asks
use Rattle.ocm_entry.specs.declared.asks.Cmd.{Cmd}
use Rattle.ocm_entry.specs.declared.asks.Cmd.TheVariants as commands
use Rattle.ocm_entry.specs.declared.asks.Method.{Method}
use Rattle.ocm_entry.specs.declared.asks.Method.TheVariants as methods
use Rattle.ocm_entry_bytes.specs.Spells.{two_bytes, four_bytes, eight_bytes, text, counted, rights, optional, carry_byte, command, offer, notice, method_byte, most_of, spelling, IsOwnText, IsAddress, IsPerms, IsFresh, FitsCommand, FitsOffer, FitsNotice, Fits, Spells}

-- at most so many bytes
record Within (bytes : List ℕ) (most : ℕ) : Type 0 where
  pub len : length bytes ≤ most

behind : {a b : List ℕ} {m n : ℕ} → Within a m → Within b n → Within (a ++ b) (m + n)
behind {a} {b} ha hb = let e = length-append a b in record { len = omega arith }

tag : (k : ℕ) {a : List ℕ} {m : ℕ} → Within a m → Within (k ∷ a) (m + 1)
tag k {a} {m} h = let le : length a ≤ m = h.len in record { len = omega arith }

wider : {a : List ℕ} {m n : ℕ} → Within a m → m ≤ n → Within a n
wider h le = record { len = omega arith }

two_within : (n : ℕ) → Within (two_bytes n) 2
unfolding two_bytes
two_within n = record { len = omega arith }

four_within : (n : ℕ) → Within (four_bytes n) 4
unfolding four_bytes
four_within n = record { len = omega arith }

eight_within : (n : ℕ) → Within (eight_bytes n) 8
unfolding eight_bytes
eight_within n = record { len = omega arith }

text_within : {A : Type 0} {read : List ℕ → Option A} {own_text : A → List ℕ} {v : A} → IsOwnText read own_text v → Within (text (own_text v)) 65537
unfolding text
text_within {own_text = own_text} {v = v} held =
    let short : length (own_text v) < 2 ^ 16 = held.short in
    let bytes : Within (own_text v) 65535 = record { len = omega arith } in
    behind (two_within (length (own_text v))) bytes

counted_within : (body : List ℕ) → length body ≤ 1048576 → Within (counted body) 1048580
unfolding counted
counted_within body le =
    let bytes : Within body 1048576 = record { len = le } in
    behind (four_within (length body)) bytes

rights_within : (r : Rights) → Within (rights r) 1
unfolding rights
rights_within r = record { len = omega arith }

carry_within : (moving overwrite : Bool) → Within (carry_byte moving overwrite) 1
unfolding carry_byte
carry_within moving overwrite = record { len = omega arith }

fresh_within : (f : List ℕ) → IsFresh f → Within f 16
fresh_within f h = record { len = omega arith }

optional_within : {A : Type 0} {Holds : A → Type 0} (spell : A → List ℕ) (most : ℕ) → ((v : A) → Holds v → Within (spell v) most) → (o : Option A) → IfSome o Holds → Within (optional spell o) (most + 1)
unfolding optional
optional_within spell most each None h = record { len = omega arith }
optional_within spell most each (Some v) h = tag 1 (each v h)

optional_rights : (o : Option Rights) → IfSome o IsPerms → Within (optional rights o) 2
optional_rights o h = optional_within rights 1 (λ r held. rights_within r) o h

optional_address : (o : Option Address) → IfSome o IsAddress → Within (optional (λ a. text (address_text a)) o) 65538
optional_address o h = optional_within (λ a. text (address_text a)) 65537 (λ a held. text_within held) o h

command_within : (c : Cmd) → FitsCommand c → Within (command c) 200000
command_within (commands.Share path with perms fresh) h = wider (behind (behind (behind (tag 1 (text_within h.0)) (text_within h.1)) (rights_within perms)) (fresh_within fresh h.3)) (omega arith)
command_within (commands.Unshare id) h = wider (tag 2 (four_within id)) (omega arith)
command_within (commands.Limit id perms) h = wider (behind (tag 3 (four_within id)) (rights_within perms)) (omega arith)
command_within (commands.Accept number) h = wider (tag 4 (four_within number)) (omega arith)
command_within (commands.Decline number) h = wider (tag 5 (four_within number)) (omega arith)
command_within (commands.Reshare number with perms) h = wider (behind (behind (tag 6 (four_within number)) (text_within h.1)) (optional_rights perms h.2)) (omega arith)
command_within (commands.Undo request) h = wider (tag 7 (four_within request)) (omega arith)
command_within commands.List h = absurd h
command_within (commands.Expire id until) h = wider (behind (tag 8 (four_within id)) (eight_within until)) (omega arith)

offer_within : (o : Offer) → FitsOffer o → Within (offer o) 400000
offer_within o h =
    wider (behind (behind (behind (behind (behind (behind (text_within h.0) (text_within h.1)) (text_within h.2)) (text_within h.3)) (text_within h.4)) (text_within h.5)) (rights_within o.perms)) (omega arith)

notice_within : (n : Notice) → FitsNotice n → Within (notice n) 400000
notice_within (notices.Accepted id secret owner with perms) h =
    wider (behind (behind (behind (behind (tag 1 (text_within h.0)) (text_within h.1)) (optional_address owner h.2)) (optional_address with h.3)) (optional_rights perms h.4)) (omega arith)
notice_within (notices.Declined id secret) h = wider (behind (tag 2 (text_within h.0)) (text_within h.1)) (omega arith)
notice_within (notices.Unshared id secret) h = wider (behind (tag 3 (text_within h.0)) (text_within h.1)) (omega arith)
notice_within (notices.ReshareRequest id secret with sender_id perms) h =
    wider (behind (behind (behind (behind (tag 4 (text_within h.0)) (text_within h.1)) (text_within h.2)) (text_within h.3)) (optional_rights perms h.4)) (omega arith)
notice_within (notices.ReshareUndo id secret) h = wider (behind (tag 5 (text_within h.0)) (text_within h.1)) (omega arith)
notice_within (notices.Changed id secret serial perms) h = wider (behind (behind (behind (tag 6 (text_within h.0)) (text_within h.1)) (four_within serial)) (rights_within perms)) (omega arith)

most_within : (method : Method) (body : List ℕ) → length body ≤ most_of method → length body ≤ 1048576
most_within methods.Put body h = h
most_within methods.Delete body h = omega arith
most_within methods.Mkcol body h = omega arith
most_within methods.Get body h = omega arith
most_within methods.Head body h = omega arith
most_within methods.List0 body h = omega arith
most_within methods.List1 body h = omega arith

spelling_within : (a : Ask) → Fits a → Within (spelling a) 1200000
spelling_within (asks.AddUser name fresh) h = wider (behind (tag 1 (text_within h.0)) (fresh_within fresh h.1)) (omega arith)
spelling_within (asks.Local key cmd) h = wider (behind (tag 2 (text_within h.0)) (command_within cmd h.1)) (omega arith)
spelling_within (asks.Offer o) h = wider (tag 3 (offer_within o h)) (omega arith)
spelling_within (asks.Notice n fresh) h = wider (behind (tag 4 (notice_within n h.0)) (fresh_within fresh h.1)) (omega arith)
spelling_within (asks.Dav secret method path body) h =
    wider (behind (behind (tag 5 (tag (method_byte method) (text_within h.1))) (text_within h.2)) (counted_within body (most_within method body h.3.0))) (omega arith)
spelling_within asks.Due h = absurd h
spelling_within (asks.Settle number status id) h =
    wider (behind (behind (tag 6 (four_within number)) (two_within status)) (optional_within text 65537 (λ v held. text_within held) id h.2)) (omega arith)
spelling_within (asks.Tick clock) h = wider (tag 7 (eight_within clock)) (omega arith)
spelling_within (asks.Carry secret from to moving overwrite) h =
    wider (behind (behind (behind (tag 8 (text_within h.0)) (text_within h.1)) (text_within h.2)) (carry_within moving overwrite)) (omega arith)

spelling_some : (a : Ask) → Fits a → 0 < length (spelling a)
spelling_some (asks.AddUser name fresh) h = omega arith
spelling_some (asks.Local key cmd) h = omega arith
spelling_some (asks.Offer o) h = omega arith
spelling_some (asks.Notice n fresh) h = omega arith
spelling_some (asks.Dav secret method path body) h = omega arith
spelling_some asks.Due h = absurd h
spelling_some (asks.Settle number status id) h = omega arith
spelling_some (asks.Tick clock) h = omega arith
spelling_some (asks.Carry secret from to moving overwrite) h = omega arith

pub spelled_len : (a : Ask) (bytes : List ℕ) → Spells a bytes → (0 < length bytes) × (length bytes ≤ 1200000)
spelled_len a bytes spells =
    subst (λ (l : List ℕ). (0 < length l) × (length l ≤ 1200000)) (sym spells.text) (spelling_some a spells.fits, (spelling_within a spells.fits).len)
