use Rattle.std.proofs.Common.{◌≡◌, ℕ, List, [], ◌∷◌, Bool, true, false, refl}
use Rattle.ocm_types.specs.declared.letters.Notice.{Notice}
use Rattle.ocm_types.specs.declared.letters.Notice.TheVariants as notices
use Rattle.ocm_entry.specs.declared.asks.Ask.{Ask}
use Rattle.ocm_entry.specs.declared.asks.Ask.TheVariants as asks
use Rattle.ocm_entry.specs.declared.entries.Entry.{Entry}
use Rattle.ocm_rules.specs.History.{IsLegal}
use Rattle.ocm_law_repeats.specs.Repeats.{is_repeat, same_ask, is_for_records, would_change}
use Rattle.ocm_law_repeats.proofs.Offers.{offer-once, settled-once}
use Rattle.ocm_law_repeats.proofs.Closed.{declined-once, undo-once}
use Rattle.ocm_law_repeats.proofs.Children.{request-once}

-- whether an ask is one that another server makes, or one that tells of its answer
abbrev is_of_others : Ask → Bool
is_of_others (asks.Offer offer) = true
is_of_others (asks.Notice notice fresh) = true
is_of_others (asks.Settle number status id) = true
is_of_others _ = false

-- no ask is equal to one of this server's users
unequal : (a ask : Ask) → is_of_others ask ≡ false → same_ask a ask ≡ false
unequal (asks.Offer a) (asks.Offer offer) h = absurd (cc)
unequal (asks.Offer a) _ h = refl
unequal (asks.Notice a fresh) (asks.Notice notice other_fresh) h = absurd (cc)
unequal (asks.Notice a fresh) _ h = refl
unequal (asks.Settle number status id) (asks.Settle other_number other_status other_id) h = absurd (cc)
unequal (asks.Settle number status id) _ h = refl
unequal _ ask h = refl

-- so none of these is a repeat
no_repeat : (g : List Entry) (ask : Ask) → is_of_others ask ≡ false → is_repeat g ask ≡ false
no_repeat [] ask h = refl
no_repeat (e ∷ before) ask h = rw (unequal e.ask ask h, no_repeat before ask h) refl

not_repeated : (g : List Entry) (ask : Ask) → is_of_others ask ≡ false → is_repeat g ask ≡ true → ⊥
not_repeated g ask h repeated = let none = no_repeat g ask h in cc

-- a notice that repeats one changes nothing, but for those that are for all records with an id and a secret
notice-once : (host : List ℕ) (g : List Entry) (notice : Notice) (fresh : List ℕ) → IsLegal host g → is_repeat g (asks.Notice notice fresh) ≡ true → is_for_records (asks.Notice notice fresh) ≡ false → would_change host g (asks.Notice notice fresh) ≡ false
notice-once host g (notices.Accepted id secret owner with perms) fresh legal repeated h = refl
notice-once host g (notices.Declined id secret) fresh legal repeated h = declined-once host g id secret fresh legal repeated
notice-once host g (notices.ReshareRequest id secret with sender_id asked) fresh legal repeated h = request-once host g id secret with sender_id asked fresh legal repeated
notice-once host g (notices.ReshareUndo id secret) fresh legal repeated h = undo-once host g id secret fresh legal repeated
notice-once host g (notices.Unshared id secret) fresh legal repeated h = absurd (cc)
notice-once host g (notices.Changed id secret serial perms) fresh legal repeated h = absurd (cc)

-- a repeat changes nothing, but for those that are for all records with an id and a secret
pub repeat-once : (host : List ℕ) (g : List Entry) (ask : Ask) → IsLegal host g → is_repeat g ask ≡ true → is_for_records ask ≡ false → would_change host g ask ≡ false
repeat-once host g (asks.Offer offer) legal repeated h = offer-once host g offer legal repeated
repeat-once host g (asks.Notice notice fresh) legal repeated h = notice-once host g notice fresh legal repeated h
repeat-once host g (asks.Settle number status id) legal repeated h = settled-once host g number status status id id legal repeated
repeat-once host g (asks.AddUser name fresh) legal repeated h = absurd (not_repeated g (asks.AddUser name fresh) refl repeated)
repeat-once host g (asks.Local key cmd) legal repeated h = absurd (not_repeated g (asks.Local key cmd) refl repeated)
repeat-once host g (asks.Dav secret method path body) legal repeated h = absurd (not_repeated g (asks.Dav secret method path body) refl repeated)
repeat-once host g asks.Due legal repeated h = absurd (not_repeated g asks.Due refl repeated)
repeat-once host g (asks.Tick clock) legal repeated h = absurd (not_repeated g (asks.Tick clock) refl repeated)
repeat-once host g (asks.Carry secret from to moving overwrite) legal repeated h = absurd (not_repeated g (asks.Carry secret from to moving overwrite) refl repeated)
