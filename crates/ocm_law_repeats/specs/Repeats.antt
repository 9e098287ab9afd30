use Rattle.std.specs.Prelude.{ℕ, List, [], ◌∷◌, length, nat_eq, nat_lt, Bool, true, false, not, ◌&&◌, if◌then◌else◌, Option, Some, None}
use Rattle.std.specs.List.{list_any}
use Rattle.std.specs.Option.{option_map_or}
use Rattle.ocm_types.specs.declared.letters.Notice.{Notice}
use Rattle.ocm_types.specs.declared.letters.Notice.TheVariants as notices
use Rattle.ocm_types.specs.declared.phases.Phase.TheVariants.{Removed}
use Rattle.ocm_types.specs.declared.rights.Rights.{Rights}
use Rattle.ocm_entry.specs.declared.asks.Ask.{Ask}
use Rattle.ocm_entry.specs.declared.asks.Ask.TheVariants as asks
use Rattle.ocm_entry.specs.declared.replies.Reply.{Reply}
use Rattle.ocm_entry.specs.declared.replies.Reply.TheVariants.{Recipient, Noticed, Child, Done}
use Rattle.ocm_entry.specs.declared.entries.Entry.{Entry}
use Rattle.ocm_rules.specs.declared.rows.Told.{Told}
use Rattle.ocm_rules.specs.Numbers.{same_text, at_number}
use Rattle.ocm_rules.specs.Equal.{same_address, same_rights, same_asked, same_offer}
use Rattle.ocm_rules.specs.Offers.{offers, is_of, is_declined, told}
use Rattle.ocm_rules.specs.Views.{View}
use Rattle.ocm_rules.specs.History.{kept, changes, answer}

-- ---- equal asks

-- whether the same was given, or nothing both times
abbrev pub same_given : {X : Type 0} → (X → X → Bool) → Option X → Option X → Bool
same_given same None None = true
same_given same (Some a) (Some b) = same a b
same_given same _ _ = false

-- whether two notices are equal in each field
abbrev pub same_notice : Notice → Notice → Bool
same_notice (notices.Accepted id secret owner with perms) (notices.Accepted other_id other_secret other_owner other_with other_perms) =
    same_text id other_id && same_text secret other_secret && same_given same_address owner other_owner && same_given same_address with other_with && same_asked perms other_perms
same_notice (notices.Declined id secret) (notices.Declined other_id other_secret) = same_text id other_id && same_text secret other_secret
same_notice (notices.Unshared id secret) (notices.Unshared other_id other_secret) = same_text id other_id && same_text secret other_secret
same_notice (notices.ReshareRequest id secret with sender_id asked) (notices.ReshareRequest other_id other_secret other_with other_sender_id other_asked) =
    same_text id other_id && same_text secret other_secret && same_address with other_with && same_text sender_id other_sender_id && same_asked asked other_asked
same_notice (notices.ReshareUndo id secret) (notices.ReshareUndo other_id other_secret) = same_text id other_id && same_text secret other_secret
same_notice (notices.Changed id secret serial perms) (notices.Changed other_id other_secret other_serial other_perms) =
    same_text id other_id && same_text secret other_secret && nat_eq serial other_serial && same_rights perms other_perms
same_notice _ _ = false

-- whether two offers, notices or settlements are equal in each field, drawn bytes aside
abbrev pub same_ask : Ask → Ask → Bool
same_ask (asks.Offer offer) (asks.Offer other_offer) = same_offer offer other_offer
same_ask (asks.Notice notice fresh) (asks.Notice other_notice other_fresh) = same_notice notice other_notice
same_ask (asks.Settle number status id) (asks.Settle other_number other_status other_id) = nat_eq number other_number && nat_eq status other_status && same_given same_text id other_id
same_ask _ _ = false

-- ---- repeats

-- whether a reply tells that an offer, a notice or a settlement was taken
abbrev pub was_taken : Reply → Bool
was_taken (Recipient user) = true
was_taken Noticed = true
was_taken (Child n) = true
was_taken Done = true
was_taken _ = false

-- whether an entry answers an equal ask, drawn bytes aside, with such a reply
abbrev pub answers_equal : (Reply → Bool) → Ask → Entry → Bool
answers_equal is_such ask e = same_ask e.ask ask && is_such e.reply

-- whether an entry of a history does
abbrev pub was_answered : (Reply → Bool) → List Entry → Ask → Bool
was_answered is_such g ask = list_any (answers_equal is_such ask) g

-- whether an ask repeats one that was taken
abbrev pub is_repeat : List Entry → Ask → Bool
is_repeat g ask = was_answered was_taken g ask

-- whether a reply names the share of this number
abbrev pub is_child : ℕ → Reply → Bool
is_child n (Child m) = nat_eq m n
is_child n _ = false

-- the entry of an ask that is made after a history
abbrev pub entry_of : List ℕ → List Entry → Ask → Entry
entry_of host g ask = record { ask = ask; reply = answer host g ask }

-- whether an ask would change something after a history
abbrev pub would_change : List ℕ → List Entry → Ask → Bool
would_change host g ask = changes host (kept host g) (entry_of host g ask)

-- whether an ask speaks of all records with an id and a secret: that they are shared no more, or that they have other permissions
abbrev pub is_for_records : Ask → Bool
is_for_records (asks.Notice (notices.Unshared id secret) fresh) = true
is_for_records (asks.Notice (notices.Changed id secret serial perms) fresh) = true
is_for_records _ = false

-- ---- records that came after the entry that is repeated

-- how many offers had been received before the last entry that an ask repeats, and 0 where it repeats none
abbrev pub received_before : List ℕ → Ask → List Entry → ℕ
received_before host ask [] = 0
received_before host ask (e ∷ before) = if answers_equal was_taken ask e then length (offers (kept host before)) else received_before host ask before

-- whether the record of this number has this id and this secret, and was first received after the last entry that an ask repeats
abbrev pub is_later_record : List ℕ → List Entry → Ask → List ℕ → List ℕ → ℕ → Bool
is_later_record host g ask id secret n =
    nat_lt (received_before host ask g) n && option_map_or (is_of id secret) (at_number (offers (kept host g)) n) false

-- whether the record of this number is such a one that an Unshared with this id and this secret removes: it is not declined
abbrev pub is_removable : List ℕ → List Entry → List ℕ → List ℕ → List ℕ → ℕ → Bool
is_removable host g id secret fresh n =
    is_later_record host g (asks.Notice (notices.Unshared id secret) fresh) id secret n && not (is_declined (kept host g) n)

-- whether the record of this number is such a one to which a Changed tells something: what was told of it before has a lower serial
abbrev pub is_behind : List ℕ → List Entry → List ℕ → List ℕ → ℕ → Rights → List ℕ → ℕ → Bool
is_behind host g id secret serial perms fresh n =
    is_later_record host g (asks.Notice (notices.Changed id secret serial perms) fresh) id secret n && nat_lt (told (kept host g) n).serial serial

-- what is read of a history, but that these records are removed
abbrev pub with_removed : View → (ℕ → Bool) → View
with_removed v removed = record v { phase = λ n. if removed n then Removed else v.phase n }

-- what is read of a history, but that the guests of these records were told this
abbrev pub with_told : View → (ℕ → Bool) → Told → View
with_told v heard news = record v { told = λ n. if heard n then news else v.told n }
