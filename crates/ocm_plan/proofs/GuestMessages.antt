use Rattle.std.proofs.Common.{◌≡◌, ℕ, ◌+◌, ◌<◌, List, [], ◌∷◌, ◌++◌, length, take, get_or, Option, Some, None, refl}
use Rattle.std.specs.Prelude.{filter_map, option_map, option_to_list}
use Rattle.std.specs.List.{cons_option}
use Rattle.std.proofs.lemmas.List.{take_more}
use Rattle.std.proofs.lemmas.List.Elements.{filter_map-append}
use Rattle.ocm_entry.specs.declared.rows.Share.{Share}
use Rattle.ocm_rules.specs.Numbers.{at_number}
use Rattle.ocm_rules.specs.Messages.{to_guests, unshared, changed}
use Rattle.ocm_letters.specs.declared.mailings.NewPerms.{NewPerms}
use Rattle.ocm_letters.specs.Mailings.{changed_to_guests}

cons_option-none : {Y : Type 0} (o : Option Y) → cons_option o [] ≡ option_to_list o
cons_option-none None = refl
cons_option-none (Some y) = refl

-- what is given by one item more
filter_map-more : {X Y : Type 0} (h : X → Option Y) (xs : List X) (i : ℕ) (d : X) → i < length xs → filter_map h (take (i + 1) xs) ≡ filter_map h (take i xs) ++ option_to_list (h (get_or xs i d))
filter_map-more h xs i d below = rw (take_more xs i d below, filter_map-append h (take i xs) (get_or xs i d ∷ []), cons_option-none (h (get_or xs i d))) refl

-- the messages of one more share that ended
pub unshared_to_guests-more : (ms : List Share) (ids : List ℕ) (i : ℕ) (found : Option Share) → i < length ids → found ≡ at_number ms (get_or ids i 0)
    → to_guests ms unshared (take (i + 1) ids) ≡ to_guests ms unshared (take i ids) ++ option_to_list (option_map (unshared (get_or ids i 0)) found)
unshared_to_guests-more ms ids i found below e = rw e (filter_map-more (λ id. option_map (unshared id) (at_number ms id)) ids i 0 below)

-- the same, of changed permissions
pub changed_to_guests-more : (ms : List Share) (serial : ℕ) (told : List NewPerms) (i : ℕ) (new : NewPerms) (found : Option Share) → i < length told → new ≡ get_or told i new → found ≡ at_number ms new.id
    → changed_to_guests ms serial (take (i + 1) told) ≡ changed_to_guests ms serial (take i told) ++ option_to_list (option_map (changed serial new.perms new.id) found)
changed_to_guests-more ms serial told i new found below item e =
    let step = filter_map-more (λ (n : NewPerms). option_map (changed serial n.perms n.id) (at_number ms n.id)) told i new below in
    rw (← item, ← e) at step

-- one share more
pub ruleset more_rules = (unshared_to_guests-more, changed_to_guests-more)
