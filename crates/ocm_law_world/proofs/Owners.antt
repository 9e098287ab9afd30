-- The owner of each share is a user, whose name stays.
use Rattle.std.proofs.Common.{◌≡◌, ℕ, List, [], ◌∷◌, Bool, true, refl, ap, ◌∙◌}
use Rattle.std.specs.Prelude.{Option, Some, None, is_some, option_map, option_and_then}
use Rattle.std.specs.List.{list_all}
use Rattle.std.specs.Option.{option_map_or}
use Rattle.ocm_types.specs.declared.letters.Notice.TheVariants as notices
use Rattle.ocm_types.specs.declared.rights.Rights.{Rights}
use Rattle.ocm_entry.specs.declared.asks.Ask.{Ask}
use Rattle.ocm_entry.specs.declared.asks.Ask.TheVariants as asks
use Rattle.ocm_entry.specs.declared.asks.Cmd.TheVariants as commands
use Rattle.ocm_entry.specs.declared.entries.Entry.{Entry}
use Rattle.ocm_entry.specs.declared.rows.Share.{Share}
use Rattle.ocm_entry.specs.declared.rows.User.{User}
use Rattle.ocm_rules.specs.Numbers.{added, at_number}
use Rattle.ocm_rules.specs.Users.{users, user_by, user_of_key, has_key, name_of}
use Rattle.ocm_rules.specs.Shares.{made, share_by, own_share, child_share, named, effective_among, perms_among}
use Rattle.ocm_rules.proofs.Lists.{both_pass, list_all-added, at_number-all}
use Rattle.ocm_rules.proofs.Searches.{number_of-found}
use Rattle.ocm_rules.proofs.Numbering.{at_number-more}

-- one that is there stays, with one more or none behind it
pub at_number-added : {X : Type 0} (xs : List X) (o : Option X) (i : ℕ) (x : X) → at_number xs i ≡ Some x → at_number (added xs o) i ≡ Some x
at_number-added xs None i x h = h
at_number-added xs (Some y) i x h = at_number-more xs (y ∷ []) i x h

is_some-added : {X : Type 0} (xs : List X) (o : Option X) (i : ℕ) → is_some (at_number xs i) ≡ true → at_number (added xs o) i ≡ at_number xs i
is_some-added xs o i h = by_case (at_number xs i) refl h
  where
    by_case : (found : Option _) → at_number xs i ≡ found → is_some found ≡ true → at_number (added xs o) i ≡ found
    by_case None e k = absurd (cc)
    by_case (Some x) e k = at_number-added xs o i x e

-- whether the owner of a share is among these users
abbrev pub has_owner : List User → Share → Bool
has_owner us share = is_some (at_number us share.owner)

-- the user whose key it is is there
key-there : (us : List User) (key : List ℕ) (owner : ℕ) → user_of_key us key ≡ Some owner → is_some (at_number us owner) ≡ true
key-there us key owner h = let found = number_of-found (has_key key) us owner h in let there = found.1 in rw there refl

-- the owner of a share that an ask makes is there
new-owner : (host : List ℕ) (us : List User) (ms : List Share) (rights : ℕ → Rights) (ask : Ask) → list_all (has_owner us) ms ≡ true → option_map_or (has_owner us) (share_by host us ms rights ask) true ≡ true
new-owner host us ms rights (asks.Local key (commands.Share path with perms fresh)) h = by_user (user_of_key us key) refl
  where
    by_user : (o : Option ℕ) → user_of_key us key ≡ o → option_map_or (has_owner us) (option_map (λ owner. own_share host us owner path with perms fresh) o) true ≡ true
    by_user None e = refl
    by_user (Some owner) e = key-there us key owner e
new-owner host us ms rights (asks.Notice (notices.ReshareRequest id secret with sender_id asked) fresh) h = by_number (named id)
  where
    by_parent : (number : ℕ) (o : Option Share) → option_map_or (has_owner us) o true ≡ true → option_map_or (has_owner us) (option_map (λ (parent : Share). child_share number parent (rights number) with sender_id asked fresh) o) true ≡ true
    by_parent number None k = refl
    by_parent number (Some parent) k = k

    by_number : (o : Option ℕ) → option_map_or (has_owner us) (option_and_then (λ number. option_map (λ (parent : Share). child_share number parent (rights number) with sender_id asked fresh) (at_number ms number)) o) true ≡ true
    by_number None = refl
    by_number (Some number) = by_parent number (at_number ms number) (at_number-all (has_owner us) ms h number)
new-owner host us ms rights _ h = refl

-- with one user more, all owners are there still
all-owners : (us : List User) (o : Option User) (ms : List Share) → list_all (has_owner us) ms ≡ true → list_all (has_owner (added us o)) ms ≡ true
all-owners us o [] h = refl
all-owners us o (m ∷ ms) h =
    let both = both_pass (has_owner us m) (list_all (has_owner us) ms) h in
    let first : has_owner (added us o) m ≡ true = ap is_some (is_some-added us o m.owner both.0) ∙ both.0 in
    rw (first, all-owners us o ms both.1) refl

-- the owners of all shares are users
pub owners-there : (host : List ℕ) (g : List Entry) → list_all (has_owner (users g)) (made host g) ≡ true
owners-there host [] = refl
owners-there host (e ∷ before) =
    let older = owners-there host before in
    all-owners (users before) (user_by e.ask e.reply) (made host (e ∷ before))
    (list_all-added (has_owner (users before)) (made host before) _ older (new-owner host (users before) (made host before) (effective_among (made host before) (perms_among (made host before) before)) e.ask older))

-- the name of a user who is there stays
pub name-stays : (us : List User) (o : Option User) (number : ℕ) → is_some (at_number us number) ≡ true → name_of (added us o) number ≡ name_of us number
name-stays us o number h = ap (λ found. option_map_or (λ (u : User). u.name) found []) (is_some-added us o number h)
