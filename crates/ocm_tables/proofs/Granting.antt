use Rattle.std.proofs.Common.{◌≡◌, ℕ, List, Bool, true, false, Option, Some, None, refl, subst, if◌then◌else◌, IfSome, IsTrue}
use Rattle.std.specs.Prelude.{option_and_then, option_map}
use Rattle.std.specs.List.{list_all}
use Rattle.std.specs.Option.{option_map_or}
use Rattle.ocm_types.specs.declared.rights.Rights.{Rights}
use Rattle.ocm_entry.specs.Proper.{is_short}
use Rattle.ocm_entry.specs.declared.rows.Grant.{Grant}
use Rattle.ocm_entry.specs.declared.rows.Share.{Share}
use Rattle.ocm_entry.specs.declared.rows.User.{User}
use Rattle.ocm_rules.specs.declared.rows.ShareRow.{ShareRow}
use Rattle.ocm_rules.specs.Holders.{Guest, Nobody, grant_of, guest_of, holder_among}
use Rattle.ocm_rules.specs.Numbers.{at_number}
use Rattle.ocm_rules.specs.Shares.{share_of_secret}
use Rattle.ocm_rules.specs.Users.{user_of_key}
use Rattle.ocm_chain.specs.Lists.{effective_at, guest_at, guest_with, is_live_at, made_of}
use Rattle.ocm_tables.specs.Tables.{is_owned}
use Rattle.ocm_tables.proofs.Owned.{short-at}

-- what is granted to the guest of a share, by what it lets its guest do
abbrev pub granted : Share × Rights → Grant
granted found = record { root = record { user = found.0.owner; path = found.0.root }; rights = found.1 }

granted-share : (live : ℕ → Bool) (rights : ℕ → Rights) (i : ℕ) (is : Bool) (o : Option Share) → live i ≡ is
    → option_map granted (if is then option_map (λ (share : Share). (share, rights i)) o else None) ≡ grant_of live rights (option_map_or (Guest i) o Nobody)
granted-share live rights i true None e = refl
granted-share live rights i true (Some share) e = rw e refl
granted-share live rights i false None e = refl
granted-share live rights i false (Some share) e = rw e refl

granted-number : (moment : ℕ) (rows : List ShareRow) (o : Option ℕ)
    → option_map granted (option_and_then (guest_at moment rows) o) ≡ grant_of (is_live_at moment rows) (effective_at rows) (option_map_or (guest_of (made_of rows)) o Nobody)
granted-number moment rows None = refl
granted-number moment rows (Some i) = granted-share (is_live_at moment rows) (effective_at rows) i (is_live_at moment rows i) (at_number (made_of rows) i) refl

-- where no user has this key, the guest of a live share is granted what the share lets its guest do, and anyone else nothing
pub granted-guest : (users : List User) (moment : ℕ) (rows : List ShareRow) (secret : List ℕ) → user_of_key users secret ≡ None
    → option_map granted (guest_with moment rows secret) ≡ grant_of (is_live_at moment rows) (effective_at rows) (holder_among users (made_of rows) secret)
granted-guest users moment rows secret none = rw none (granted-number moment rows (share_of_secret (made_of rows) secret))

short-live : (is : Bool) (rights : Rights) (o : Option Share) (found : Share × Rights) → IfSome o (λ (share : Share). IsTrue (is_short share.root))
    → Some found ≡ (if is then option_map (λ (share : Share). (share, rights)) o else None) → IsTrue (is_short found.0.root)
short-live true rights None found h e = absurd (cc)
short-live true rights (Some share) found h e = let same : (share, rights) ≡ found = cc in subst (λ (f : Share × Rights). IsTrue (is_short f.0.root)) same h
short-live false rights o found h e = absurd (cc)

short-number : (users : List User) (moment : ℕ) (rows : List ShareRow) (o : Option ℕ) (found : Share × Rights) → list_all (is_owned users) rows ≡ true
    → Some found ≡ option_and_then (guest_at moment rows) o → IsTrue (is_short found.0.root)
short-number users moment rows None found owned e = absurd (cc)
short-number users moment rows (Some i) found owned e = short-live (is_live_at moment rows i) (effective_at rows i) (at_number (made_of rows) i) found (short-at users rows i owned) e

-- the root of the live share with a secret is short
pub short-guest : (users : List User) (moment : ℕ) (rows : List ShareRow) (secret : List ℕ) (found : Share × Rights) → list_all (is_owned users) rows ≡ true
    → Some found ≡ guest_with moment rows secret → IsTrue (is_short found.0.root)
short-guest users moment rows secret found owned e = short-number users moment rows (share_of_secret (made_of rows) secret) found owned e
