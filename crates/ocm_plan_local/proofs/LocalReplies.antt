use Rattle.std.proofs.Common.{◌≡◌, ℕ, ◌+◌, ◌<◌, List, Bool, true, false, ◌||◌, Option, Some, None, refl, sym, ap, ◌∙◌, is_some, nat_lt, arith}
use Rattle.std.proofs.lemmas.Bool.Decides.{nat_tests}
use Rattle.ocm_types.specs.declared.letters.Offer.{Offer}
use Rattle.ocm_types.specs.declared.phases.Phase.{Phase}
use Rattle.ocm_types.specs.declared.phases.Which.TheVariants as limits
use Rattle.ocm_types.specs.declared.rights.Rights.{Rights}
use Rattle.ocm_types.specs.Rights.{is_within}
use Rattle.ocm_entry.specs.declared.asks.Ask.TheVariants as asks
use Rattle.ocm_entry.specs.declared.asks.Cmd.{Cmd}
use Rattle.ocm_entry.specs.declared.refusals.AddressField.TheVariants.{ShareWith}
use Rattle.ocm_entry.specs.declared.refusals.Why.{Why}
use Rattle.ocm_entry.specs.declared.refusals.Why.TheVariants.{Collision, NotFound, NotPermitted, OwnHost, WrongPhase}
use Rattle.ocm_entry.specs.declared.replies.Reply.{Reply}
use Rattle.ocm_entry.specs.declared.replies.Reply.TheVariants.{Done, Number}
use Rattle.ocm_entry.specs.declared.rows.Share.{Share}
use Rattle.ocm_entry.specs.declared.rows.Standing.{Standing}
use Rattle.ocm_rules.specs.Answers.{end_reply, limit_reply, limited, local_reply, may_share, phase_reply, refused, reply_in, reshare_reply, share_reply}
use Rattle.ocm_rules.specs.Offers.{is_confirmed}
use Rattle.ocm_rules.specs.State.{State, view_in}
use Rattle.ocm_rules.specs.Users.{user_of_key}

-- the reply to a command, by what the rules answer to this user
pub answered : (st : State) (key : List ℕ) (cmd : Cmd) (user : Option ℕ) (reply : Reply) → user_of_key st.users key ≡ user → local_reply (view_in st) user cmd ≡ reply → reply ≡ reply_in (view_in st) (asks.Local key cmd)
answered st key cmd user reply account e = sym (ap (λ o. local_reply (view_in st) o cmd) account ∙ e)

-- ---- the end of a share

pub end-done : (o : Option Share) (live : Bool) (share : Share) → o ≡ Some share → live ≡ true → end_reply o live ≡ Done
end-done o live share e f = rw (e, f) refl

-- ---- other permissions

-- what can't end can't be limited
pub limit-refused : (o : Option Share) (live : Bool) (perms : Rights) (full : Bool) (why : Why) → end_reply o live ≡ refused why → limit_reply o live perms full ≡ refused why
limit-refused None live perms full why e = e
limit-refused (Some share) true perms full why e = absurd (cc)
limit-refused (Some share) false perms full why e = e

pub limit-not_permitted : (o : Option Share) (live : Bool) (perms : Rights) (full : Bool) (share : Share) → o ≡ Some share → live ≡ true → is_within perms share.granted ≡ false → limit_reply o live perms full ≡ refused NotPermitted
limit-not_permitted o live perms full share e f g = rw (e, f, g) refl

pub limit-full : (o : Option Share) (live : Bool) (perms : Rights) (full : Bool) (share : Share) → o ≡ Some share → live ≡ true → is_within perms share.granted ≡ true → full ≡ true → limit_reply o live perms full ≡ limited limits.Changes
limit-full o live perms full share e f g h = rw (e, f, g, h) refl

pub limit-done : (o : Option Share) (live : Bool) (perms : Rights) (full : Bool) (share : Share) → o ≡ Some share → live ≡ true → is_within perms share.granted ≡ true → full ≡ false → limit_reply o live perms full ≡ Done
limit-done o live perms full share e f g h = rw (e, f, g, h) refl

-- there is a number left for one more limit
pub limits-left : (many : Bool) (count : ℕ) → (many || nat_lt 4294967295 (count + 1)) ≡ false → count < 4294967295
limits-left many count e = grind (arith, nat_tests)

-- one more stays within a limit
pub one-left : (most count : ℕ) → nat_lt most (count + 1) ≡ false → count < most
one-left most count e = grind (arith, nat_tests)

-- ---- a new share

pub share-own_host : (own : Bool) (standing : Option Standing) (count : ℕ) (used : Bool) → own ≡ true → share_reply own standing count used ≡ refused (OwnHost ShareWith)
share-own_host own standing count used a = rw a refl

pub share-nothing : (own : Bool) (standing : Option Standing) (count : ℕ) (used : Bool) → own ≡ false → is_some standing ≡ false → share_reply own standing count used ≡ refused NotFound
share-nothing own standing count used a b = rw (a, b) refl

pub share-full : (own : Bool) (standing : Option Standing) (count : ℕ) (used : Bool) → own ≡ false → is_some standing ≡ true → nat_lt 65536 (count + 1) ≡ true → share_reply own standing count used ≡ limited limits.Shares
share-full own standing count used a b c = rw (a, b, c) refl

pub share-used : (own : Bool) (standing : Option Standing) (count : ℕ) (used : Bool) → own ≡ false → is_some standing ≡ true → nat_lt 65536 (count + 1) ≡ false → used ≡ true → share_reply own standing count used ≡ refused Collision
share-used own standing count used a b c d = rw (a, b, c, d) refl

pub share-made : (own : Bool) (standing : Option Standing) (count : ℕ) (used : Bool) → own ≡ false → is_some standing ≡ true → nat_lt 65536 (count + 1) ≡ false → used ≡ false → share_reply own standing count used ≡ Number (count + 1)
share-made own standing count used a b c d = rw (a, b, c, d) refl

-- ---- what was received, and requests

pub phase-nothing : {X : Type 0} (o : Option X) (in_phase : Bool) → o ≡ None → phase_reply o in_phase ≡ refused NotFound
phase-nothing o in_phase e = rw e refl

pub phase-wrong : {X : Type 0} (o : Option X) (in_phase : Bool) (x : X) → o ≡ Some x → in_phase ≡ false → phase_reply o in_phase ≡ refused WrongPhase
phase-wrong o in_phase x e f = rw (e, f) refl

pub phase-done : {X : Type 0} (o : Option X) (in_phase : Bool) (x : X) → o ≡ Some x → in_phase ≡ true → phase_reply o in_phase ≡ Done
phase-done o in_phase x e f = rw (e, f) refl

pub reshare-nothing : (o : Option Offer) (phase : Phase) (rights : Rights) (asked : Option Rights) (count : ℕ) → o ≡ None → reshare_reply o phase rights asked count ≡ refused NotFound
reshare-nothing o phase rights asked count e = rw e refl

pub reshare-wrong : (o : Option Offer) (phase : Phase) (rights : Rights) (asked : Option Rights) (count : ℕ) (offer : Offer) → o ≡ Some offer → is_confirmed phase ≡ false
    → reshare_reply o phase rights asked count ≡ refused WrongPhase
reshare-wrong o phase rights asked count offer e f = rw (e, f) refl

pub reshare-not_permitted : (o : Option Offer) (phase : Phase) (rights : Rights) (asked : Option Rights) (count : ℕ) (offer : Offer) → o ≡ Some offer → is_confirmed phase ≡ true → may_share rights asked ≡ false
    → reshare_reply o phase rights asked count ≡ refused NotPermitted
reshare-not_permitted o phase rights asked count offer e f g = rw (e, f, g) refl

pub reshare-full : (o : Option Offer) (phase : Phase) (rights : Rights) (asked : Option Rights) (count : ℕ) (offer : Offer) → o ≡ Some offer → is_confirmed phase ≡ true → may_share rights asked ≡ true → nat_lt 65536 (count + 1) ≡ true
    → reshare_reply o phase rights asked count ≡ limited limits.Requests
reshare-full o phase rights asked count offer e f g h = rw (e, f, g, h) refl

pub reshare-asked : (o : Option Offer) (phase : Phase) (rights : Rights) (asked : Option Rights) (count : ℕ) (offer : Offer) → o ≡ Some offer → is_confirmed phase ≡ true → may_share rights asked ≡ true → nat_lt 65536 (count + 1) ≡ false
    → reshare_reply o phase rights asked count ≡ Number (count + 1)
reshare-asked o phase rights asked count offer e f g h = rw (e, f, g, h) refl
