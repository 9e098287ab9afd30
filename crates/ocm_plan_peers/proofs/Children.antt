use Rattle.std.proofs.Common.{◌≡◌, ℕ, ◌+◌, ◌<◌, List, [], ◌∷◌, length, Bool, true, false, ◌&&◌, ◌||◌, Option, Some, None, refl, sym, ap, ◌∙◌, subst, arith, nat_lt, option_map, unwrap_or}
use Rattle.std.specs.Prelude.{IsSome, IsTrue}
use Rattle.std.specs.Option.{option_map_or}
use Rattle.std.proofs.lemmas.Bool.Decides.{nat_tests}
use Rattle.std.proofs.lemmas.List.{length-map}
use Rattle.ocm_texts.specs.Hex.{hex}
use Rattle.ocm_types.specs.declared.addresses.Address.{Address}
use Rattle.ocm_types.specs.declared.letters.Notice.TheVariants as notices
use Rattle.ocm_types.specs.declared.rights.Rights.{Rights}
use Rattle.ocm_types.specs.Rights.{is_any}
use Rattle.ocm_entry.specs.Proper.{is_short}
use Rattle.ocm_entry.specs.declared.asks.Ask.TheVariants.{Notice}
use Rattle.ocm_entry.specs.declared.replies.Reply.{Reply}
use Rattle.ocm_entry.specs.declared.replies.Reply.TheVariants.{Child}
use Rattle.ocm_entry.specs.declared.refusals.Why.TheVariants.{SenderIdReused}
use Rattle.ocm_entry.specs.declared.rows.Share.{Share}
use Rattle.ocm_entry.specs.declared.rows.User.{User}
use Rattle.ocm_rules.specs.declared.rows.Message.{Message}
use Rattle.ocm_rules.specs.declared.rows.ShareRow.{ShareRow}
use Rattle.ocm_rules.specs.Numbers.{at_number}
use Rattle.ocm_rules.specs.Equal.{same_address, same_asked}
use Rattle.ocm_rules.specs.Users.{name_of}
use Rattle.ocm_rules.specs.Shares.{child_share, is_used, named}
use Rattle.ocm_rules.specs.Answers.{refused, repeated_reply}
use Rattle.ocm_rules.specs.Views.{effective_in}
use Rattle.ocm_rules.specs.Messages.{offered}
use Rattle.ocm_rules.specs.State.{State, step, view_in}
use Rattle.ocm_letters.specs.Letters.{offered_from}
use Rattle.ocm_letters.specs.Rows.{child_share_from}
use Rattle.ocm_tables.specs.declared.changes.TableChange.TheVariants as changes
use Rattle.ocm_tables.specs.Changes.{FitsShare, changed}
use Rattle.ocm_rules_steps.proofs.NoticeSteps.{child-step}
use Rattle.ocm_plan_peers.proofs.ListRows.{row-part}

-- ---- a request that was made before

pub repeated-same : (n : ℕ) (o : Option Share) (with : Address) (asked : Option Rights) → option_map_or (λ (share : Share). same_address share.with with && same_asked share.asked asked) o false ≡ true → Child n ≡ repeated_reply n o with asked
repeated-same n None with asked e = absurd (cc)
repeated-same n (Some share) with asked e = rw e refl

pub repeated-other : (n : ℕ) (o : Option Share) (with : Address) (asked : Option Rights) → option_map_or (λ (share : Share). same_address share.with with && same_asked share.asked asked) o false ≡ false → refused SenderIdReused ≡ repeated_reply n o with asked
repeated-other n None with asked e = refl
repeated-other n (Some share) with asked e = rw e refl

-- ---- what a child grants

or-true : (b : Bool) → (b || true) ≡ true
or-true true = refl
or-true false = refl

-- rights to share are rights
pub share-any : (rights : Rights) → rights.share ≡ true → is_any rights ≡ true
share-any rights e = rw e (or-true (rights.read || rights.write))

-- ---- the child

-- the name of the user of a number
pub name-found : (users : List User) (owner : ℕ) (user : User) → at_number users owner ≡ Some user → user.name ≡ name_of users owner
name-found users owner user e = sym (ap (λ (o : Option User). option_map_or (λ (u : User). u.name) o []) e)

-- the child stands behind the other shares, and is offered
pub child-makes : (st : State) (id mark : List ℕ) (with : Address) (sender_id : List ℕ) (asked : Option Rights) (fresh : List ℕ) (reply : Reply) (parent : ℕ) (above : Share) (owner : User) (granted : Rights) (secret : List ℕ) (share : Share) (sent : List Message)
    → named id ≡ Some parent → at_number (view_in st).shares parent ≡ Some above → at_number st.users above.owner ≡ Some owner
    → granted ≡ unwrap_or asked (effective_in (view_in st) parent) → secret ≡ hex fresh
    → share ≡ child_share_from parent above granted with sender_id asked secret
    → sent ≡ offered_from st.host owner.name (length st.shares + 1) share ∷ []
    → changed st (changes.AddShare share) sent ≡ step st (Notice (notices.ReshareRequest id mark with sender_id asked) fresh) reply
child-makes st id mark with sender_id asked fresh reply parent above owner granted secret share sent is_named there owned grants drawn made offer =
    let child = child_share parent above (effective_in (view_in st) parent) with sender_id asked fresh in
    let is_child : share ≡ child = made ∙ (ap (λ (g : Rights). child_share_from parent above g with sender_id asked secret) grants ∙ ap (λ (s : List ℕ). child_share_from parent above (unwrap_or asked (effective_in (view_in st) parent)) with sender_id asked s) drawn) in
    let named_owner = name-found st.users above.owner owner owned in
    let offers : sent ≡ offered (view_in st) (length st.shares + 1) child ∷ [] = offer ∙ (ap (λ (name : List ℕ). offered_from st.host name (length st.shares + 1) share ∷ []) named_owner ∙ ap (λ (s : Share). offered_from st.host (name_of st.users above.owner) (length st.shares + 1) s ∷ []) is_child) in
    ap (λ (s : Share). changed st (changes.AddShare s) sent) is_child
    ∙ (ap (λ (messages : List Message). changed st (changes.AddShare child) messages) offers ∙ sym (child-step st id mark with sender_id asked fresh reply parent above is_named there))

part-there : {X Y : Type 0} (f : X → Y) (o : Option X) → IsSome (option_map f o) → IsSome o
part-there f None e = absurd (cc)
part-there f (Some x) e = refl

-- there is a share where it has a row
pub share-row : (st : State) (n : ℕ) → IsSome (at_number (view_in st).shares n) → IsSome (at_number st.shares n)
share-row st n h = part-there (λ (row : ShareRow). row.share) (at_number st.shares n) (rw (← row-part (λ (row : ShareRow). row.share) st.shares n) h)

-- the child keeps to the rules
pub child-fits : (st : State) (parent : ℕ) (above : Share) (owner : User) (granted : Rights) (with : Address) (sender_id : List ℕ) (asked : Option Rights) (secret : List ℕ) (share : Share)
    → length st.shares < 65536 → is_used st.users (view_in st).shares secret ≡ false → IsSome (at_number (view_in st).shares parent) → at_number st.users above.owner ≡ Some owner → IsTrue (is_short above.root)
    → share ≡ child_share_from parent above granted with sender_id asked secret → FitsShare st share
child-fits st parent above owner granted with sender_id asked secret share few unused there owned short made =
    let P : Share → Type 0 = λ s. FitsShare st s in
    subst P (sym made) (record {
      few = few;
      secret = unused;
      parent = share-row st parent there;
      owner = rw owned refl;
      root = short;
    })

-- there is one share more
pub grows : (st : State) (n : ℕ) → n ≡ length st.shares → nat_lt (length (view_in st).shares) (n + 1) ≡ true
grows st n e = rw length-map (grind (arith, nat_tests))
