-- The rows of the format, each read as it is spelled.
use Rattle.std.proofs.Common.{◌≡◌, ℕ, List, [], ◌∷◌, ◌++◌, Ok, refl}
use Rattle.ocm_types.specs.declared.letters.Notice.{Notice}
use Rattle.ocm_types.specs.declared.letters.Notice.TheVariants as notices
use Rattle.ocm_entry.specs.declared.asks.Ask.{Ask}
use Rattle.ocm_entry.specs.declared.asks.Ask.TheVariants as asks
use Rattle.ocm_entry.specs.declared.asks.Cmd.{Cmd}
use Rattle.ocm_entry.specs.declared.asks.Cmd.TheVariants as commands
use Rattle.ocm_entry.specs.declared.asks.Method.{Method}
use Rattle.ocm_entry.specs.declared.asks.Method.TheVariants as methods
use Rattle.ocm_entry_bytes.specs.Spells.{command, offer, notice, spelling, FitsCommand, FitsOffer, FitsNotice, Fits}
use Rattle.ocm_entry_bytes.specs.Reading.{Reading, byte_at, share_at, unshare_at, limit_at, accept_at, decline_at, reshare_at, undo_at, expire_at, command_at, offer_of, offer_at, accepted_at, declined_at, unshared_at, reshare_request_at, reshare_undo_at, changed_at, notice_at, dav_of, dav_at, add_user_at, local_at, offered_at, noticed_at, settle_at, tick_at, carry_of, carry_at, ask_at}
use Rattle.ocm_entry_bytes.proofs.FieldLaws.{IsField}
use Rattle.ocm_entry_bytes.proofs.FieldKinds.{two_bytes_field, four_bytes_field, eight_bytes_field, name_field, share_name_field, provider_id_field, sender_id_field, secret_field, address_field, path_field, body_field, fresh_field, perms_field, carry_field, optional_field}
use Rattle.ocm_entry_bytes.proofs.RowLaws.{IsRow, row1, row2, row3, row4, row5, row7, tagged_row, again1, again2, again3, again4, again5, again7}

-- ---- commands

share_row : IsRow (1 ∷ []) share_at command FitsCommand
unfolding share_at
share_row = let r = row4 path_field address_field perms_field fresh_field commands.Share (1 ∷ []) command FitsCommand (λ p w r f. refl) (λ p w r f hp hw hr hf. (hp, hw, hr, hf)) in record { takes = r.takes }

unshare_row : IsRow (2 ∷ []) unshare_at command FitsCommand
unfolding unshare_at
unshare_row = let r = row1 four_bytes_field commands.Unshare (2 ∷ []) command FitsCommand (λ n. refl) (λ n h. h) in record { takes = r.takes }

limit_row : IsRow (3 ∷ []) limit_at command FitsCommand
unfolding limit_at
limit_row = let r = row2 four_bytes_field perms_field commands.Limit (3 ∷ []) command FitsCommand (λ n r. refl) (λ n r hn hr. (hn, hr)) in record { takes = r.takes }

accept_row : IsRow (4 ∷ []) accept_at command FitsCommand
unfolding accept_at
accept_row = let r = row1 four_bytes_field commands.Accept (4 ∷ []) command FitsCommand (λ n. refl) (λ n h. h) in record { takes = r.takes }

decline_row : IsRow (5 ∷ []) decline_at command FitsCommand
unfolding decline_at
decline_row = let r = row1 four_bytes_field commands.Decline (5 ∷ []) command FitsCommand (λ n. refl) (λ n h. h) in record { takes = r.takes }

reshare_row : IsRow (6 ∷ []) reshare_at command FitsCommand
unfolding reshare_at
reshare_row = let r = row3 four_bytes_field address_field (optional_field perms_field) commands.Reshare (6 ∷ []) command FitsCommand (λ n w o. refl) (λ n w o hn hw ho. (hn, hw, ho)) in record { takes = r.takes }

undo_row : IsRow (7 ∷ []) undo_at command FitsCommand
unfolding undo_at
undo_row = let r = row1 four_bytes_field commands.Undo (7 ∷ []) command FitsCommand (λ n. refl) (λ n h. h) in record { takes = r.takes }

expire_row : IsRow (8 ∷ []) expire_at command FitsCommand
unfolding expire_at
expire_row = let r = row2 four_bytes_field eight_bytes_field commands.Expire (8 ∷ []) command FitsCommand (λ n u. refl) (λ n u hn hu. (hn, hu)) in record { takes = r.takes }

abbrev command_cases : List (ℕ × Reading Cmd)
command_cases = (1, share_at) ∷ (2, unshare_at) ∷ (3, limit_at) ∷ (4, accept_at) ∷ (5, decline_at) ∷ (6, reshare_at) ∷ (7, undo_at) ∷ (8, expire_at) ∷ []

command_row : IsRow [] command_at command FitsCommand
unfolding command_at
command_row =
    let r = tagged_row [] command FitsCommand command_cases (share_row, (unshare_row, (limit_row, (accept_row, (decline_row, (reshare_row, (undo_row, (expire_row, tt)))))))) in
    record { takes = r.takes }

command_again : (c : Cmd) (rest : List ℕ) → FitsCommand c → command_at (command c ++ rest) ≡ Ok (c, rest)
unfolding command_at byte_at share_at unshare_at limit_at accept_at decline_at reshare_at undo_at expire_at
command_again (commands.Share p w r f) rest h = again4 path_field address_field perms_field fresh_field commands.Share p w r f rest h.0 h.1 h.2 h.3
command_again (commands.Unshare n) rest h = again1 four_bytes_field commands.Unshare n rest h
command_again (commands.Limit n r) rest h = again2 four_bytes_field perms_field commands.Limit n r rest h.0 h.1
command_again (commands.Accept n) rest h = again1 four_bytes_field commands.Accept n rest h
command_again (commands.Decline n) rest h = again1 four_bytes_field commands.Decline n rest h
command_again (commands.Reshare n w o) rest h = again3 four_bytes_field address_field (optional_field perms_field) commands.Reshare n w o rest h.0 h.1 h.2
command_again (commands.Undo n) rest h = again1 four_bytes_field commands.Undo n rest h
command_again commands.List rest h = absurd h
command_again (commands.Expire n u) rest h = again2 four_bytes_field eight_bytes_field commands.Expire n u rest h.0 h.1

command_field : IsField command_at command FitsCommand
command_field = record { takes = command_row.takes; again = command_again }

-- ---- offers and notifications

offer_field : IsField offer_at offer FitsOffer
unfolding offer_at
offer_field =
    let r = row7 address_field share_name_field provider_id_field address_field address_field secret_field perms_field offer_of [] offer FitsOffer
    (λ w n i o s k r. refl) (λ w n i o s k r hw hn hi ho hs hk hr. (hw, hn, hi, ho, hs, hk, hr)) in
    record {
      takes = r.takes;
      again = λ o rest h. again7 address_field share_name_field provider_id_field address_field address_field secret_field perms_field offer_of o.with o.name o.id o.owner o.sender o.secret o.perms rest h.0 h.1 h.2 h.3 h.4 h.5 h.6;
    }

accepted_row : IsRow (1 ∷ []) accepted_at notice FitsNotice
unfolding accepted_at
accepted_row =
    let r = row5 provider_id_field secret_field (optional_field address_field) (optional_field address_field) (optional_field perms_field) notices.Accepted (1 ∷ []) notice FitsNotice
    (λ i s o w p. refl) (λ i s o w p hi hs ho hw hp. (hi, hs, ho, hw, hp)) in
    record { takes = r.takes }

declined_row : IsRow (2 ∷ []) declined_at notice FitsNotice
unfolding declined_at
declined_row = let r = row2 provider_id_field secret_field notices.Declined (2 ∷ []) notice FitsNotice (λ i s. refl) (λ i s hi hs. (hi, hs)) in record { takes = r.takes }

unshared_row : IsRow (3 ∷ []) unshared_at notice FitsNotice
unfolding unshared_at
unshared_row = let r = row2 provider_id_field secret_field notices.Unshared (3 ∷ []) notice FitsNotice (λ i s. refl) (λ i s hi hs. (hi, hs)) in record { takes = r.takes }

reshare_request_row : IsRow (4 ∷ []) reshare_request_at notice FitsNotice
unfolding reshare_request_at
reshare_request_row =
    let r = row5 provider_id_field secret_field address_field sender_id_field (optional_field perms_field) notices.ReshareRequest (4 ∷ []) notice FitsNotice
    (λ i s w k p. refl) (λ i s w k p hi hs hw hk hp. (hi, hs, hw, hk, hp)) in
    record { takes = r.takes }

reshare_undo_row : IsRow (5 ∷ []) reshare_undo_at notice FitsNotice
unfolding reshare_undo_at
reshare_undo_row = let r = row2 provider_id_field secret_field notices.ReshareUndo (5 ∷ []) notice FitsNotice (λ i s. refl) (λ i s hi hs. (hi, hs)) in record { takes = r.takes }

changed_row : IsRow (6 ∷ []) changed_at notice FitsNotice
unfolding changed_at
changed_row =
    let r = row4 provider_id_field secret_field four_bytes_field perms_field notices.Changed (6 ∷ []) notice FitsNotice (λ i s n p. refl) (λ i s n p hi hs hn hp. (hi, hs, hn, hp)) in
    record { takes = r.takes }

abbrev notice_cases : List (ℕ × Reading Notice)
notice_cases = (1, accepted_at) ∷ (2, declined_at) ∷ (3, unshared_at) ∷ (4, reshare_request_at) ∷ (5, reshare_undo_at) ∷ (6, changed_at) ∷ []

notice_row : IsRow [] notice_at notice FitsNotice
unfolding notice_at
notice_row =
    let r = tagged_row [] notice FitsNotice notice_cases (accepted_row, (declined_row, (unshared_row, (reshare_request_row, (reshare_undo_row, (changed_row, tt)))))) in
    record { takes = r.takes }

notice_again : (n : Notice) (rest : List ℕ) → FitsNotice n → notice_at (notice n ++ rest) ≡ Ok (n, rest)
unfolding notice_at byte_at accepted_at declined_at unshared_at reshare_request_at reshare_undo_at changed_at
notice_again (notices.Accepted i s o w p) rest h = again5 provider_id_field secret_field (optional_field address_field) (optional_field address_field) (optional_field perms_field) notices.Accepted i s o w p rest h.0 h.1 h.2 h.3 h.4
notice_again (notices.Declined i s) rest h = again2 provider_id_field secret_field notices.Declined i s rest h.0 h.1
notice_again (notices.Unshared i s) rest h = again2 provider_id_field secret_field notices.Unshared i s rest h.0 h.1
notice_again (notices.ReshareRequest i s w k p) rest h = again5 provider_id_field secret_field address_field sender_id_field (optional_field perms_field) notices.ReshareRequest i s w k p rest h.0 h.1 h.2 h.3 h.4
notice_again (notices.ReshareUndo i s) rest h = again2 provider_id_field secret_field notices.ReshareUndo i s rest h.0 h.1
notice_again (notices.Changed i s n p) rest h = again4 provider_id_field secret_field four_bytes_field perms_field notices.Changed i s n p rest h.0 h.1 h.2 h.3

notice_field : IsField notice_at notice FitsNotice
notice_field = record { takes = notice_row.takes; again = notice_again }

-- ---- asks

put_row : IsRow (5 ∷ 1 ∷ []) (dav_of methods.Put 1048576) spelling Fits
unfolding dav_of
put_row = let r = row3 secret_field path_field (body_field 1048576) (λ s p b. asks.Dav s methods.Put p b) (5 ∷ 1 ∷ []) spelling Fits (λ s p b. refl) (λ s p b hs hp hb. (tt, hs, hp, hb)) in record { takes = r.takes }

delete_row : IsRow (5 ∷ 2 ∷ []) (dav_of methods.Delete 0) spelling Fits
unfolding dav_of
delete_row = let r = row3 secret_field path_field (body_field 0) (λ s p b. asks.Dav s methods.Delete p b) (5 ∷ 2 ∷ []) spelling Fits (λ s p b. refl) (λ s p b hs hp hb. (tt, hs, hp, hb)) in record { takes = r.takes }

mkcol_row : IsRow (5 ∷ 3 ∷ []) (dav_of methods.Mkcol 0) spelling Fits
unfolding dav_of
mkcol_row = let r = row3 secret_field path_field (body_field 0) (λ s p b. asks.Dav s methods.Mkcol p b) (5 ∷ 3 ∷ []) spelling Fits (λ s p b. refl) (λ s p b hs hp hb. (tt, hs, hp, hb)) in record { takes = r.takes }

abbrev dav_cases : List (ℕ × Reading Ask)
dav_cases = (1, dav_of methods.Put 1048576) ∷ (2, dav_of methods.Delete 0) ∷ (3, dav_of methods.Mkcol 0) ∷ []

dav_row : IsRow (5 ∷ []) dav_at spelling Fits
unfolding dav_at
dav_row = let r = tagged_row (5 ∷ []) spelling Fits dav_cases (put_row, (delete_row, (mkcol_row, tt))) in record { takes = r.takes }

add_user_row : IsRow (1 ∷ []) add_user_at spelling Fits
unfolding add_user_at
add_user_row = let r = row2 name_field fresh_field asks.AddUser (1 ∷ []) spelling Fits (λ n f. refl) (λ n f hn hf. (hn, hf)) in record { takes = r.takes }

local_row : IsRow (2 ∷ []) local_at spelling Fits
unfolding local_at
local_row = let r = row2 secret_field command_field asks.Local (2 ∷ []) spelling Fits (λ k c. refl) (λ k c hk hc. (hk, hc)) in record { takes = r.takes }

offered_row : IsRow (3 ∷ []) offered_at spelling Fits
unfolding offered_at
offered_row = let r = row1 offer_field asks.Offer (3 ∷ []) spelling Fits (λ o. refl) (λ o h. h) in record { takes = r.takes }

noticed_row : IsRow (4 ∷ []) noticed_at spelling Fits
unfolding noticed_at
noticed_row = let r = row2 notice_field fresh_field asks.Notice (4 ∷ []) spelling Fits (λ n f. refl) (λ n f hn hf. (hn, hf)) in record { takes = r.takes }

settle_row : IsRow (6 ∷ []) settle_at spelling Fits
unfolding settle_at
settle_row = let r = row3 four_bytes_field two_bytes_field (optional_field provider_id_field) asks.Settle (6 ∷ []) spelling Fits (λ n s i. refl) (λ n s i hn hs hi. (hn, hs, hi)) in record { takes = r.takes }

tick_row : IsRow (7 ∷ []) tick_at spelling Fits
unfolding tick_at
tick_row = let r = row1 eight_bytes_field asks.Tick (7 ∷ []) spelling Fits (λ c. refl) (λ c h. h) in record { takes = r.takes }

carry_row : IsRow (8 ∷ []) carry_at spelling Fits
unfolding carry_at
carry_row = let r = row4 secret_field path_field path_field carry_field carry_of (8 ∷ []) spelling Fits (λ s f t h. refl) (λ s f t h hs hf ht hh. (hs, hf, ht)) in record { takes = r.takes }

abbrev ask_cases : List (ℕ × Reading Ask)
ask_cases = (1, add_user_at) ∷ (2, local_at) ∷ (3, offered_at) ∷ (4, noticed_at) ∷ (5, dav_at) ∷ (6, settle_at) ∷ (7, tick_at) ∷ (8, carry_at) ∷ []

ask_row : IsRow [] ask_at spelling Fits
unfolding ask_at
ask_row =
    let r = tagged_row [] spelling Fits ask_cases (add_user_row, (local_row, (offered_row, (noticed_row, (dav_row, (settle_row, (tick_row, (carry_row, tt)))))))) in
    record { takes = r.takes }

dav_again : (secret : List ℕ) (method : Method) (path : List (List ℕ)) (body rest : List ℕ) → Fits (asks.Dav secret method path body) → ask_at (spelling (asks.Dav secret method path body) ++ rest) ≡ Ok (asks.Dav secret method path body, rest)
unfolding ask_at byte_at dav_at dav_of
dav_again s methods.Put p b rest h = again3 secret_field path_field (body_field 1048576) (λ x y z. asks.Dav x methods.Put y z) s p b rest h.1 h.2 h.3
dav_again s methods.Delete p b rest h = again3 secret_field path_field (body_field 0) (λ x y z. asks.Dav x methods.Delete y z) s p b rest h.1 h.2 h.3
dav_again s methods.Mkcol p b rest h = again3 secret_field path_field (body_field 0) (λ x y z. asks.Dav x methods.Mkcol y z) s p b rest h.1 h.2 h.3
dav_again s methods.Get p b rest h = absurd h.0
dav_again s methods.Head p b rest h = absurd h.0
dav_again s methods.List0 p b rest h = absurd h.0
dav_again s methods.List1 p b rest h = absurd h.0

ask_again : (a : Ask) (rest : List ℕ) → Fits a → ask_at (spelling a ++ rest) ≡ Ok (a, rest)
unfolding ask_at byte_at add_user_at local_at offered_at noticed_at settle_at tick_at carry_at
ask_again (asks.AddUser n f) rest h = again2 name_field fresh_field asks.AddUser n f rest h.0 h.1
ask_again (asks.Local k c) rest h = again2 secret_field command_field asks.Local k c rest h.0 h.1
ask_again (asks.Offer o) rest h = again1 offer_field asks.Offer o rest h
ask_again (asks.Notice n f) rest h = again2 notice_field fresh_field asks.Notice n f rest h.0 h.1
ask_again (asks.Dav s m p b) rest h = dav_again s m p b rest h
ask_again asks.Due rest h = absurd h
ask_again (asks.Settle n s i) rest h = again3 four_bytes_field two_bytes_field (optional_field provider_id_field) asks.Settle n s i rest h.0 h.1 h.2
ask_again (asks.Tick c) rest h = again1 eight_bytes_field asks.Tick c rest h
ask_again (asks.Carry s f t m o) rest h = again4 secret_field path_field path_field carry_field carry_of s f t (m, o) rest h.0 h.1 h.2 tt

pub ask_field : IsField ask_at spelling Fits
ask_field = record { takes = ask_row.takes; again = ask_again }
