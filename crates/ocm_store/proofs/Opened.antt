-- What a store stands for once its disk is loaded.
use Rattle.std.proofs.Common.{◌≡◌, ◌⊎◌, inl, inr, ⊎_elim, ℕ, suc, ◌+◌, ◌<◌, ◌≤◌, List, [], ◌∷◌, ◌++◌, length, decimal, true, refl, sym, ap, ◌∙◌, subst, arith, Option, Some, None, Result, Ok, Err}
use Rattle.std.specs.Prelude.{nat_le, IfErr, IfOk, IfSome, IsSome}
use Rattle.std.specs.List.{list_all}
use Rattle.std.specs.Result.{result_ok}
use Rattle.std.specs.Option.{option_map_or}
use Rattle.std.proofs.lemmas.List.{length-append}
use Rattle.std.proofs.lemmas.Fmt.{length-decimal-le}
use Rattle.std.proofs.lemmas.Bool.{and_parts}
use Rattle.std.proofs.lemmas.Bool.Decides.{nat_tests}
use Rattle.ocm_types.specs.Hosts.{HasPort, colon, is_host, is_host_byte, is_host_name}
use Rattle.ocm_types.specs.Texts.{has_length}
use Rattle.ocm_types.proofs.HostPorts.{hosts_only}
use Rattle.ocm_disk.specs.Disk.{LeavesOnly}
use Rattle.ocm_disk.specs.declared.disk.Disk.{Ghosts}
use Rattle.ocm_entry.specs.declared.entries.Entry.{Entry}
use Rattle.ocm_journal_image.specs.declared.blanks.Blank.{Blank}
use Rattle.ocm_journal_image.specs.declared.readings.Image.{Image}
use Rattle.ocm_journal_image.specs.declared.readings.RawRecord.{RawRecord}
use Rattle.ocm_journal_image.specs.Blank.{blank_of}
use Rattle.ocm_journal_image.specs.Layout.{IsImage, IsLabel, contents}
use Rattle.ocm_journal_image.specs.Reading.{header_of}
use Rattle.ocm_journal_image.proofs.ImageRead.{image_read}
use Rattle.ocm_journal_image.proofs.OneImage.{blank_is_none}
use Rattle.ocm_journal.specs.declared.faults.OpenFault.{OpenFault}
use Rattle.ocm_journal.specs.declared.faults.OpenFault.TheVariants as faults
use Rattle.ocm_journal.specs.declared.journal.Journal.{Journal}
use Rattle.ocm_journal.specs.Journals as journals
use Rattle.ocm_journal.specs.Journals.{StandsFor}
use Rattle.ocm_journal.specs.Openings.{IsMadeAs, Opens, StaysAsItOpens, opening}
use Rattle.ocm_journal.specs.Openings as openings
use Rattle.ocm_journal.specs.Passing as passing
use Rattle.ocm_rules.specs.History.{IsLegal}
use Rattle.ocm_history_records.specs.declared.faults.ReplayFault.{ReplayFault}
use Rattle.ocm_history_records.specs.declared.faults.ReplayFault.TheVariants as replays
use Rattle.ocm_history.specs.declared.histories.History.{History}
use Rattle.ocm_history.specs.Histories.{IsOf, home_of}
use Rattle.ocm_history.specs.Replays.{IsMemoryOf, IsReplayFault}
use Rattle.ocm_law_sessions.specs.Readings.{opened, refused_at}
use Rattle.ocm_law_sessions.specs.Written.{IsSpelled}
use Rattle.ocm_law_sessions.proofs.Entries.{answered-legal}
use Rattle.ocm_law_sessions.proofs.Opening.{opened-answered}
use Rattle.ocm_store.specs.declared.load_faults.LoadFault.{LoadFault}
use Rattle.ocm_store.specs.declared.load_faults.LoadFault.TheVariants as loads
use Rattle.ocm_store.specs.declared.stores.Store.{Store}
use Rattle.ocm_store.specs.Opening.{IsNoDiskFault, IsOfArea, IsRefused, IsSaidBy, OpensAlike, OpensTo, as_load_fault, live_form, loading, of_replay, replayed, unless_refused}
use Rattle.ocm_store.specs.Stores.{IsLegalUnder, IsWritten, LeavesNext, Stands, disk_of, fault_of, host_of, terms_of}
use Rattle.ocm_store.proofs.Exits.{same-terms}
use Rattle.ocm_store.proofs.Opens.{opens-loaded}

-- ---- hosts are labels

name-label : (name : List ℕ) → is_host_name name ≡ true → (1 ≤ length name) × (length name ≤ 240)
name-label name is =
    let size = and_parts (has_length 1 240 name) (list_all is_host_byte name) is in
    let parts = and_parts (nat_le 1 (length name)) (nat_le (length name) 240) size.0 in
    (let low = parts.0 in grind (arith, nat_tests), let high = parts.1 in grind (arith, nat_tests))

pub host-label : (host : List ℕ) → is_host host ≡ true → IsLabel host
host-label host is = ⊎_elim named ported (hosts_only host is)
  where
    named : is_host_name host ≡ true → IsLabel host
    named name = let size = name-label host name in (size.0, omega (arith, size.1))

    ported : HasPort host → IsLabel host
    ported p =
        let size = name-label p.name p.is_name in
        let digits : length (decimal p.port) ≤ 5 = length-decimal-le 5 p.port (omega arith) (omega (arith, p.below)) (omega (arith, p.below)) in
        let all : length host ≡ length p.name + suc (length (decimal p.port)) = ap length p.spelled ∙ length-append p.name (colon ∷ decimal p.port) in
        (omega (arith, all, size.0), omega (arith, all, size.1, digits))

-- ---- what faults say

-- a fault of a journal is told as it is
pub said-opening : (host : List ℕ) (area : ℕ) (bytes : List ℕ) (fault : OpenFault) → openings.IsSaidBy (opening host area bytes) fault → IsSaidBy (loading host area bytes) (as_load_fault fault)
unfolding loading
said-opening host area bytes (faults.NotJournal place) said = ap (λ r. replayed host (live_form bytes) r) said
said-opening host area bytes (faults.OtherLabel label) said = ap (λ r. replayed host (live_form bytes) r) said
said-opening host area bytes (faults.DiskFault count) said = tt
said-opening host area bytes faults.NoMemory said = tt

-- the form of the live area of an image is that of its records
live-form : (host : List ℕ) (area form : ℕ) (records : List (List ℕ)) (bytes : List ℕ) → IsImage host area form records bytes → live_form bytes ≡ form
live-form host area form records bytes image = ap (λ (r : Result Image ℕ). option_map_or (λ (i : Image). i.live.form) (result_ok r) 2) (image_read host area form records bytes image)

-- a blank disk has no records
blank-raw : (host : List ℕ) (area : ℕ) (bytes : List ℕ) (raw : List RawRecord) (blank : Blank) → blank_of host area bytes ≡ Some blank → opening host area bytes ≡ Ok raw → raw ≡ []
blank-raw host area bytes raw blank is opens = empty (sym (ap (λ o. openings.unless_blank o (openings.records_below host bytes (header_of (length bytes) bytes))) is) ∙ opens)
  where
    empty : ◌≡◌ {A = Result (List RawRecord) OpenFault} (Ok []) (Ok raw) → raw ≡ []
    empty e = cc

-- the first record that is refused is told, where the disk was no blank one
pub said-refused : (host : List ℕ) (area : ℕ) (bytes now : List ℕ) (size form : ℕ) (raw : List RawRecord) (fault : LoadFault) → opening host area bytes ≡ Ok raw → IsImage host size form (contents raw) now
    → (blank_of host area bytes ≡ None → now ≡ bytes) → IsRefused (refused_at host form raw) fault → IsSaidBy (loading host area bytes) fault
unfolding loading
said-refused host area bytes now size form raw loads.NoMemory opens image same refused = tt
said-refused host area bytes now size form raw (loads.OtherHost label) opens image same refused = absurd refused
said-refused host area bytes now size form raw (loads.DiskFault count) opens image same refused = absurd refused
said-refused host area bytes now size form raw (loads.NotJournal place) opens image same refused = by_blank (blank_of host area bytes) refl
  where
    by_blank : (o : Option Blank) → blank_of host area bytes ≡ o → loading host area bytes ≡ Err (loads.NotJournal place)
    by_blank None is =
        let own : live_form bytes ≡ form = ap live_form (sym (same is)) ∙ live-form host size form (contents raw) now image in
        ap (λ r. replayed host (live_form bytes) r) opens ∙ ap (λ f. replayed host f (Ok raw)) own ∙ ap (λ o. unless_refused o (opened host form (contents raw))) refused
    by_blank (Some blank) is =
        let none : raw ≡ [] = blank-raw host area bytes raw blank is opens in
        absurd (let never : ◌≡◌ {A = Option ℕ} None (Some place) = ap (λ rs. refused_at host form rs) (sym none) ∙ refused in cc)

-- why records are not gone over is why they are not loaded
pub refused-of : (refused : Option ℕ) (fault : ReplayFault) → IsReplayFault refused fault → IsRefused refused (of_replay fault)
refused-of refused (replays.Refused place) said = said
refused-of refused replays.NoMemory said = tt

-- ---- no fault of the disk

refused-no_fault : (refused : Option ℕ) (fault : LoadFault) → IsRefused refused fault → IsNoDiskFault fault
refused-no_fault refused (loads.DiskFault count) is = is
refused-no_fault refused (loads.NotJournal place) is = tt
refused-no_fault refused (loads.OtherHost label) is = tt
refused-no_fault refused loads.NoMemory is = tt

-- where none of them is told of a journal, none is told of a store
pub opened-no_fault : (fault : OpenFault) → passing.IsNoDiskFault fault → IsNoDiskFault (as_load_fault fault)
opened-no_fault (faults.DiskFault count) none = none
opened-no_fault (faults.NotJournal place) none = tt
opened-no_fault (faults.OtherLabel label) none = tt
opened-no_fault faults.NoMemory none = tt

pub replayed-no_fault : {T D : Type 0} (refused : Option ℕ) (result : Result T (D × LoadFault)) → IfErr result (λ failed. IsRefused refused failed.1) → IfErr result (λ failed. IsNoDiskFault failed.1)
replayed-no_fault refused (Ok store) is = tt
replayed-no_fault refused (Err failed) is = refused-no_fault refused failed.1 is

-- ---- what a store stands for

-- what stays as a disk opens opens to what the disk opens to
pub stays-alike : (host : List ℕ) (area : ℕ) (seen bytes : List ℕ) → StaysAsItOpens host area seen bytes → OpensAlike host area seen bytes
stays-alike host area seen bytes (inl same) = λ k opens. subst (OpensTo host area k) (sym same) opens
stays-alike host area seen bytes (inr left) = λ k opens. by_opens k opens left.1
  where
    by_opens : (k : List Entry) → OpensTo host area k seen → Opens host area [] bytes → OpensTo host area k bytes
    by_opens k (inl (own, none)) (inl (is, empty)) = inl (is, none)
    by_opens k (inl (own, none)) (inr (size, form, image)) = inr (size, (form, [], image, ap (λ l. Some l) (sym none)))
    by_opens k (inr (size, (form, records, image, list))) new = absurd (blank_is_none seen host host area size form records left.0 image)

-- what is not loaded for its bytes is not blank, so that they stay
pub refused-stays : (host : List ℕ) (area : ℕ) (seen bytes : List ℕ) (fault : LoadFault) → StaysAsItOpens host area seen bytes → loading host area seen ≡ Err fault → bytes ≡ seen
refused-stays host area seen bytes fault (inl same) refused = same
refused-stays host area seen bytes fault (inr left) refused = absurd (never (sym (opens-loaded host area [] seen (inl (left.0, refl))) ∙ refused))
  where
    never : ◌≡◌ {A = Result (List Entry) LoadFault} (Ok []) (Err fault) → ⊥
    never e = cc

module _ {D : Type 0} (disk : Ghosts D) where
  -- a store whose memory is that of a list, and whose journal opens to it
  pub loaded-stands : (store : Store D disk) (k : List Entry) → fault_of store ≡ None → IsMemoryOf store.history k
      → (disk.tells → IsWritten disk (host_of store) k store.journal) → ((d : D) → disk.may_leave d (disk.seen d)) → Stands disk store k []
  loaded-stands store k goes memory written own = record {
    memory = memory.memory;
    fault = sym goes;
    counted = none-counted (fault_of store) goes;
    written = λ tells so. written tells;
    reads = λ tells. leaves tells (disk.seen (disk_of store)) (own (disk_of store));
    leaves = leaves;
  }
    where
      none-counted : (o : Option ℕ) → o ≡ None → IfSome o (λ count. (count ≡ disk.count (disk_of store)) × (0 < count))
      none-counted None is = tt
      none-counted (Some count) is = absurd (cc)

      leaves : disk.tells → (c : List ℕ) → disk.may_leave (disk_of store) c → LeavesNext (terms_of store) k [] None c
      leaves tells c left =
          let w = written tells in
          subst (LeavesNext (terms_of store) k [] None) (sym (w.holds.durable c left))
          (w.list, (store.journal.form, w.records, w.holds.image, w.opens), (answered-legal (host_of store) w.list (opened-answered (host_of store) store.journal.form w.records w.list w.opens), inl w.same))

  -- the same store on the same bytes, with what is known of its journal
  pub fused-stands : (old new : Store D disk) (k h : List Entry) → new.history ≡ old.history → fault_of new ≡ fault_of old → journals.SameShape old.journal new.journal
      → disk.seen (disk_of new) ≡ disk.seen (disk_of old) → disk.count (disk_of new) ≡ disk.count (disk_of old) → ((c : List ℕ) → disk.may_leave (disk_of new) c → disk.may_leave (disk_of old) c)
      → ((label : List ℕ) (records : List (List ℕ)) → StandsFor disk label records old.journal → StandsFor disk label records new.journal) → Stands disk old k h → Stands disk new k h
  fused-stands old new k h history fault shape seen count leaves holds s = record {
    memory = subst (λ m. IsOf m (h ++ k)) (sym history) s.memory;
    fault = s.fault ∙ sym fault;
    counted = subst (λ o. IfSome o (λ n. (n ≡ disk.count (disk_of new)) × (0 < n))) (sym fault) (subst (λ (m : ℕ). IfSome (fault_of old) (λ n. (n ≡ m) × (0 < n))) (sym count) s.counted);
    written = λ tells so. (let w = s.written tells (sym fault ∙ so) in
        subst (λ host. IsWritten disk host (h ++ k) new.journal) (sym home)
        (record { records = w.records; list = w.list; holds = holds (host_of old) w.records w.holds; opens = ap (λ f. opened (host_of old) f w.records) shape.1 ∙ w.opens; same = w.same; spelled = w.spelled }));
    reads = λ tells. subst (λ b. LeavesNext (terms_of new) k h None b) (sym seen) (subst (λ t. LeavesNext t k h None (disk.seen (disk_of old))) (sym own) (s.reads tells));
    leaves = λ tells c left. subst (λ t. LeavesNext t k h None c) (sym own) (s.leaves tells c (leaves c left));
  }
    where
      home : host_of new ≡ host_of old
      home = ap (λ (m : History). home_of m) history

      own : terms_of new ≡ terms_of old
      own = same-terms disk old new home shape.0

-- ---- a store that was loaded

-- what is known of a journal that was loaded from a disk. A new one would have areas of this size.
pub record IsLoaded {D : Type 0} (disk : Ghosts D) (host : List ℕ) (area : ℕ) (old : D) (journal : Journal D disk) (raw : List RawRecord) : Type 0 where
  pub reads : disk.tells → disk.faithful (journals.disk_of journal) → opening host area (disk.seen old) ≡ Ok raw
  pub holds : disk.tells → StandsFor disk host (contents raw) journal
  pub made : disk.tells → disk.faithful (journals.disk_of journal) → IsMadeAs host area (disk.seen old) (journals.form_of journal) (journals.area_of journal)
  pub same : disk.tells → blank_of host area (disk.seen old) ≡ None → disk.faithful (journals.disk_of journal) → disk.seen (journals.disk_of journal) ≡ disk.seen old
  pub stays : disk.tells → disk.faithful (journals.disk_of journal) → StaysAsItOpens host area (disk.seen old) (disk.seen (journals.disk_of journal))
  pub moments : disk.tells → disk.faithful (journals.disk_of journal) → LeavesOnly disk.moment disk.left_since old (journals.disk_of journal) (λ c. disk.may_leave old c ⊎ StaysAsItOpens host area (disk.seen old) c)

-- what is known of a store that was made of a journal and its records
pub record IsReplayed {D : Type 0} (disk : Ghosts D) (host : List ℕ) (journal : Journal D disk) (raw : List RawRecord) (store : Store D disk) : Type 0 where
  pub home : host_of store ≡ host
  pub same : store.journal ≡ journal
  pub goes : fault_of store ≡ None
  pub list : List Entry
  pub opens : opened host (journals.form_of journal) (contents raw) ≡ Some list
  pub memory : IsMemoryOf store.history list

pub replayed-all : {D : Type 0} (disk : Ghosts D) (host : List ℕ) (journal : Journal D disk) (raw : List RawRecord) (result : Result (Store D disk) (D × LoadFault))
    → IfOk result (λ store. host_of store ≡ host) → IfOk result (λ store. store.journal ≡ journal)
    → IfOk result (λ store. (k : List Entry) × (opened host (journals.form_of journal) (contents raw) ≡ Some k) × IsMemoryOf store.history k) → IfOk result (λ store. fault_of store ≡ None)
    → IfOk result (IsReplayed disk host journal raw)
replayed-all disk host journal raw (Ok store) home same memory goes = record { home = home; same = same; goes = goes; list = memory.0; opens = memory.1; memory = memory.2 }
replayed-all disk host journal raw (Err failed) home same memory goes = tt

module _ {D : Type 0} {disk : Ghosts D} {host : List ℕ} {area : ℕ} {old : D} {journal : Journal D disk} {raw : List RawRecord} (loaded : IsLoaded disk host area old journal raw) where
  replayed-stands : ((d : D) → disk.may_leave d (disk.seen d)) → (store : Store D disk) (r : IsReplayed disk host journal raw store) → Stands disk store r.list [] × IsLegalUnder (terms_of store) r.list []
  replayed-stands own store r =
      (loaded-stands disk store r.list r.goes r.memory written own, subst (λ x. IsLegal x r.list) (sym r.home) (answered-legal host r.list (opened-answered host (journals.form_of journal) (contents raw) r.list r.opens)))
    where
      written : disk.tells → IsWritten disk (host_of store) r.list store.journal
      written tells =
          subst (λ x. IsWritten disk x r.list store.journal) (sym r.home)
          (subst (λ j. IsWritten disk host r.list j) (sym r.same)
          (record { records = contents raw; list = r.list; holds = loaded.holds tells; opens = r.opens; same = refl; spelled = subst IsSpelled r.memory.all_kept r.memory.memory.spelled }))

  -- what the disk opened to
  opens-list : disk.tells → disk.faithful (journals.disk_of journal) → (k : List Entry) → opened host (journals.form_of journal) (contents raw) ≡ Some k → OpensTo host area k (disk.seen old)
  opens-list tells faithful k opens = by_blank (blank_of host area (disk.seen old)) refl
    where
      by_blank : (o : Option Blank) → blank_of host area (disk.seen old) ≡ o → OpensTo host area k (disk.seen old)
      by_blank None is = inr (journal.area, (journal.form, contents raw, subst (λ b. IsImage host journal.area journal.form (contents raw) b) (loaded.same tells is faithful) (loaded.holds tells).image, opens))
      by_blank (Some blank) is =
          let none : raw ≡ [] = blank-raw host area (disk.seen old) raw blank is (loaded.reads tells faithful) in
          inl (let P : Option Blank → Type 0 = λ o. IsSome o in subst P (sym is) refl, some-list (sym opens ∙ ap (λ rs. opened host (journals.form_of journal) (contents rs)) none))
        where
          some-list : ◌≡◌ {A = Option (List Entry)} (Some k) (Some []) → k ≡ []
          some-list e = cc

  -- it stands for some list, which is what the disk opened to
  pub all-opened : ((d : D) → disk.may_leave d (disk.seen d)) → (result : Result (Store D disk) (D × LoadFault)) → IfOk result (IsReplayed disk host journal raw)
      → IfOk result (λ store. (k : List Entry) × Stands disk store k [] × IsLegalUnder (terms_of store) k [] × (disk.tells → disk.faithful (disk_of store) → (loading host area (disk.seen old) ≡ Ok k) × OpensTo host area k (disk.seen old)))
  all-opened own (Ok store) r =
      let s = replayed-stands own store r in (
        r.list,
        s.0,
        s.1,
        λ tells faithful.
            let here = subst (λ j. disk.faithful (journals.disk_of j)) r.same faithful in
            let list = opens-list tells here r.list r.opens in
            (opens-loaded host area r.list (disk.seen old) list, list),
      )
  all-opened own (Err failed) r = tt

  -- the first record that is refused is what the bytes say
  pub all-said : disk.tells → (result : Result (Store D disk) (D × LoadFault)) → IfErr result (λ failed. failed.0 ≡ journals.disk_of journal)
      → IfErr result (λ failed. IsRefused (refused_at host (journals.form_of journal) raw) failed.1) → IfErr result (λ failed. disk.faithful failed.0 → IsSaidBy (loading host area (disk.seen old)) failed.1)
  all-said tells (Ok store) back refused = tt
  all-said tells (Err failed) back refused = λ faithful.
      let here = subst disk.faithful back faithful in
      said-refused host area (disk.seen old) (disk.seen (journals.disk_of journal)) journal.area journal.form raw failed.1 (loaded.reads tells here) (loaded.holds tells).image (λ none. loaded.same tells none here) refused

  -- what the journal has, the store has
  pub all-kept : (P : Journal D disk → Type 0) → P journal → (result : Result (Store D disk) (D × LoadFault)) → IfOk result (λ store. store.journal ≡ journal) → IfOk result (λ store. P store.journal)
  all-kept P here (Ok store) same = subst P (sym same) here
  all-kept P here (Err failed) same = tt

  -- what the journal's disk has, the disk that comes back has
  pub all-back : (P : D → Type 0) → P (journals.disk_of journal) → (result : Result (Store D disk) (D × LoadFault)) → IfErr result (λ failed. failed.0 ≡ journals.disk_of journal) → IfErr result (λ failed. P failed.0)
  all-back P here (Ok store) same = tt
  all-back P here (Err failed) same = subst P (sym same) here

  -- its areas have the size that the disk says
  pub of-area : disk.tells → disk.faithful (journals.disk_of journal) → IsOfArea host area (journals.area_of journal) (disk.seen old)
  of-area tells faithful = by_blank (blank_of host area (disk.seen old)) refl
    where
      by_blank : (o : Option Blank) → blank_of host area (disk.seen old) ≡ o → IsOfArea host area (journals.area_of journal) (disk.seen old)
      by_blank None is = inr (journal.form, contents raw, subst (λ b. IsImage host journal.area journal.form (contents raw) b) (loaded.same tells is faithful) (loaded.holds tells).image)
      by_blank (Some blank) is = inl (let P : Option Blank → Type 0 = λ o. IsSome o in subst P (sym is) refl, (loaded.made tells faithful blank is).1)
