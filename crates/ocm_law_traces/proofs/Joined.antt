-- A log and an image of one run, joined.
use Rattle.std.proofs.Common.{◌≡◌, ℕ, List, [], ◌∷◌, ◌++◌, length, Bool, true, false, cond, Option, Some, None, Ok, refl, sym, ap, subst, ◌∙◌, arith}
use Rattle.std.specs.Prelude.{◌⊎◌}
use Rattle.std.specs.Option.{option_map_or}
use mathlib.Core.Logic.{inl, inr}
use Rattle.ocm_disk.specs.Shelf.{bytes_of, disk_of, is_of}
use Rattle.ocm_disk.specs.declared.shelf.ShelfPlace.{ShelfPlace}
use Rattle.ocm_entry.specs.declared.asks.Ask.{Ask}
use Rattle.ocm_entry.specs.declared.entries.Entry.{Entry}
use Rattle.ocm_entry_bytes.specs.Spells.{AreBytes}
use Rattle.ocm_rules.specs.History.{kept}
use Rattle.ocm_rules.specs.Lean.{lean}
use Rattle.ocm_rules.specs.Numbers.{same_text}
use Rattle.ocm_rules.specs.Shares.{moment}
use Rattle.ocm_journal_audit.specs.Audits.{is_own_host}
use Rattle.ocm_law_lean.proofs.Thin.{count-same}
use Rattle.ocm_law_sessions.specs.Crashes.{HasLeanWith, unheard}
use Rattle.ocm_law_sessions.specs.Sessions.{heard}
use Rattle.ocm_law_sessions.proofs.Entries.{answered-kept}
use Rattle.ocm_law_sessions.proofs.Opening.{opened-answered}
use Rattle.ocm_store.specs.Opening.{IsImageIn}
use Rattle.ocm_store.specs.Stores.{LeavesNext}
use Rattle.ocm_script.specs.declared.events.Event.{Event}
use Rattle.ocm_access_log.specs.Lines.{log_of}
use Rattle.ocm_access_log.specs.Truth.{first_false}
use Rattle.ocm_access_log.proofs.LogBack.{log-back}
use Rattle.ocm_law_logs.proofs.Bare.{bare-same, moment-same}
use Rattle.ocm_law_logs.proofs.Truths.{all-later, count-grows, moments-grow, none-false}
use Rattle.ocm_logcheck.specs.Checks.{Checks, Opened, Opens, told_of, unless_false}
use Rattle.ocm_logcheck.proofs.Telling.{checks-one}
use Rattle.ocm_script_run.specs.Servers.{Server, World, area, history, server_at}
use Rattle.ocm_world.specs.Shelves.{AreShelved, IsShelved}
use Rattle.ocm_script_run.specs.Traces.{Logged}
use Rattle.ocm_law_traces.specs.Texts.{HaveSoundTexts}
use Rattle.ocm_law_traces.specs.TrueLogs.{IsTrueLog}
use Rattle.ocm_law_traces.proofs.Growing.{history_at}
use Rattle.ocm_law_traces.proofs.Imaged.{image-count, image-moment, opens-image}
use Rattle.ocm_law_traces.proofs.Keeping.{HasIn}
use Rattle.ocm_law_traces.proofs.Logging.{IsBounded, IsReadOf, read-run, server_at-host}
use Rattle.ocm_law_traces.proofs.Naming.{IsNamed, named-end}

-- ---- the shelf

-- the server whose disk the shelf has at a host
record IsFound (final : World) (host image : List ℕ) : Type 0 where
  server : Server
  there : server_at final host ≡ Some server
  holds : LeavesNext (record { host = server.host; area = area }) server.base server.calls None image

found-shelf : (final : World) (shelf : List ShelfPlace) (host image : List ℕ) → AreShelved final shelf → bytes_of (disk_of host shelf) ≡ Some image → IsFound final host image
found-shelf [] [] host image are is = absurd cc
found-shelf [] (place ∷ places) host image are is = absurd are
found-shelf (server ∷ others) [] host image are is = absurd are
found-shelf (server ∷ others) (place ∷ places) host image are is = by (found-shelf others places host image are.1) (is_of host place) refl is
  where
    own : IsShelved server place
    own = are.0

    same_host : is_of host place ≡ same_text server.host host
    same_host = ap (λ (h : List ℕ). same_text h host) own.host

    by : (bytes_of (disk_of host places) ≡ Some image → IsFound others host image) → (b : Bool) → is_of host place ≡ b → bytes_of (cond b place.disk (disk_of host places)) ≡ Some image → IsFound (server ∷ others) host image
    by later true at e = record {
      server = server;
      there = ap (λ (b : Bool). cond b (Some server) (server_at others host)) (sym same_host ∙ at);
      holds =
          let seen : Some own.disk.images.seen ≡ Some image = ap bytes_of (sym own.there) ∙ e in
          let equal : own.disk.images.seen ≡ image = cc in
          subst (λ (l : List ℕ). LeavesNext (record { host = server.host; area = area }) server.base server.calls None l) equal own.holds;
    }
    by later false other e =
        let rest = later e in
        record {
          server = rest.server;
          there = ap (λ (b : Bool). cond b (Some server) (server_at others host)) (sym same_host ∙ other) ∙ rest.there;
          holds = rest.holds;
        }

-- what a disk holds has the lean list of the history, or of that with the ask at which the disk failed
same-later : (host : List ℕ) (g next : List Entry) (o : Option Ask) → (lean host next ≡ lean host g) ⊎ HasLeanWith host g o next → (later : List Entry) × (lean host next ≡ lean host (later ++ g))
same-later host g next o (inl same) = ([], same)
same-later host g next None (inr with) = absurd with
same-later host g next (Some ask) (inr with) = (heard host g ask ∷ [], with)

-- ---- the log and the image

-- an image in areas of a script's size, with the lean list of the history at the end of a run, or of one that went on after it
record IsEnd (host : List ℕ) (final : World) (image : List ℕ) : Type 0 where
  next : List Entry
  holds : IsImageIn host area next image
  later : List Entry
  same : lean host next ≡ lean host (later ++ history_at final host)

end-of : (host : List ℕ) (final : World) (image : List ℕ) → IsFound final host image → IsEnd host final image
end-of host final image found = record {
  next = next;
  holds = subst (λ (h : List ℕ). IsImageIn h area next image) own found.holds.1;
  later = more.0;
  same = subst (λ (h : List ℕ). lean h next ≡ lean h (more.0 ++ history_at final host)) own (more.1 ∙ ap (λ (l : List Entry). lean server.host (more.0 ++ l)) past);
}
  where
    server : Server
    server = found.server

    next : List Entry
    next = found.holds.0

    own : server.host ≡ host
    own = server_at-host final host server found.there

    past : history server ≡ history_at final host
    past = sym (ap (λ (o : Option Server). option_map_or history o []) found.there)

    more : (later : List Entry) × (lean server.host next ≡ lean server.host (later ++ history server))
    more = same-later server.host (history server) next (unheard server.host server.base server.calls None) found.holds.2.1

bounds-of : (host : List ℕ) (final : World) (image : List ℕ) → AreBytes image → IsEnd host final image → IsBounded host (history_at final host)
bounds-of host final image are end = record {
  places = (let few = image-count host area end.next image end.holds in let alike = count-same host end.next (end.later ++ history_at final host) end.same in let grows = count-grows host end.later (history_at final host) in omega arith);
  moments = (let under = image-moment host area end.next image are end.holds in let alike = equal in let grows = moments-grow host end.later (history_at final host) in omega arith);
}
  where
    all : kept host end.next ≡ end.next
    all = answered-kept host end.next (opened-answered host end.holds.0 end.holds.1 end.next end.holds.3)

    equal : moment end.next ≡ moment (kept host (end.later ++ history_at final host))
    equal = ap moment (sym all) ∙ moment-same (kept host end.next) (kept host (end.later ++ history_at final host)) (bare-same host end.next (end.later ++ history_at final host) end.same)

log-true : (host image log : List ℕ) (final : World) → is_own_host host ≡ true → IsEnd host final image → IsReadOf host [] final log → IsTrueLog host image log
log-true host image log final own end read = record {
  kept = end.next;
  lines = read.lines;
  opens = opens;
  reads = reads;
  order = read.order;
  none_false = none;
  checks = checks;
  told = λ told is. checks-one image log told (Ok (length read.lines)) is checks;
}
  where
    all : kept host end.next ≡ end.next
    all = answered-kept host end.next (opened-answered host end.holds.0 end.holds.1 end.next end.holds.3)

    opens : Opens image (Ok (host, end.next))
    opens = opens-image host area end.next image own end.holds

    reads : log_of log ≡ Ok read.lines
    reads = ap log_of read.text ∙ log-back 1 0 0 read.lines read.sound read.order

    none : first_false host end.next 1 read.lines ≡ None
    none = none-false host end.next 1 read.lines all (all-later host end.later (history_at final host) end.next read.lines end.same read.so)

    found : Opened
    found = (host, end.next)

    checks : Checks image log (Ok (length read.lines))
    checks = (Ok found, opens, sym (ap (told_of (Ok found)) reads ∙ ap (λ (o : Option ℕ). unless_false o (length read.lines)) none))

-- what is traced of a run is a true log of its image
pub traced-true : (host image log : List ℕ) (events : List Event) (final : World) (shelf : List ShelfPlace)
    → Logged [] 1 host events log final → HaveSoundTexts events → AreBytes image → AreShelved final shelf → bytes_of (disk_of host shelf) ≡ Some image → IsTrueLog host image log
traced-true host image log events final shelf run sound are shelved there =
    let found = found-shelf final shelf host image shelved there in
    let end = end-of host final image found in
    let named = subst (HasIn (Unit {0}) IsNamed) found.there (named-end [] 1 host events log final run sound tt) in
    let own : is_own_host host ≡ true = subst (λ (h : List ℕ). is_own_host h ≡ true) (server_at-host final host found.server found.there) named in
    log-true host image log final own end (read-run [] 1 host events log final run sound (bounds-of host final image are end))
