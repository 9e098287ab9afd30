-- What is said, message by message.
use Rattle.std.proofs.Common.{◌≡◌, ◌≢◌, ℕ, ◌+◌, ◌≤◌, ◌++◌, List, [], ◌∷◌, length, Bool, true, false, if◌then◌else◌, Option, Some, None, Result, Ok, Err, sym, refl, ap, subst, ◌∙◌, append_assoc, append-nil, arith, inl, inr, eq-eqb, ne_eqb}
use Rattle.std.specs.Prelude.{IsTrue, IfSome, IfNone}
use Rattle.ocm_base.specs.Outside.{Appends, Flow, Came, IsDry, Rose}
use Rattle.ocm_base.proofs.Pieces.{came_none}
use Rattle.ocm_entry.specs.declared.entries.Entry.{Entry}
use Rattle.ocm_http.specs.Places.{past}
use Rattle.ocm_http.specs.Frames.{Given, Refused, Over, IsFrame}
use Rattle.ocm_http.specs.Readers.{ReaderState}
use Rattle.ocm_http.specs.declared.messages.Kind.TheVariants.{Requests}
use Rattle.ocm_http_heads.specs.declared.fields.Head.{Head}
use Rattle.ocm_http_heads.specs.declared.fields.Head.TheVariants as heads
use Rattle.ocm_http.specs.declared.messages.Message.{Message}
use Rattle.ocm_http.specs.declared.messages.FrameFault.{FrameFault}
use Rattle.ocm_http.specs.declared.messages.FrameFault.TheVariants as faults
use Rattle.ocm_http.proofs.Stable.{frame_stays}
use Rattle.ocm_dav_pages.specs.declared.shapes.Page.{Page}
use Rattle.ocm_dav.specs.declared.configs.Config.{Config}
use Rattle.ocm_turn.specs.Passes.{Known}
use Rattle.ocm_server_connections.specs.declared.endings.Ended.{Ended}
use Rattle.ocm_server_connections.specs.declared.endings.Ended.TheVariants as endings
use Rattle.ocm_server_connections.specs.declared.endings.Missed.{Missed}
use Rattle.ocm_server_connections.specs.declared.endings.Missed.TheVariants as misses
use Rattle.ocm_dav.specs.Routes.{wanted_of}
use Rattle.ocm_http.specs.Messages.{IsRequest}
use Rattle.ocm_server_connections.specs.Drawing.{Draws, value_of, moved}
use Rattle.ocm_turn.specs.Moves.{Moved, Unspent}
use Rattle.ocm_server_connections.specs.Sides.{Sides, Read, Wrote, IsEnd, IsOpen, IsRequests, Gives, GivesOf, GivesMessage, GivesFault, Noted, Notes, as_fixed, as_page, newest_of, noted_page}
use Rattle.ocm_server_connections.specs.Noting.{SaidAt, NotedBy, IsSound, NotedLast, noted_as}
use Rattle.ocm_server_connections.specs.Talk as talks
use Rattle.ocm_server_connections.specs.Talk.{Talk, Shown, Stops, EndsWith, is_spent, Breaks, Tries, bad, no_memory, place_of, wanted_at, counted, ending_after, Answers}
use Rattle.ocm_server_connections.specs.Parts.{State, state, Deeds, Does, Stand, stand, Leads, Went, TalkedFrom, Talked, Goes, Served, Finishes, Writing, Refuses, RefusesAt}
use Rattle.ocm_turn.proofs.MoveLemmas.{moved_nothing, moved_then, unspent_nothing, unspent_then}
use Rattle.ocm_server_connections.proofs.Causes.{stops_cause, ends_cause}
use Rattle.ocm_server_connections.proofs.Doing.{nothing, both, does_nothing, does_then, appends_nothing, notes_nothing}

-- the same lists say the same
said_same : (K : List Entry → List ℕ → Type 0) (config : Config) (shown : Shown) (number place : ℕ) (ended : Bool) (ending : Ended)
    (a a' : List Entry) (b b' : List ℕ) (f f' : List (List ℕ)) (t t' : List ℕ) (c c' : List Entry) (w w' : List ℕ) (m m' : List Noted)
    → a ≡ a' → b ≡ b' → f ≡ f' → t ≡ t' → c ≡ c' → w ≡ w' → m ≡ m'
    → SaidAt K a config shown number place b ended f t c w m ending → SaidAt K a' config shown number place b' ended f' t' c' w' m' ending
said_same K config shown number place ended ending a a' b b' f f' t t' c c' w w' m m' o p q r s u v said =
    subst (λ (z : List Entry × List ℕ × List (List ℕ) × List ℕ × List Entry × List ℕ × List Noted). SaidAt K z.0 config shown number place z.1 ended z.2 z.3 z.4 z.5 z.6 ending)
    (λ i. (o i, p i, q i, r i, s i, u i, v i)) said

-- a message that ends the connection
noted_last : (K : List ℕ → Type 0) (written : List ℕ) (answer : Result Page Missed) (moments : List ℕ) → K moments → NotedLast K written answer (noted_as answer moments written)
noted_last K written (Ok page) moments k = (moments, refl, k)
noted_last K written (Err missed) moments k = refl

module _ {Terms : Type 0} where
  -- what is noted behind these calls
  noted_now : (first old new final : Known Terms) (before calls later : List Entry) → Moved first old before → Moved old new calls → Moved new final later → IsSound new
      → NotedBy first final (calls ++ before) (newest_of new.moments)
  noted_now first old new final before calls later made moved makes sound = record {
    pass = new;
    made = moved_then first old new before calls made moved;
    later = later;
    makes = makes;
    sound = sound;
    noted_is = refl;
  }

  pub leads_nothing : (config : Config) (at : Stand) (old : Known Terms) → Leads config at at old old nothing
  leads_nothing config at old first final before later made makes shown more ended drawn clocks calls written noted ending said =
      said_same (NotedBy first final) config shown at.number at.place ended ending _ _ _ _ _ _ _ _ calls (calls ++ []) _ _ _ _ refl refl refl refl (sym (append-nil calls)) refl refl said

  pub leads_then : (config : Config) (a b c : Stand) (s t u : Known Terms) (x y : Deeds) → Moved s t x.calls → Moved t u y.calls → Leads config a b s t x → Leads config b c t u y → Leads config a c s u (both x y)
  leads_then config a b c s t u x y sx ty p q first final before later made makes shown more ended drawn clocks calls written noted ending said =
      said_same (NotedBy first final) config shown a.number a.place ended ending
      before before
      (a.held ++ (x.read ++ (y.read ++ more))) (a.held ++ ((x.read ++ y.read) ++ more))
      (x.drawn ++ (y.drawn ++ drawn)) ((x.drawn ++ y.drawn) ++ drawn)
      (x.clocks ++ (y.clocks ++ clocks)) ((x.clocks ++ y.clocks) ++ clocks)
      ((calls ++ y.calls) ++ x.calls) (calls ++ (y.calls ++ x.calls))
      (x.written ++ (y.written ++ written)) ((x.written ++ y.written) ++ written)
      (x.noted ++ (y.noted ++ noted)) ((x.noted ++ y.noted) ++ noted)
      refl (ap (λ (l : List ℕ). a.held ++ l) (sym (append_assoc x.read y.read more)))
      (sym (append_assoc x.drawn y.drawn drawn)) (sym (append_assoc x.clocks y.clocks clocks))
      (append_assoc calls y.calls x.calls) (sym (append_assoc x.written y.written written)) (sym (append_assoc x.noted y.noted noted))
      (p first final before (later ++ y.calls) made (moved_then t u final y.calls later ty makes)
      shown (y.read ++ more) ended (y.drawn ++ drawn) (y.clocks ++ clocks) (calls ++ y.calls) (y.written ++ written) (y.noted ++ noted) ending
      (q first final (x.calls ++ before) later (moved_then first s t before x.calls made sx) makes shown more ended drawn clocks calls written noted ending
      (said_same (NotedBy first final) config shown c.number c.place ended ending
      ((y.calls ++ x.calls) ++ before) (y.calls ++ (x.calls ++ before)) _ _ _ _ _ _ _ _ _ _ _ _
      (append_assoc y.calls x.calls before) refl refl refl refl refl refl said)))

pub false_true : IsTrue false → ⊥
false_true h = cc

-- a count that rose later has risen
rose_later : (a b c : ℕ) → a ≤ b → Rose b c → Rose a c
rose_later a b c le rose = omega (arith, le, rose)

-- a count that rose before has risen
rose_before : (a b c : ℕ) → Rose a b → b ≤ c → Rose a c
rose_before a b c rose le = omega (arith, le, rose)

pub wrote_nothing : (s : Sides) → Wrote s s [] []
wrote_nothing s = record { flow = refl; taken = appends_nothing s.taken; noted = notes_nothing s.noted; read_faults = omega arith; write_faults = omega arith }

pub read_nothing : (s t : Sides) → t ≡ s → Read s t []
read_nothing s t e = subst (λ (z : Sides). Read s z []) (sym e) (record { flow = came_none s.flow; taken = refl; noted = refl; read_faults = omega arith; write_faults = omega arith })

unspent_by : (failed : Bool) (after : Option Ended) (answer : Result Page Missed) (written : List ℕ) (ending : Ended) → EndsWith failed after answer written ending → ending ≢ endings.Spent → is_spent answer ≡ false
unfolding EndsWith
unspent_by failed after (Ok page) written ending ends h = refl
unspent_by failed after (Err misses.Spent) written ending ends h = absurd (h ends.0)
unspent_by failed after (Err misses.NoMemory) written ending ends h = refl

module _ {Terms : Type 0} where
  pub went_nothing : (config : Config) (limit : ℕ) (at : Stand) (a : State Terms) → Went config limit at at a a
  went_nothing config limit at a = record { deeds = nothing; does = does_nothing a; unspent = unspent_nothing limit a.pass; leads = leads_nothing config at a.pass }

  pub went_then : (config : Config) (limit : ℕ) (a b c : Stand) (s t u : State Terms) → Went config limit a b s t → Went config limit b c t u → Went config limit a c s u
  went_then config limit a b c s t u p q = record {
    deeds = both p.deeds q.deeds;
    does = does_then s t u p.deeds q.deeds p.does q.does;
    unspent = unspent_then limit s.pass t.pass u.pass p.deeds.calls q.deeds.calls p.unspent q.unspent;
    leads = leads_then config a b c s.pass t.pass u.pass p.deeds q.deeds p.does.calls q.does.calls p.leads q.leads;
  }

  -- what is said from a later stand on is said from the first
  pub went_talked : (config : Config) (limit : ℕ) (a b : Stand) (s t u : State Terms) (ending : Ended) → Went config limit a b s t → TalkedFrom config limit b t u ending → TalkedFrom config limit a s u ending
  went_talked config limit a b s t u ending p q = record {
    deeds = both p.deeds q.deeds;
    does = does_then s t u p.deeds q.deeds p.does q.does;
    unspent = λ h. unspent_then limit s.pass t.pass u.pass p.deeds.calls q.deeds.calls p.unspent (q.unspent h);
    ended = q.ended;
    is_end = q.is_end;
    shown = q.shown;
    shows = record {
      read_rose = λ h. rose_later s.sides.read_faults t.sides.read_faults u.sides.read_faults p.does.read_faults (q.shows.read_rose h);
      write_rose = λ h. rose_later s.sides.write_faults t.sides.write_faults u.sides.write_faults p.does.write_faults (q.shows.write_rose h);
      spent = q.shows.spent;
    };
    cause = q.cause;
    told = λ first before made.
        p.leads first u.pass before q.deeds.calls made q.does.calls q.shown q.deeds.read q.ended q.deeds.drawn q.deeds.clocks q.deeds.calls q.deeds.written q.deeds.noted ending
        (q.told first (p.deeds.calls ++ before) (moved_then first s.pass t.pass before p.deeds.calls made p.does.calls));
  }

  -- at the start of a connection
  pub talked_whole : (config : Config) (limit : ℕ) (from : Stand) (s u : State Terms) (ending : Ended) → from ≡ record { number = 0; place = 0; held = [] } → TalkedFrom config limit from s u ending → Talked config limit s u ending
  talked_whole config limit from s u ending e q =
      let whole = subst (λ (f : Stand). TalkedFrom config limit f s u ending) e q in
      let told = whole.told s.pass [] (moved_nothing s.pass) in
      record { deeds = whole.deeds; does = whole.does; unspent = whole.unspent; ended = whole.ended; is_end = whole.is_end; shown = whole.shown; shows = whole.shows; cause = whole.cause; talk = told.0; at = told.1 }

  -- ---- one message

  module _ (config : Config) (limit number : ℕ) (reader after : ReaderState) (message : Message) (got : List ℕ) (old new : State Terms) (middle : Sides) (gives : GivesMessage reader after got message) (read : Read old.sides middle got) where
    does_of : (fresh : List ℕ) (now : ℕ) (calls : List Entry) (written : List ℕ) (noted : List Noted)
        → Draws old.draw (fresh ∷ []) new.draw → Appends old.clock new.clock (now ∷ []) → Moved old.pass new.pass calls → Wrote middle new.sides written noted
        → Does old new (record { read = got; drawn = fresh ∷ []; clocks = now ∷ []; calls = calls; written = written; noted = noted })
    does_of fresh now calls written noted draws clock made wrote = record {
      read = subst (λ (l : Flow). Came old.sides.flow l got) (sym wrote.flow) read.flow;
      written = subst (λ (l : Option (List ℕ)). Appends l new.sides.taken written) read.taken wrote.taken;
      noted = subst (λ (l : Option (List Noted)). Notes l new.sides.noted noted) read.noted wrote.noted;
      read_faults = omega (arith, read.read_faults, wrote.read_faults);
      write_faults = omega (arith, read.write_faults, wrote.write_faults);
      drawn = draws;
      clocks = clock;
      calls = made;
    }

    -- a message is answered, and then the rest is said
    leads_message : (fresh : List ℕ) (now : ℕ) (calls : List Entry) (page : Page) → Moved old.pass new.pass calls → IsSound new.pass
        → Answers (wanted_at config number message fresh) now calls (Ok page) → ending_after number message ≡ None
        → Leads config (stand number reader) (stand (number + 1) after) old.pass new.pass
        (record { read = got; drawn = fresh ∷ []; clocks = now ∷ []; calls = calls; written = page.bytes; noted = as_page (newest_of new.pass.moments) page.bytes })
    unfolding IsRequests
    leads_message fresh now calls page moved sound answers none first final before later made makes shown more ended drawn clocks others written noted ending said =
        let newest = newest_of new.pass.moments in
        let then_said = subst (λ (p : ℕ). SaidAt (NotedBy first final) (calls ++ before) config shown (number + 1) p (after.held ++ more) ended drawn clocks others written noted ending) gives.place said in
        said_same (NotedBy first final) config shown number reader.place ended ending
        before before ((reader.held ++ got) ++ more) (reader.held ++ (got ++ more)) (fresh ∷ drawn) (fresh ∷ drawn) (now ∷ clocks) (now ∷ clocks)
        (others ++ calls) (others ++ calls) (page.bytes ++ written) (page.bytes ++ written) (noted_page page.bytes newest ∷ noted) (noted_page page.bytes newest ∷ noted)
        refl (append_assoc reader.held got more) refl refl refl refl refl (
          talks.next number reader.place ((reader.held ++ got) ++ more) gives.front (after.held ++ more) ended message fresh now calls page drawn clocks others written ending
              (frame_stays Requests 1048576 reader.place (reader.held ++ got) more ended (Given message after.held) gives.frame tt)
              (ap (λ (l : List ℕ). l ++ more) gives.split ∙ append_assoc gives.front after.held more)
              answers none then_said.0,
          (newest, noted, refl, noted_now first old.pass new.pass final before calls later made moved makes sound, then_said.1),
        )

    pub goes_message : (result : Option Ended) → Served config limit number message (state middle old.draw old.clock old.pass) new result
        → Goes config limit (stand number reader) (stand (number + 1) after) old new result
    unfolding Goes Finishes
    goes_message None served =
        let f = served.finishes in
        record {
          deeds = record { read = got; drawn = served.fresh ∷ []; clocks = served.now ∷ []; calls = served.calls; written = f.0.bytes; noted = as_page (newest_of new.pass.moments) f.0.bytes };
          does = does_of served.fresh served.now served.calls f.0.bytes (as_page (newest_of new.pass.moments) f.0.bytes) served.drawn served.clock served.moved f.3;
          unspent = served.unspent (ap is_spent f.1);
          leads = leads_message served.fresh served.now served.calls f.0 served.moved served.sound (subst (λ (r : Result Page Missed). Answers (wanted_at config number message served.fresh) served.now served.calls r) f.1 served.answers) f.2;
        }
    goes_message (Some ending) served =
        let f = served.finishes in
        let noted = noted_as served.answer (newest_of new.pass.moments) f.written in
        record {
          deeds = record { read = got; drawn = served.fresh ∷ []; clocks = served.now ∷ []; calls = served.calls; written = f.written; noted = noted };
          does = does_of served.fresh served.now served.calls f.written noted served.drawn served.clock served.moved f.wrote;
          unspent = λ h. served.unspent (unspent_by f.failed (ending_after number message) served.answer f.written ending f.is h);
          ended = false;
          is_end = λ h. absurd (false_true h);
          shown = record { read_rose = false; write_rose = f.failed; spent = is_spent served.answer };
          shows = record {
            read_rose = λ h. absurd (false_true h);
            write_rose = λ h. rose_later old.sides.write_faults middle.write_faults new.sides.write_faults read.write_faults (f.rose h);
            spent = served.spent;
          };
          cause = ends_cause (record { read_rose = false; write_rose = f.failed; spent = is_spent served.answer }) number message served.answer f.written ending f.is refl;
          told = λ first before made. (
            talks.last number reader.place (reader.held ++ got) after.held false message served.fresh served.now served.calls served.answer f.written ending gives.frame served.answers f.is refl,
            noted_last (NotedBy first new.pass (served.calls ++ before)) f.written served.answer (newest_of new.pass.moments)
                (noted_now first old.pass new.pass new.pass before served.calls [] made served.moved (moved_nothing new.pass) served.sound),
          );
        }

  -- ---- no message

  quiet : (old : State Terms) (middle final : Sides) (got written : List ℕ) → Read old.sides middle got → Wrote middle final written []
      → Does old (state final old.draw old.clock old.pass) (record { read = got; drawn = []; clocks = []; calls = []; written = written; noted = [] })
  quiet old middle final got written read wrote = record {
    read = subst (λ (l : Flow). Came old.sides.flow l got) (sym wrote.flow) read.flow;
    written = subst (λ (l : Option (List ℕ)). Appends l final.taken written) read.taken wrote.taken;
    noted = subst (λ (l : Option (List Noted)). Notes l final.noted []) read.noted wrote.noted;
    read_faults = omega (arith, read.read_faults, wrote.read_faults);
    write_faults = omega (arith, read.write_faults, wrote.write_faults);
    drawn = refl;
    clocks = appends_nothing old.clock;
    calls = moved_nothing old.pass;
  }

  module _ (config : Config) (limit number : ℕ) (reader : ReaderState) (old : State Terms) (middle final : Sides) (got : List ℕ) (read : Read old.sides middle got) where
    talked_silent : (written : List ℕ) (ended : Bool) (shown : Shown) (ending : Ended)
        → Wrote middle final written [] → IsEnd middle ended
        → (IsTrue shown.read_rose → Rose old.sides.read_faults final.read_faults)
        → (IsTrue shown.write_rose → Rose middle.write_faults final.write_faults)
        → (IsTrue shown.spent → ⊥)
        → Stops shown reader.place (reader.held ++ got) ended written ending
        → TalkedFrom config limit (stand number reader) old (state final old.draw old.clock old.pass) ending
    talked_silent written ended shown ending wrote is_end read_rose write_rose spent stops = record {
      deeds = record { read = got; drawn = []; clocks = []; calls = []; written = written; noted = [] };
      does = quiet old middle final got written read wrote;
      unspent = λ h. unspent_nothing limit old.pass;
      ended = ended;
      is_end = λ h. subst (λ (l : Flow). IsDry l) (sym wrote.flow) (is_end h);
      shown = shown;
      shows = record {
        read_rose = read_rose;
        write_rose = λ h. rose_later old.sides.write_faults middle.write_faults final.write_faults read.write_faults (write_rose h);
        spent = λ h. absurd (spent h);
      };
      cause = stops_cause shown reader.place (reader.held ++ got) ended written ending stops;
      told = λ first before made. (talks.silent number reader.place (reader.held ++ got) ended written ending stops, refl);
    }

    -- what a connection shows that only wrote
    abbrev wrote_only : Bool → Shown
    wrote_only failed = record { read_rose = false; write_rose = failed; spent = false }

    only_wrote : (written : List ℕ) (ended failed : Bool) (ending : Ended) → Wrote middle final written [] → IsEnd middle ended → (IsTrue failed → Rose middle.write_faults final.write_faults)
        → Stops (wrote_only failed) reader.place (reader.held ++ got) ended written ending
        → TalkedFrom config limit (stand number reader) old (state final old.draw old.clock old.pass) ending
    only_wrote written ended failed ending wrote is_end rose stops =
        talked_silent written ended (wrote_only failed) ending wrote is_end (λ h. absurd (false_true h)) rose false_true stops

    stops_at : (at : ℕ) (ended failed : Bool) (written : List ℕ) (fault : FrameFault) (ending : Ended) → place_of fault ≡ Some at → IsRequests reader.place (reader.held ++ got) ended (Refused fault)
        → RefusesAt at ending failed written → Stops (wrote_only failed) reader.place (reader.held ++ got) ended written ending
    unfolding Stops RefusesAt
    stops_at at ended failed written fault ending e frame (inl h) =
        subst (λ (x : Ended). Stops (wrote_only failed) reader.place (reader.held ++ got) ended written x) (sym h.0) (h.1, fault, frame, e)
    stops_at at ended failed written fault ending e frame (inr h) =
        subst (λ (x : Ended). Stops (wrote_only failed) reader.place (reader.held ++ got) ended written x) (sym h.0) (h.1, fault, at, frame, e)

    talked_at : (fault : FrameFault) (at : ℕ) (ending : Ended) → place_of fault ≡ Some at → ((ended : Bool) × IsEnd middle ended × IsRequests reader.place (reader.held ++ got) ended (Refused fault))
        → Writing middle final as_fixed (λ failed written. RefusesAt at ending failed written)
        → TalkedFrom config limit (stand number reader) old (state final old.draw old.clock old.pass) ending
    talked_at fault at ending e gives w =
        only_wrote w.written gives.0 w.failed ending w.wrote gives.1 w.rose (stops_at at gives.0 w.failed w.written fault ending e gives.2 w.is)

    pub talked_fault : (fault : FrameFault) (ending : Ended) → GivesFault reader old.sides middle got fault → Writing middle final as_fixed (λ failed written. Refuses fault ending failed written)
        → TalkedFrom config limit (stand number reader) old (state final old.draw old.clock old.pass) ending
    unfolding GivesFault Refuses Stops
    talked_fault (faults.BadHead at) ending gives w = talked_at (faults.BadHead at) at ending refl gives w
    talked_fault (faults.HeadTooLong at) ending gives w = talked_at (faults.HeadTooLong at) at ending refl gives w
    talked_fault (faults.BadLength at) ending gives w = talked_at (faults.BadLength at) at ending refl gives w
    talked_fault (faults.BothLengths at) ending gives w = talked_at (faults.BothLengths at) at ending refl gives w
    talked_fault (faults.BadChunk at) ending gives w = talked_at (faults.BadChunk at) at ending refl gives w
    talked_fault (faults.BodyTooLong at) ending gives w = talked_at (faults.BodyTooLong at) at ending refl gives w
    talked_fault faults.Cut ending gives w =
        only_wrote w.written gives.0 w.failed ending w.wrote gives.1 w.rose
        (subst (λ (x : Ended). Stops (wrote_only w.failed) reader.place (reader.held ++ got) gives.0 w.written x) (sym w.is.0) (w.is.1, gives.2))
    talked_fault faults.ReadFault ending gives w =
        let shown : Shown = record { read_rose = true; write_rose = w.failed; spent = false } in
        talked_silent w.written false shown ending w.wrote (λ h. absurd (false_true h))
        (λ h. rose_before old.sides.read_faults middle.read_faults final.read_faults gives w.wrote.read_faults) w.rose false_true
        (subst (λ (x : Ended). Stops shown reader.place (reader.held ++ got) false w.written x) (sym w.is.0) (w.is.1, refl))
    talked_fault faults.NoMemory ending gives w =
        only_wrote w.written false w.failed ending w.wrote (λ h. absurd (false_true h)) w.rose
        (subst (λ (x : Ended). Stops (wrote_only w.failed) reader.place (reader.held ++ got) false w.written x) (sym w.is.0) w.is.1)

  -- the input ended between two messages
  pub talked_over : (config : Config) (limit number : ℕ) (reader : ReaderState) (old : State Terms) (final : Sides) (got : List ℕ) → Read old.sides final got
      → IsEnd final true → IsRequests reader.place (reader.held ++ got) true Over
      → TalkedFrom config limit (stand number reader) old (state final old.draw old.clock old.pass) endings.Closed
  unfolding Stops
  talked_over config limit number reader old final got read is_end frame =
      only_wrote config limit number reader old final final got read [] true false endings.Closed (wrote_nothing final) is_end (λ h. absurd (false_true h)) (refl, frame)

  -- no memory for a reader
  pub talked_none : (config : Config) (limit : ℕ) (old : State Terms) (final : Sides) → Writing old.sides final as_fixed (λ failed written. Tries failed no_memory written)
      → Talked config limit old (state final old.draw old.clock old.pass) endings.NoMemory
  unfolding Stops
  talked_none config limit old final w =
      let reader : ReaderState = record { kind = Requests; max = 1048576; place = 0; held = []; failed = false; gone = 0 } in
      talked_whole config limit (stand 0 reader) old (state final old.draw old.clock old.pass) endings.NoMemory refl
      (only_wrote config limit 0 reader old old.sides final [] (read_nothing old.sides old.sides refl) w.written false w.failed endings.NoMemory w.wrote (λ h. absurd (false_true h)) w.rose w.is)

-- a message that does not end the connection is not the last
pub not_last : (number : ℕ) (message : Message) → ending_after number message ≡ None → number ≢ 999
unfolding ending_after
not_last number message none e = some_none (sym (ap (λ (n : ℕ). ending_after n message) e) ∙ none)
  where
    some_none : {A : Type 0} {a : A} → Some a ≡ None → ⊥
    some_none e = cc

pub served_on : {Terms : Type 0} (config : Config) (limit number : ℕ) (message : Message) (old new : State Terms) → Served config limit number message old new None → number ≢ 999
unfolding Finishes
served_on config limit number message old new served = not_last number message served.finishes.2

pub serves_request : {Terms : Type 0} (config : Config) (limit number : ℕ) (message m : Message) (old new : State Terms) (fresh : List ℕ) (now : ℕ) (answer : Result Page Missed) (after result : Option Ended)
    → after ≡ ending_after number message → m ≡ counted number message → fresh ≡ value_of old.draw → new.draw ≡ moved old.draw → Appends old.clock new.clock (now ∷ [])
    → ((calls : List Entry) × Moved old.pass new.pass calls × Answers (wanted_of config m fresh) now calls answer)
    → (IsTrue (is_spent answer) → limit ≤ new.pass.drawn)
    → ((calls : List Entry) → Moved old.pass new.pass calls → is_spent answer ≡ false → Unspent limit old.pass new.pass calls)
    → IsSound new.pass
    → Finishes old.sides new.sides answer (newest_of new.pass.moments) after result
    → Served config limit number message old new result
unfolding wanted_at
serves_request config limit number message m old new fresh now answer after result after_is m_is fresh_is draw_is clock_is did spent unspent sound finishes = record {
  fresh = fresh;
  now = now;
  calls = did.0;
  answer = answer;
  drawn = (fresh_is, draw_is);
  clock = clock_is;
  moved = did.1;
  sound = sound;
  spent = spent;
  unspent = unspent did.0 did.1;
  answers = subst (λ (x : Message). Answers (wanted_of config x fresh) now did.0 answer) m_is did.2;
  finishes = subst (λ (x : Option Ended). Finishes old.sides new.sides answer (newest_of new.pass.moments) x result) after_is finishes;
}

-- where a connection begins
abbrev pub start : Stand
start = record { number = 0; place = 0; held = [] }

gives_message : (reader after : ReaderState) (old middle : Sides) (r : Result (Option Message) FrameFault) (message : Message) → Gives reader after old middle r → r ≡ Ok (Some message)
    → (got : List ℕ) × Read old middle got × GivesMessage reader after got message
unfolding GivesOf
gives_message reader after old middle r message gives is = subst (λ (x : Result (Option Message) FrameFault). Gives reader after old middle x) is gives

pub open_after : (reader after : ReaderState) (old middle : Sides) (r : Result (Option Message) FrameFault) (message : Message) → Gives reader after old middle r → r ≡ Ok (Some message) → IsOpen after
open_after reader after old middle r message gives is = (gives_message reader after old middle r message gives is).2.open_still

pub request_after : (reader after : ReaderState) (old middle : Sides) (r : Result (Option Message) FrameFault) (message : Message) → Gives reader after old middle r → r ≡ Ok (Some message) → IsRequest message.head
request_after reader after old middle r message gives is = (gives_message reader after old middle r message gives is).2.request

module _ {Terms : Type 0} where
  pub goes_request : (config : Config) (limit number : ℕ) (reader after : ReaderState) (message : Message) (old new : State Terms) (middle : Sides) (r : Result (Option Message) FrameFault) (result : Option Ended)
      → Gives reader after old.sides middle r → r ≡ Ok (Some message)
      → Served config limit number message (state middle old.draw old.clock old.pass) new result
      → Goes config limit (stand number reader) (stand (number + 1) after) old new result
  goes_request config limit number reader after message old new middle r result gives is served =
      let got = gives_message reader after old.sides middle r message gives is in
      goes_message config limit number reader after message got.0 old new middle got.2 got.1 result served

  pub goes_over : (config : Config) (limit number : ℕ) (to : Stand) (reader after : ReaderState) (old : State Terms) (middle : Sides) (r : Result (Option Message) FrameFault)
      → Gives reader after old.sides middle r → r ≡ Ok None
      → Goes config limit (stand number reader) to old (state middle old.draw old.clock old.pass) (Some endings.Closed)
  unfolding Goes GivesOf
  goes_over config limit number to reader after old middle r gives is =
      let got = subst (λ (x : Result (Option Message) FrameFault). Gives reader after old.sides middle x) is gives in
      talked_over config limit number reader old middle got.0 got.1 got.2.0 got.2.1

  pub goes_fault : (config : Config) (limit number : ℕ) (to : Stand) (reader after : ReaderState) (old : State Terms) (middle final : Sides) (r : Result (Option Message) FrameFault) (fault : FrameFault) (ending : Ended)
      → Gives reader after old.sides middle r → r ≡ Err fault → Writing middle final as_fixed (λ failed written. Refuses fault ending failed written)
      → Goes config limit (stand number reader) to old (state final old.draw old.clock old.pass) (Some ending)
  unfolding Goes GivesOf
  goes_fault config limit number to reader after old middle final r fault ending gives is writing =
      let got = subst (λ (x : Result (Option Message) FrameFault). Gives reader after old.sides middle x) is gives in
      talked_fault config limit number reader old middle final got.0 got.1 fault ending got.2 writing

  pub served_more : (config : Config) (limit number : ℕ) (message : Message) (old new : State Terms) (result : Option Ended) → Served config limit number message old new result → IfNone result (number ≢ 999)
  served_more config limit number message old new None served = served_on config limit number message old new served
  served_more config limit number message old new (Some ending) served = tt

  -- the loop
  pub goes_on : (config : Config) (limit : ℕ) (a b c : Stand) (s t u : State Terms) (result : Option Ended) → result ≡ None → Went config limit a b s t → Goes config limit b c t u result → Went config limit a c s u
  unfolding Goes
  goes_on config limit a b c s t u result none p q = went_then config limit a b c s t u p (subst (λ (r : Option Ended). Goes config limit b c t u r) none q)

  pub goes_end : (config : Config) (limit : ℕ) (b c : Stand) (s t u : State Terms) (result : Option Ended) (ending : Ended) → result ≡ Some ending → Went config limit start b s t → Goes config limit b c t u result → Talked config limit s u ending
  unfolding Goes
  goes_end config limit b c s t u result ending some p q =
      talked_whole config limit start s u ending refl (went_talked config limit start b s t u ending p (subst (λ (r : Option Ended). Goes config limit b c t u r) some q))

pub if_none : {A : Type 0} {P : Type 0} (o : Option A) → P → IfNone o P
if_none None p = p
if_none (Some a) p = tt

requested_head : (last : Bool) (head : Head) → IsRequest head → IsRequest (if last then talks.closing_head head else head)
requested_head true (heads.Request method target closing fields) h = h
requested_head true (heads.Reply status fields) h = h
requested_head false head h = h

pub requested : (number : ℕ) (message m : Message) → m ≡ counted number message → IsRequest message.head → IsRequest m.head
unfolding counted
requested number message m is h = subst (λ (x : Message). IsRequest x.head) (sym is) (requested_head (talks.is_last number) message.head h)

no_bytes : (bytes : List ℕ) → length bytes ≡ 0 → bytes ≡ []
no_bytes [] e = refl
no_bytes (b ∷ bytes) e = absurd (omega (arith, e))

pub nothing_held : (gone : ℕ) (held : List ℕ) (n : ℕ) → n ≡ past gone (length held) → n ≡ 0 → held ≡ []
nothing_held gone held n is zero = no_bytes held (omega (arith, is, zero))

over_at : (place : ℕ) (bytes : List ℕ) → bytes ≡ [] → IsRequests place bytes true Over
unfolding IsRequests
over_at place bytes none = subst (λ (b : List ℕ). IsFrame Requests 1048576 place b true Over) (sym none) refl

-- nothing is held, and nothing is left
pub gives_none : (reader : ReaderState) (old new : Sides) → new ≡ old → IsEnd old true → reader.held ≡ [] → Gives reader reader old new (Ok None)
unfolding GivesOf
gives_none reader old new same is_end empty =
    ([], read_nothing old new same, (subst (λ (s : Sides). IsEnd s true) (sym same) is_end, over_at reader.place (reader.held ++ []) (append-nil reader.held ∙ empty)))

pub counted_last : (number : ℕ) (message : Message) (head : Head) → number ≡ 999 → head ≡ talks.closing_head message.head → record { head = head; body = message.body } ≡ counted number message
unfolding counted
counted_last number message head e is =
    let all : head ≡ (if talks.is_last number then talks.closing_head message.head else message.head) = is ∙ ap (λ (b : Bool). if b then talks.closing_head message.head else message.head) (sym (eq-eqb number 999 e)) in
    λ i. record { head = all i; body = message.body }

pub counted_other : (number : ℕ) (message : Message) → number ≢ 999 → message ≡ counted number message
unfolding counted
counted_other number message e =
    let all : message.head ≡ (if talks.is_last number then talks.closing_head message.head else message.head) = ap (λ (b : Bool). if b then talks.closing_head message.head else message.head) (sym (ne_eqb number 999 e)) in
    λ i. record { head = all i; body = message.body }

pub ok_of : (r : Result (Option Message) FrameFault) (o is : Option Message) → r ≡ Ok o → o ≡ is → r ≡ Ok is
ok_of r o is e f = e ∙ ap Ok f

-- a reader at the start of a connection
abbrev pub fresh : ReaderState
fresh = record { kind = Requests; max = 1048576; place = 0; held = []; failed = false; gone = 0 }

pub open_start : (reader : ReaderState) → reader ≡ fresh → IsOpen reader
open_start reader e = record { kind = ap (λ (r : ReaderState). r.kind) e; max = ap (λ (r : ReaderState). r.max) e; failed = ap (λ (r : ReaderState). r.failed) e }

pub went_start : {Terms : Type 0} (config : Config) (limit : ℕ) (reader : ReaderState) (s : State Terms) → reader ≡ fresh → Went config limit start (stand 0 reader) s s
went_start config limit reader s e = subst (λ (r : ReaderState). Went config limit start (stand 0 r) s s) (sym e) (went_nothing config limit start s)

pub went_at : {Terms : Type 0} (config : Config) (limit : ℕ) (from : Stand) (number n : ℕ) (reader : ReaderState) (s t : State Terms) → number ≡ n → Went config limit from (stand number reader) s t → Went config limit from (stand n reader) s t
went_at config limit from number n reader s t e w = subst (λ (k : ℕ). Went config limit from (stand k reader) s t) e w
