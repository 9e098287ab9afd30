-- Each request for files of a script that was read has a secret and a path that can be read.
use Rattle.std.proofs.Common.{◌≡◌, ℕ, ◌+◌, ◌≤◌, List, [], ◌∷◌, ◌++◌, length, Bool, true, false, cond, Option, Some, None, Result, Ok, Err, refl, sym, ap, subst, ◌∙◌, arith}
use Rattle.std.specs.Prelude.{◌==◌, bytes_eq, is_some, nat_eq, nat_lt, option_and_then, option_map, if◌then◌else◌}
use Rattle.std.specs.Option.{option_map_or}
use Rattle.std.specs.List.{list_all, slice_split}
use Rattle.std.specs.Str.{is_utf8}
use Rattle.std.proofs.lemmas.Bool.{and_from, le-leb, ltb-false}
use Rattle.ocm_limits.specs.Limits.{most_line_bytes, most_lines}
use Rattle.ocm_types.specs.Texts.{is_secret}
use Rattle.ocm_types.proofs.HostReading.{canonical_host_of-is}
use Rattle.ocm_path.specs.Paths.{Segments, is_path, is_segment, is_slash, path_below, path_of, path_text, read_value, segments_of, within_limit, without_last_slash}
use Rattle.ocm_path.specs.declared.faults.PathFault.{PathFault}
use Rattle.ocm_path.specs.declared.faults.PathFault.TheVariants.{EmptySegment, TooLong}
use Rattle.ocm_path.proofs.SegmentsRead.{list_all-segments_of}
use Rattle.ocm_entry.specs.Proper.{is_short}
use Rattle.ocm_entry.specs.declared.asks.Method.{Method}
use Rattle.ocm_entry.specs.declared.asks.Method.TheVariants as methods
use Rattle.ocm_journal_audit.specs.Audits.{is_own_host}
use Rattle.ocm_script.specs.Bodies.{body_of}
use Rattle.ocm_script.specs.declared.events.Body.{Body}
use Rattle.ocm_script.specs.declared.events.Event.{Event}
use Rattle.ocm_script.specs.declared.events.Event.TheVariants as events
use Rattle.ocm_script.specs.declared.faults.ScriptFault.{ScriptFault}
use Rattle.ocm_script.specs.declared.faults.ScriptFault.TheVariants as ends_as
use Rattle.ocm_script.specs.Forms as forms
use Rattle.ocm_script.specs.Forms.{Form, Reading, line_by}
use Rattle.ocm_script.specs.Lines.{lines_of}
use Rattle.ocm_script.specs.Script.{event_of, events_of, named_after, script_of, short_line, with_front}
use Rattle.ocm_script.specs.Words as words
use Rattle.ocm_script.specs.Words.{ends, next, remaining}
use Rattle.ocm_law_traces.specs.Texts.{HasSoundTexts, HaveSoundTexts}

-- ---- texts of words

some_then : {A B : Type 0} (f : A → Option B) (o : Option A) (y : B) → option_and_then f o ≡ Some y → (x : A) × (o ≡ Some x) × (f x ≡ Some y)
some_then f None y e = absurd cc
some_then f (Some x) y e = (x, refl, e)

some_when : {A : Type 0} (b : Bool) (x y : A) → words.when b x ≡ Some y → (b ≡ true) × (x ≡ y)
some_when true x y e = (refl, cc)
some_when false x y e = absurd cc

some_if : (b : Bool) (x y : List ℕ) → (if b then Some x else None) ≡ Some y → (b ≡ true) × (x ≡ y)
some_if true x y e = (refl, cc)
some_if false x y e = absurd cc

sound-secret : (word secret : List ℕ) → words.secret_word word ≡ Some secret → (is_secret secret ≡ true) × (is_utf8 secret ≡ true)
unfolding words.secret_word
sound-secret word secret e =
    let read = some_then _ (words.text_of word) secret e in
    let text = some_when (is_utf8 word) word read.0 read.1 in
    let is = some_if (is_secret read.0) read.0 secret read.2 in
    (subst (λ (s : List ℕ). is_secret s ≡ true) is.1 is.0, subst (λ (s : List ℕ). is_utf8 s ≡ true) (text.1 ∙ is.1) text.0)

sound-host : (named : List (List ℕ)) (word host : List ℕ) → words.new_host named word ≡ Some host → is_own_host host ≡ true
unfolding words.new_host words.host_word
sound-host named word host e =
    let read = some_then _ (words.host_word word) host e in
    let is = some_when _ read.0 host read.2 in
    let text = some_then _ (words.text_of word) read.0 read.1 in
    let own = some_when (is_utf8 word) word text.0 text.1 in
    let canonical = canonical_host_of-is text.0 read.0 text.2 in
    let same : host ≡ text.0 = sym is.1 ∙ canonical.0 in
    subst (λ (h : List ℕ). is_own_host h ≡ true) (sym same)
    (and_from _ _ (subst (λ (t : List ℕ). is_utf8 t ≡ true) own.1 own.0) (ap is_some text.2))

-- a path that was read is made of segments, and short
abbrev IsSound : Result Segments PathFault → Type 0
IsSound (Ok path) = (list_all is_segment path ≡ true) × (length (path_text path) ≤ 1024)
IsSound (Err fault) = Unit {0}

one_of : (b : Bool) (x y : Result Segments PathFault) → IsSound x → IsSound y → IsSound (cond b x y)
one_of true x y p q = p
one_of false x y p q = q

sound-limit : (pieces : List (List ℕ)) → IsSound (within_limit (segments_of pieces))
sound-limit pieces = by (segments_of pieces) refl
  where
    unless_long : (b : Bool) (path : Segments) → nat_lt 1024 (length (path_text path)) ≡ b → list_all is_segment path ≡ true → IsSound (cond b (Err TooLong) (Ok path))
    unless_long true path long all = tt
    unless_long false path short all = (all, ltb-false 1024 (length (path_text path)) short)

    by : (r : Result Segments PathFault) → segments_of pieces ≡ r → IsSound (within_limit r)
    by (Err fault) is = tt
    by (Ok path) is = unless_long (nat_lt 1024 (length (path_text path))) path refl (list_all-segments_of pieces path is)

sound-path_of : (text : List ℕ) → IsSound (path_of text)
sound-path_of [] = (refl, omega arith)
sound-path_of (b ∷ below) =
    one_of (b == 47) (path_below below) (Err EmptySegment)
    (one_of (length below == 0) (Ok []) (within_limit (segments_of (slice_split is_slash (without_last_slash below)))) (refl, omega arith) (sound-limit (slice_split is_slash (without_last_slash below))))
    tt

sound-given : (r : Result Segments PathFault) (path : Segments) → IsSound r → read_value r ≡ Some path → (is_path path ≡ true) × (is_short path ≡ true)
sound-given (Err fault) path sound e = absurd cc
sound-given (Ok given) path sound e =
    let same : given ≡ path = cc in
    let short = sound.1 in
    subst (λ (p : Segments). (is_path p ≡ true) × (is_short p ≡ true)) same
    (and_from _ _ sound.0 (le-leb (length (path_text given)) 2048 (omega arith)), le-leb (length (path_text given)) 1024 short)

sound-path : (word : List ℕ) (path : Segments) → words.path_word word ≡ Some path → (is_path path ≡ true) × (is_short path ≡ true)
unfolding words.path_word
sound-path word path e =
    let read = some_then _ (words.text_of word) path e in
    let begun = some_then _ (words.when (words.begins_with_slash read.0) read.0) path read.2 in
    sound-given (path_of read.0) path (sound-path_of read.0) begun.2

-- ---- forms of lines

-- what holds of an event, if there is one
abbrev Sound : Option Event → Type 0
Sound None = Unit {0}
Sound (Some e) = HasSoundTexts e

-- behind a word of a kind
behind : {A : Type 0} (kind : List ℕ → Option A) (on : A × Option (List ℕ) → Option Event)
    → ((x : A) (word : List ℕ) → kind word ≡ Some x → (rest : Option (List ℕ)) → Sound (on (x, rest))) → (rest : Option (List ℕ)) → Sound (option_and_then on (next kind rest))
unfolding next
behind {A} kind on sound rest = by (words.word rest)
  where
    by_kind : (w : List ℕ × Option (List ℕ)) (o : Option A) → kind w.0 ≡ o → Sound (option_and_then on (option_and_then (λ x. Some (x, w.1)) o))
    by_kind w None is = tt
    by_kind w (Some x) is = sound x w.0 is w.1

    by : (o : Option (List ℕ × Option (List ℕ))) → Sound (option_and_then on (option_and_then (λ w. option_and_then (λ x. Some (x, w.1)) (kind w.0)) o))
    by None = tt
    by (Some w) = by_kind w (kind w.0) refl

at_end : (e : Event) → HasSoundTexts e → (rest : Option (List ℕ)) → Sound (ends e rest)
at_end e sound None = sound
at_end e sound (Some rest) = tt

of_rest : (read : List ℕ → Option Event) → ((bytes : List ℕ) → Sound (read bytes)) → (rest : Option (List ℕ)) → Sound (remaining read rest)
of_rest read sound None = tt
of_rest read sound (Some bytes) = sound bytes

-- how the words behind the first are read gives sound texts
abbrev IsSoundReading : Reading → Type 0
IsSoundReading read = (named : List (List ℕ)) (rest : Option (List ℕ)) → Sound (read named rest)

dav : (method : Method) → IsSoundReading (forms.dav_line method)
unfolding forms.dav_line
dav method named =
    behind _ _ (λ h w is. behind _ _ (λ k v secret. behind _ _ (λ p u path. at_end (events.Dav h k method p) (
    let texts = sound-secret v k secret in
    let place = sound-path u p path in
    ((texts.0, texts.1, place.0), place.1)
    ))))

mapped : (make : Body → Event) → ((body : Body) → HasSoundTexts (make body)) → (o : Option Body) → Sound (option_map make o)
mapped make sound None = tt
mapped make sound (Some body) = sound body

put : IsSoundReading forms.put_line
unfolding forms.put_line
put named = behind _ _ (λ _ _ _. behind _ _ (λ _ _ _. behind _ _ (λ _ _ _. of_rest _ (λ bytes. mapped _ (λ _. tt) (body_of bytes)))))

offer : IsSoundReading forms.offer_line
unfolding forms.offer_line
offer named = behind _ _ (λ _ _ _. of_rest _ (λ _. tt))

notice : IsSoundReading forms.notice_line
unfolding forms.notice_line
notice named = behind _ _ (λ _ _ _. behind _ _ (λ _ _ _. of_rest _ (λ _. tt)))

node : IsSoundReading forms.node_line
unfolding forms.node_line
node named = behind _ _ (λ h w host. at_end (events.Node h) (sound-host named w h host))

user : IsSoundReading forms.user_line
unfolding forms.user_line
user named = behind _ _ (λ _ _ _. behind _ _ (λ _ _ _. behind _ _ (λ _ _ _. at_end _ tt)))

share : IsSoundReading forms.share_line
unfolding forms.share_line
share named = behind _ _ (λ _ _ _. behind _ _ (λ _ _ _. behind _ _ (λ _ _ _. behind _ _ (λ _ _ _. behind _ _ (λ _ _ _. behind _ _ (λ _ _ _. at_end _ tt))))))

unshare : IsSoundReading forms.unshare_line
unfolding forms.unshare_line
unshare named = behind _ _ (λ _ _ _. behind _ _ (λ _ _ _. behind _ _ (λ _ _ _. at_end _ tt)))

limit : IsSoundReading forms.limit_line
unfolding forms.limit_line
limit named = behind _ _ (λ _ _ _. behind _ _ (λ _ _ _. behind _ _ (λ _ _ _. behind _ _ (λ _ _ _. at_end _ tt))))

accept : IsSoundReading forms.accept_line
unfolding forms.accept_line
accept named = behind _ _ (λ _ _ _. behind _ _ (λ _ _ _. behind _ _ (λ _ _ _. at_end _ tt)))

decline : IsSoundReading forms.decline_line
unfolding forms.decline_line
decline named = behind _ _ (λ _ _ _. behind _ _ (λ _ _ _. behind _ _ (λ _ _ _. at_end _ tt)))

reshare : IsSoundReading forms.reshare_line
unfolding forms.reshare_line
reshare named = behind _ _ (λ _ _ _. behind _ _ (λ _ _ _. behind _ _ (λ _ _ _. behind _ _ (λ _ _ _. behind _ _ (λ _ _ _. at_end _ tt)))))

undo : IsSoundReading forms.undo_line
unfolding forms.undo_line
undo named = behind _ _ (λ _ _ _. behind _ _ (λ _ _ _. behind _ _ (λ _ _ _. at_end _ tt)))

list : IsSoundReading forms.list_line
unfolding forms.list_line
list named = behind _ _ (λ _ _ _. behind _ _ (λ _ _ _. at_end _ tt))

expire : IsSoundReading forms.expire_line
unfolding forms.expire_line
expire named = behind _ _ (λ _ _ _. behind _ _ (λ _ _ _. behind _ _ (λ _ _ _. behind _ _ (λ _ _ _. at_end _ tt))))

clock : IsSoundReading forms.clock_line
unfolding forms.clock_line
clock named = behind _ _ (λ _ _ _. behind _ _ (λ _ _ _. at_end _ tt))

raw : IsSoundReading forms.raw_line
unfolding forms.raw_line
raw named = behind _ _ (λ _ _ _. behind _ _ (λ _ _ _. behind _ _ (λ _ _ _. at_end _ tt)))

deliver : (lost : Bool) → IsSoundReading (forms.deliver_line lost)
unfolding forms.deliver_line
deliver lost named = behind _ _ (λ _ _ _. behind _ _ (λ _ _ _. behind _ _ (λ _ _ _. at_end _ tt)))

pump : IsSoundReading forms.pump_line
unfolding forms.pump_line
pump named = behind _ _ (λ _ _ _. behind _ _ (λ _ _ _. at_end _ tt))

fuse : IsSoundReading forms.fuse_line
unfolding forms.fuse_line
fuse named = behind _ _ (λ _ _ _. behind _ _ (λ _ _ _. at_end _ tt))

crash : IsSoundReading forms.crash_line
unfolding forms.crash_line
crash named = behind _ _ (λ _ _ _. behind _ _ (λ _ _ _. at_end _ tt))

restart : IsSoundReading forms.restart_line
unfolding forms.restart_line
restart named = behind _ _ (λ _ _ _. at_end _ tt)

carry : (moving : Bool) → IsSoundReading (forms.carry_line moving)
unfolding forms.carry_line
carry moving named = behind _ _ (λ _ _ _. behind _ _ (λ _ _ _. behind _ _ (λ _ _ _. behind _ _ (λ _ _ _. behind _ _ (λ _ _ _. at_end _ tt)))))

-- a form of a line gives sound texts
abbrev AreSound : List Form → Type 0
AreSound [] = Unit {0}
AreSound (form ∷ more) = IsSoundReading form.1 × AreSound more

sound-by : (all : List Form) → AreSound all → (named : List (List ℕ)) (line : List ℕ × Option (List ℕ)) → Sound (line_by all named line)
sound-by [] sound named line = tt
sound-by (form ∷ more) sound named line = by (bytes_eq line.0 form.0) (sound-by more sound.1 named line)
  where
    by : (b : Bool) → Sound (line_by more named line) → Sound (if b then form.1 named line.1 else line_by more named line)
    by true later = sound.0 named line.1
    by false later = later

append-sound : (first second : List Form) → AreSound first → AreSound second → AreSound (first ++ second)
append-sound [] second one other = other
append-sound (form ∷ more) second one other = (one.0, append-sound more second one.1 other)

files-sound : AreSound forms.file_forms
files-sound = (dav methods.Get, (dav methods.Head, (dav methods.Delete, (dav methods.Mkcol, (dav methods.List0, (dav methods.List1, (put, (carry false, (carry true, tt)))))))))

commands-sound : AreSound forms.command_forms
commands-sound = (share, (unshare, (limit, (accept, (decline, (reshare, (undo, (list, (expire, tt)))))))))

letters-sound : AreSound forms.letter_forms
letters-sound = (offer, (notice, (raw, (deliver false, (deliver true, (pump, tt))))))

servers-sound : AreSound forms.server_forms
servers-sound = (node, (user, (clock, (fuse, (crash, (restart, tt))))))

forms-sound : AreSound (forms.file_forms ++ forms.command_forms ++ forms.letter_forms ++ forms.server_forms)
forms-sound =
    append-sound (forms.file_forms ++ forms.command_forms ++ forms.letter_forms) forms.server_forms
    (append-sound (forms.file_forms ++ forms.command_forms) forms.letter_forms (append-sound forms.file_forms forms.command_forms files-sound commands-sound) letters-sound)
    servers-sound

-- ---- lines of a script

short-sound : (named : List (List ℕ)) (line : List ℕ) → Sound (short_line named line)
unfolding short_line
short-sound named [] = tt
short-sound named (b ∷ bytes) = by (nat_eq b 35)
  where
    by : (t : Bool) → Sound (if t then Some events.Quiet else forms.line_of named (words.cut (b ∷ bytes)))
    by true = tt
    by false = sound-by (forms.file_forms ++ forms.command_forms ++ forms.letter_forms ++ forms.server_forms) forms-sound named (words.cut (b ∷ bytes))

event-sound : (named : List (List ℕ)) (line : List ℕ) → Sound (event_of named line)
unfolding event_of
event-sound named line = by (nat_lt most_line_bytes (length line))
  where
    by : (t : Bool) → Sound (if t then None else short_line named line)
    by true = tt
    by false = short-sound named line

events-sound : (number : ℕ) (named lines : List (List ℕ)) (found : List Event) → events_of number named lines ≡ Ok found → HaveSoundTexts found
events-sound number named [] found is = let none : [] ≡ found = cc in subst HaveSoundTexts none tt
events-sound number named (line ∷ lines) found is = by (λ e more read. events-sound (number + 1) (named_after named e) lines more read) (event_of named line) (event-sound named line) is
  where
    front : (e : Event) (read : Result (List Event) ScriptFault) → HasSoundTexts e → ((more : List Event) → read ≡ Ok more → HaveSoundTexts more) → with_front (e ∷ []) read ≡ Ok found → HaveSoundTexts found
    front e (Ok more) sound later is = let same : e ∷ more ≡ found = cc in subst HaveSoundTexts same (sound, later more refl)
    front e (Err fault) sound later is = absurd cc

    by : ((e : Event) (more : List Event) → events_of (number + 1) (named_after named e) lines ≡ Ok more → HaveSoundTexts more)
        → (o : Option Event) → Sound o → option_map_or (λ e. with_front (e ∷ []) (events_of (number + 1) (named_after named e) lines)) o (Err (ends_as.Line number)) ≡ Ok found → HaveSoundTexts found
    by further None sound is = absurd cc
    by further (Some e) sound is = front e (events_of (number + 1) (named_after named e) lines) sound (further e) is

-- the events of a script that was read
pub script-sound : (bytes : List ℕ) (found : List Event) → script_of bytes ≡ Ok found → HaveSoundTexts found
script-sound bytes found is = by (nat_lt most_lines (length (lines_of bytes))) is
  where
    by : (t : Bool) → (if t then Err ends_as.TooMany else events_of 1 [] (lines_of bytes)) ≡ Ok found → HaveSoundTexts found
    by true is = absurd cc
    by false is = events-sound 1 [] (lines_of bytes) found is
