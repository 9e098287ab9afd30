-- All that is wanted is sound: what is asked is proper, and a range has a written form.
use Rattle.std.proofs.Common.{◌≡◌, ℕ, List, [], ◌∷◌, Bool, true, false, Option, Some, None, Result, Ok, Err, refl, sym, subst}
use Rattle.std.specs.Prelude.{◌&&◌, if◌then◌else◌, bytes_eq, codes, option_and_then, IsTrue, IfOk, IfSome}
use Rattle.ocm_texts.specs.declared.failures.NoMemory.{NoMemory}
use Rattle.ocm_path.specs.Paths.{Segments, path_of}
use Rattle.ocm_path.specs.declared.faults.PathFault.{PathFault}
use Rattle.ocm_types.specs.declared.letters.Offer.{Offer}
use Rattle.ocm_types.specs.declared.letters.Notice.{Notice}
use Rattle.ocm_entry.specs.declared.asks.Method.{Method}
use Rattle.ocm_entry.specs.declared.asks.Method.TheVariants as methods
use Rattle.ocm_entry.specs.declared.asks.Ask.TheVariants as asks
use Rattle.ocm_entry.specs.Proper.{is_short, is_body_of}
use Rattle.ocm_http_heads.specs.declared.fields.Field.{Field}
use Rattle.ocm_http_heads.specs.declared.fields.Head.{Head}
use Rattle.ocm_http_heads.specs.declared.fields.Head.TheVariants as heads
use Rattle.ocm_http.specs.declared.messages.Message.{Message}
use Rattle.ocm_records.specs.Rows.{record_of}
use Rattle.ocm_records.specs.Offers.{offer}
use Rattle.ocm_records.specs.Notices.{notice}
use Rattle.ocm_records.specs.Commands.{local}
use Rattle.ocm_records.specs.declared.faults.RecordFault.{RecordFault}
use Rattle.ocm_records.specs.declared.values.LocalAsk.{LocalAsk}
use Rattle.ocm_records.specs.declared.values.LocalAsk.TheVariants as locals
use Rattle.ocm_davmore.specs.declared.faults.DestinationFault.{DestinationFault}
use Rattle.ocm_davmore.specs.declared.faults.DestinationFault.TheVariants.{OtherServer, BadPath, NoMemory as WantOfMemory}
use Rattle.ocm_davmore.specs.Destinations.{begins_with_slash, before_query, below_dav, destination_of}
use Rattle.ocm_davmore.specs.Ranges.{is_span, span_of}
use Rattle.ocm_davmore.proofs.RangeForms.{sound_of}
use Rattle.ocm_dav_pages.specs.declared.shapes.Allow.{Allow}
use Rattle.ocm_dav_pages.specs.declared.shapes.Allow.TheVariants.{Discovery, Post, Dav}
use Rattle.ocm_dav_pages.specs.declared.shapes.Shape.{Shape}
use Rattle.ocm_dav_pages.specs.declared.shapes.Page.{Page}
use Rattle.ocm_dav.specs.declared.configs.Config.{Config}
use Rattle.ocm_dav.specs.declared.depths.Depth.{Depth}
use Rattle.ocm_dav.specs.declared.depths.Depth.TheVariants.{Zero, One, Infinity}
use Rattle.ocm_dav.specs.declared.verbs.Verb.{Verb}
use Rattle.ocm_dav.specs.declared.verbs.Verb.TheVariants as verbs
use Rattle.ocm_dav.specs.declared.wants.Wanted.{Wanted}
use Rattle.ocm_dav.specs.declared.wants.Wanted.TheVariants as wanted
use Rattle.ocm_dav.specs.Fields.{first_value}
use Rattle.ocm_dav.specs.Credentials.{credentials_of}
use Rattle.ocm_dav.specs.Depths.{depth_of}
use Rattle.ocm_dav.specs.Verbs.{verb_of}
use Rattle.ocm_dav.specs.Shapes.{shape_of, with_range}
use Rattle.ocm_dav.specs.Carries.{overwriting, overwrite, placed, sent, destination, at_depth, carried}
use Rattle.ocm_dav.specs.Files.{at_path, depth, listed, stored, held, granted, located, allowed}
use Rattle.ocm_dav.specs.Posts.{post_refusal, unless, offer_wanted, notice_wanted, shares_wanted, notifications_wanted, command_wanted, keyed, by_key, from_own_site, local_wanted}
use Rattle.ocm_dav.specs.Refusals.{cross_site}
use Rattle.ocm_dav.specs.Sites.{is_cross_site}
use Rattle.ocm_dav.specs.Routes as routes
use Rattle.ocm_dav.specs.Routes.{is_discovery, is_shares, is_notifications, discovery_wanted, below_wanted, path_wanted, target_wanted, head_wanted, wanted_of}
use Rattle.ocm_dav.specs.Sound.{AsksProperly, HasSpan, AsksOutside}
use Rattle.ocm_dav.proofs.ShortPaths.{IsShortRead, short-path_of, short-destination_of}
use Rattle.ocm_dav.proofs.SoundCommands.{Gives, IsProperLocal, proper-record}

-- a range of a shape has a written form
pub record IsRanged (shape : Shape) : Type 0 where
  pub span : IfSome shape.range (λ span. IsTrue (is_span span))

-- what is wanted is sound
pub record IsSound (w : Wanted) : Type 0 where
  pub proper : AsksProperly w
  pub span : HasSpan w
  pub outside : AsksOutside w

page : (p : Page) → IsSound (wanted.Page p)
page p = record { proper = tt; span = tt; outside = tt }

one_of : (b : Bool) (x y : Wanted) → IsSound x → IsSound y → IsSound (if b then x else y)
one_of true x y p q = p
one_of false x y p q = q

both : (a b : Bool) → a ≡ true → b ≡ true → (a && b) ≡ true
both true b p q = q
both false b p q = p

-- a carry between short paths
sound-overwriting : (shape : Shape) (moving : Bool) (from : Segments) (secret : List ℕ) (to : Segments) (o : Option Bool) → IsRanged shape → IsTrue (is_short from) → IsTrue (is_short to) → IsSound (overwriting shape moving from secret to o)
sound-overwriting shape moving from secret to None r p q = page _
sound-overwriting shape moving from secret to (Some o) r p q = record { proper = both (is_short from) (is_short to) p q; span = r.span; outside = refl }

sound-placed : (fields : List Field) (shape : Shape) (moving : Bool) (from : Segments) (secret : List ℕ) (to : Result Segments DestinationFault) → IsRanged shape → IsTrue (is_short from) → IsShortRead to → IsSound (placed fields shape moving from secret to)
sound-placed fields shape moving from secret (Ok to) r p q = sound-overwriting shape moving from secret to (overwrite fields) r p q
sound-placed fields shape moving from secret (Err OtherServer) r p q = page _
sound-placed fields shape moving from secret (Err (BadPath fault)) r p q = page _
sound-placed fields shape moving from secret (Err WantOfMemory) r p q = page _

sound-sent : (host : List ℕ) (fields : List Field) (shape : Shape) (moving : Bool) (from : Segments) (secret : List ℕ) (value : Option (List ℕ)) → IsRanged shape → IsTrue (is_short from) → IsSound (sent host fields shape moving from secret value)
sound-sent host fields shape moving from secret None r p = page _
sound-sent host fields shape moving from secret (Some value) r p = sound-placed fields shape moving from secret (destination_of host value) r p (short-destination_of host value)

sound-at_depth : (host : List ℕ) (fields : List Field) (shape : Shape) (moving : Bool) (from : Segments) (secret : List ℕ) (depth : Option Depth) → IsRanged shape → IsTrue (is_short from) → IsSound (at_depth host fields shape moving from secret depth)
sound-at_depth host fields shape moving from secret (Some Infinity) r p = sound-sent host fields shape moving from secret (destination fields) r p
sound-at_depth host fields shape moving from secret (Some Zero) r p = page _
sound-at_depth host fields shape moving from secret (Some One) r p = page _
sound-at_depth host fields shape moving from secret None r p = page _

sound-carried : (host : List ℕ) (fields : List Field) (shape : Shape) (moving : Bool) (from : Segments) (secret : List ℕ) → IsRanged shape → IsTrue (is_short from) → IsSound (carried host fields shape moving from secret)
sound-carried host fields shape moving from secret r p =
    sound-at_depth host fields shape moving from secret (depth_of (first_value (codes "depth") fields)) r p

-- an ask for files at a short path
sound-at_path : (method : Method) (path : Segments) (secret body : List ℕ) (shape : Shape) → IsRanged shape → IsTrue (is_body_of method body) → IsTrue (is_short path) → IsSound (at_path method path secret body shape)
sound-at_path method path secret body shape r b p = record { proper = both (is_body_of method body) (is_short path) b p; span = r.span; outside = refl }

sound-listed : (path : Segments) (secret : List ℕ) (shape : Shape) (depth : Option Depth) → IsRanged shape → IsTrue (is_short path) → IsSound (listed path secret shape depth)
sound-listed path secret shape (Some Zero) r p = sound-at_path methods.List0 path secret [] shape r refl p
sound-listed path secret shape (Some One) r p = sound-at_path methods.List1 path secret [] shape r refl p
sound-listed path secret shape (Some Infinity) r p = page _
sound-listed path secret shape None r p = page _

put_body : (body : List ℕ) → IsTrue (is_body_of methods.Put body)
put_body [] = refl
put_body (b ∷ body) = refl

mkcol_body : (body : List ℕ) → IsTrue (is_body_of methods.Mkcol body)
mkcol_body [] = refl
mkcol_body (b ∷ body) = refl

sound-stored : (body : List ℕ) (shape : Shape) (path : Segments) (secret : List ℕ) (part : Option (List ℕ)) → IsRanged shape → IsTrue (is_short path) → IsSound (stored body shape path secret part)
sound-stored body shape path secret None r p = sound-at_path methods.Put path secret body shape r (put_body body) p
sound-stored body shape path secret (Some part) r p = page _

value_ranged : (value : Option (List ℕ)) → IfSome (option_and_then span_of value) (λ span. IsTrue (is_span span))
value_ranged None = tt
value_ranged (Some value) = sound_of value (span_of value) refl

ranged : (fields : List Field) (shape : Shape) → IsRanged (with_range fields shape)
ranged fields shape = record { span = value_ranged (first_value (codes "range") fields) }

sound-held : (host : List ℕ) (fields : List Field) (body : List ℕ) (shape : Shape) (path : Segments) (secret : List ℕ) (verb : Verb) → IsRanged shape → IsTrue (is_short path) → IsSound (held host fields body shape path secret verb)
sound-held host fields body shape path secret verbs.Get r p = sound-at_path methods.Get path secret [] (with_range fields shape) (ranged fields shape) refl p
sound-held host fields body shape path secret verbs.Head r p = sound-at_path methods.Head path secret [] shape r refl p
sound-held host fields body shape path secret verbs.Put r p = sound-stored body shape path secret (first_value (codes "content-range") fields) r p
sound-held host fields body shape path secret verbs.Delete r p = sound-at_path methods.Delete path secret [] shape r refl p
sound-held host fields body shape path secret verbs.Mkcol r p = sound-at_path methods.Mkcol path secret body shape r (mkcol_body body) p
sound-held host fields body shape path secret verbs.Propfind r p = sound-listed path secret shape (depth fields) r p
sound-held host fields body shape path secret verbs.Copy r p = sound-carried host fields shape false path secret r p
sound-held host fields body shape path secret verbs.Move r p = sound-carried host fields shape true path secret r p

sound-granted : (host : List ℕ) (fields : List Field) (body : List ℕ) (shape : Shape) (verb : Verb) (path : Segments) (secret : Option (List ℕ)) → IsRanged shape → IsTrue (is_short path) → IsSound (granted host fields body shape verb path secret)
sound-granted host fields body shape verb path None r p = page _
sound-granted host fields body shape verb path (Some secret) r p = sound-held host fields body shape path secret verb r p

sound-located : (host : List ℕ) (fields : List Field) (body : List ℕ) (shape : Shape) (verb : Verb) (path : Result Segments PathFault) → IsRanged shape → IsShortRead path → IsSound (located host fields body shape verb path)
sound-located host fields body shape verb (Err fault) r p = page _
sound-located host fields body shape verb (Ok path) r p = sound-granted host fields body shape verb path (credentials_of fields) r p

sound-allowed : (host : List ℕ) (fields : List Field) (body : List ℕ) (shape : Shape) (rest : List ℕ) (verb : Option Verb) → IsRanged shape → IsSound (allowed host fields body shape rest verb)
sound-allowed host fields body shape rest None r = page _
sound-allowed host fields body shape rest (Some verb) r = sound-located host fields body shape verb (path_of rest) r (short-path_of rest)

-- what is posted
sound-unless : (p : Option Page) (other : Wanted) → IsSound other → IsSound (unless p other)
sound-unless (Some p) other s = page p
sound-unless None other s = s

sound-offer : (shape : Shape) (o : Result Offer RecordFault) → IsRanged shape → IsSound (offer_wanted shape o)
sound-offer shape (Ok o) r = record { proper = refl; span = r.span; outside = refl }
sound-offer shape (Err fault) r = page _

sound-notice : (fresh : List ℕ) (shape : Shape) (n : Result Notice RecordFault) → IsRanged shape → IsSound (notice_wanted fresh shape n)
sound-notice fresh shape (Ok n) r = record { proper = refl; span = r.span; outside = refl }
sound-notice fresh shape (Err fault) r = page _

sound-command : (admin secret fresh : List ℕ) (shape : Shape) (l : Result LocalAsk RecordFault) → IsRanged shape → Gives IsProperLocal l → IsSound (command_wanted admin secret fresh shape l)
sound-command admin secret fresh shape (Ok (locals.User name)) r p =
    one_of (bytes_eq secret admin) (wanted.Ask (asks.AddUser name fresh) shape) _ (record { proper = refl; span = r.span; outside = refl }) (page _)
sound-command admin secret fresh shape (Ok (locals.Command cmd)) r p = record { proper = p secret; span = r.span; outside = refl }
sound-command admin secret fresh shape (Err fault) r p = page _

sound-keyed : (admin body fresh : List ℕ) (shape : Shape) (secret : Option (List ℕ)) → IsRanged shape → IsSound (keyed admin body fresh shape secret)
sound-keyed admin body fresh shape None r = page _
sound-keyed admin body fresh shape (Some secret) r = sound-command admin secret fresh shape (record_of (local fresh) body) r (proper-record fresh body)

sound-from_own_site : (host admin : List ℕ) (fields : List Field) (body fresh : List ℕ) (shape : Shape) → IsRanged shape → IsSound (from_own_site host admin fields body fresh shape)
sound-from_own_site host admin fields body fresh shape r =
    one_of (is_cross_site host fields) (cross_site shape) (by_key admin fields body fresh shape) (page _) (sound-keyed admin body fresh shape (credentials_of fields) r)

-- by the routes
unranged : (method : List ℕ) (closing : Bool) (allow : Allow) → IsRanged (shape_of method closing allow)
unranged method closing allow = record { span = tt }

sound-below : (config : Config) (method : List ℕ) (closing : Bool) (fields : List Field) (body : List ℕ) (rest : Option (List ℕ)) → IsSound (below_wanted config method closing fields body rest)
sound-below config method closing fields body (Some rest) =
    sound-allowed config.host fields body (shape_of method closing Dav) rest (verb_of method) (unranged method closing Dav)
sound-below config method closing fields body None = page _

sound-path : (config : Config) (method path : List ℕ) (closing : Bool) (fields : List Field) (body fresh : List ℕ) → IsSound (path_wanted config method path closing fields body fresh)
sound-path config method path closing fields body fresh =
    let posted : Shape = shape_of method closing Post in
    let r : IsRanged posted = unranged method closing Post in
    one_of (is_discovery path) (discovery_wanted config.host method (shape_of method closing Discovery)) _
    (one_of (routes.reads method) _ _ (page _) (page _))
    (one_of (is_shares path) (shares_wanted method body posted) _
    (sound-unless (post_refusal method body posted) (offer_wanted posted (record_of offer body)) (sound-offer posted (record_of offer body) r))
    (one_of (is_notifications path) (notifications_wanted method body fresh posted) _
    (sound-unless (post_refusal method body posted) (notice_wanted fresh posted (record_of notice body)) (sound-notice fresh posted (record_of notice body) r))
    (one_of (bytes_eq path (codes "/local")) (local_wanted config.host config.admin method fields body fresh posted) _
    (sound-unless (post_refusal method body posted) (from_own_site config.host config.admin fields body fresh posted) (sound-from_own_site config.host config.admin fields body fresh posted r))
    (sound-below config method closing fields body (below_dav path)))))

sound-target : (config : Config) (method target : List ℕ) (closing : Bool) (fields : List Field) (body fresh : List ℕ) → IsSound (target_wanted config method target closing fields body fresh)
sound-target config method target closing fields body fresh =
    one_of (begins_with_slash target) (path_wanted config method (before_query target) closing fields body fresh) _
    (sound-path config method (before_query target) closing fields body fresh) (page _)

sound-head : (config : Config) (body fresh : List ℕ) (head : Head) → IsSound (head_wanted config body fresh head)
sound-head config body fresh (heads.Request method target closing fields) = sound-target config method target closing fields body fresh
sound-head config body fresh (heads.Reply status fields) = page _

-- what a message wants is sound
pub sound-wanted_of : (config : Config) (message : Message) (fresh : List ℕ) → IsSound (wanted_of config message fresh)
sound-wanted_of config message fresh = sound-head config message.body fresh message.head

-- so is what is answered, where it is that
pub proper_of : (answer : Result Wanted NoMemory) (w : Wanted) → IsSound w → IfOk answer (λ x. x ≡ w) → IfOk answer AsksProperly
proper_of (Ok x) w s e = subst AsksProperly (sym e) s.proper
proper_of (Err failure) w s e = tt

pub span_of_range : (answer : Result Wanted NoMemory) (w : Wanted) → IsSound w → IfOk answer (λ x. x ≡ w) → IfOk answer HasSpan
span_of_range (Ok x) w s e = subst HasSpan (sym e) s.span
span_of_range (Err failure) w s e = tt

pub outside_of : (answer : Result Wanted NoMemory) (w : Wanted) → IsSound w → IfOk answer (λ x. x ≡ w) → IfOk answer AsksOutside
outside_of (Ok x) w s e = subst AsksOutside (sym e) s.outside
outside_of (Err failure) w s e = tt
