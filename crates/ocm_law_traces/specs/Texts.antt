-- The texts that the lines of a script that was read have.
use Rattle.std.specs.Prelude.{List, [], ◌∷◌, ⊤, IsTrue}
use Rattle.ocm_entry.specs.Proper.{is_short}
use Rattle.ocm_entry.specs.declared.asks.Ask.TheVariants as asks
use Rattle.ocm_journal_audit.specs.Audits.{is_own_host}
use Rattle.ocm_script.specs.declared.events.Event.{Event}
use Rattle.ocm_script.specs.declared.events.Event.TheVariants.{Dav, Node}
use Rattle.ocm_access_log.specs.Written.{HasTexts}

-- the host of a server is its own text, and the secret and the path of a request for files are such as can be read
abbrev pub HasSoundTexts : Event → Type 0
HasSoundTexts (Node host) = IsTrue (is_own_host host)
HasSoundTexts (Dav host secret method path) = HasTexts (asks.Dav secret method path []) × IsTrue (is_short path)
HasSoundTexts _ = Unit {0}

abbrev pub HaveSoundTexts : List Event → Type 0
HaveSoundTexts [] = ⊤
HaveSoundTexts (e ∷ events) = HasSoundTexts e × HaveSoundTexts events
